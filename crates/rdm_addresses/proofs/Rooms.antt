-- The assignments of one more device.
use Rattle.std.specs.Prelude.{sum_by}
use Rattle.std.proofs.Common.{◌≡◌, ℕ, ◌+◌, ◌<◌, ◌≤◌, List, [], ◌∷◌, ◌++◌, length, take, get_or, slice_index_or, sym, ap, append_assoc, ◌∙◌, arith}
use Rattle.std.proofs.lemmas.List.{append-nil, take_more}
use Rattle.std.proofs.lemmas.List.Sums.{sum_by_more, sum_by_more_le}
use Rattle.rdm_addresses.specs.declared.assignment.Assignment.{Assignment}
use Rattle.rdm_survey.specs.declared.device.Device.{Device}
use Rattle.rdm_addresses.specs.Proposals.{assigned, assignments, assignments_behind, behind, last_slot, room}

more_behind : (from gap : ℕ) (before list : List Device) (d : Device)
    → assignments_behind from gap before (list ++ d ∷ []) ≡ assignments_behind from gap before list ++ assigned d (behind from gap (before ++ list)) ∷ []
more_behind from gap before [] d = ap (λ (b : List Device). assigned d (behind from gap b) ∷ []) (sym (append-nil before))
more_behind from gap before (e ∷ list) d =
    ap (λ (z : List Assignment). assigned e (behind from gap before) ∷ z)
    (more_behind from gap (before ++ e ∷ []) list d
    ∙ ap (λ (b : List Device). assignments_behind from gap (before ++ e ∷ []) list ++ assigned d (behind from gap b) ∷ []) (append_assoc before (e ∷ []) list))

pub one_more : (from gap : ℕ) (list : List Device) (d : Device)
    → assignments from gap (list ++ d ∷ []) ≡ assignments from gap list ++ assigned d (behind from gap list) ∷ []
one_more from gap list d = more_behind from gap [] list d

-- the next device of a list is put
pub list_put : (from gap : ℕ) (devices : List Device) (i : ℕ) (d : Device) (old : List Assignment) (next : ℕ)
    → i < length devices → old ≡ assignments from gap (take i devices) → next ≡ behind from gap (take i devices)
    → old ++ assigned (slice_index_or devices i d) next ∷ [] ≡ assignments from gap (take (i + 1) devices)
list_put from gap devices i d old next h p q =
    (λ k. p k ++ assigned (slice_index_or devices i d) (q k) ∷ [])
    ∙ sym (ap (λ (list : List Device). assignments from gap list) (take_more devices i d h) ∙ one_more from gap (take i devices) (slice_index_or devices i d))

-- there is room for the next device of a list
pub room_left : (from gap : ℕ) (devices : List Device) (i : ℕ) → i < length devices → last_slot from gap devices ≤ 512
    → behind from gap (take i devices) ≤ 513
room_left from gap [] i h fits = absurd (omega (arith, h))
room_left from gap (d ∷ more) i h fits =
    let part : sum_by (room gap) (take i (d ∷ more)) + room gap (get_or (d ∷ more) i d) ≤ sum_by (room gap) (d ∷ more) = sum_by_more_le (room gap) (d ∷ more) i d h in
    omega (arith, part, fits)

-- the address behind the next device of a list
pub next_put : (from gap : ℕ) (devices : List Device) (i : ℕ) (d : Device) (next slots more : ℕ)
    → i < length devices → next ≡ behind from gap (take i devices) → slots ≡ (slice_index_or devices i d).footprint → more ≡ gap
    → next + (slots + more) ≡ behind from gap (take (i + 1) devices)
next_put from gap devices i d next slots more h p q r = omega (arith, p, q, r, sum_by_more (room gap) devices i d h)
