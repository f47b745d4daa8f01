-- What a search of an image finds.
use Rattle.std.proofs.Common.{◌≡◌, ℕ, suc, ◌+◌, ◌-◌, ◌*◌, ◌<◌, ◌||◌, List, take, drop, Some, ap, ◌∙◌, arith}
use Rattle.std.specs.Prelude.{bytes_eq, if◌then◌else◌}
use Rattle.rdm_saved.specs.Carrying.{has_piece, is_kept_of, kept_in}
use Rattle.rdm_saved.specs.SameProfile.{kept_said}
use Rattle.rdm_saved.proofs.Lists.{drop_drop}

one_more : (count i : ℕ) → i < count → count - i ≡ suc (count - (i + 1))
one_more count i lt = omega (arith, lt)

-- what is found from one piece on
pub piece_here : (size count i : ℕ) (bytes piece : List ℕ) → i < count → has_piece size (count - i) (drop (size * i) bytes) piece ≡ (bytes_eq (take size (drop (size * i) bytes)) piece || has_piece size (count - (i + 1)) (drop (size * (i + 1)) bytes) piece)
piece_here size count i bytes piece lt =
    let next : size * i + size ≡ size * (i + 1) = omega arith in
    ap (λ (n : ℕ). has_piece size n (drop (size * i) bytes) piece) (one_more count i lt)
    ∙ ap (λ (xs : List ℕ). bytes_eq (take size (drop (size * i) bytes)) piece || has_piece size (count - (i + 1)) xs piece) (drop_drop (size * i) size bytes ∙ ap (λ (n : ℕ). drop n bytes) next)

-- what is found from one value on
pub kept_here : (count i : ℕ) (bytes : List ℕ) (pid index : ℕ) → i < count → kept_in (count - i) (drop (37 * i) bytes) pid index ≡ (if is_kept_of pid index (take 37 (drop (37 * i) bytes)) then Some (kept_said (take 37 (drop (37 * i) bytes))) else kept_in (count - (i + 1)) (drop (37 * (i + 1)) bytes) pid index)
kept_here count i bytes pid index lt =
    let next : 37 * i + 37 ≡ 37 * (i + 1) = omega arith in
    ap (λ (n : ℕ). kept_in n (drop (37 * i) bytes) pid index) (one_more count i lt)
    ∙ ap (λ (xs : List ℕ). if is_kept_of pid index (take 37 (drop (37 * i) bytes)) then Some (kept_said (take 37 (drop (37 * i) bytes))) else kept_in (count - (i + 1)) xs pid index) (drop_drop (37 * i) 37 bytes ∙ ap (λ (n : ℕ). drop n bytes) next)
