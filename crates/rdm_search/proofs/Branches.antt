-- What a branch tells.
use Rattle.std.proofs.Common.{◌≡◌, ◌≢◌, ℕ, ◌-◌, ◌≤◌, Bool, List, [], ◌∷◌, length, Some, None, refl, sym, ap, ◌∙◌, subst, inl, inr, ◌⊎◌, arith}
use Rattle.std.specs.Prelude.{All}
use Rattle.std.proofs.lemmas.List.{length-drop}
use Rattle.std.proofs.lemmas.List.Elements.{All-head, All-tail}
use Rattle.rdm_frame.specs.declared.uid.Uid.{Uid}
use Rattle.rdm_frame.specs.Discovery.{branch_reply, IsBranchReply}
use Rattle.rdm_search.specs.declared.range.Range.{Range}
use Rattle.rdm_search.specs.declared.stage.Stage.TheVariants.{Asking, Muting}
use Rattle.rdm_search.specs.Line.{Fixture, IsDevice, IsCalled, callers}
use Rattle.rdm_search.specs.Ranges.{place, low, high, IsRange}
use Rattle.rdm_search.specs.Stages.{when, is_astray, count, stage_after, halved, IsLeft, IsDue, IsUnmuted, Reads, Leads, Strays}
use Rattle.rdm_search.proofs.Counts.{none_in, count_callers, caller}
use Rattle.rdm_search.proofs.Prices.{three_at_most}
use Rattle.rdm_search.proofs.Standing.{past, behind, lower}
use Rattle.rdm_search.proofs.Mutes.{IsSure, not_astray, sure_counts}

-- an answer has bytes
reply_sounds : (u : Uid) → length (branch_reply u) ≡ 24
unfolding branch_reply
reply_sounds u = refl

sounds : (u : Uid) → IsBranchReply u [] → ⊥
sounds u reply =
    let e : 0 ≡ 24 - reply.0 = ap length reply.2 ∙ length-drop reply.0 (branch_reply u) ∙ ap (λ (n : ℕ). n - reply.0) (reply_sounds u) in
    omega (arith, reply.1)

silent_callers : (us : List Uid) → IsCalled us [] → length us ≡ 0
silent_callers [] h = refl
silent_callers (u ∷ []) h = absurd (sounds u h)
silent_callers (u ∷ (v ∷ us)) h = absurd (h refl)

-- nothing was heard: what comes behind the range is next
pub silent : (r : Range) → IsRange r → (found : List Uid) (line : List Fixture) → IsLeft r.depth r.index found line → IsCalled (callers (low r) (high r) line) [] → Leads (Asking r) line (stage_after r.depth r.index) found line
silent r fits found line left called =
    let none : count r.depth r.index line ≡ 0 = sym (count_callers r line) ∙ silent_callers _ called in
    let next = behind r.depth r.index fits.0 found line left.real left.known (past r.depth r.index line left.covered (none_in r.depth r.index line none)) in
    (next.0, omega (arith, next.1))

device_of : (u : Uid) (line : List Fixture) → All (λ f. IsDevice f.uid) line → IsUnmuted u line → IsDevice u
device_of u [] devices h = absurd h
device_of u (f ∷ line) devices (inl h) = subst IsDevice h.0 (All-head (λ (f : Fixture). IsDevice f.uid) f line devices)
device_of u (f ∷ line) devices (inr h) = device_of u line (All-tail (λ (f : Fixture). IsDevice f.uid) f line devices) h

two_are_two : (u v : Uid) (us : List Uid) → 2 ≤ length (u ∷ (v ∷ us))
two_are_two u v us = omega arith

due_by : (r : Range) (u : Uid) (found : List Uid) (line : List Fixture) (heard : List ℕ) → IsLeft r.depth r.index found line → heard ≢ [] → Reads r heard (Some u) → (us : List Uid) → callers (low r) (high r) line ≡ us → IsCalled us heard → (2 ≤ count r.depth r.index line) ⊎ IsUnmuted u line
due_by r u found line heard left some reads [] e called = absurd (some called)
due_by r u found line heard left some reads (v ∷ []) e called =
    let there = caller r v [] line e in
    let same : Some u ≡ Some v = reads v (device_of v line left.real.devices there.0) there.1 (inl called) in
    let w : v ≡ u = cc in
    inr (subst (λ (x : Uid). IsUnmuted x line) w there.0)
due_by r u found line heard left some reads (v ∷ (w ∷ us)) e called =
    let n = ap length e in let two = two_are_two v w us in let c = count_callers r line in inl (omega arith)

-- a UID was heard: it is muted
pub heard_one : (r : Range) (u : Uid) (found : List Uid) (line : List Fixture) (heard : List ℕ) → IsLeft r.depth r.index found line → heard ≢ [] → IsDevice u → place r.depth u ≡ r.index → Reads r heard (Some u) → IsCalled (callers (low r) (high r) line) heard → Leads (Asking r) line (Muting r u) found line
heard_one r u found line heard left some device within reads called =
    let sure : IsSure r u line = due_by r u found line heard left some reads _ refl called in
    let due : IsDue r u line = record { device = device; within = within; some = sure_counts r u line within sure } in
    let none : when (is_astray r u line) 3 ≡ 0 = ap (λ (b : Bool). when b 3) (not_astray r u line sure) in
    ((left, due), omega (arith, none))

some_callers : (us : List Uid) → us ≢ [] → 1 ≤ length us
some_callers [] some = absurd (some refl)
some_callers (u ∷ us) some = omega arith

-- a UID was heard, and what was heard may be altered
pub altered_one : (r : Range) (u : Uid) (found : List Uid) (line : List Fixture) → IsLeft r.depth r.index found line → IsDevice u → place r.depth u ≡ r.index → callers (low r) (high r) line ≢ [] → Strays (Asking r) line (Muting r u) found line
altered_one r u found line left device within some =
    let there = some_callers (callers (low r) (high r) line) some in
    let n = count_callers r line in
    let due : IsDue r u line = record { device = device; within = within; some = omega (arith, there, n) } in
    let three = three_at_most (is_astray r u line) in
    ((left, due), omega (arith, three))

not_deepest : (r : Range) (found : List Uid) (line : List Fixture) (heard : List ℕ) → IsLeft r.depth r.index found line → Reads r heard None → (us : List Uid) → callers (low r) (high r) line ≡ us → us ≢ [] → r.depth ≢ 48
not_deepest r found line heard left reads [] e some = absurd (some refl)
not_deepest r found line heard left reads (v ∷ us) e some = λ deepest.
    (let there = caller r v us line e in
    let same : None ≡ Some v = reads v (device_of v line left.real.devices there.0) there.1 (inr deepest) in absurd cc)

-- something was heard, and no UID of the range, and it may be altered
pub altered_many : (r : Range) → IsRange r → (found : List Uid) (line : List Fixture) (heard : List ℕ) → IsLeft r.depth r.index found line → Reads r heard None → callers (low r) (high r) line ≢ [] → Strays (Asking r) line (halved r) found line
altered_many r fits found line heard left reads some =
    let ne : r.depth ≡ 48 → ⊥ = not_deepest r found line heard left reads _ refl some in
    let there = some_callers (callers (low r) (high r) line) some in
    let n = count_callers r line in
    let next = lower r (omega (arith, fits.0)) found line left in
    (next.0, omega (arith, next.1, there, n))

many_by : (r : Range) (found : List Uid) (line : List Fixture) (heard : List ℕ) → IsLeft r.depth r.index found line → heard ≢ [] → Reads r heard None → (us : List Uid) → callers (low r) (high r) line ≡ us → IsCalled us heard → (2 ≤ count r.depth r.index line) × (r.depth ≢ 48)
many_by r found line heard left some reads [] e called = absurd (some called)
many_by r found line heard left some reads (v ∷ []) e called =
    let there = caller r v [] line e in
    let same : None ≡ Some v = reads v (device_of v line left.real.devices there.0) there.1 (inl called) in
    absurd cc
many_by r found line heard left some reads (v ∷ (w ∷ us)) e called =
    let n = ap length e in let two = two_are_two v w us in let c = count_callers r line in
    let there = caller r v (w ∷ us) line e in
    (omega arith, λ deepest. (let same : None ≡ Some v = reads v (device_of v line left.real.devices there.0) there.1 (inr deepest) in absurd cc))

-- something was heard, and no UID of the range: it is halved
pub heard_many : (r : Range) → IsRange r → (found : List Uid) (line : List Fixture) (heard : List ℕ) → IsLeft r.depth r.index found line → heard ≢ [] → Reads r heard None → IsCalled (callers (low r) (high r) line) heard → Leads (Asking r) line (halved r) found line
heard_many r fits found line heard left some reads called =
    let many = many_by r found line heard left some reads _ refl called in
    let ne : r.depth ≡ 48 → ⊥ = many.1 in
    let next = lower r (omega (arith, fits.0)) found line left in
    (next.0, omega (arith, next.1, many.0))

pub no_bytes : (bytes : List ℕ) → length bytes ≡ 0 → bytes ≡ []
no_bytes [] e = refl
no_bytes (b ∷ bytes) e = absurd (omega arith)

pub some_bytes : (bytes : List ℕ) → (length bytes ≡ 0 → ⊥) → bytes ≢ []
some_bytes bytes some e = some (ap length e)
