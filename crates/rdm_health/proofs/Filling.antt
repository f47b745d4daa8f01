-- A text with values in it, piece by piece.
use Rattle.std.proofs.Common.{◌≡◌, ◌≤◌, ◌-◌, ◌&&◌, ◌==◌, ℕ, Bool, true, false, cond, List, [], ◌∷◌, ◌++◌, length, take, drop, slice_index, refl, ap, append_assoc, ◌∙◌, arith}
use Rattle.std.proofs.lemmas.List.{append-nil}
use Rattle.rdm_survey.specs.Shown.{shown}
use Rattle.rdm_health.specs.StatusTable.{begins_with_sign, filled, filling, is_sign}
use Rattle.rdm_health.proofs.Slices.{rest_of}

chosen : (test : Bool) (x y : List ℕ) → test ≡ true → x ≡ cond test x y
chosen test x y h = rw h refl

other : (test : Bool) (x y : List ℕ) → test ≡ false → y ≡ cond test x y
other test x y h = rw h refl

joined : (front piece more whole : List ℕ) → piece ++ more ≡ whole → (front ++ piece) ++ more ≡ front ++ whole
joined front piece more whole same = append_assoc front piece more ∙ ap (λ (w : List ℕ). front ++ w) same

-- a value in the place of a sign
pub at_sign : (front rest : List ℕ) (v s : ℕ) → 2 ≤ length rest → begins_with_sign rest ≡ true
    → (front ++ filling (slice_index rest 1) v) ++ filled (take (length rest - 2) (drop 2 rest)) s s ≡ front ++ filled rest v s
at_sign front [] v s long h = absurd (omega arith)
at_sign front (b ∷ []) v s long h = absurd (omega arith)
at_sign front (b ∷ c ∷ more) v s long h =
    ap (λ (r : List ℕ). (front ++ filling c v) ++ filled r s s) (rest_of 2 (b ∷ c ∷ more))
    ∙ joined front (filling c v) (filled more s s) _
    (chosen ((b == 0x25) && is_sign c) (filling c v ++ filled more s s) (shown (b ∷ []) ++ filled (c ∷ more) v s) h)

-- another byte
pub apart : (front rest : List ℕ) (v s : ℕ) → 1 ≤ length rest → begins_with_sign rest ≡ false
    → (front ++ shown (take 1 rest)) ++ filled (take (length rest - 1) (drop 1 rest)) v s ≡ front ++ filled rest v s
apart front [] v s long h = absurd (omega arith)
apart front (b ∷ []) v s long h = append-nil (front ++ shown (b ∷ []))
apart front (b ∷ c ∷ more) v s long h =
    ap (λ (r : List ℕ). (front ++ shown (b ∷ [])) ++ filled r v s) (rest_of 1 (b ∷ c ∷ more))
    ∙ joined front (shown (b ∷ [])) (filled (c ∷ more) v s) _
    (other ((b == 0x25) && is_sign c) (filling c v ++ filled more s s) (shown (b ∷ []) ++ filled (c ∷ more) v s) h)
