-- From one stage to the next.
use Rattle.std.proofs.Common.{◌≡◌, ◌≢◌, ℕ, zero, suc, ◌+◌, ◌-◌, ◌/◌, ◌%◌, ◌<◌, eqb, sym, ap, ◌∙◌, arith}
use Rattle.std.proofs.lemmas.Bool.{ne_eqb, eq-eqb, cond-true, cond-false}
use Rattle.rdm_search.specs.declared.range.Range.{Range}
use Rattle.rdm_search.specs.declared.stage.Stage.TheVariants.{Asking}
use Rattle.rdm_search.specs.Stages.{stage_after}

abbrev range : ℕ → ℕ → Range
range d i = record { index = i; depth = d }

less_one : (d : ℕ) → suc d - 1 ≡ d
less_one d = omega arith

-- behind an upper half comes what is behind the range that it is half of
pub stage_up : (d i : ℕ) → 0 < d → i % 2 ≢ 0 → stage_after d i ≡ stage_after (d - 1) (i / 2)
stage_up zero i some odd = absurd (omega arith)
stage_up (suc d) i some odd = cond-false (eqb (i % 2) 0) _ _ (ne_eqb (i % 2) 0 odd) ∙ sym (ap (λ (k : ℕ). stage_after k (i / 2)) (less_one d))

-- behind a lower half comes the upper one
pub stage_beside : (d i : ℕ) → 0 < d → i % 2 ≡ 0 → stage_after d i ≡ Asking (range d (i + 1))
stage_beside zero i some even = absurd (omega arith)
stage_beside (suc d) i some even = cond-true (eqb (i % 2) 0) _ _ (eq-eqb (i % 2) 0 even)
