use Rattle.std.proofs.Common.{ℕ, ◌+◌, ◌<◌, Bool, ◌||◌, List, length, drop, sym, ap, ◌∙◌, arith}
use Rattle.std.specs.List.{list_any}
use Rattle.rdm_updates.specs.Left.{is_value}
use Rattle.rdm_updates.specs.SavedValues.{ValueSaved, saved_values, told}
use Rattle.rdm_updates.proofs.Listed.{any_here}
use Rattle.rdm_updates.proofs.comparing.has.Goals as goal

pub returns-then-is_at : goal.returns-then-is_at
returns-then-is_at c =
    let n : ℕ = c.loop-number.number in
    let values : List ValueSaved = saved_values c.args.image.now in
    let is : ValueSaved → Bool = is_value (told c.args.value.now) in
    let within : n < length values = omega (arith, c.loop-number-test.true, c.saved_count-number-end.ensures) in
    sym (c.loop-number.invariant ∙ any_here is values n within ∙ ap (λ (b : Bool). b || list_any is (drop (n + 1) values)) (sym c.is_at.ensures ∙ c.if-is_at.true))

pub loop-number-preserved : goal.loop-number-preserved
loop-number-preserved c =
    let n : ℕ = c.loop-number.number in
    let values : List ValueSaved = saved_values c.args.image.now in
    let is : ValueSaved → Bool = is_value (told c.args.value.now) in
    let within : n < length values = omega (arith, c.loop-number-test.true, c.saved_count-number-end.ensures) in
    c.loop-number.invariant ∙ any_here is values n within ∙ ap (λ (b : Bool). b || list_any is (drop (n + 1) values)) (sym c.is_at.ensures ∙ c.if-is_at.false)
