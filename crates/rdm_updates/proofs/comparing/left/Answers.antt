use Rattle.std.proofs.Common.{◌≡◌, ℕ, ◌<◌, List, length, Some, None, sym, ap, ◌∙◌, arith}
use Rattle.std.specs.Prelude.{slice_get}
use Rattle.std.specs.Option.{option_map}
use Rattle.rdm_updates.specs.SavedValues.{ValueSaved, saved_values, told}
use Rattle.rdm_updates.proofs.Listed.{left_here, passed, not_past}
use Rattle.rdm_updates.proofs.comparing.left.Goals.{in-Some+else-not-has, in_default}
use Rattle.rdm_updates.proofs.comparing.left.Goals as goal

pub returns-then-not-has : goal.returns-then-not-has
returns-then-not-has c =
    let values : List ValueSaved = saved_values c.args.old.now in
    let at : Some (told c.in-Some.value) ≡ slice_get values c.loop-number.number = ap (option_map told) (sym c.in-Some.is) ∙ c.saved_value.ensures in
    sym (c.loop-number.invariant ∙ left_here c.args.new.now values c.loop-number.number (told c.in-Some.value) at (sym c.has.ensures ∙ c.if-not-has.true))

pub loop-number-preserved : goal.loop-number-preserved
loop-number-preserved c =
    let n : ℕ = c.loop-number.number in
    let values : List ValueSaved = saved_values c.args.old.now in
    let within : n < length values = omega (arith, c.loop-number-test.true, c.saved_count-number-end.ensures) in
    elim c.match-saved_value.branch [
      | in-Some+else-not-has w ↦
          let at : Some (told w.in-Some.value) ≡ slice_get values n = ap (option_map told) (sym w.in-Some.is) ∙ c.saved_value.ensures in
          c.loop-number.invariant ∙ passed c.args.new.now values n (told w.in-Some.value) at (sym w.has.ensures ∙ w.if-not-has.false)
      | in_default w ↦
          let none : None ≡ slice_get values n = ap (option_map told) (sym w.in_default.is) ∙ c.saved_value.ensures in
          not_past values n none within
    ]
