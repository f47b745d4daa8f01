use Rattle.std.proofs.Common.{List, ℕ, sym, subst, ap, ◌∙◌}
use Rattle.std.proofs.lemmas.Result.{err_from_is_err_and}
use Rattle.rdm_trace.specs.LineText.{lines_text}
use Rattle.rdm_script.specs.DemoParts.{demo_scene}
use Rattle.rdm_script.specs.Playing.{IsUnplayed, fault_of_play}
use Rattle.rdm_script.specs.Program.{IsTraceOf}
use Rattle.rdm_script.proofs.Reading.{failed_input, traced_input, front_input, unplayed_fails}
use Rattle.rdm_script.proofs.program.run_script.Goals as goal

pub returns-in_err-lines-clause-err : goal.returns-in_err-lines-clause-err
returns-in_err-lines-clause-err g c =
    let p = err_from_is_err_and c.from_residual-in_err-lines.result c.from_residual-in_err-lines.ensures.1 in
    let unplayed = subst (λ (xs : List ℕ). IsUnplayed demo_scene xs c.in_err-lines.field-0.0) c.deref.ensures.value c.in_err-lines.ensures.err in
    rw (p.1, p.2) (failed_input demo_scene (fault_of_play c.in_err-lines.field-0.0) _ _ _ (c.in_ok-input.ensures.bytes, c.in_ok-input.ensures.end) (unplayed_fails demo_scene _ c.in_err-lines.field-0.0 unplayed))

pub returns-in_err-write_all-clause-front : goal.returns-in_err-write_all-clause-front
returns-in_err-write_all-clause-front g c = λ failed.
    let trace = subst (λ (xs : List ℕ). IsTraceOf demo_scene xs (lines_text c.in_ok-lines.lines.items)) c.deref.ensures.value c.in_ok-lines.ensures.trace in
    let text = c.deref-3.ensures.value ∙ c.in_ok-text.ensures ∙ ap lines_text c.deref-2.ensures.value in
    front_input demo_scene _ _ _ _ _ _ (c.in_ok-input.ensures.bytes, c.in_ok-input.ensures.end) (subst (λ (xs : List ℕ). IsTraceOf demo_scene c.in_ok-input.input.items xs) (sym text) trace)
    (c.in_err-write_all.ensures.front.0, c.in_err-write_all.ensures.front.2)

pub returns-clause-ok : goal.returns-clause-ok
returns-clause-ok g c =
    let trace = subst (λ (xs : List ℕ). IsTraceOf demo_scene xs (lines_text c.in_ok-lines.lines.items)) c.deref.ensures.value c.in_ok-lines.ensures.trace in
    let text = c.deref-3.ensures.value ∙ c.in_ok-text.ensures ∙ ap lines_text c.deref-2.ensures.value in
    traced_input demo_scene _ _ _ _ _ _ (c.in_ok-input.ensures.bytes, c.in_ok-input.ensures.end) (subst (λ (xs : List ℕ). IsTraceOf demo_scene c.in_ok-input.input.items xs) (sym text) trace) c.in_ok-write_all.ensures.ok
