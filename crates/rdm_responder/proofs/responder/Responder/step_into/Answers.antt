use Rattle.std.proofs.Common.{◌≡◌, sym, Some, None, refl, ap, ◌∙◌}
use Rattle.std.specs.Result.{result_ok}
use Rattle.rdm_frame.specs.Reading.{frame_in}
use Rattle.rdm_responder.specs.History.{Heard, then_event}
use Rattle.rdm_responder.specs.Rules.{account_of}
use Rattle.rdm_responder.specs.declared.stepped.Stepped.{Stepped}
use Rattle.rdm_responder.proofs.Accounts.{same_values, stands_for_then}
use Rattle.rdm_responder.proofs.responder.Responder.step_into.Goals as goal

pub returns-in-Ok-clause-stands : goal.returns-in-Ok-clause-stands
returns-in-Ok-clause-stands c h stands =
    let read : Some c.in-Ok.request ≡ frame_in c.args.bytes.now = sym (ap result_ok c.in-Ok.is) ∙ c.decode_view.ensures.value in
    stands_for_then _ h c.args.bytes.now (Some c.in-Ok.request) read (c.answer.ensures.after (account_of h) stands)

pub returns-in-Err-clause-stands : goal.returns-in-Err-clause-stands
returns-in-Err-clause-stands c h stands =
    let read : None ≡ frame_in c.args.bytes.now = sym (ap result_ok c.in-Err.is) ∙ c.decode_view.ensures.value in
    stands_for_then _ h c.args.bytes.now None read stands

pub returns-in-Ok-clause-unchanged : goal.returns-in-Ok-clause-unchanged
returns-in-Ok-clause-unchanged c h stands =
    same_values _ _ h (then_event h (Heard c.args.bytes.now)) stands (returns-in-Ok-clause-stands c h stands) c.answer.ensures.unchanged

pub returns-in-Err-clause-unchanged : goal.returns-in-Err-clause-unchanged
returns-in-Err-clause-unchanged c h stands =
    same_values _ _ h (then_event h (Heard c.args.bytes.now)) stands (returns-in-Err-clause-stands c h stands) (λ none. refl, λ same. ap (λ (s : Stepped). s.changed) c.silent.ensures)
