use Rattle.std.proofs.Common.{ap, sym, ◌∙◌, subst, List, ℕ, arith, Ok}
use Rattle.std.proofs.lemmas.Result.{err_from_is_err_and}
use Rattle.rdm_frame.specs.declared.frame.Frame.{Frame}
use Rattle.rdm_frame.specs.Reading.{PassesAll, IsFirstFault, frame_of}
use Rattle.rdm_frame.proofs.Texts.{few_slots, frame_fits, text_again, frame_again, text_passes, not_faulty, some_in, none_in}
use Rattle.rdm_frame.proofs.decoding.decode_view.Goals as goal

pub returns-in_err-test-clause-only : goal.returns-in_err-test-clause-only
returns-in_err-test-clause-only c f fits e =
    absurd (not_faulty _ _ (text_passes f fits) (subst (λ (t : List ℕ). IsFirstFault c.in_err-test.field-0.0 t) e c.in_err-test.ensures.err))

pub returns-in_err-test-clause-value : goal.returns-in_err-test-clause-value
returns-in_err-test-clause-value c =
    let p = err_from_is_err_and c.from_residual.result c.from_residual.ensures.1 in
    rw p.1 (none_in c.args.bytes.now (λ i. omega (arith, c.type_inv.bytes i)) (λ ok. not_faulty _ _ ok c.in_err-test.ensures.err))

pub returns-clause-ok : goal.returns-clause-ok
returns-clause-ok c =
    let ok : PassesAll c.args.bytes.now = c.in_ok-test.ensures.ok in
    rw c.read.ensures (frame_fits c.args.bytes.now (λ i. omega (arith, c.type_inv.bytes i)) (few_slots _ ok (omega (arith, c.type_inv.bytes 2))), sym (text_again c.args.bytes.now (λ i. omega (arith, c.type_inv.bytes i)) ok))

pub returns-clause-only : goal.returns-clause-only
returns-clause-only c f fits e = ap (λ (g : Frame). Ok g) (c.read.ensures ∙ ap frame_of e ∙ frame_again f fits)

pub returns-clause-value : goal.returns-clause-value
returns-clause-value c = rw c.read.ensures (sym (some_in c.args.bytes.now (λ i. omega (arith, c.type_inv.bytes i)) c.in_ok-test.ensures.ok))
