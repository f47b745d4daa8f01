use Rattle.std.proofs.Common.{ap, sym, ◌∙◌, subst, List, ℕ, arith, Ok}
use Rattle.rdm_images.specs.declared.image.Image.{Image}
use Rattle.rdm_images.specs.Reading.{IsFirstFault, image_of, said}
use Rattle.std.proofs.lemmas.Result.{err_from_is_err_and}
use Rattle.rdm_images.proofs.Holding.{held_none}
use Rattle.rdm_images.proofs.Texts.{not_faulty, said_held, text_passes, text_again, image_again}
use Rattle.rdm_images.proofs.decoding.decode_image.Goals as goal

pub returns-in_err-test-clause-only : goal.returns-in_err-test-clause-only
returns-in_err-test-clause-only c counter payload rest fits e =
    absurd (not_faulty _ _ _ (text_passes c.args.key counter payload rest fits) (subst (λ (t : List ℕ). IsFirstFault c.in_err-test.field-0.0 c.args.key t) e c.in_err-test.ensures.err))

pub returns-clause-ok : goal.returns-clause-ok
returns-clause-ok c = rw c.read.ensures (text_again c.args.key c.args.bytes.now (λ i. omega (arith, c.type_inv.bytes i)) c.in_ok-test.ensures.ok)

pub returns-clause-only : goal.returns-clause-only
returns-clause-only c counter payload rest fits e =
    ap (λ (i : Image). Ok i) (c.read.ensures ∙ ap image_of e ∙ image_again c.args.key counter payload rest fits)

pub returns-in_err-test-clause-held : goal.returns-in_err-test-clause-held
returns-in_err-test-clause-held c =
    let p = err_from_is_err_and c.from_residual.result c.from_residual.ensures.1 in
    rw p.1 (sym (ap said (held_none c.args.key c.args.bytes.now (λ ok. not_faulty _ _ _ ok c.in_err-test.ensures.err))))

pub returns-clause-held : goal.returns-clause-held
returns-clause-held c = rw c.read.ensures (sym (said_held c.args.key c.args.bytes.now c.in_ok-test.ensures.ok))
