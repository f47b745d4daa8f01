use Rattle.std.proofs.Common.{rules, ◌≡◌, ap, ◌∙◌, Some, None}
use Rattle.rdm_c.specs.Images.{image_in}
use Rattle.rdm_c.specs.Statuses.{code_of}
use Rattle.rdm_c.proofs.ImageStatuses.{done_with_image, no_done_with_none}
use Rattle.rdm_c.proofs.exports.images.felosumay_images_read_nonnull.Goals as goal

pub returns-in-Ok-clause-done : goal.returns-in-Ok-clause-done
returns-in-Ok-clause-done c =
    let there : image_in c.of.result ≡ Some c.in-Ok.field-0 = search rules in
    done_with_image c.code.result (image_in c.of.result) c.in-Ok.field-0 c.code.ensures there

pub returns-in-Err-clause-done : goal.returns-in-Err-clause-done
returns-in-Err-clause-done c =
    let none : image_in c.of.result ≡ None = search rules in
    no_done_with_none c.code-in-Err.result (image_in c.of.result) c.in-Err.error (c.code-in-Err.ensures ∙ ap code_of c.status_of.ensures) none
