use Rattle.std.proofs.Common.{refl}
use Rattle.rdm_survey_page.specs.Pages.{style}
use Rattle.rdm_survey_page.proofs.Pieces.{piece_put}
use Rattle.rdm_survey_page.proofs.fixed.put_style.Goals as goal

pub returns : goal.returns
unfolding style
returns c = piece_put c.extend_from_slice.result _ _ _ style refl c.extend_from_slice.ensures.items
