use Rattle.std.proofs.Common.{refl}
use Rattle.rdm_survey_page.specs.Pages.{front}
use Rattle.rdm_survey_page.proofs.Pieces.{piece_put}
use Rattle.rdm_survey_page.proofs.fixed.put_front.Goals as goal

pub returns : goal.returns
unfolding front
returns c = piece_put c.extend_from_slice.result _ _ _ front refl c.extend_from_slice.ensures.items
