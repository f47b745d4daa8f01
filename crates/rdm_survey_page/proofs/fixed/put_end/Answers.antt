use Rattle.std.proofs.Common.{refl}
use Rattle.rdm_survey_page.specs.Pages.{end}
use Rattle.rdm_survey_page.proofs.Pieces.{piece_put}
use Rattle.rdm_survey_page.proofs.fixed.put_end.Goals as goal

pub returns : goal.returns
unfolding end
returns c = piece_put c.extend_from_slice.result _ _ _ end refl c.extend_from_slice.ensures.items
