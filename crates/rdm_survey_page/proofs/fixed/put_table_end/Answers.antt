use Rattle.std.proofs.Common.{refl}
use Rattle.rdm_survey_page.specs.Pages.{table_end}
use Rattle.rdm_survey_page.proofs.Pieces.{piece_put}
use Rattle.rdm_survey_page.proofs.fixed.put_table_end.Goals as goal

pub returns : goal.returns
unfolding table_end
returns c = piece_put c.extend_from_slice.result _ _ _ table_end refl c.extend_from_slice.ensures.items
