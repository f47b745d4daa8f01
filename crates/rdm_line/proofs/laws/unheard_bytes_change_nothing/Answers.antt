use Rattle.rdm_line.proofs.Collisions.{unheard}
use Rattle.rdm_line.proofs.laws.unheard_bytes_change_nothing.Goals as goal

pub returns : goal.returns
returns c h bytes deaf = unheard h bytes deaf
