use Rattle.rdm_params.proofs.Endings.{panel_changes_its_key, panel_leaves_the_rest}
use Rattle.rdm_params.proofs.laws.panel_changes_its_own_key.Goals as goal

pub returns-clause-key : goal.returns-clause-key
returns-clause-key c = panel_changes_its_key

pub returns-clause-rest : goal.returns-clause-rest
returns-clause-rest c = panel_leaves_the_rest
