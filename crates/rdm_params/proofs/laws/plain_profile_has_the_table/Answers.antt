use Rattle.rdm_table.proofs.Supported.{table_alone}
use Rattle.rdm_params.proofs.laws.plain_profile_has_the_table.Goals as goal

pub returns : goal.returns
returns c = table_alone
