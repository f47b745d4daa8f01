use Rattle.std.proofs.Common.{◌∙◌}
use Rattle.rdm_standard_names.proofs.Rows.{found_exactly}
use Rattle.rdm_standard_names.proofs.table.Table.number.Goals as goal

pub returns : goal.returns
returns c = c.number_among.ensures ∙ found_exactly c.args.self c.args.name.now
