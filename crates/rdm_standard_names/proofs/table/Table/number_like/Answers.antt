use Rattle.std.proofs.Common.{◌∙◌}
use Rattle.rdm_standard_names.proofs.Rows.{found_alike}
use Rattle.rdm_standard_names.proofs.table.Table.number_like.Goals as goal

pub returns : goal.returns
returns c = c.number_like_among.ensures ∙ found_alike c.args.self c.args.name.now
