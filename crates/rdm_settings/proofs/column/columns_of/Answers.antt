use Rattle.std.proofs.Common.{arith, map}
use Rattle.std.proofs.lemmas.List.{length-map}
use Rattle.rdm_settings.proofs.Columns.{columns_end}
use Rattle.rdm_settings.proofs.column.columns_of.Goals as goal

pub returns : goal.returns
returns c = columns_end c.loop-rest.columns.items (map (λ name. name.now) c.loop-rest.rest.now) (map (λ name. name.now) c.args.names.now) (omega (arith, length-map c.loop-rest.rest.now (λ name. name.now))) c.loop-rest.invariant
