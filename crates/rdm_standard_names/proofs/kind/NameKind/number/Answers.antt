use Rattle.rdm_standard_names.proofs.Bounds.{alike, exactly}
use Rattle.rdm_standard_names.proofs.kind.NameKind.number.Goals as goal

pub returns-then-are_symbols-clause-within : goal.returns-then-are_symbols-clause-within
returns-then-are_symbols-clause-within c = exactly c.args.self _ c.args.name.now _ c.number.ensures c.table.ensures

pub returns-else-are_symbols-clause-within : goal.returns-else-are_symbols-clause-within
returns-else-are_symbols-clause-within c = alike c.args.self _ c.args.name.now _ c.number_like.ensures c.table-else-are_symbols.ensures
