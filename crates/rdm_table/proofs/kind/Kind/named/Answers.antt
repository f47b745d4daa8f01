use Rattle.std.proofs.Common.{◌≡◌, Some, sym, subst}
use Rattle.rdm_table.specs.Table.Kinds.{name_of}
use Rattle.rdm_table.proofs.KindNames.{named_is}
use Rattle.rdm_table.proofs.kind.Kind.named.Goals as goal

pub returns-clause-named : goal.returns-clause-named
returns-clause-named c =
    λ kind. subst (λ found. (found ≡ Some kind → name_of kind ≡ c.args.name.now) × (name_of kind ≡ c.args.name.now → found ≡ Some kind)) (sym c.kind_named.ensures) (named_is c.args.name.now kind)
