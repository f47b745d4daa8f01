use Rattle.std.proofs.Common.{◌≡◌, Some, take, All, IsTrue}
use Rattle.toml.specs.Data.{array}
use Rattle.toml.specs.View.{items_view}
use Rattle.rdm_profile.specs.LeftOut.{is_optional}
use Rattle.rdm_fixture.specs.Format.{parameter_named}
use Rattle.rdm_fixture.specs.Lists.{EachIs}
use Rattle.rdm_fixture.specs.Writing.{IsPlain}
use Rattle.rdm_fixture.proofs.writing.tables.names_of.Given as goal

abbrev pub invariant-loop-pid : goal.invariant-loop-pid
invariant-loop-pid l = record {
  says : All (λ p. IsTrue (is_optional p)) l.pids → EachIs (λ d p. parameter_named d ≡ Some p) (items_view l.names.items) (take l.pid-index l.pids);
  plain : IsPlain 1 (array (items_view l.names.items));
}
