use Rattle.std.proofs.Common.{◌≡◌, take, length, Some}
use Rattle.toml.specs.View.{items_view}
use Rattle.rdm_fixture.specs.Format.{parameter_named}
use Rattle.rdm_fixture.specs.Lists.{EachIs}
use Rattle.rdm_fixture.proofs.profile.added.pids_of.Given as goal

abbrev pub invariant-loop-name : goal.invariant-loop-name
invariant-loop-name l = record {
  read : EachIs (λ d pid. parameter_named d ≡ Some pid) (items_view (take l.name-index l.names.items)) l.pids.items;
  count : length l.pids.items ≡ l.name-index;
}
