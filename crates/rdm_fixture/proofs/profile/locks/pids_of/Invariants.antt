use Rattle.std.proofs.Common.{◌≡◌, take, length, Some}
use Rattle.toml.specs.View.{items_view}
use Rattle.rdm_fixture.specs.Format.{locked_pid}
use Rattle.rdm_fixture.specs.Lists.{EachIs}
use Rattle.rdm_fixture.proofs.profile.locks.pids_of.Given as goal

abbrev pub invariant-loop-parameter : goal.invariant-loop-parameter
invariant-loop-parameter l = record {
  read : EachIs (λ d pid. locked_pid d ≡ Some pid) (items_view (take l.parameter-index l.parameters.items)) l.pids.items;
  count : length l.pids.items ≡ l.parameter-index;
}
