use Rattle.std.proofs.Common.{◌≡◌, List, ◌++◌, map, IsTrue}
use Rattle.toml.specs.View.{members_view}
use Rattle.toml.proofs.Views.{Entry}
use Rattle.rdm_fixture_keys.specs.Keys.{has_only}
use Rattle.rdm_fixture_keys.proofs.keys.only.Given as goal

-- no key before this one is another
abbrev pub invariant-loop-key : goal.invariant-loop-key
invariant-loop-key l = (done : List Entry) × (l.table.entries ≡ done ++ l.key-iterator) × IsTrue (has_only (map (λ k. k.now) l.keys) (members_view done))
