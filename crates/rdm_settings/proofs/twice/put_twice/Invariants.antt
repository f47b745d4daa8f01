use Rattle.std.proofs.Common.{◌≡◌, ◌++◌, take, drop}
use Rattle.rdm_settings.specs.Twice.{twice, twice_behind}
use Rattle.rdm_settings.proofs.twice.put_twice.Given as goal

abbrev pub invariant-loop-i : goal.invariant-loop-i
invariant-loop-i l =
    l.complaints.items ++ twice_behind (take l.i l.settings) (drop l.i l.settings) ≡ l.fn.complaints.items ++ twice l.settings
