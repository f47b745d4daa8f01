use Rattle.std.proofs.Common.{◌≡◌, ◌++◌, map, take, drop}
use Rattle.rdm_outcomes.specs.Outcomes.{note}
use Rattle.rdm_outcomes.proofs.planned.note_all.Given as goal

abbrev pub invariant-loop-each : goal.invariant-loop-each
invariant-loop-each l = l.counted ≡ map (note l.job) (take l.each-index l.fn.counted) ++ drop l.each-index l.fn.counted
