use Rattle.std.proofs.Common.{◌≡◌, ◌++◌, take}
use Rattle.std.specs.List.{flat_map}
use Rattle.rdm_script.specs.RunLines.{told_lines}
use Rattle.rdm_script.proofs.run_lines.put_events.Given as goal

abbrev pub invariant-loop-event : goal.invariant-loop-event
invariant-loop-event l = l.lines.items ≡ l.fn.lines.items ++ flat_map (told_lines l.workers l.finds) (take l.event-index l.events)
