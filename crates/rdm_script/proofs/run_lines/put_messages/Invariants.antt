use Rattle.std.proofs.Common.{◌≡◌, ◌++◌, map, take}
use Rattle.rdm_trace.specs.declared.line.Line.TheVariants.{Message as MessageLine}
use Rattle.rdm_script.proofs.run_lines.put_messages.Given as goal

abbrev pub invariant-loop-message : goal.invariant-loop-message
invariant-loop-message l = l.lines.items ≡ l.fn.lines.items ++ map (λ m. MessageLine m) (take l.message-index l.recorded)
