use Rattle.std.proofs.Common.{◌≡◌, ◌≤◌, ◌++◌, length, map}
use Rattle.rdm_settings.specs.Lines.{lines_of}
use Rattle.rdm_settings.proofs.line.lines_of.Given as goal

abbrev pub invariant-loop-end : goal.invariant-loop-end
invariant-loop-end l = record {
  told : map (λ line. line.now) l.lines.items ++ lines_of l.rest ≡ lines_of l.text;
  room : length l.rest ≤ length l.text;
}

abbrev pub decreases-loop-end : goal.decreases-loop-end
decreases-loop-end l = length l.rest
