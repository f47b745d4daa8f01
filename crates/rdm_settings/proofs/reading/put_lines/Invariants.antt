use Rattle.std.proofs.Common.{◌≡◌, ◌+◌, ◌++◌, length, map}
use Rattle.rdm_settings.specs.Sheets.{lines_say}
use Rattle.rdm_settings.proofs.reading.put_lines.Given as goal

abbrev pub invariant-loop-rest : goal.invariant-loop-rest
invariant-loop-rest l = record {
  told : l.list.items ++ lines_say l.columns l.number (map (λ line. line.now) l.rest) ≡ l.fn.list.items ++ lines_say l.columns 2 (map (λ line. line.now) l.lines);
  count : l.number + length l.rest ≡ length l.lines + 2;
}

abbrev pub decreases-loop-rest : goal.decreases-loop-rest
decreases-loop-rest l = length l.rest
