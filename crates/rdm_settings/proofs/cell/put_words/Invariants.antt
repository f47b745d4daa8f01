use Rattle.std.proofs.Common.{◌≡◌, ◌≤◌, ◌++◌, length, map}
use Rattle.rdm_settings.specs.Cells.{split_words}
use Rattle.rdm_settings.proofs.cell.put_words.Given as goal

abbrev pub invariant-loop-end : goal.invariant-loop-end
invariant-loop-end l = record {
  told : map (λ word. word.now) l.words.items ++ split_words l.rest ≡ map (λ word. word.now) l.fn.words.items ++ split_words l.cell;
  room : length l.rest ≤ length l.cell;
}

abbrev pub decreases-loop-end : goal.decreases-loop-end
decreases-loop-end l = length l.rest
