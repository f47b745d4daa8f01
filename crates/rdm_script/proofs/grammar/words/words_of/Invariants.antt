use Rattle.std.proofs.Common.{◌≡◌, ◌≤◌, ◌++◌, length, take}
use Rattle.rdm_script.specs.Grammar.{words_of}
use Rattle.rdm_script.proofs.Words.{bytes_of}
use Rattle.rdm_script.proofs.grammar.words.words_of.Given as goal

abbrev pub invariant-loop-end : goal.invariant-loop-end
invariant-loop-end l = record {
  front : take 9 (bytes_of l.words.items ++ words_of l.spelling l.rest) ≡ take 9 (words_of l.spelling l.line);
  within : length l.words.items ≤ 9;
  room : length l.rest ≤ length l.line;
}

abbrev pub decreases-loop-end : goal.decreases-loop-end
decreases-loop-end l = length l.rest
