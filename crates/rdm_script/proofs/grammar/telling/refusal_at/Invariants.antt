use Rattle.std.proofs.Common.{◌≡◌, ◌≤◌, ◌-◌, length, drop, take}
use Rattle.rdm_script.specs.Grammar.{lines_of}
use Rattle.rdm_script.specs.WrongWords.{is_begun}
use Rattle.rdm_script.proofs.grammar.telling.refusal_at.Given as goal

abbrev pub invariant-loop-end : goal.invariant-loop-end
invariant-loop-end l = record {
  within : length l.rest ≤ length l.text;
  left : l.left ≤ l.number;
  some : 1 ≤ l.number → 1 ≤ l.left;
  rest : lines_of l.rest ≡ drop (l.number - l.left) (lines_of l.text);
  begun : l.begun ≡ is_begun l.dialect (take (l.number - l.left) (lines_of l.text));
}

abbrev pub decreases-loop-end : goal.decreases-loop-end
decreases-loop-end l = length l.rest
