use Rattle.std.proofs.Common.{◌≡◌, ◌+◌, ◌-◌, ◌≤◌, length, map}
use Rattle.rdm_entry.specs.Entries.{entered, behind}
use Rattle.rdm_entry.proofs.reading.data_in.Given as goal

abbrev pub invariant-loop-rest : goal.invariant-loop-rest
invariant-loop-rest l = record {
  said : behind l.slots (entered l.index (231 - length l.slots) l.rest (map (λ word. word.now) l.left)) ≡ entered 0 231 l.fields (map (λ word. word.now) l.words);
  room : length l.slots ≤ 231;
  count : l.index + length l.rest ≡ length l.fields;
}

abbrev pub decreases-loop-rest : goal.decreases-loop-rest
decreases-loop-rest l = length l.rest
