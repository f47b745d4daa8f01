use Rattle.std.proofs.Common.{length, string_bytes}
use Rattle.rdm_words.specs.LaidOut.{entry_facts, entry_slots}
use Rattle.rdm_words.proofs.Entries.{AddedBefore}
use Rattle.rdm_words.proofs.data.lists.put_more_entries.Given as goal

abbrev pub invariant-loop-rest : goal.invariant-loop-rest
invariant-loop-rest l = AddedBefore (λ entry. entry_facts l.list entry) (entry_slots l.list) l.data (string_bytes l.fn.text) l.rest (string_bytes l.text)

abbrev pub decreases-loop-rest : goal.decreases-loop-rest
decreases-loop-rest l = length l.rest
