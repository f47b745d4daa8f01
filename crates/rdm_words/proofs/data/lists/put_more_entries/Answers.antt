use Rattle.std.proofs.Common.{length, string_bytes, sym}
use Rattle.std.proofs.lemmas.Bool.{eqb-true, eqb-false}
use Rattle.rdm_words.specs.LaidOut.{entry_facts, entry_slots}
use Rattle.rdm_words.proofs.Entries.{added_next, added_whole}
use Rattle.rdm_words.proofs.data.lists.put_more_entries.Goals as goal

pub loop-rest-preserved : goal.loop-rest-preserved
loop-rest-preserved c =
    added_next (λ entry. entry_facts c.args.list entry) (entry_slots c.args.list) c.slots_of.result c.args.data.now (string_bytes c.args.text.now) c.loop-rest.rest.now
    _ _ _ _ c.slots_of.ensures.slots c.slots_of.ensures.some (eqb-false (length c.loop-rest.rest.now) 0 (sym c.loop-rest-test.ensures))
    c.first_entry.ensures.entry c.first_entry.ensures.rest c.in_ok-put_next_entry.ensures c.loop-rest.invariant

pub returns : goal.returns
returns c =
    added_whole (λ entry. entry_facts c.args.list entry) (entry_slots c.args.list) c.args.data.now (string_bytes c.args.text.now) c.loop-rest.rest.now _
    (eqb-true (length c.loop-rest.rest.now) 0 (sym c.loop-rest-test.ensures)) c.loop-rest.invariant
