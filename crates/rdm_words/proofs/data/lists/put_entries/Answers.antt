use Rattle.std.proofs.Common.{ℕ, List, length, string_bytes, sym, subst}
use Rattle.std.proofs.lemmas.Bool.{eqb-true, eqb-false}
use Rattle.rdm_words.specs.LaidOut.{entry_facts, entry_slots}
use Rattle.rdm_words.specs.Naming.{PutsFacts}
use Rattle.rdm_words.proofs.Entries.{none_put, first_of}
use Rattle.rdm_words.proofs.data.lists.put_entries.Goals as goal

pub returns-then-is_empty : goal.returns-then-is_empty
returns-then-is_empty c =
    none_put (λ entry. entry_facts c.args.list entry) (entry_slots c.args.list) c.put_no_entries.result c.args.data.now _ _
    (eqb-true (length c.args.data.now) 0 (sym c.if-is_empty.ensures)) c.put_no_entries.ensures

pub returns : goal.returns
returns c =
    first_of (λ entry. entry_facts c.args.list entry) (entry_slots c.args.list) c.put_more_entries.result c.slots_of.result c.args.data.now
    (string_bytes c.args.text.now) (string_bytes c.put_record.new.text) (string_bytes c.put_more_entries.new.text) _ _ c.slots_of.ensures.slots c.slots_of.ensures.some
    (eqb-false (length c.args.data.now) 0 (sym c.if-is_empty.ensures)) c.first_entry.ensures.entry c.first_entry.ensures.rest
    (subst (λ (facts : List (List ℕ)). PutsFacts facts (string_bytes c.args.text.now) (string_bytes c.put_record.new.text))
    (c.record_of.ensures _) c.in_ok-put_record.ensures) c.put_more_entries.ensures
