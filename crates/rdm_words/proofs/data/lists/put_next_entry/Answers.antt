use Rattle.std.proofs.Common.{ℕ, List, OnOk, codes, string_bytes, refl, subst}
use Rattle.rdm_words.specs.LaidOut.{entry_facts}
use Rattle.rdm_words.specs.Naming.{PutsFacts}
use Rattle.rdm_words.proofs.LaidOut.{adds_separated}
use Rattle.rdm_words.proofs.data.lists.put_next_entry.Goals as goal

pub returns : goal.returns
returns c =
    adds_separated c.put_record.result (entry_facts c.args.list c.args.entry.now) (codes "\n  ") _ _ _ refl c.in_ok-push_str.ensures.bytes
    (subst (λ (facts : List (List ℕ)). OnOk c.put_record.result (PutsFacts facts (string_bytes c.push_str.new.self) (string_bytes c.put_record.new.text)))
    (c.record_of.ensures c.args.entry.now) c.put_record.ensures)
