use Rattle.std.proofs.Common.{OnOk, string_bytes, decimal, subst, sym}
use Rattle.rdm_frame.specs.Digits.{digits}
use Rattle.rdm_words.specs.declared.data.form.Value.{Value}
use Rattle.rdm_words.specs.FieldFacts.{number_in}
use Rattle.rdm_words.specs.HeaderWords.{quoted}
use Rattle.rdm_words.specs.LaidOut.{slots_facts}
use Rattle.rdm_words.specs.Naming.{PutsFacts}
use Rattle.rdm_standard_names.specs.Tables.{name_of}
use Rattle.rdm_words.proofs.LaidOut.{word_put, coded_put}
use Rattle.rdm_words.proofs.data.values.put_slots.Goals as goal

pub returns-in-Number : goal.returns-in-Number
returns-in-Number c =
    subst (λ (v : Value). OnOk c.put_number.result (PutsFacts (slots_facts v c.args.slots.now) (string_bytes c.args.text.now) (string_bytes c.put_number.new.text)))
    (sym c.in-Number.is) (word_put c.put_number.result (decimal (number_in c.args.slots.now)) _ _ c.put_number.ensures)

pub returns-in-Digits : goal.returns-in-Digits
returns-in-Digits c =
    subst (λ (v : Value). OnOk c.put_hex.result (PutsFacts (slots_facts v c.args.slots.now) (string_bytes c.args.text.now) (string_bytes c.put_hex.new.text)))
    (sym c.in-Digits.is) (word_put c.put_hex.result (digits c.args.slots.now) _ _ c.put_hex.ensures)

pub returns-in-Text : goal.returns-in-Text
returns-in-Text c =
    subst (λ (v : Value). OnOk c.put_quoted.result (PutsFacts (slots_facts v c.args.slots.now) (string_bytes c.args.text.now) (string_bytes c.put_quoted.new.text)))
    (sym c.in-Text.is) (word_put c.put_quoted.result (quoted c.args.slots.now) _ _ c.put_quoted.ensures)

pub returns-in-Code : goal.returns-in-Code
returns-in-Code c =
    subst (λ (v : Value). OnOk c.put_coded.result (PutsFacts (slots_facts v c.args.slots.now) (string_bytes c.args.text.now) (string_bytes c.put_coded.new.text)))
    (sym c.in-Code.is)
    (coded_put c.put_coded.result (name_of c.in-Code.table (number_in c.args.slots.now)) (digits c.args.slots.now) _ _ c.put_coded.ensures)
