use Rattle.std.proofs.Common.{ℕ, List, OnOk, ap, string_bytes, option_map, rules, subst, ◌∙◌}
use Rattle.rdm_words.specs.DataFacts.{data_facts}
use Rattle.rdm_words.specs.Naming.{AddsNames}
use Rattle.rdm_words.proofs.HeaderNames.{message_said}
use Rattle.rdm_words.proofs.trace_words.put_message.Goals as goal

pub returns-clause-named : goal.returns-clause-named
returns-clause-named c =
    let m = c.args.message.now in
    message_said c.put_data_lines.result (data_facts m.class m.pid m.body) m.class m.pid m.sub
    (option_map (λ name. name.now) c.own_name.result) c.as_str-2.result.now (string_bytes c.args.text.now)
    c.as_str.result.now (string_bytes c.new-head.result) (string_bytes c.push_str.new.self) (string_bytes c.put_below.new.text) (string_bytes c.put_data_lines.new.text)
    c.new-head.ensures.bytes (search rules) c.in_ok-push_str.ensures.bytes c.in_ok-put_below.ensures
    (subst (λ (facts : List (List ℕ)). OnOk c.put_data_lines.result (AddsNames facts (string_bytes c.put_below.new.text) (string_bytes c.put_data_lines.new.text)))
    (c.layout_of-layout.ensures.facts c.as_slice-2.result.now ∙ ap (λ (d : List ℕ). data_facts m.class m.pid d) c.as_slice-2.ensures.value)
    c.put_data_lines.ensures.named)
