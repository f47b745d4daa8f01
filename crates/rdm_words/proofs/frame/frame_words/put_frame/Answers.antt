use Rattle.std.proofs.Common.{string_bytes, option_map, rules}
use Rattle.rdm_words.specs.DataFacts.{body_facts}
use Rattle.rdm_words.proofs.HeaderNames.{frame_said}
use Rattle.rdm_words.proofs.frame.frame_words.put_frame.Goals as goal

pub returns-clause-named : goal.returns-clause-named
returns-clause-named c =
    frame_said c.put_body.result (body_facts c.args.frame.now) c.args.frame.now (option_map (λ name. name.now) c.own_name.result) c.as_str-2.result.now (string_bytes c.args.text.now)
    c.as_str.result.now (string_bytes c.new-head.result) (string_bytes c.push_str.new.self) (string_bytes c.put_below.new.text) (string_bytes c.put_body.new.text)
    c.new-head.ensures.bytes (search rules) c.in_ok-push_str.ensures.bytes c.in_ok-put_below.ensures c.put_body.ensures.named
