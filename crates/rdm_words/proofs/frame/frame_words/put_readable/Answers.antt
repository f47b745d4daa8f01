use Rattle.std.proofs.Common.{string_bytes}
use Rattle.rdm_words.proofs.Last.{strayed}
use Rattle.rdm_words.proofs.frame.frame_words.put_readable.Goals as goal

pub returns : goal.returns
returns c =
    strayed c.put_stray.result c.args.error c.args.bytes.now (string_bytes c.args.text.now) c.as_str.result.now (string_bytes c.push_str.new.self)
    (string_bytes c.push_str-2.new.self) (string_bytes c.put_stray.new.text) c.in_ok-push_str.ensures.bytes c.in_ok-push_str-2.ensures.bytes c.put_stray.ensures
