use Rattle.std.proofs.Common.{◌++◌, codes, string_bytes}
use Rattle.std.specs.Int.{w16, to_be_bytes}
use Rattle.rdm_frame.specs.Digits.{digits}
use Rattle.rdm_frame.specs.UidText.{uid_text}
use Rattle.rdm_words.proofs.Appends.{three}
use Rattle.rdm_words.proofs.frame.header.put_makers.Goals as goal

pub returns : goal.returns
returns c =
    three c.write.result (string_bytes c.args.text.now) (codes "all devices of ") _ (digits (to_be_bytes w16 c.args.uid.maker)) _
    (codes " (" ++ (uid_text c.args.uid ++ codes "):")) _ c.in_ok-push_str.ensures.bytes c.in_ok-put_word.ensures c.write.ensures.bytes
