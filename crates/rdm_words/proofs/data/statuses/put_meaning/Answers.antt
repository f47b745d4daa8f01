use Rattle.std.proofs.Common.{codes, refl}
use Rattle.std.specs.Int.{w16, to_be_bytes}
use Rattle.rdm_frame.specs.Digits.{digits}
use Rattle.rdm_words.proofs.LaidOut.{puts_fact}
use Rattle.rdm_words.proofs.data.statuses.put_meaning.Goals as goal

pub returns-in_ok-push_str-in-None : goal.returns-in_ok-push_str-in-None
returns-in_ok-push_str-in-None c =
    puts_fact c.put_word.result (codes "status ID ") (digits (to_be_bytes w16 c.args.status.now.id)) _ _ _ refl c.in_ok-push_str-in-None.ensures.bytes c.put_word.ensures
