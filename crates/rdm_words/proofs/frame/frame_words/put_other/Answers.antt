use Rattle.std.proofs.Common.{◌≡◌, ◌++◌, OnOk, string_bytes, subst}
use Rattle.rdm_frame.specs.declared.uid.Uid.{Uid}
use Rattle.rdm_words.specs.Fixed.{answer_words}
use Rattle.rdm_words.proofs.Fixed.{same_some}
use Rattle.rdm_words.proofs.frame.frame_words.put_other.Goals as goal

pub returns-in-Some-clause-answer : goal.returns-in-Some-clause-answer
returns-in-Some-clause-answer c uid answer =
    subst (λ (u : Uid). OnOk c.write.result (string_bytes c.write.new.self ≡ string_bytes c.args.text.now ++ answer_words u))
    (same_some c.in-Some.uid uid (c.in-Some.ensures.read uid answer.0 answer.1)) c.write.ensures.bytes
