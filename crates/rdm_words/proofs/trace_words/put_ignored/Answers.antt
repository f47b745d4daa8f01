use Rattle.std.proofs.Common.{◌≡◌, ◌++◌, OnOk, string_bytes, refl, subst}
use Rattle.rdm_frame.specs.declared.uid.Uid.{Uid}
use Rattle.rdm_words.specs.Fixed.{answerer_words}
use Rattle.rdm_words.proofs.Fixed.{same_some}
use Rattle.rdm_words.proofs.trace_words.put_ignored.Goals as goal

pub returns-in-Some-clause-answer : goal.returns-in-Some-clause-answer
returns-in-Some-clause-answer c uid answer =
    subst (λ (u : Uid). OnOk c.write.result (string_bytes c.write.new.self ≡ string_bytes c.args.text.now ++ answerer_words u))
    (same_some c.in-Some.uid uid (c.in-Some.ensures.read uid answer)) c.write.ensures.bytes

pub returns-in-Some-clause-other : goal.returns-in-Some-clause-other
returns-in-Some-clause-other c none = absurd (none c.in-Some.uid (c.in-Some.ensures.only c.in-Some.uid refl))
