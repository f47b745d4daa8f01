-- The verdict beside what a fixture with a history replies.
use Rattle.std.proofs.Common.{◌≡◌, ℕ, List, Option, ap, ◌∙◌}
use Rattle.rdm_frame.specs.declared.uid.Uid.{Uid}
use Rattle.rdm_frame.specs.Reading.{frame_in}
use Rattle.rdm_responder.specs.History.{History}
use Rattle.rdm_responder.specs.Rules.{reply_of}
use Rattle.rdm_judge.specs.declared.seen.Seen.{Seen}
use Rattle.rdm_judge.specs.declared.verdict.Rule.{Rule}
use Rattle.rdm_judge.specs.declared.verdict.Verdict.{Verdict}
use Rattle.rdm_judge.specs.Judging.{judged, verdict_beside}
use Rattle.rdm_judge.specs.Seen.{judged_with, rule_at, with_rule}

pub seen : (h : History) (own : Uid) (bytes : List ℕ) (given reply : Option (List ℕ)) (v : Verdict) → own ≡ h.setup.uid → given ≡ reply_of h bytes → v ≡ verdict_beside own (frame_in bytes) given reply → v ≡ judged h bytes reply
unfolding judged
seen h own bytes given reply v o g e = e ∙ ap (λ (u : Uid). verdict_beside u (frame_in bytes) given reply) o ∙ ap (λ (x : Option (List ℕ)). verdict_beside h.setup.uid (frame_in bytes) x reply) g

-- the same with what is known
pub known : (s : Seen) (h : History) (own : Uid) (bytes : List ℕ) (reply : Option (List ℕ)) (v w : Verdict) (rule : Option Rule) → own ≡ h.setup.uid → v ≡ judged h bytes reply → rule ≡ rule_at s own (frame_in bytes) reply → w ≡ with_rule v rule → w ≡ judged_with s h (record { request = bytes; reply = reply })
unfolding judged_with
known s h own bytes reply v w rule o judged_is rule_is e =
    e ∙ ap (λ (x : Verdict). with_rule x rule) judged_is ∙ ap (with_rule (judged h bytes reply)) (rule_is ∙ ap (λ (u : Uid). rule_at s u (frame_in bytes) reply) o)
