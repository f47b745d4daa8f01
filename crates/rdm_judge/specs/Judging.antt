-- What is said of the reply to a request: whether it is that of a fixture to which a history happened, or else one that no fixture with the
-- same UID and profile gives after any history. E1.20 sections 6.2, 6.3, 7.5 and 7.6.
use Rattle.std.specs.Prelude.{◌≡◌, ℕ, Bool, true, false, ◌==◌, ◌&&◌, ◌||◌, not, List, [], ◌∷◌, Option, Some, None, if◌then◌else◌}
use Rattle.std.specs.Int.{w16, from_be_bytes}
use Rattle.std.specs.Str.{bytes_eq}
use Rattle.rdm_frame.specs.declared.uid.Uid.{Uid}
use Rattle.rdm_frame.specs.declared.frame.Frame.{Frame}
use Rattle.rdm_frame.specs.Addressing.{same_uid}
use Rattle.rdm_frame.specs.Discovery.{branch_reply}
use Rattle.rdm_frame.specs.Reading.{frame_in}
use Rattle.rdm_responder.specs.History.{History}
use Rattle.rdm_responder.specs.Requests as asked
use Rattle.rdm_responder.specs.Requests.{Request, request_of}
use Rattle.rdm_responder.specs.Rules.{reply_of, is_between}
use Rattle.rdm_judge.specs.declared.asked.Asked.{Asked}
use Rattle.rdm_judge.specs.declared.asked.Asked.TheVariants.{Branch, Mute, Command, Nothing}
use Rattle.rdm_judge.specs.declared.verdict.Verdict.{Verdict}
use Rattle.rdm_judge.specs.declared.verdict.Verdict.TheVariants.{Right, Wrong, Open}
use Rattle.rdm_judge.specs.declared.verdict.Rule.{Rule}
use Rattle.rdm_judge.specs.declared.verdict.Rule.TheVariants as rules
use Rattle.rdm_judge.specs.declared.verdict.Doubt.TheVariants as doubts

-- Two histories are of one fixture: its UID and its profile are the same.
pub record OfOneFixture (h k : History) : Type 0 where
  pub uid : k.setup.uid ≡ h.setup.uid
  pub profile : k.setup.profile ≡ h.setup.profile

-- ---- what depends on what a fixture keeps

-- a request that sets a parameter. Table A-1.
abbrev pub is_set : Frame → Bool
is_set f = f.class == 0x30

-- Whether a GET fetches what waits in the fixture: the response has the parameter of a message then. Sections 10.3.1 and 10.3.2.
abbrev pub fetches : Frame → Bool
fetches f = (f.class == 0x20) && ((f.pid == 0x0020) || (f.pid == 0x0030))

-- Reasons to reject a request that is acknowledged if the fixture keeps other values: DATA_OUT_OF_RANGE, since some ranges hang on a value,
-- and WRITE_PROTECT of a SET, since a lock state does. Table A-17.
abbrev pub may_be_taken : Frame → ℕ → Bool
may_be_taken f n = (n == 0x0006) || (is_set f && (n == 0x0004))

-- Reasons of which a SET gets one or the other, as the values of the fixture are: WRITE_PROTECT comes before FORMAT_ERROR and
-- DATA_OUT_OF_RANGE, and a value that is out of range at one of all sub-devices before SUB_DEVICE_OUT_OF_RANGE, since no job starts at all
-- of them at once.
abbrev pub comes_before : Frame → ℕ → ℕ → Bool
comes_before f n m =
    is_set f
    && (((n == 0x0004) && ((m == 0x0001) || (m == 0x0006)))
    || ((m == 0x0009) && ((n == 0x0004) || (n == 0x0006)) && (f.sub == 0xFFFF)))

abbrev pub is_either : Frame → ℕ → ℕ → Bool
is_either f n m = (n == m) || comes_before f n m || comes_before f m n

-- ---- the rule that a response breaks, beside one that a fixture gives to the same request

-- the reason of a NACK, or the estimate of ACK_TIMER: the first two slots of the data. Sections 6.3.3 and 6.3.4.
abbrev pub first_word : List ℕ → ℕ
first_word (upper ∷ lower ∷ rest) = from_be_bytes w16 (upper ∷ lower ∷ [])
first_word _ = 0

-- a rule that is broken unless this holds
abbrev pub rule_unless : Bool → Rule → Option Rule
rule_unless kept rule = if kept then None else Some rule

-- A NACK beside another response type. ACK_TIMER (1) is due unless there is no room for the job: BUFFER_FULL. Table A-17.
abbrev pub may_stand_beside : Frame → ℕ → ℕ → Bool
may_stand_beside f n other = if other == 1 then n == 0x0007 else may_be_taken f n

abbrev pub nack_beside : Frame → ℕ → ℕ → Option Rule
nack_beside f n other = rule_unless (may_stand_beside f n other) rules.Reason

-- neither of them a NACK
abbrev pub acks_beside : ℕ → ℕ → ℕ → ℕ → Option Rule
acks_beside p n q m =
    if not (p == q) then Some rules.ResponseType
    else if (p == 1) && not (n == m) then Some rules.Estimate else None

-- of two response types, each with its first word: 0 is ACK, 1 ACK_TIMER, 2 NACK_REASON. Table A-2.
abbrev pub broken_by_type : Frame → ℕ → ℕ → ℕ → ℕ → Option Rule
broken_by_type f p n q m =
    if p == 2 then (if q == 2 then rule_unless (is_either f n m) rules.Reason else nack_beside f n q)
    else if q == 2 then nack_beside f m p
    else acks_beside p n q m

-- whether two responses are of one sub-device, command class and parameter
abbrev pub same_parameter : Frame → Frame → Bool
same_parameter g r = (g.sub == r.sub) && (g.class == r.class) && (g.pid == r.pid)

-- The first rule that a response to a request breaks, if the other response is one that a fixture with this UID and profile gives.
abbrev pub broken : Frame → Frame → Frame → Option Rule
broken f g r =
    if not (same_uid g.dst r.dst && same_uid g.src r.src) then Some rules.Addresses
    else if not (g.tn == r.tn) then Some rules.TransactionNumber
    else if not (fetches f || same_parameter g r) then Some rules.Parameter
    else broken_by_type f g.port (first_word g.body) r.port (first_word r.body)

-- ---- the verdict

-- what is asked with a request
abbrev pub asked_with : Request → Asked
asked_with asked.Ignored = Nothing
asked_with (asked.Branch lower upper) = Branch lower upper
asked_with (asked.Muting muted f) = Mute
asked_with (asked.Get f) = Command
asked_with (asked.Set f) = Command

abbrev pub on_rule : Option Rule → Verdict
on_rule None = Open doubts.Kept
on_rule (Some rule) = Wrong rule

-- two responses, if both are frames
abbrev pub on_frames : Frame → Option Frame → Option Frame → Verdict
on_frames f (Some g) (Some r) = on_rule (broken f g r)
on_frames f _ _ = Open doubts.Altered

-- nothing of the response to a mute depends on what the fixture keeps. Section 7.6.
abbrev pub on_mute : Verdict → Verdict
on_mute (Open doubts.Kept) = Wrong rules.Mute
on_mute verdict = verdict

-- DISC_UNIQUE_BRANCH: the reply says the UID, and whether the device is muted isn't known. Section 7.5.
abbrev pub on_branch : Uid → Bool → List ℕ → Verdict
on_branch own within t = if bytes_eq t (branch_reply own) then (if within then Open doubts.Muted else Wrong rules.Branch) else Open doubts.Other

-- a reply where none is given: wrong if it is from this fixture
abbrev pub on_silence : Uid → Option Frame → Verdict
on_silence own None = Open doubts.Altered
on_silence own (Some r) = if same_uid r.src own then Wrong rules.Silence else Open doubts.Other

-- a reply to a request that isn't the reply that is given
abbrev pub on_asked : Uid → Frame → Asked → Option (List ℕ) → List ℕ → Verdict
on_asked own f (Branch lower upper) given t = on_branch own (is_between lower own upper) t
on_asked own f Mute (Some bytes) t = on_mute (on_frames f (frame_in bytes) (frame_in t))
on_asked own f Command (Some bytes) t = on_frames f (frame_in bytes) (frame_in t)
on_asked own f _ given t = on_silence own (frame_in t)

abbrev pub on_other : Uid → Option Frame → Option (List ℕ) → List ℕ → Verdict
on_other own None given t = on_silence own (frame_in t)
on_other own (Some f) given t = on_asked own f (asked_with (request_of own f)) given t

-- The verdict on a reply, or on that there is none, beside the one that is given.
abbrev pub verdict_beside : Uid → Option Frame → Option (List ℕ) → Option (List ℕ) → Verdict
verdict_beside own found None None = Right
verdict_beside own found (Some bytes) None = Open doubts.Lost
verdict_beside own found None (Some t) = on_other own found None t
verdict_beside own found (Some bytes) (Some t) = if bytes_eq t bytes then Right else on_other own found (Some bytes) t

-- The verdict on the reply to these bytes, beside what a fixture with this history replies.
unfoldable pub judged : History → List ℕ → Option (List ℕ) → Verdict
judged h bytes reply = verdict_beside h.setup.uid (frame_in bytes) (reply_of h bytes) reply

-- whether a verdict is that a reply is wrong
abbrev pub is_wrong : Verdict → Bool
is_wrong (Wrong rule) = true
is_wrong _ = false

-- What a fixture replies after any history is never judged wrong, whatever history of it the judge knows. So a reply that is judged wrong
-- is one that no history of the fixture gives.
abbrev pub NeverWrong : Type 0
NeverWrong = (h k : History) (bytes : List ℕ) → OfOneFixture h k → is_wrong (judged h bytes (reply_of k bytes)) ≡ false
