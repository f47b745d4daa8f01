-- Laws of a line.
use Rattle.std.specs.Prelude.{◌≡◌, ◌≢◌, ℕ, ◌≤◌, true, false, List, [], length, Some, None, AllPairs, Contains}
use Rattle.std.specs.Option.{option_to_list}
use Rattle.rdm_frame.specs.declared.frame.Frame.{Frame}
use Rattle.rdm_frame.specs.Addressing.{is_broadcast}
use Rattle.rdm_frame.specs.Reading.{frame_in}
use Rattle.rdm_responder.specs.History.{History, Heard, then_event}
use Rattle.rdm_responder.specs.Rules.{account_of, reply_of}
use Rattle.rdm_line.specs.Hearing.{hears, answers}
use Rattle.rdm_line.specs.Line.{uids_of}

-- A device that bytes don't address answers nothing to them, and could hear them all the same: what its history comes to stays.
abbrev pub UnheardBytesChangeNothing : Type 0
UnheardBytesChangeNothing =
    (h : History) (bytes : List ℕ) → hears h.setup.uid bytes ≡ false
    → (reply_of h bytes ≡ None) × (account_of (then_event h (Heard bytes)) ≡ account_of h)

-- The bytes are a frame with DISC_UNIQUE_BRANCH: a DISCOVERY_COMMAND of PID 1. Section 7.5.
abbrev pub IsBranch : List ℕ → Type 0
IsBranch bytes = (f : Frame) × (frame_in bytes ≡ Some f) × (f.class ≡ 0x10) × (f.pid ≡ 0x0001)

-- Nobody answers a broadcast, unless it is DISC_UNIQUE_BRANCH.
abbrev pub BroadcastsAreUnanswered : Type 0
BroadcastsAreUnanswered =
    (hs : List History) (bytes : List ℕ) (f : Frame) → frame_in bytes ≡ Some f → is_broadcast f.dst ≡ true
    → (IsBranch bytes → ⊥) → answers bytes hs ≡ []

-- On a line of different UIDs a frame for one device is answered by that one alone.
abbrev pub OneDeviceAnswers : Type 0
OneDeviceAnswers =
    (hs : List History) (h : History) (bytes : List ℕ) (f : Frame) → AllPairs (λ u v. u ≢ v) (uids_of hs) → Contains hs h
    → frame_in bytes ≡ Some f → is_broadcast f.dst ≡ false → h.setup.uid ≡ f.dst
    → answers bytes hs ≡ option_to_list (reply_of h bytes)

-- On a line of different UIDs only answers to DISC_UNIQUE_BRANCH collide: to all else there is one at most.
abbrev pub OnlyBranchesCollide : Type 0
OnlyBranchesCollide =
    (hs : List History) (bytes : List ℕ) → AllPairs (λ u v. u ≢ v) (uids_of hs) → (IsBranch bytes → ⊥) → length (answers bytes hs) ≤ 1
