-- Each reply of a fixture belongs to its request. Sections are those of E1.20.
use Rattle.std.specs.Prelude.{◌≡◌, ◌≢◌, ℕ, ◌^◌, ◌<◌, true, false, List, Some, AllPairs}
use Rattle.std.specs.List.{AllByRecursion}
use Rattle.rdm_frame.specs.declared.frame.Frame.{Frame}
use Rattle.rdm_frame.specs.Discovery.{branch_reply}
use Rattle.rdm_frame.specs.FrameText.{frame_text}
use Rattle.rdm_frame.specs.Reading.{frame_in}
use Rattle.rdm_responder.specs.History.{History}
use Rattle.rdm_responder.specs.Rules.{reply_of}
use Rattle.rdm_line.specs.declared.collision.Collision.{Collision}
use Rattle.rdm_line.specs.declared.on_wire.OnWire.{OnWire}
use Rattle.rdm_line.specs.declared.on_wire.OnWire.TheVariants.{Nothing}
use Rattle.rdm_line.specs.Collisions.{on_wire}
use Rattle.rdm_line.specs.Hearing.{answers}
use Rattle.rdm_line.specs.Line.{uids_of}
use Rattle.rdm_interface.specs.Answers.{is_branch, is_response}
use Rattle.rdm_interface.specs.Sessions.{IsReplyTo}

-- bytes, as a line carries them
abbrev pub AreBytes : List ℕ → Type 0
AreBytes bytes = AllByRecursion (λ b. b < 2 ^ 8) bytes

-- ---- of one fixture, after any history

-- A reply is the text of a response to its request, from the device that was asked: of the same parameter, but where the request fetches a
-- message. Sections 6.2, 10.3.1 and 10.3.2.
abbrev pub RepliesAreResponses : Type 0
RepliesAreResponses =
    (h : History) (request reply : List ℕ) (f : Frame) → frame_in request ≡ Some f → is_branch f ≡ false
    → reply_of h request ≡ Some reply → (g : Frame) × (reply ≡ frame_text g) × (g.src ≡ f.dst) × (is_response f g ≡ true)

-- The answer to DISC_UNIQUE_BRANCH has no header, and is made of the UID alone. Section 7.5.
abbrev pub BranchesAreAnswered : Type 0
BranchesAreAnswered =
    (h : History) (request reply : List ℕ) (f : Frame) → frame_in request ≡ Some f → is_branch f ≡ true
    → reply_of h request ≡ Some reply → reply ≡ branch_reply h.setup.uid

-- So an interface that hears a reply finds that it belongs to its request.
abbrev pub RepliesBelong : Type 0
RepliesBelong =
    (h : History) (request reply : List ℕ) → AreBytes request → AreBytes reply
    → reply_of h request ≡ Some reply → IsReplyTo request (Some reply)

-- ---- of a line of fixtures

-- What is on the wire of a line of different UIDs after a request belongs to it, be it a reply or a collision.
abbrev pub WhatIsOnTheWireBelongs : Type 0
WhatIsOnTheWireBelongs =
    (hs : List History) (rule : Collision) (request before bytes : List ℕ) (told : OnWire) → AllPairs (λ u v. u ≢ v) (uids_of hs)
    → AreBytes request → AreBytes bytes → told ≢ Nothing
    → on_wire rule before (answers request hs) ≡ (told, bytes) → IsReplyTo request (Some bytes)
