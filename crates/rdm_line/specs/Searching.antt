-- A line of devices, as a search sees it. E1.20 sections 7.5 and 7.6.
use Rattle.std.specs.Prelude.{◌≡◌, ◌≢◌, ℕ, Bool, List, [], map, zip, All, AllPairs}
use Rattle.rdm_frame.specs.declared.uid.Uid.{Uid}
use Rattle.rdm_frame.specs.declared.frame.Frame.{Frame}
use Rattle.rdm_frame.specs.FrameText.{frame_text, IsFrame}
use Rattle.rdm_search.specs.declared.request.Request.{Request}
use Rattle.rdm_search.specs.Line.{Fixture, IsDevice, IsHeard, after_request}
use Rattle.rdm_search.specs.Requests.{request_frame, IsRequest}
use Rattle.rdm_responder.specs.History.{History}
use Rattle.rdm_responder.specs.Rules.{account_of, is_muted}
use Rattle.rdm_line.specs.declared.collision.Collision.{Collision}
use Rattle.rdm_line.specs.Collisions.{on_wire}
use Rattle.rdm_line.specs.Hearing.{answers, heard_by}
use Rattle.rdm_line.specs.Line.{State, StandFor, uids_of}

-- the fixture that a device is after its history
abbrev pub fixture_of : History → Fixture
fixture_of h = record { uid = h.setup.uid; muted = is_muted (account_of h).mutings }

-- A request of a search changes the mute flags of a line's devices as it does those of the fixtures that they are.
abbrev pub RequestsMute : Type 0
RequestsMute =
    (hs : List History) (request : Request) (source : Uid) (tn : ℕ) → IsRequest request → IsFrame (request_frame source tn request)
    → map fixture_of (map (heard_by (frame_text (request_frame source tn request))) hs) ≡ after_request request (map fixture_of hs)

-- What is on the wire after a request of a search is what may be heard of those fixtures, with every rule of collisions.
abbrev pub RequestsAreHeard : Type 0
RequestsAreHeard =
    (hs : List History) (rule : Collision) (request : Request) (source : Uid) (tn : ℕ)
    → All (λ u. IsDevice u) (uids_of hs) → AllPairs (λ u v. u ≢ v) (uids_of hs)
    → IsRequest request → IsFrame (request_frame source tn request)
    → IsHeard request (map fixture_of hs) (on_wire rule [] (answers (frame_text (request_frame source tn request)) hs)).1

-- the fixtures that the devices of a line are, where `muted` says of each whether it is muted
abbrev pub fixtures_of : {D : Type 0} → (D → Bool) → State D → List Fixture
fixtures_of muted line = map (λ x. record { uid = x.0; muted = muted x.1 }) (zip line.uids line.devices)

-- A frame is sent on a line: after any histories that lead to its state, this is on the wire, and each device that is addressed has
-- heard it.
abbrev pub IsSent : {D : Type 0} → (D → History → Type 0) → State D → Frame → List ℕ → State D → Type 0
IsSent stands before frame heard after =
    (hs : List History) → StandFor stands before hs
    → (heard ≡ (on_wire before.rule [] (answers (frame_text frame) hs)).1) × StandFor stands after (map (heard_by (frame_text frame)) hs)

-- There are histories that lead each device of the line to its state.
abbrev pub HasHistories : {D : Type 0} → (D → History → Type 0) → State D → Type 0
HasHistories stands line = ∥ ((hs : List History) × StandFor stands line hs) ∥₁
