-- The line behind a controller's port, as a search sees it. E1.20 sections 7.5 and 7.6.
use Rattle.std.specs.Prelude.{◌≡◌, ◌⊎◌, ℕ, zero, suc, ◌≤◌, false, List, [], Option, unwrap_or}
use Rattle.rdm_collector.specs.declared.port.PortError.{PortError}
use Rattle.rdm_frame.specs.declared.uid.Uid.{Uid}
use Rattle.rdm_frame.specs.declared.frame.Frame.{Frame}
use Rattle.rdm_frame.specs.FrameText.{frame_text}
use Rattle.rdm_search.specs.declared.request.Request.{Request}
use Rattle.rdm_search.specs.Line.{Fixture}
use Rattle.rdm_search.specs.Losses.{is_answered, IsKept, IsLost}
use Rattle.rdm_search.specs.Requests.{request_frame, IsRequest}

-- ---- what is asked

-- Bytes are sent once, and this is heard: no bytes if nothing is.
abbrev pub IsHeardOnce : {P : Type 0} → (P → List ℕ → Option (List ℕ) → P → Type 0) → P → P → List ℕ → List ℕ → Type 0
IsHeardOnce hears before after bytes heard = (came : Option (List ℕ)) × hears before bytes came after × (heard ≡ unwrap_or came [])

-- A frame is sent once, and this is heard: one exchange of a search.
abbrev pub IsExchange : {P : Type 0} → (P → List ℕ → Option (List ℕ) → P → Type 0) → P → Frame → List ℕ → P → Type 0
IsExchange hears before frame heard after = IsHeardOnce hears before after (frame_text frame) heard

-- A frame is sent N times, and what is heard never answers it.
abbrev pub IsUnanswered : {P : Type 0} → (P → List ℕ → Option (List ℕ) → P → Type 0) → Frame → ℕ → P → P → Type 0
IsUnanswered hears frame zero before after = after ≡ before
IsUnanswered {P} hears frame (suc n) before after =
    (mid : P) × (heard : List ℕ) × IsUnanswered hears frame n before mid × IsHeardOnce hears mid after (frame_text frame) heard
    × (is_answered frame heard ≡ false)

-- A frame is sent once, and up to N times again until it is answered: this is heard at last.
pub record IsAskedAgain {P : Type 0} (hears : P → List ℕ → Option (List ℕ) → P → Type 0) (retries : ℕ) (before after : P) (frame : Frame) (heard : List ℕ) : Type 0 where
  pub times : ℕ
  pub mid : P
  pub in_vain : IsUnanswered hears frame times before mid
  pub last : IsHeardOnce hears mid after (frame_text frame) heard
  pub within : times ≤ retries
  pub all_in_vain : is_answered frame heard ≡ false → times ≡ retries

-- A frame is sent again while what is heard doesn't answer it, up to N times, and at the last sending the port fails so.
pub record FailsAsking {P : Type 0} (hears : P → List ℕ → Option (List ℕ) → P → Type 0) (fails : P → List ℕ → PortError → P → Type 0) (retries : ℕ) (before after : P) (frame : Frame) (error : PortError) : Type 0 where
  pub times : ℕ
  pub mid : P
  pub in_vain : IsUnanswered hears frame times before mid
  pub failed : fails mid (frame_text frame) error after
  pub within : times ≤ retries

-- ---- what is on the line

-- The line behind a port has these fixtures: what is heard after the requests of a search is what they may sound like, and they
-- change as it says. A request may be lost on its way to some or all of them, or what they answer, or the answer to a mute altered:
-- then no valid answer is heard, and each has carried the request out or not. No more askings in a row are lost than so many: with 0
-- nothing ever is. Answers to branches may be altered as often as it likes, and noise may come after mutes for nobody: so many were.
pub record IsLineOf {P : Type 0} (hears : P → List ℕ → Option (List ℕ) → P → Type 0) (fixtures : P → List Fixture) (most : ℕ) : Type 0 where
  -- how many askings in a row were lost, up to the last
  pub lost : P → ℕ
  -- how many answers were altered
  pub altered : P → ℕ
  pub kept_or_lost : (before after : P) (request : Request) (source : Uid) (tn : ℕ) (came : Option (List ℕ)) → IsRequest request
      → hears before (frame_text (request_frame source tn request)) came after
      → (IsKept request (fixtures before) (unwrap_or came []) (fixtures after) (altered before) (altered after) × (lost after ≡ 0))
      ⊎ (IsLost request (fixtures before) (unwrap_or came []) (fixtures after) × (lost after ≡ suc (lost before)) × (lost after ≤ most)
      × (altered after ≡ altered before))

-- It has, and any number of requests and answers may be lost, and of answers altered.
pub record IsLossyLineOf {P : Type 0} (hears : P → List ℕ → Option (List ℕ) → P → Type 0) (fixtures : P → List Fixture) : Type 0 where
  pub altered : P → ℕ
  pub kept_or_lost : (before after : P) (request : Request) (source : Uid) (tn : ℕ) (came : Option (List ℕ)) → IsRequest request
      → hears before (frame_text (request_frame source tn request)) came after
      → IsKept request (fixtures before) (unwrap_or came []) (fixtures after) (altered before) (altered after)
      ⊎ IsLost request (fixtures before) (unwrap_or came []) (fixtures after)
