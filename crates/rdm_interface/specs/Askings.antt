-- What a search sends through a port and hears of it, and what it finds so of a line. E1.20 sections 7.5 and 7.6.
use Rattle.std.specs.Prelude.{◌≡◌, ◌⊎◌, ℕ, suc, ◌+◌, ◌*◌, ◌<◌, ◌≤◌, ◌==◌, List, [], ◌∷◌, length, All, Option, if◌then◌else◌}
use Rattle.rdm_collector.specs.declared.port.PortError.{PortError}
use Rattle.rdm_frame.specs.declared.uid.Uid.{Uid}
use Rattle.rdm_frame.specs.FrameText.{frame_text, IsFrame}
use Rattle.rdm_search.specs.declared.request.Request.{Request}
use Rattle.rdm_search.specs.declared.stage.Stage.{Stage}
use Rattle.rdm_search.specs.Line.{Fixture, IsDevice, IsFound}
use Rattle.rdm_search.specs.Losses.{IsKept, IsLost}
use Rattle.rdm_search.specs.Requests.{request_frame, IsRequest}
use Rattle.rdm_search.specs.Stages.{IsReal, Stands, price}
use Rattle.rdm_interface.specs.Lines.{IsHeardOnce, IsLineOf, IsLossyLineOf}

-- A request of a search that was sent once, in the transaction with this number, and what was heard of it: no bytes if nothing was.
pub record Asking : Type 0 where
  pub request : Request
  pub tn : ℕ
  pub heard : List ℕ

-- ---- a port

-- It is the request of a search, and its numbers fit their slots.
abbrev pub IsAsking : Uid → Asking → Type 0
IsAsking source x = IsRequest x.request × IsFrame (request_frame source x.tn x.request)

-- This controller sent these requests through a port, one after another, and no other bytes, and this was heard of each.
abbrev pub AreAsked : {P : Type 0} → (P → List ℕ → Option (List ℕ) → P → Type 0) → Uid → P → List Asking → P → Type 0
AreAsked hears source before [] after = after ≡ before
AreAsked {P} hears source before (x ∷ xs) after =
    (mid : P) × IsAsking source x × IsHeardOnce hears before mid (frame_text (request_frame source x.tn x.request)) x.heard
    × AreAsked hears source mid xs after

-- It sent so many requests of a search at most, and nothing else, and of them and what was heard this is so.
pub record HasAsked {P : Type 0} (hears : P → List ℕ → Option (List ℕ) → P → Type 0) (source : Uid) (most : ℕ) (before after : P) (IsSo : List Asking → Type 0) : Type 0 where
  pub askings : List Asking
  pub sent : AreAsked hears source before askings after
  pub few : length askings ≤ most
  pub is_so : IsSo askings

-- It sent so many requests of a search at most, and nothing else, and at the last of them the port failed so.
pub record HasFailedAt {P : Type 0} (hears : P → List ℕ → Option (List ℕ) → P → Type 0) (fails : P → List ℕ → PortError → P → Type 0) (source : Uid) (most : ℕ) (before after : P) (error : PortError) : Type 0 where
  pub askings : List Asking
  pub last : P
  pub sent : AreAsked hears source before askings last
  pub request : Request
  pub tn : ℕ
  pub is_request : IsRequest request × IsFrame (request_frame source tn request)
  pub failed : fails last (frame_text (request_frame source tn request)) error after
  pub few : length askings < most

-- how many askings a transaction takes at most: none where no transaction is left
abbrev pub askings_of : ℕ → ℕ → ℕ
askings_of retries left = if left == 0 then 0 else retries + 1

-- ---- a line

-- Where a line stands between two askings: its fixtures, how many askings in a row were lost up to the last, and how many answers
-- were altered.
pub record Situation : Type 0 where
  pub fixtures : List Fixture
  pub lost : ℕ
  pub altered : ℕ

-- This may be heard of a request on a line, which stands so before and after it. Nothing is lost; or the request is, on its way to some
-- or all of the fixtures, or the answer, or an answer to a mute is altered. No more askings in a row are lost than so many: with 0 none is.
abbrev pub IsHeardOf : ℕ → Situation → Asking → Situation → Type 0
IsHeardOf most before x after =
    (IsKept x.request before.fixtures x.heard after.fixtures before.altered after.altered × (after.lost ≡ 0))
    ⊎ (IsLost x.request before.fixtures x.heard after.fixtures × (after.lost ≡ suc before.lost) × (after.lost ≤ most)
    × (after.altered ≡ before.altered))

-- And so may all this, of one request after another.
abbrev pub AreHeardOf : ℕ → Situation → List Asking → Situation → Type 0
AreHeardOf most before [] after = after ≡ before
AreHeardOf most before (x ∷ xs) after = (mid : Situation) × IsHeardOf most before x mid × AreHeardOf most mid xs after

-- ---- what a search finds

abbrev pub AreDevices : List Fixture → Type 0
AreDevices line = All (λ f. IsDevice f.uid) line

-- On every line of such fixtures where all this may be heard, and no more askings in a row are lost than so many, the UIDs that were
-- found are those of its fixtures, each once.
abbrev pub FindsAll : ℕ → (List Fixture → Type 0) → List Uid → List Asking → Type 0
FindsAll most AreSuch found askings =
    (before after : Situation) → AreSuch before.fixtures → AreHeardOf most before askings after → IsFound found after.fixtures

-- On every such line, however many askings are lost, those that were found are on it, each once.
abbrev pub FindsReal : (List Fixture → Type 0) → List Uid → List Asking → Type 0
FindsReal AreSuch found askings =
    (most : ℕ) (before after : Situation) → AreSuch before.fixtures → AreHeardOf most before askings after → IsReal found after.fixtures

-- On every line where a search stood at this stage, with these found, and where all this may be heard, it stands at that stage with
-- those. It has a transaction less before it then, or one and a half more for each altered answer.
abbrev pub GoesOn : ℕ → Stage → List Uid → Stage → List Uid → List Asking → Type 0
GoesOn most stage found stage' found' askings =
    (before after : Situation) → Stands stage found before.fixtures → AreHeardOf most before askings after
    → Stands stage' found' after.fixtures
    × (price stage' after.fixtures + 2 + 3 * before.altered ≤ price stage before.fixtures + 3 * after.altered)

-- On every such line it has more before it than so many transactions.
abbrev pub TakesMore : ℕ → Stage → List Uid → ℕ → List Asking → Type 0
TakesMore most stage found left askings =
    (before after : Situation) → Stands stage found before.fixtures → AreHeardOf most before askings after
    → 2 * left + 3 * before.altered < price stage before.fixtures + 3 * after.altered

-- ---- laws

-- What a port hears on the line behind it (`IsLineOf`) may be heard on that line.
abbrev pub LinesAreHeard : {P : Type 0} → (P → List ℕ → Option (List ℕ) → P → Type 0) → Type 0
LinesAreHeard {P} hears =
    (fixtures : P → List Fixture) (most : ℕ) (line : IsLineOf hears fixtures most) (source : Uid) (before after : P) (askings : List Asking)
    → AreAsked hears source before askings after
    → AreHeardOf most (record { fixtures = fixtures before; lost = line.lost before; altered = line.altered before }) askings
    (record { fixtures = fixtures after; lost = line.lost after; altered = line.altered after })

-- And so may what it hears on one where any number of requests and answers are lost (`IsLossyLineOf`), for some number.
abbrev pub LossyLinesAreHeard : {P : Type 0} → (P → List ℕ → Option (List ℕ) → P → Type 0) → Type 0
LossyLinesAreHeard {P} hears =
    (fixtures : P → List Fixture) → IsLossyLineOf hears fixtures → (source : Uid) (before after : P) (askings : List Asking)
    → AreAsked hears source before askings after
    → (most : ℕ) × (start end : Situation) × (start.fixtures ≡ fixtures before) × (end.fixtures ≡ fixtures after)
    × AreHeardOf most start askings end
