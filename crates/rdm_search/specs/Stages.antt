-- The stages of a search, and what holds at each.
use Rattle.std.specs.Prelude.{◌≡◌, ◌≢◌, ℕ, zero, suc, ◌+◌, ◌-◌, ◌*◌, ◌/◌, ◌%◌, ◌≤◌, Bool, true, false, not, nat_lt, ◌==◌, ◌&&◌, ◌⊎◌, List, [], ◌∷◌, length, Contains, All, AllPairs, Option, Some, None, if◌then◌else◌}
use Rattle.std.specs.Coded.{×_prop, le_prop, Unit-prop}
use Rattle.rdm_frame.specs.declared.uid.Uid.{Uid}
use Rattle.std.specs.List.{list_any}
use Rattle.rdm_frame.specs.Addressing.{same_uid}
use Rattle.rdm_frame.specs.Discovery.{IsBranchReply}
use Rattle.rdm_search.specs.declared.found.Found.{Found}
use Rattle.rdm_search.specs.declared.request.Request.{Request}
use Rattle.rdm_search.specs.declared.request.Request.TheVariants.{UnMute, UniqueBranch, Mute}
use Rattle.rdm_search.specs.declared.range.Range.{Range}
use Rattle.rdm_search.specs.declared.stage.Stage.{Stage}
use Rattle.rdm_search.specs.declared.stage.Stage.TheVariants.{Start, Asking, Muting, Ended}
use Rattle.rdm_search.specs.Line.{Fixture, IsDevice, IsHeard, IsAltered, uids, after_request}
use Rattle.rdm_search.specs.Ranges.{place, low, high, IsRange}

-- ---- the stages

abbrev pub request_of : Stage → Option Request
request_of Start = Some UnMute
request_of (Asking r) = Some (UniqueBranch (low r) (high r))
request_of (Muting r uid) = Some (Mute uid)
request_of Ended = None

abbrev pub IsStage : Stage → Type 0
IsStage Start = Unit {0}
IsStage (Asking r) = IsRange r
IsStage (Muting r uid) = IsRange r
IsStage Ended = Unit {0}

pub IsStage-prop : (stage : Stage) → IsProp (IsStage stage)
IsStage-prop Start = Unit-prop
IsStage-prop (Asking r) = ×_prop le_prop le_prop
IsStage-prop (Muting r uid) = ×_prop le_prop le_prop
IsStage-prop Ended = Unit-prop

-- The stage after all of a range was searched: the upper half beside it if it is a lower one, and else what comes after
-- the range that both are halves of.
abbrev pub stage_after : ℕ → ℕ → Stage
stage_after zero index = Ended
stage_after (suc depth) index =
    if index % 2 == 0 then Asking (record { index = index + 1; depth = suc depth }) else stage_after depth (index / 2)

-- the lower half of a range, or what comes after a range of one UID
abbrev pub halved : Range → Stage
halved r = if nat_lt r.depth 48 then Asking (record { index = 2 * r.index; depth = r.depth + 1 }) else stage_after r.depth r.index

-- a device in a range
pub record IsCandidate (r : Range) (u : Uid) : Type 0 where
  pub device : IsDevice u
  pub within : place r.depth u ≡ r.index

-- Each answer of a device in the range is read as its UID, and in a range of one UID so is anything.
abbrev pub Reads : Range → List ℕ → Option Uid → Type 0
Reads r heard read = (u : Uid) → IsDevice u → place r.depth u ≡ r.index → IsBranchReply u heard ⊎ (r.depth ≡ 48) → read ≡ Some u

-- If a device answered its mute for the first time, the same range is asked again, and else its lower half.
abbrev pub stage_of_mute : Range → Option Found → Stage
stage_of_mute r (Some one) = Asking r
stage_of_mute r None = halved r

-- the range of all UIDs
abbrev pub whole : Range
whole = record { index = 0; depth = 0 }

-- ---- what holds at each

-- It isn't muted, and lies in the range of this number among those of this depth.
abbrev pub is_in : ℕ → ℕ → Fixture → Bool
is_in depth index f = not f.muted && (place depth f.uid == index)

abbrev pub when : Bool → ℕ → ℕ
when true n = n
when false n = 0

abbrev pub count : ℕ → ℕ → List Fixture → ℕ
count depth index [] = 0
count depth index (f ∷ line) = when (is_in depth index f) 1 + count depth index line

-- a fixture with this UID isn't muted
abbrev pub IsUnmuted : Uid → List Fixture → Type 0
IsUnmuted u [] = ⊥
IsUnmuted u (f ∷ line) = (f.uid ≡ u) × (f.muted ≡ false) ⊎ IsUnmuted u line

abbrev pub is_unmuted : Uid → List Fixture → Bool
is_unmuted u line = list_any (λ f. same_uid f.uid u && not f.muted) line

-- What always holds: what was found is on the line, each once.
pub record IsReal (found : List Uid) (line : List Fixture) : Type 0 where
  pub devices : All (λ f. IsDevice f.uid) line
  pub real : All (λ u. Contains (uids line) u) found
  pub once : AllPairs (λ u v. u ≢ v) found

-- Each that is muted was found, and the others lie in the range of this number or in a later one.
pub record IsLeft (depth index : ℕ) (found : List Uid) (line : List Fixture) : Type 0 where
  pub real : IsReal found line
  pub known : All (λ f. f.muted ≡ true → Contains found f.uid) line
  pub covered : All (λ f. f.muted ≡ false → index ≤ place depth f.uid) line

-- a UID that was heard in a range is muted: at least one answered there
pub record IsDue (r : Range) (u : Uid) (line : List Fixture) : Type 0 where
  pub device : IsDevice u
  pub within : place r.depth u ≡ r.index
  pub some : 1 ≤ count r.depth r.index line

abbrev pub Stands : Stage → List Uid → List Fixture → Type 0
Stands Start found line = IsReal found line
Stands (Asking r) found line = IsLeft r.depth r.index found line
Stands (Muting r uid) found line = IsLeft r.depth r.index found line × IsDue r uid line
Stands Ended found line = IsReal found line × All (λ f. f.muted ≡ true → Contains found f.uid) line × All (λ f. f.muted ≡ true) line

-- ---- how many transactions are left at most, in half transactions

-- The fixtures of a range. At depth 48, where a range is one UID, each takes two transactions: a question that it answers, and its mute.
-- For each halving before that it takes one and a half more.
abbrev pub busy : ℕ → ℕ → List Fixture → ℕ
busy depth index line = count depth index line * (148 - 3 * depth)

-- The ranges that come after this one. Where it is a lower half, the upper half beside it: a question that nobody answers any more, and
-- its fixtures. Then what comes after the range that both are halves of.
abbrev pub later : ℕ → ℕ → List Fixture → ℕ
later zero index line = 0
later (suc depth) index line =
    when (index % 2 == 0) (2 + busy (suc depth) (index + 1) line) + later depth (index / 2) line

-- One fixture answered, and another UID was heard: an altered answer.
abbrev pub is_astray : Range → Uid → List Fixture → Bool
is_astray r u line = nat_lt (count r.depth r.index line) 2 && not (is_unmuted u line)

-- What a stage has before it. At the start that is DISC_UN_MUTE, a question to the range of all UIDs that nobody answers any more, and all
-- fixtures; where a range is asked, such a question, its fixtures, and the ranges after it; where a UID is muted, the same without the
-- question, and a transaction and a half more if that UID came of an altered answer.
abbrev pub price : Stage → List Fixture → ℕ
price Start line = 4 + 148 * length line
price (Asking r) line = 2 + busy r.depth r.index line + later r.depth r.index line
price (Muting r uid) line = busy r.depth r.index line + later r.depth r.index line + when (is_astray r uid line) 3
price Ended line = 0

-- From this stage, with this line, a search has come to another one, where it stands with less left.
abbrev pub Leads : Stage → List Fixture → Stage → List Uid → List Fixture → Type 0
Leads stage line stage' found' line' = Stands stage' found' line' × (price stage' line' + 2 ≤ price stage line)

-- From this stage it has come to another one, where it stands with at most one half more left.
abbrev pub Strays : Stage → List Fixture → Stage → List Uid → List Fixture → Type 0
Strays stage line stage' found' line' = Stands stage' found' line' × (price stage' line' ≤ price stage line + 1)

-- What was heard leads on from this stage, on every line on which the search stands there. Where it was altered the search stands too,
-- and has at most a transaction and a half more before it than it had else.
abbrev pub Hears : Stage → List Uid → List ℕ → Stage → List Uid → Type 0
Hears stage found heard stage' found' =
    (request : Request) (line : List Fixture) → request_of stage ≡ Some request → Stands stage found line
    → (IsHeard request line heard → Leads stage line stage' found' (after_request request line))
    × (IsAltered request line heard → Strays stage line stage' found' (after_request request line))
