-- A line: its fixtures, what is heard of them, and what a search has to find. E1.20 sections 7.5 and 7.6.
use Rattle.std.specs.Prelude.{◌≡◌, ◌≢◌, ◌↔◌, ◌⊎◌, ℕ, suc, ◌≤◌, Bool, true, false, not, ◌&&◌, ◌||◌, nat_le, List, [], ◌∷◌, map, Contains, All, AllPairs, None, IsSome}
use Rattle.std.specs.List.{filter}
use Rattle.rdm_frame.specs.declared.uid.Uid.{Uid}
use Rattle.rdm_frame.specs.FrameText.{IsUid}
use Rattle.rdm_frame.specs.UidNumber.{uid_number}
use Rattle.rdm_frame.specs.Addressing.{is_broadcast, is_addressed}
use Rattle.rdm_frame.specs.Discovery.{IsBranchReply}
use Rattle.rdm_search.specs.declared.request.Request.{Request}
use Rattle.rdm_search.specs.declared.request.Request.TheVariants.{UnMute, UniqueBranch, Mute}
use Rattle.rdm_search.specs.Answers.{mute_answer}

-- A fixture: its UID, and the mute flag that DISC_MUTE sets and DISC_UN_MUTE clears.
pub record Fixture : Type 0 where
  pub uid : Uid
  pub muted : Bool

-- the UID of one device, and no broadcast
pub record IsDevice (u : Uid) : Type 0 where
  pub fits : IsUid u
  pub one : is_broadcast u ≡ false

abbrev pub uids : List Fixture → List Uid
uids line = map (λ f. f.uid) line

-- It answers DISC_UNIQUE_BRANCH between these bounds: it isn't muted, and its UID is neither below nor above them.
abbrev pub calls : Uid → Uid → Fixture → Bool
calls low high f = not f.muted && (nat_le (uid_number low) (uid_number f.uid) && nat_le (uid_number f.uid) (uid_number high))

-- the UIDs of those that answer
abbrev pub callers : Uid → Uid → List Fixture → List Uid
callers low high line = uids (filter (calls low high) line)

-- What is heard when these answer at once: nothing of none, the answer of a single one, and of more than one any bytes,
-- though not none: they may decode as the UID of nobody, of one of them, of a fixture elsewhere, or as a broadcast.
abbrev pub IsCalled : List Uid → List ℕ → Type 0
IsCalled [] heard = heard ≡ []
IsCalled (u ∷ []) heard = IsBranchReply u heard
IsCalled (u ∷ (v ∷ us)) heard = heard ≢ []

-- What may be heard after each request. To a mute that device answers, if it is there, and nobody else.
abbrev pub IsHeard : Request → List Fixture → List ℕ → Type 0
IsHeard UnMute line heard = heard ≡ []
IsHeard (UniqueBranch low high) line heard = IsCalled (callers low high line) heard
IsHeard (Mute uid) line heard =
    (IsSome (mute_answer uid heard) ↔ Contains (uids line) uid) × (heard ≢ [] → IsSome (mute_answer uid heard))

-- A mute for a UID that no fixture has: bytes that aren't an answer may decode as one.
abbrev pub IsForNobody : Request → List Fixture → Type 0
IsForNobody UnMute line = ⊥
IsForNobody (UniqueBranch low high) line = ⊥
IsForNobody (Mute uid) line = Contains (uids line) uid → ⊥

-- An answer to a branch was altered on its way: any bytes are heard, though not none. They may decode as the UID of anybody. Or there is
-- noise after a mute for nobody: any bytes that aren't a valid answer of that device, and not none.
abbrev pub IsAltered : Request → List Fixture → List ℕ → Type 0
IsAltered UnMute line heard = ⊥
IsAltered (UniqueBranch low high) line heard = (callers low high line ≢ []) × (heard ≢ [])
IsAltered (Mute uid) line heard = IsForNobody (Mute uid) line × (heard ≢ []) × (mute_answer uid heard ≡ None)

-- No more were altered than these. But a port may send a mute for nobody several times, with noise after each.
abbrev pub IsCounted : Request → List Fixture → ℕ → ℕ → Type 0
IsCounted request line altered altered' = (altered' ≡ altered) ⊎ (IsForNobody request line × (altered ≤ altered'))

-- What may be heard where answers may be altered, and how many were, before and after.
abbrev pub IsAnswer : Request → List Fixture → List ℕ → ℕ → ℕ → Type 0
IsAnswer request line heard altered altered' =
    (IsHeard request line heard × IsCounted request line altered altered')
    ⊎ (IsAltered request line heard × IsCounted request line (suc altered) altered')

-- what a mute for this destination leaves of a fixture
abbrev pub after_mute : Uid → Fixture → Fixture
after_mute destination f = record { uid = f.uid; muted = f.muted || is_addressed f.uid destination }

abbrev pub after_un_mute : Fixture → Fixture
after_un_mute f = record { uid = f.uid; muted = false }

-- the fixtures after each request
abbrev pub after_request : Request → List Fixture → List Fixture
after_request UnMute line = map after_un_mute line
after_request (UniqueBranch low high) line = line
after_request (Mute uid) line = map (after_mute uid) line

-- These UIDs are those of the fixtures, each once.
pub record IsFound (found : List Uid) (line : List Fixture) : Type 0 where
  pub same : (u : Uid) → Contains found u ↔ Contains (uids line) u
  pub once : AllPairs (λ u v. u ≢ v) found
  pub muted : All (λ f. f.muted ≡ true) line

-- how many aren't muted
abbrev pub unmuted : List Fixture → List Fixture
unmuted line = filter (λ f. not f.muted) line
