-- A line of devices, and its histories.
use Rattle.std.specs.Prelude.{◌≡◌, ℕ, ◌/◌, ◌%◌, ◌^◌, ◌<◌, ◌≤◌, Bool, not, nat_lt, List, ◌∷◌, ◌++◌, length, map, slice_index, slice_index_or}
use Rattle.std.specs.List.{AllZip, filter}
use Rattle.rdm_frame.specs.declared.uid.Uid.{Uid}
use Rattle.rdm_frame.specs.UidNumber.{uid_number}
use Rattle.rdm_responder.specs.History.{History}
use Rattle.rdm_line.specs.declared.collision.Collision.{Collision}

-- What a contract sees of a line: its devices, the UIDs by which it finds them, in the same order, and its rule.
pub record State (D : Type 0) : Type 0 where
  pub devices : List D
  pub uids : List Uid
  pub rule : Collision

-- the UIDs of histories
abbrev pub uids_of : List History → List Uid
uids_of hs = map (λ h. h.setup.uid) hs

-- The line has these histories, one for each device, in their order.
pub record StandFor {D : Type 0} (stands : D → History → Type 0) (line : State D) (hs : List History) : Type 0 where
  pub each : AllZip stands line.devices hs
  pub uids : uids_of hs ≡ line.uids

-- Its UID is below the other one's.
abbrev pub is_below : History → History → Bool
is_below h k = nat_lt (uid_number k.setup.uid) (uid_number h.setup.uid)

-- The histories of a line that this one joined: it stands behind those of lower UIDs.
abbrev pub joined : History → List History → List History
joined h hs = filter (is_below h) hs ++ h ∷ filter (λ k. not (is_below h k)) hs

-- the UID with this number
abbrev pub uid_of : ℕ → Uid
uid_of n = record { maker = n / 2 ^ 32; device = n % 2 ^ 32 }

-- Each number is below the next, and that of a UID of one device.
pub record AreInOrder (numbers : List ℕ) : Type 0 where
  pub rise : (i j : ℕ) → i < j → j < length numbers → slice_index numbers i < slice_index numbers j
  pub fit : (i : ℕ) → i < length numbers → slice_index numbers i < 2 ^ 48
  pub single : (i : ℕ) → i < length numbers → slice_index numbers i % 2 ^ 32 < 0xFFFFFFFF

-- This UID stands there, and nowhere else.
pub record IsOnlyAt (uid : Uid) (uids : List Uid) (i : ℕ) : Type 0 where
  pub within : i < length uids
  pub there : slice_index_or uids i uid ≡ uid
  pub only : (j : ℕ) → j < length uids → slice_index_or uids j uid ≡ uid → j ≡ i

-- A number is above those before this place, and below those from there on.
pub record IsGap (numbers : List ℕ) (n i : ℕ) : Type 0 where
  pub within : i ≤ length numbers
  pub above : (k : ℕ) → k < i → slice_index numbers k < n
  pub below : (k : ℕ) → i ≤ k → k < length numbers → n < slice_index numbers k
