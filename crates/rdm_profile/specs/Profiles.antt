-- Which profiles a device can be made with.
use Rattle.std.specs.Prelude.{◌≢◌, ℕ, ◌+◌, ◌<◌, ◌≤◌, min, List, length, All, AllPairs, IsTrue}
use Rattle.rdm_profile.specs.declared.profile.Profile.{Profile}
use Rattle.rdm_profile.specs.declared.profile.choices.ChoiceName.{ChoiceName}
use Rattle.rdm_profile.specs.declared.profile.locks.Lock.{Lock}
use Rattle.rdm_profile.specs.declared.profile.modes.ModeShape.{ModeShape}
use Rattle.rdm_profile.specs.declared.profile.own.ParameterDef.{ParameterDef}
use Rattle.rdm_profile.specs.declared.profile.Unit.{Unit as DeviceUnit}
use Rattle.rdm_profile.specs.Choices.{agrees, is_needed, comes_before}
use Rattle.rdm_profile.specs.Locks.{has_state, can_open, can_hold}
use Rattle.rdm_profile.specs.LeftOut.{is_optional, leave_no_need}
use Rattle.rdm_profile.specs.Modes.{has_slots, mode_shapes}
use Rattle.rdm_profile.specs.MuteReply.{can_bind}
use Rattle.rdm_profile.specs.OwnParameters.{is_addable, has_limits, can_start, has_good_fields}
use Rattle.rdm_profile.specs.Standards.{follows}

-- A unit has a personality and a start address, and none of its personalities uses more slots than there are.
pub record IsGoodUnit (u : DeviceUnit) (slots : ℕ) : Type 0 where
  pub personality : 0 < length u.personalities.items
  pub start_least : 1 ≤ u.start
  pub start_greatest : u.start ≤ 512
  pub footprints : All (λ m. m.footprint ≤ slots) u.personalities.items

-- how many DMX512 slots the root can use: those that are described and so many more, of the 512 that there are
abbrev pub root_slots : Profile → ℕ
root_slots p = min 512 (length p.slots.items + p.particulars.more_slots)

-- The parameters that are left out are few, and none is one that each device must have.
abbrev pub AreOptional : List ℕ → Type 0
AreOptional pids = (length pids ≤ 36) × All (λ pid. IsTrue (is_optional pid)) pids

-- Each parameter of the maker's own has a PID that is free for it, and no two have the same.
abbrev pub HaveFreePids : List ParameterDef → Type 0
HaveFreePids ds = All (λ d. IsTrue (is_addable d.pid)) ds × AllPairs (λ s t. s.pid ≢ t.pid) ds

-- The limits of each are numbers that its data can say, the least first; data that are no number have at most 32 slots.
abbrev pub HaveLimits : List ParameterDef → Type 0
HaveLimits ds = All (λ d. IsTrue (has_limits d.shape d.low d.high)) ds

-- Each starts with data of its own, in range.
abbrev pub HaveStarts : List ParameterDef → Type 0
HaveStarts ds = All (λ d. IsTrue (can_start d)) ds

-- The slots of each are taken by its fields, if it has any, and these can say their limits.
abbrev pub HaveFields : List ParameterDef → Type 0
HaveFields ds = All (λ d. IsTrue (has_good_fields d)) ds

-- Each whose PID is one of E1.20 or E1.37-1 has the commands and the data of that standard.
abbrev pub FollowStandards : List ParameterDef → Type 0
FollowStandards ds = All (λ d. IsTrue (follows d)) ds

-- Each choice has a parameter that tells what its things are called, and a name for each; DIMMER_INFO has as many curves as CURVE. Each
-- name is that of a thing that can be chosen, no two are of the same, and they are at most 64.
pub record Agree (ds : List ParameterDef) (cs : List ChoiceName) : Type 0 where
  pub count : length cs ≤ 64
  pub parameters : All (λ d. IsTrue (agrees ds cs d)) ds
  pub names : All (λ c. IsTrue (is_needed ds c)) cs
  pub ascending : AllPairs (λ c e. IsTrue (comes_before c e)) cs

-- Each lock is of a state that LOCK_STATE has.
abbrev pub HaveStates : List ParameterDef → List Lock → Type 0
HaveStates ds ls = All (λ l. IsTrue (has_state ds l)) ls

-- LOCK_STATE, if it is one of them, can be read, and has LOCK_PIN beside it.
abbrev pub CanOpen : List ParameterDef → Type 0
CanOpen ds = All (λ d. IsTrue (can_open ds d)) ds

-- Each lock holds its parameter, and can be opened again.
abbrev pub CanHold : List ℕ → List ParameterDef → List Lock → Type 0
CanHold without ds ls = All (λ l. IsTrue (can_hold without ds l)) ls

-- Where these are left out, and these are of the maker's own, the locks can lock, and can be opened.
pub record AreGoodLocks (without : List ℕ) (ds : List ParameterDef) (ls : List Lock) : Type 0 where
  pub states : HaveStates ds ls
  pub opened : CanOpen ds
  pub held : CanHold without ds ls

-- They are in the order of their PIDs.
abbrev pub Ascend : List ParameterDef → Type 0
Ascend ds = AllPairs (λ s t. s.pid < t.pid) ds

-- The parameters of the maker's own are at most 32, each of them is good, and they are in their order; and these names are those of their
-- choices.
pub record AreGoodParameters (ds : List ParameterDef) (cs : List ChoiceName) : Type 0 where
  pub count : length ds ≤ 32
  pub pids : HaveFreePids ds
  pub limits : HaveLimits ds
  pub starts : HaveStarts ds
  pub ascending : Ascend ds
  pub fields : HaveFields ds
  pub standards : FollowStandards ds
  pub agree : Agree ds cs

-- Only parameters are left out that may be, and none that another needs which stays.
pub record MayBeLeftOut (pids : List ℕ) : Type 0 where
  pub optional : AreOptional pids
  pub needs : IsTrue (leave_no_need pids)

-- The modes behind so many personalities are at most 247, so that there are at most 255 in all; none uses more slots than DMX512 has; and
-- each has slots of its own, or those of a personality that has.
pub record AreGoodModes (units : ℕ) (shapes : List ModeShape) : Type 0 where
  pub count : length shapes ≤ 247
  pub footprints : All (λ s. s.footprint ≤ 512) shapes
  pub slots : All (λ s. IsTrue (has_slots units shapes s)) shapes

-- Both units are good; there is a language; no self test is numbered 0 or 255 and no two alike; no two status IDs
-- are alike; the number of presets isn't the one that stands for all of them; those parameters that are left out may be; the
-- parameters of the maker's own are good; so are the locks; a binding UID is that of one port; and so are the modes good.
pub record IsGoodProfile (p : Profile) : Type 0 where
  pub root : IsGoodUnit p.root (root_slots p)
  pub sub : IsGoodUnit p.sub 512
  pub language : 0 < length p.languages.items
  pub test_numbers : All (λ t. (0 < t.number) × (t.number < 255)) p.tests.items
  pub tests_differ : AllPairs (λ s t. s.number ≢ t.number) p.tests.items
  pub statuses_differ : AllPairs (λ s t. s.id ≢ t.id) p.status_texts.items
  pub presets : p.presets < 65535
  pub own : AreGoodParameters p.particulars.own p.particulars.choices
  pub without : MayBeLeftOut p.particulars.without.items
  pub locks : AreGoodLocks p.particulars.without.items p.particulars.own p.particulars.locks
  pub binding : IsTrue (can_bind p.particulars.mute_reply.binding)
  pub modes : AreGoodModes (length p.root.personalities.items) (mode_shapes p)

-- It is good, and has no more sub-devices than there can be.
abbrev pub CanBeMade : Profile → Type 0
CanBeMade p = (p.subs ≤ 512) × IsGoodProfile p
