-- Which table is a fixture: each key, what it says, and its default. A key is named as the parameter or the field of
-- E1.20 that it sets, in small letters.
use Rattle.std.specs.Prelude.{◌≡◌, ◌≢◌, ℕ, ◌+◌, ◌<◌, ◌≤◌, min, false, IsTrue, List, [], ◌∷◌, ◌++◌, length, Option, Some, None, option_map, unwrap_or, AllPairs, codes}
use Rattle.toml.specs.Data.{Data, string, table, array, Members, get_member}
use Rattle.rdm_profile.specs.declared.profile.locks.Lock.{Lock}
use Rattle.rdm_profile.specs.declared.profile.Profile.{Profile}
use Rattle.rdm_profile.specs.declared.profile.Unit.{Unit as DeviceUnit}
use Rattle.rdm_profile.specs.declared.profile.estimates.Estimates.{Estimates}
use Rattle.rdm_profile.specs.declared.profile.mute_reply.MuteReply.{MuteReply}
use Rattle.rdm_profile.specs.declared.profile.workers.Worker.TheVariants.{First, Second}
use Rattle.rdm_profile.specs.declared.profile.workers.Workers.{Workers}
use Rattle.rdm_profile.specs.Estimates.{usual}
use Rattle.rdm_profile.specs.Modes.{mode_shapes}
use Rattle.rdm_profile.specs.Profiles.{AreGoodModes, MayBeLeftOut, Agree, HaveStates}
use Rattle.rdm_profile.specs.Workers.{usual_workers}
use Rattle.rdm_params.specs.Table.Kinds.{pid_of, kind_named}
use Rattle.rdm_params.specs.Table.Names.{pid_named}
use Rattle.rdm_fixture.specs.declared.fixture.Fixture.{Fixture}
use Rattle.rdm_fixture.specs.declared.profile.locks.Locking.{Locking}
use Rattle.rdm_fixture.specs.Outcomes.{IsOutcome}
use Rattle.rdm_fixture_keys.specs.Entries.{IsPersonality, IsSlot, IsSensor, IsSelfTest, IsStatus, IsChoice}
use Rattle.rdm_fixture_keys.specs.Values.{flag, named, number, worker, text, language, uid, only_uid}
use Rattle.rdm_standard_names.specs.declared.kind.NameKind.TheVariants.{Categories}
use Rattle.rdm_fixture.specs.OwnSlots.{AreModes}
use Rattle.rdm_fixture.specs.Parameters.{IsParameter}
use Rattle.rdm_fixture.specs.Starting.{IsStarting, counter_keys}
use Rattle.rdm_fixture.specs.Working.{CanWork}
use Rattle.rdm_fixture_keys.specs.Keys.{may, Must, May, has_only}
use Rattle.rdm_fixture.specs.Lists.{OfTable, EachIs, Lists, items_count}

-- ---- what lock states keep from being set

abbrev pub locking_keys : List (List ℕ)
locking_keys = codes "state" ∷ codes "parameters" ∷ []

-- a PID, or that of the parameter of the standards with this name
abbrev pub locked_pid : Data → Option ℕ
locked_pid (string s) = pid_named s
locked_pid d = number 0 0xFFFF d

-- A lock state, and the parameters that can't be set in it. E1.37-1, LOCK_STATE. In state 0 all can be.
pub record IsLocking (t : Members) (l : Locking) : Type 0 where
  pub keys : IsTrue (has_only locking_keys t)
  pub state : Must t (codes "state") (number 1 0xFF) l.state
  pub parameters : Lists t (codes "parameters") (λ d pid. locked_pid d ≡ Some pid) 1 64 l.pids.items

-- each of its parameters is locked in its state
abbrev pub locks_of : ℕ → List ℕ → List Lock
locks_of state [] = []
locks_of state (pid ∷ pids) = record { state = state; pid = pid } ∷ locks_of state pids

-- the same of all states, one after the other
abbrev pub all_locks : List Locking → List Lock
all_locks [] = []
all_locks (l ∷ ls) = locks_of l.state l.pids.items ++ all_locks ls

-- What the tables lock together, at most 64 times.
pub record AreLocks (t : Members) (locks : List Lock) : Type 0 where
  pub states : List Locking
  pub tables : Lists t (codes "lock") (OfTable IsLocking) 0 64 states
  pub locked : locks ≡ all_locks states
  pub few : length locks ≤ 64

-- ---- the root and the sub-devices

-- the keys of each device
abbrev pub unit_keys : List (List ℕ)
unit_keys =
    codes "device_model_id" ∷ codes "device_model_description" ∷ codes "manufacturer_label" ∷ codes "device_label"
    ∷ codes "product_category" ∷ codes "software_version_id" ∷ codes "software_version_label"
    ∷ codes "dmx_start_address" ∷ codes "personality" ∷ []

-- What the root and a sub-device each say, with this many slots. Section 9.
pub record IsUnit (slots : ℕ) (t : Members) (u : DeviceUnit) : Type 0 where
  pub model : Must t (codes "device_model_id") (number 0 0xFFFF) u.model
  pub model_text : May t (codes "device_model_description") [] text u.model_text
  pub maker_text : May t (codes "manufacturer_label") [] text u.maker_text
  pub label : May t (codes "device_label") [] text u.label
  pub category : May t (codes "product_category") 0 (named Categories) u.category
  pub software : May t (codes "software_version_id") 0 (number 0 0xFFFFFFFF) u.software
  pub software_text : May t (codes "software_version_label") [] text u.software_text
  pub start : May t (codes "dmx_start_address") 1 (number 1 512) u.start
  pub personalities : Lists t (codes "personality") (OfTable (IsPersonality slots)) 1 8 u.personalities.items

-- the sub-devices: how many there are, and what each starts as
pub record IsSub (t : Members) (subs : ℕ) (u : DeviceUnit) : Type 0 where
  pub keys : IsTrue (has_only (codes "count" ∷ unit_keys) t)
  pub count : Must t (codes "count") (number 0 512) subs
  pub unit : IsUnit 512 t u

-- Without their table there are none, and what they would start as is the root.
abbrev pub SubDevices : ℕ → Members → Option Data → ℕ → DeviceUnit → Type 0
SubDevices slots t None count u = (count ≡ 0) × IsUnit slots t u
SubDevices slots t (Some (table s)) count u = IsSub s count u
SubDevices slots t (Some _) count u = ⊥

-- ---- the times of slow commands

abbrev pub estimates_keys : List (List ℕ)
estimates_keys = codes "lamp_state" ∷ codes "power_state" ∷ codes "perform_selftest" ∷ codes "sensor_value" ∷ []

-- In tenths of a second. Section 6.3.3.
pub record IsEstimates (t : Members) (e : Estimates) : Type 0 where
  pub keys : IsTrue (has_only estimates_keys t)
  pub lamp : May t (codes "lamp_state") 50 (number 0 0xFFFF) e.lamp
  pub power : May t (codes "power_state") 20 (number 0 0xFFFF) e.power
  pub self_test : May t (codes "perform_selftest") 100 (number 0 0xFFFF) e.self_test
  pub sensor : May t (codes "sensor_value") 5 (number 0 0xFFFF) e.sensor

-- Without their table they are the usual ones.
abbrev pub EstimatesAt : Option Data → Estimates → Type 0
EstimatesAt None e = e ≡ usual
EstimatesAt (Some (table t)) e = IsEstimates t e
EstimatesAt (Some _) e = ⊥

-- ---- their workers

abbrev pub workers_keys : List (List ℕ)
workers_keys = codes "lamp_state" ∷ codes "power_state" ∷ codes "perform_selftest" ∷ codes "sensor_value" ∷ []

-- The number of the worker that carries out each. Section 6.3.3.
pub record IsWorkers (t : Members) (ws : Workers) : Type 0 where
  pub keys : IsTrue (has_only workers_keys t)
  pub lamp : May t (codes "lamp_state") First worker ws.lamp
  pub power : May t (codes "power_state") First worker ws.power
  pub self_test : May t (codes "perform_selftest") Second worker ws.self_test
  pub sensor : May t (codes "sensor_value") Second worker ws.sensor

-- Without their table they are the usual ones.
abbrev pub WorkersAt : Option Data → Workers → Type 0
WorkersAt None ws = ws ≡ usual_workers
WorkersAt (Some (table t)) ws = IsWorkers t ws
WorkersAt (Some _) ws = ⊥

-- ---- what it tells when it is muted

-- The UID of its first port, that it needs firmware before it can do anything else, and that a proxy answers for it. Section 7.6.
pub record IsMuteReply (t : Members) (m : MuteReply) : Type 0 where
  pub binding : May t (codes "binding_uid") None only_uid m.binding
  pub boot_loader : May t (codes "boot_loader") false flag m.boot_loader
  pub proxied : May t (codes "proxied_device") false flag m.proxied_device

-- ---- the whole

-- how many slots are described
abbrev pub slot_count : Option Data → ℕ
slot_count (Some (array ds)) = items_count ds
slot_count _ = 0

-- how many the root can use: those and so many more, of the 512 that there are
abbrev pub root_slots : Members → ℕ
root_slots t = min 512 (slot_count (get_member (codes "slot") t) + unwrap_or (may 0 (number 0 512) (get_member (codes "more_slots") t)) 0)

-- the PID of the parameter of the standard with this name
abbrev pub parameter_named : Data → Option ℕ
parameter_named (string s) = option_map pid_of (kind_named s)
parameter_named _ = None

-- English is the language of a fixture that says nothing of it. Section 10.5.7.
abbrev pub LanguagesAt : Option Data → List ℕ → Type 0
LanguagesAt None xs = xs ≡ 0x656E ∷ []
LanguagesAt (Some (array ds)) xs = (1 ≤ length xs) × (length xs ≤ 8) × EachIs (λ d x. language d ≡ Some x) ds xs
LanguagesAt (Some _) xs = ⊥

-- the keys of the root
abbrev pub root_keys : List (List ℕ)
root_keys = counter_keys ++ unit_keys

abbrev pub fixture_keys : List (List ℕ)
fixture_keys =
    codes "uid" ∷ codes "boot_software_version_id" ∷ codes "boot_software_version_label" ∷ codes "languages"
    ∷ codes "presets" ∷ codes "more_slots" ∷ codes "binding_uid" ∷ codes "boot_loader" ∷ codes "proxied_device" ∷ codes "newest_only"
    ∷ codes "slot" ∷ codes "mode" ∷ codes "sensor" ∷ codes "self_test" ∷ codes "status" ∷ codes "without" ∷ codes "parameter"
    ∷ codes "choice" ∷ codes "lock" ∷ codes "outcome" ∷ codes "sub_devices" ∷ codes "estimates" ∷ codes "workers" ∷ codes "status_message" ∷ root_keys

-- What the devices are made with. The parameters that it adds are in the order of their PIDs, and each thing of which one is chosen has a
-- name. LOCK_STATE has each state that locks something. Those that the fixture lacks are ones that it may lack, and none that another one
-- needs. Each mode has slots of its own, or those of a personality that has.
pub record IsProfile (t : Members) (p : Profile) : Type 0 where
  pub root : IsUnit (root_slots t) t p.root
  pub sub : SubDevices (root_slots t) t (get_member (codes "sub_devices") t) p.subs p.sub
  pub boot : May t (codes "boot_software_version_id") 0 (number 0 0xFFFFFFFF) p.boot
  pub boot_text : May t (codes "boot_software_version_label") [] text p.boot_text
  pub languages : LanguagesAt (get_member (codes "languages") t) p.languages.items
  pub slots : Lists t (codes "slot") (OfTable IsSlot) 0 46 p.slots.items
  pub sensors : Lists t (codes "sensor") (OfTable IsSensor) 0 8 p.sensors.items
  pub tests : Lists t (codes "self_test") (OfTable IsSelfTest) 0 8 p.tests.items
  pub tests_differ : AllPairs (λ a b. a.number ≢ b.number) p.tests.items
  pub statuses : Lists t (codes "status") (OfTable IsStatus) 0 8 p.status_texts.items
  pub statuses_differ : AllPairs (λ a b. a.id ≢ b.id) p.status_texts.items
  pub presets : May t (codes "presets") 0 (number 0 65534) p.presets
  pub more_slots : May t (codes "more_slots") 0 (number 0 512) p.particulars.more_slots
  pub without : Lists t (codes "without") (λ d pid. parameter_named d ≡ Some pid) 0 36 p.particulars.without.items
  pub may_lack : MayBeLeftOut p.particulars.without.items
  pub own : Lists t (codes "parameter") (OfTable IsParameter) 0 32 p.particulars.own
  pub own_ascend : AllPairs (λ a b. a.pid < b.pid) p.particulars.own
  pub choices : Lists t (codes "choice") (OfTable IsChoice) 0 64 p.particulars.choices
  pub agree : Agree p.particulars.own p.particulars.choices
  pub locks : AreLocks t p.particulars.locks
  pub states : HaveStates p.particulars.own p.particulars.locks
  pub estimates : EstimatesAt (get_member (codes "estimates") t) p.particulars.estimates
  pub workers : WorkersAt (get_member (codes "workers") t) p.workers
  pub mute_reply : IsMuteReply t p.particulars.mute_reply
  pub newest_only : May t (codes "newest_only") false flag p.particulars.newest_only
  pub modes : AreModes t p.particulars.modes
  pub modes_agree : AreGoodModes (length p.root.personalities.items) (mode_shapes p)

-- What its keys say.
pub record SaysFixture (t : Members) (f : Fixture) : Type 0 where
  pub own : Must t (codes "uid") uid f.uid
  pub profile : IsProfile t f.profile
  pub outcomes : Lists t (codes "outcome") (OfTable IsOutcome) 0 32 f.outcomes.items
  pub start : IsStarting t f.start

-- It has no other key, and says nothing in vain.
pub record IsFixture (t : Members) (f : Fixture) : Type 0 where
  pub keys : IsTrue (has_only fixture_keys t)
  pub said : SaysFixture t f
  pub works : CanWork f
