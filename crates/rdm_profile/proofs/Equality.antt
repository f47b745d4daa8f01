-- `==` of profiles and of their parts.
use Rattle.std.proofs.Common.{◌≡◌, ℕ, ℤ, Bool, true, false, ◌&&◌, List, Option, Some, None, refl, ap}
use Rattle.std.specs.Bool.{Decides, beq}
use Rattle.std.specs.Ordering.{int_eq}
use Rattle.std.specs.Option.{option_eq}
use Rattle.std.specs.Prelude.{nat_eq}
use Rattle.std.proofs.lemmas.Bool.Decides.{Decides-and, Decides-like, Decides-eqb, Decides-int_eq}
use Rattle.std.proofs.lemmas.Slice.Eq.{slice_eq-Decides}
use Rattle.arrayvec.specs.declared.array_vec.ArrayVec.{ArrayVec}
use Rattle.rdm_frame.specs.declared.uid.Uid.{Uid}
use Rattle.rdm_profile.specs.declared.profile.estimates.Estimates.{Estimates}
use Rattle.rdm_profile.specs.declared.profile.choices.ChoiceName.{ChoiceName}
use Rattle.rdm_profile.specs.declared.profile.fields.Field.{Field}
use Rattle.rdm_profile.specs.declared.profile.locks.Lock.{Lock}
use Rattle.rdm_profile.specs.declared.profile.fields.Width.{Width}
use Rattle.rdm_profile.specs.declared.profile.mute_reply.MuteReply.{MuteReply}
use Rattle.rdm_profile.specs.declared.profile.modes.Mode.{Mode}
use Rattle.rdm_profile.specs.declared.profile.Personality.{Personality}
use Rattle.rdm_profile.specs.declared.profile.Profile.{Profile}
use Rattle.rdm_profile.specs.declared.profile.SelfTest.{SelfTest}
use Rattle.rdm_profile.specs.declared.profile.SensorDef.{SensorDef}
use Rattle.rdm_profile.specs.declared.profile.Slot.{Slot}
use Rattle.rdm_profile.specs.declared.profile.StatusText.{StatusText}
use Rattle.rdm_profile.specs.declared.profile.Unit.{Unit as DeviceUnit}
use Rattle.rdm_profile.specs.declared.profile.workers.Worker.{Worker}
use Rattle.rdm_profile.specs.declared.profile.workers.Workers.{Workers}
use Rattle.rdm_profile.specs.declared.profile.own.ParameterDef.{ParameterDef}
use Rattle.rdm_profile.specs.declared.profile.particulars.Particular.{Particular}
use Rattle.rdm_profile.specs.declared.profile.own.Rights.{Rights}
use Rattle.rdm_profile.specs.declared.profile.own.Shape.{Shape}
use Rattle.rdm_profile.specs.contracts.profile.PersonalityPartialEq.TheImpl as personalities
use Rattle.rdm_profile.specs.contracts.profile.ProfilePartialEq.TheImpl as profiles
use Rattle.rdm_profile.specs.contracts.profile.SelfTestPartialEq.TheImpl as self_tests
use Rattle.rdm_profile.specs.contracts.profile.SensorDefPartialEq.TheImpl as sensor_defs
use Rattle.rdm_profile.specs.contracts.profile.SlotPartialEq.TheImpl as slots
use Rattle.rdm_profile.specs.contracts.profile.StatusTextPartialEq.TheImpl as status_texts
use Rattle.rdm_profile.specs.contracts.profile.UnitPartialEq.TheImpl as units
use Rattle.rdm_profile.specs.contracts.profile.estimates.EstimatesPartialEq.TheImpl as estimates
use Rattle.rdm_profile.specs.contracts.profile.choices.ChoiceNamePartialEq.TheImpl as choice_names
use Rattle.rdm_profile.specs.contracts.profile.fields.FieldPartialEq.TheImpl as fields
use Rattle.rdm_profile.specs.contracts.profile.locks.LockPartialEq.TheImpl as locks
use Rattle.rdm_profile.specs.contracts.profile.fields.WidthPartialEq.TheImpl as widths
use Rattle.rdm_profile.specs.contracts.profile.modes.ModePartialEq.TheImpl as modes
use Rattle.rdm_profile.specs.contracts.profile.mute_reply.MuteReplyPartialEq.TheImpl as mute_replies
use Rattle.rdm_frame.specs.contracts.uid.UidPartialEq.TheImpl as uids
use Rattle.rdm_profile.specs.contracts.profile.workers.WorkerPartialEq.TheImpl as worker
use Rattle.rdm_profile.specs.contracts.profile.workers.WorkersPartialEq.TheImpl as workers
use Rattle.rdm_profile.specs.contracts.profile.own.ParameterDefPartialEq.TheImpl as parameter_defs
use Rattle.rdm_profile.specs.contracts.profile.particulars.ParticularPartialEq.TheImpl as particulars
use Rattle.rdm_profile.specs.contracts.profile.own.RightsPartialEq.TheImpl as rights
use Rattle.rdm_profile.specs.contracts.profile.own.ShapePartialEq.TheImpl as shapes
use lib.Pointwise.{pointwise}

-- `==` is true exactly where the values are equal
abbrev pub IsByValue : {A : Type 0} → (A → A → Bool) → Type 0
IsByValue {A = A} eq = (a b : A) → Decides (eq a b) (a ≡ b)

pub text_decides : IsByValue (pointwise nat_eq)
text_decides x y = slice_eq-Decides Decides-eqb x y _ refl

abbrev listed : {A : Type 0} (n : ℕ) → List A → ArrayVec A n (Unit {0})
listed n xs = record { items = xs }

list_decides : {A : Type 0} (n : ℕ) {E : A → A → Bool} → IsByValue E → (v w : ArrayVec A n (Unit {0})) → Decides (pointwise E v.items w.items) (v ≡ w)
list_decides {A = A} n D v w =
    Decides-like _ (ap (listed n)) (ap (λ (u : ArrayVec A n (Unit {0})). u.items)) (slice_eq-Decides D v.items w.items _ refl)

pub number : {b : Bool} {P : Type 0} (x y : ℕ) → Decides b P → Decides (nat_eq x y && b) ((x ≡ y) × P)
number x y rest = Decides-and _ _ (Decides-eqb x y) rest

pub integer : {b : Bool} {P : Type 0} (x y : ℤ) → Decides b P → Decides (int_eq x y && b) ((x ≡ y) × P)
integer x y rest = Decides-and _ _ (Decides-int_eq x y) rest

pub text : {b : Bool} {P : Type 0} (x y : List ℕ) → Decides b P → Decides (pointwise nat_eq x y && b) ((x ≡ y) × P)
text x y rest = Decides-and _ _ (text_decides x y) rest

bools : IsByValue beq
bools true true = (λ e. refl, λ e. refl)
bools true false = (λ e. absurd cc, λ e. absurd cc)
bools false true = (λ e. absurd cc, λ e. absurd cc)
bools false false = (λ e. refl, λ e. refl)

-- ---- sensors

abbrev sensor_of : ℕ → ℕ → ℕ → ℤ → ℤ → ℤ → ℤ → ℕ → Bool → List ℕ → SensorDef
sensor_of a0 a1 a2 a3 a4 a5 a6 a7 a8 a9 =
    record { kind = a0; unit = a1; prefix = a2; low = a3; high = a4; normal_low = a5; normal_high = a6; support = a7; at_once = a8; name = a9 }

same_sensor : {a0 b0 a1 b1 a2 b2 : ℕ} {a3 b3 a4 b4 a5 b5 a6 b6 : ℤ} {a7 b7 : ℕ} {a8 b8 : Bool} {a9 b9 : List ℕ}
    → (a0 ≡ b0) × ((a1 ≡ b1) × ((a2 ≡ b2) × ((a3 ≡ b3) × ((a4 ≡ b4) × ((a5 ≡ b5) × ((a6 ≡ b6) × ((a7 ≡ b7) × ((a8 ≡ b8) × (a9 ≡ b9)))))))))
    → sensor_of a0 a1 a2 a3 a4 a5 a6 a7 a8 a9 ≡ sensor_of b0 b1 b2 b3 b4 b5 b6 b7 b8 b9
same_sensor e = rw (e.0, e.1.0, e.1.1.0, e.1.1.1.0, e.1.1.1.1.0, e.1.1.1.1.1.0, e.1.1.1.1.1.1.0, e.1.1.1.1.1.1.1.0, e.1.1.1.1.1.1.1.1.0, e.1.1.1.1.1.1.1.1.1) refl

pub sensor_decides : IsByValue sensor_defs.ghosts.eq
sensor_decides a b =
    Decides-like _ same_sensor
    (λ e. (ap (λ (s : SensorDef). s.kind) e, (ap (λ (s : SensorDef). s.unit) e, (ap (λ (s : SensorDef). s.prefix) e, (ap (λ (s : SensorDef). s.low) e, (ap (λ (s : SensorDef). s.high) e, (ap (λ (s : SensorDef). s.normal_low) e, (ap (λ (s : SensorDef). s.normal_high) e, (ap (λ (s : SensorDef). s.support) e, (ap (λ (s : SensorDef). s.at_once) e, ap (λ (s : SensorDef). s.name) e))))))))))
    (number a.kind b.kind (number a.unit b.unit (number a.prefix b.prefix (integer a.low b.low (integer a.high b.high (integer a.normal_low b.normal_low (integer a.normal_high b.normal_high (number a.support b.support (Decides-and _ _ (bools a.at_once b.at_once) (text_decides a.name b.name))))))))))

-- ---- units

abbrev unit_of : ℕ → ℕ → ℕ → List ℕ → List ℕ → List ℕ → List ℕ → ArrayVec Personality 8 (Unit {0}) → ℕ → DeviceUnit
unit_of a0 a1 a2 a3 a4 a5 a6 a7 a8 =
    record { model = a0; category = a1; software = a2; model_text = a3; maker_text = a4; label = a5; software_text = a6; personalities = a7; start = a8 }

same_unit : {a0 b0 a1 b1 a2 b2 : ℕ} {a3 b3 a4 b4 a5 b5 a6 b6 : List ℕ} {a7 b7 : ArrayVec Personality 8 (Unit {0})} {a8 b8 : ℕ}
    → (a0 ≡ b0) × ((a1 ≡ b1) × ((a2 ≡ b2) × ((a3 ≡ b3) × ((a4 ≡ b4) × ((a5 ≡ b5) × ((a6 ≡ b6) × ((a7 ≡ b7) × (a8 ≡ b8))))))))
    → unit_of a0 a1 a2 a3 a4 a5 a6 a7 a8 ≡ unit_of b0 b1 b2 b3 b4 b5 b6 b7 b8
same_unit e = rw (e.0, e.1.0, e.1.1.0, e.1.1.1.0, e.1.1.1.1.0, e.1.1.1.1.1.0, e.1.1.1.1.1.1.0, e.1.1.1.1.1.1.1.0, e.1.1.1.1.1.1.1.1) refl

pub unit_decides : IsByValue personalities.ghosts.eq → IsByValue units.ghosts.eq
unit_decides personality a b =
    Decides-like _ same_unit
    (λ e. (ap (λ (u : DeviceUnit). u.model) e, (ap (λ (u : DeviceUnit). u.category) e, (ap (λ (u : DeviceUnit). u.software) e, (ap (λ (u : DeviceUnit). u.model_text) e, (ap (λ (u : DeviceUnit). u.maker_text) e, (ap (λ (u : DeviceUnit). u.label) e, (ap (λ (u : DeviceUnit). u.software_text) e, (ap (λ (u : DeviceUnit). u.personalities) e, ap (λ (u : DeviceUnit). u.start) e)))))))))
    (number a.model b.model (number a.category b.category (number a.software b.software (text a.model_text b.model_text (text a.maker_text b.maker_text (text a.label b.label (text a.software_text b.software_text (Decides-and _ _ (list_decides 8 personality a.personalities b.personalities) (Decides-eqb a.start b.start)))))))))

-- ---- fields

abbrev field_of : Width → ℕ → ℕ → ℕ → Field
field_of a0 a1 a2 a3 = record { width = a0; low = a1; high = a2; also = a3 }

same_field : {a0 b0 : Width} {a1 b1 a2 b2 a3 b3 : ℕ} → (a0 ≡ b0) × ((a1 ≡ b1) × ((a2 ≡ b2) × (a3 ≡ b3))) → field_of a0 a1 a2 a3 ≡ field_of b0 b1 b2 b3
same_field e = rw (e.0, e.1.0, e.1.1.0, e.1.1.1) refl

pub field_decides : IsByValue widths.ghosts.eq → IsByValue fields.ghosts.eq
field_decides each a b =
    Decides-like _ same_field
    (λ e. (ap (λ (x : Field). x.width) e, (ap (λ (x : Field). x.low) e, (ap (λ (x : Field). x.high) e, ap (λ (x : Field). x.also) e))))
    (Decides-and _ _ (each a.width b.width) (number a.low b.low (number a.high b.high (Decides-eqb a.also b.also))))

-- ---- the names of choices

abbrev choice_of : ℕ → ℕ → ℕ → List ℕ → ChoiceName
choice_of a0 a1 a2 a3 =
    record { pid = a0; number = a1; hertz = a2; name = a3 }

same_choice : {a0 b0 : ℕ} {a1 b1 : ℕ} {a2 b2 : ℕ} {a3 b3 : List ℕ}
    → (a0 ≡ b0) × ((a1 ≡ b1) × ((a2 ≡ b2) × (a3 ≡ b3)))
    → choice_of a0 a1 a2 a3 ≡ choice_of b0 b1 b2 b3
same_choice e = rw (e.0, e.1.0, e.1.1.0, e.1.1.1) refl

pub choice_decides : IsByValue choice_names.ghosts.eq
choice_decides a b =
    Decides-like _ same_choice
    (λ e. (ap (λ (x : ChoiceName). x.pid) e, (ap (λ (x : ChoiceName). x.number) e, (ap (λ (x : ChoiceName). x.hertz) e, ap (λ (x : ChoiceName). x.name) e))))
    (number a.pid b.pid (number a.number b.number (number a.hertz b.hertz (text_decides a.name b.name))))

-- ---- locks

abbrev lock_of : ℕ → ℕ → Lock
lock_of a0 a1 = record { state = a0; pid = a1 }

same_lock : {a0 b0 : ℕ} {a1 b1 : ℕ} → (a0 ≡ b0) × (a1 ≡ b1) → lock_of a0 a1 ≡ lock_of b0 b1
same_lock e = rw (e.0, e.1) refl

pub lock_decides : IsByValue locks.ghosts.eq
lock_decides a b =
    Decides-like _ same_lock (λ e. (ap (λ (x : Lock). x.state) e, ap (λ (x : Lock). x.pid) e)) (number a.state b.state (Decides-eqb a.pid b.pid))

-- ---- parameters of the maker's own

abbrev parameter_of : ℕ → Rights → Shape → ℤ → ℤ → ArrayVec Field 8 (Unit {0}) → List ℕ → ℕ → ℕ → List ℕ → Bool → ParameterDef
parameter_of a0 a1 a2 a3 a4 a5 a6 a7 a8 a9 a10 =
    record { pid = a0; rights = a1; shape = a2; low = a3; high = a4; fields = a5; start = a6; unit = a7; prefix = a8; name = a9; resets = a10 }

same_parameter : {a0 b0 : ℕ} {a1 b1 : Rights} {a2 b2 : Shape} {a3 b3 : ℤ} {a4 b4 : ℤ} {a5 b5 : ArrayVec Field 8 (Unit {0})} {a6 b6 : List ℕ} {a7 b7 : ℕ} {a8 b8 : ℕ} {a9 b9 : List ℕ} {a10 b10 : Bool}
    → (a0 ≡ b0) × ((a1 ≡ b1) × ((a2 ≡ b2) × ((a3 ≡ b3) × ((a4 ≡ b4) × ((a5 ≡ b5) × ((a6 ≡ b6) × ((a7 ≡ b7) × ((a8 ≡ b8) × ((a9 ≡ b9) × (a10 ≡ b10))))))))))
    → parameter_of a0 a1 a2 a3 a4 a5 a6 a7 a8 a9 a10 ≡ parameter_of b0 b1 b2 b3 b4 b5 b6 b7 b8 b9 b10
same_parameter e = rw (e.0, e.1.0, e.1.1.0, e.1.1.1.0, e.1.1.1.1.0, e.1.1.1.1.1.0, e.1.1.1.1.1.1.0, e.1.1.1.1.1.1.1.0, e.1.1.1.1.1.1.1.1.0, e.1.1.1.1.1.1.1.1.1.0, e.1.1.1.1.1.1.1.1.1.1) refl

pub parameter_decides : IsByValue rights.ghosts.eq → IsByValue shapes.ghosts.eq → IsByValue fields.ghosts.eq → IsByValue parameter_defs.ghosts.eq
parameter_decides rights shape field a b =
    Decides-like _ same_parameter
    (λ e. (ap (λ (d : ParameterDef). d.pid) e, (ap (λ (d : ParameterDef). d.rights) e, (ap (λ (d : ParameterDef). d.shape) e, (ap (λ (d : ParameterDef). d.low) e, (ap (λ (d : ParameterDef). d.high) e, (ap (λ (d : ParameterDef). d.fields) e, (ap (λ (d : ParameterDef). d.start) e, (ap (λ (d : ParameterDef). d.unit) e, (ap (λ (d : ParameterDef). d.prefix) e, (ap (λ (d : ParameterDef). d.name) e, ap (λ (d : ParameterDef). d.resets) e)))))))))))
    (number a.pid b.pid (Decides-and _ _ (rights a.rights b.rights) (Decides-and _ _ (shape a.shape b.shape) (integer a.low b.low (integer a.high b.high (Decides-and _ _ (list_decides 8 field a.fields b.fields) (text a.start b.start (number a.unit b.unit (number a.prefix b.prefix (text a.name b.name (bools a.resets b.resets)))))))))))

-- ---- estimates

abbrev estimates_of : ℕ → ℕ → ℕ → ℕ → Estimates
estimates_of a0 a1 a2 a3 = record { lamp = a0; power = a1; self_test = a2; sensor = a3 }

same_estimates : {a0 b0 a1 b1 a2 b2 a3 b3 : ℕ} → (a0 ≡ b0) × ((a1 ≡ b1) × ((a2 ≡ b2) × (a3 ≡ b3))) → estimates_of a0 a1 a2 a3 ≡ estimates_of b0 b1 b2 b3
same_estimates e = rw (e.0, e.1.0, e.1.1.0, e.1.1.1) refl

pub estimates_decide : IsByValue estimates.ghosts.eq
estimates_decide a b =
    Decides-like _ same_estimates
    (λ e. (ap (λ (x : Estimates). x.lamp) e, (ap (λ (x : Estimates). x.power) e, (ap (λ (x : Estimates). x.self_test) e, ap (λ (x : Estimates). x.sensor) e))))
    (number a.lamp b.lamp (number a.power b.power (number a.self_test b.self_test (Decides-eqb a.sensor b.sensor))))

-- ---- what is told when a device is muted

maybe_decides : {A : Type 0} {E : A → A → Bool} → IsByValue E → IsByValue (option_eq E)
maybe_decides D None None = (λ e. refl, λ e. refl)
maybe_decides D None (Some y) = (λ e. absurd cc, λ e. absurd cc)
maybe_decides D (Some x) None = (λ e. absurd cc, λ e. absurd cc)
maybe_decides D (Some x) (Some y) = (λ t. ap Some ((D x y).0 t), λ e. (D x y).1 (cc))

abbrev mute_reply_of : Bool → Bool → Option Uid → MuteReply
mute_reply_of a0 a1 a2 = record { proxied_device = a0; boot_loader = a1; binding = a2 }

same_mute_reply : {a0 b0 a1 b1 : Bool} {a2 b2 : Option Uid} → (a0 ≡ b0) × ((a1 ≡ b1) × (a2 ≡ b2)) → mute_reply_of a0 a1 a2 ≡ mute_reply_of b0 b1 b2
same_mute_reply e = rw (e.0, e.1.0, e.1.1) refl

pub mute_reply_decides : IsByValue uids.ghosts.eq → IsByValue mute_replies.ghosts.eq
mute_reply_decides uid a b =
    Decides-like _ same_mute_reply
    (λ e. (ap (λ (x : MuteReply). x.proxied_device) e, (ap (λ (x : MuteReply). x.boot_loader) e, ap (λ (x : MuteReply). x.binding) e)))
    (Decides-and _ _ (bools a.proxied_device b.proxied_device) (Decides-and _ _ (bools a.boot_loader b.boot_loader) (maybe_decides uid a.binding b.binding)))

-- ---- modes

abbrev mode_of : Personality → ℕ → List Slot → Mode
mode_of a0 a1 a2 = record { personality = a0; slots_of = a1; slots = a2 }

same_mode : {a0 b0 : Personality} {a1 b1 : ℕ} {a2 b2 : List Slot} → (a0 ≡ b0) × ((a1 ≡ b1) × (a2 ≡ b2)) → mode_of a0 a1 a2 ≡ mode_of b0 b1 b2
same_mode e = rw (e.0, e.1.0, e.1.1) refl

pub mode_decides : IsByValue personalities.ghosts.eq → IsByValue slots.ghosts.eq → IsByValue modes.ghosts.eq
mode_decides personality slot a b =
    Decides-like _ same_mode
    (λ e. (ap (λ (x : Mode). x.personality) e, (ap (λ (x : Mode). x.slots_of) e, ap (λ (x : Mode). x.slots) e)))
    (Decides-and _ _ (personality a.personality b.personality) (number a.slots_of b.slots_of (slice_eq-Decides slot a.slots b.slots _ refl)))

-- ---- workers

abbrev workers_of : Worker → Worker → Worker → Worker → Workers
workers_of a0 a1 a2 a3 = record { lamp = a0; power = a1; self_test = a2; sensor = a3 }

same_workers : {a0 b0 a1 b1 a2 b2 a3 b3 : Worker} → (a0 ≡ b0) × ((a1 ≡ b1) × ((a2 ≡ b2) × (a3 ≡ b3))) → workers_of a0 a1 a2 a3 ≡ workers_of b0 b1 b2 b3
same_workers e = rw (e.0, e.1.0, e.1.1.0, e.1.1.1) refl

pub workers_decide : IsByValue worker.ghosts.eq → IsByValue workers.ghosts.eq
workers_decide each a b =
    Decides-like _ same_workers
    (λ e. (ap (λ (x : Workers). x.lamp) e, (ap (λ (x : Workers). x.power) e, (ap (λ (x : Workers). x.self_test) e, ap (λ (x : Workers). x.sensor) e))))
    (Decides-and _ _ (each a.lamp b.lamp) (Decides-and _ _ (each a.power b.power) (Decides-and _ _ (each a.self_test b.self_test) (each a.sensor b.sensor))))

-- ---- particulars

abbrev particular_of : List ParameterDef → List ChoiceName → List Lock → ArrayVec ℕ 36 (Unit {0}) → ℕ → Estimates → MuteReply → Bool → List Mode → Particular
particular_of a0 a1 a2 a3 a4 a5 a6 a7 a8 =
    record { own = a0; choices = a1; locks = a2; without = a3; more_slots = a4; estimates = a5; mute_reply = a6; newest_only = a7; modes = a8 }

same_particular : {a0 b0 : List ParameterDef} {a1 b1 : List ChoiceName} {a2 b2 : List Lock} {a3 b3 : ArrayVec ℕ 36 (Unit {0})} {a4 b4 : ℕ} {a5 b5 : Estimates} {a6 b6 : MuteReply} {a7 b7 : Bool} {a8 b8 : List Mode}
    → (a0 ≡ b0) × ((a1 ≡ b1) × ((a2 ≡ b2) × ((a3 ≡ b3) × ((a4 ≡ b4) × ((a5 ≡ b5) × ((a6 ≡ b6) × ((a7 ≡ b7) × (a8 ≡ b8))))))))
    → particular_of a0 a1 a2 a3 a4 a5 a6 a7 a8 ≡ particular_of b0 b1 b2 b3 b4 b5 b6 b7 b8
same_particular e = rw (e.0, e.1.0, e.1.1.0, e.1.1.1.0, e.1.1.1.1.0, e.1.1.1.1.1.0, e.1.1.1.1.1.1.0, e.1.1.1.1.1.1.1.0, e.1.1.1.1.1.1.1.1) refl

pub particular_decides : IsByValue parameter_defs.ghosts.eq → IsByValue choice_names.ghosts.eq → IsByValue locks.ghosts.eq → IsByValue estimates.ghosts.eq → IsByValue mute_replies.ghosts.eq → IsByValue modes.ghosts.eq → IsByValue particulars.ghosts.eq
particular_decides parameter choice lock estimate mute_reply mode a b =
    Decides-like _ same_particular
    (λ e. (ap (λ (p : Particular). p.own) e, (ap (λ (p : Particular). p.choices) e, (ap (λ (p : Particular). p.locks) e, (ap (λ (p : Particular). p.without) e, (ap (λ (p : Particular). p.more_slots) e, (ap (λ (p : Particular). p.estimates) e, (ap (λ (p : Particular). p.mute_reply) e, (ap (λ (p : Particular). p.newest_only) e, ap (λ (p : Particular). p.modes) e)))))))))
    (Decides-and _ _ (slice_eq-Decides parameter a.own b.own _ refl) (Decides-and _ _ (slice_eq-Decides choice a.choices b.choices _ refl) (Decides-and _ _ (slice_eq-Decides lock a.locks b.locks _ refl) (Decides-and _ _ (list_decides 36 Decides-eqb a.without b.without) (number a.more_slots b.more_slots (Decides-and _ _ (estimate a.estimates b.estimates) (Decides-and _ _ (mute_reply a.mute_reply b.mute_reply) (Decides-and _ _ (bools a.newest_only b.newest_only) (slice_eq-Decides mode a.modes b.modes _ refl)))))))))

-- ---- profiles

abbrev profile_of : DeviceUnit → DeviceUnit → ℕ → ℕ → Workers → ℕ → List ℕ → ArrayVec ℕ 8 (Unit {0}) → ArrayVec Slot 46 (Unit {0}) → ArrayVec SensorDef 8 (Unit {0}) → ArrayVec SelfTest 8 (Unit {0}) → ArrayVec StatusText 8 (Unit {0}) → Particular → Profile
profile_of a0 a1 a2 a3 a4 a5 a6 a7 a8 a9 a10 a11 a12 =
    record { root = a0; sub = a1; subs = a2; presets = a3; workers = a4; boot = a5; boot_text = a6; languages = a7; slots = a8; sensors = a9; tests = a10; status_texts = a11; particulars = a12 }

same_profile : {a0 b0 : DeviceUnit} {a1 b1 : DeviceUnit} {a2 b2 : ℕ} {a3 b3 : ℕ} {a4 b4 : Workers} {a5 b5 : ℕ} {a6 b6 : List ℕ} {a7 b7 : ArrayVec ℕ 8 (Unit {0})} {a8 b8 : ArrayVec Slot 46 (Unit {0})} {a9 b9 : ArrayVec SensorDef 8 (Unit {0})} {a10 b10 : ArrayVec SelfTest 8 (Unit {0})} {a11 b11 : ArrayVec StatusText 8 (Unit {0})} {a12 b12 : Particular}
    → (a0 ≡ b0) × ((a1 ≡ b1) × ((a2 ≡ b2) × ((a3 ≡ b3) × ((a4 ≡ b4) × ((a5 ≡ b5) × ((a6 ≡ b6) × ((a7 ≡ b7) × ((a8 ≡ b8) × ((a9 ≡ b9) × ((a10 ≡ b10) × ((a11 ≡ b11) × (a12 ≡ b12))))))))))))
    → profile_of a0 a1 a2 a3 a4 a5 a6 a7 a8 a9 a10 a11 a12 ≡ profile_of b0 b1 b2 b3 b4 b5 b6 b7 b8 b9 b10 b11 b12
same_profile e = rw (e.0, e.1.0, e.1.1.0, e.1.1.1.0, e.1.1.1.1.0, e.1.1.1.1.1.0, e.1.1.1.1.1.1.0, e.1.1.1.1.1.1.1.0, e.1.1.1.1.1.1.1.1.0, e.1.1.1.1.1.1.1.1.1.0, e.1.1.1.1.1.1.1.1.1.1.0, e.1.1.1.1.1.1.1.1.1.1.1.0, e.1.1.1.1.1.1.1.1.1.1.1.1) refl

pub profile_decides : IsByValue units.ghosts.eq → IsByValue slots.ghosts.eq → IsByValue sensor_defs.ghosts.eq → IsByValue self_tests.ghosts.eq → IsByValue status_texts.ghosts.eq → IsByValue workers.ghosts.eq → IsByValue particulars.ghosts.eq → IsByValue profiles.ghosts.eq
profile_decides unit slot sensor self_test status chosen particular a b =
    Decides-like _ same_profile
    (λ e. (ap (λ (p : Profile). p.root) e, (ap (λ (p : Profile). p.sub) e, (ap (λ (p : Profile). p.subs) e, (ap (λ (p : Profile). p.presets) e, (ap (λ (p : Profile). p.workers) e, (ap (λ (p : Profile). p.boot) e, (ap (λ (p : Profile). p.boot_text) e, (ap (λ (p : Profile). p.languages) e, (ap (λ (p : Profile). p.slots) e, (ap (λ (p : Profile). p.sensors) e, (ap (λ (p : Profile). p.tests) e, (ap (λ (p : Profile). p.status_texts) e, ap (λ (p : Profile). p.particulars) e)))))))))))))
    (Decides-and _ _ (unit a.root b.root) (Decides-and _ _ (unit a.sub b.sub) (number a.subs b.subs (number a.presets b.presets (Decides-and _ _ (chosen a.workers b.workers) (number a.boot b.boot (text a.boot_text b.boot_text (Decides-and _ _ (list_decides 8 Decides-eqb a.languages b.languages) (Decides-and _ _ (list_decides 46 slot a.slots b.slots) (Decides-and _ _ (list_decides 8 sensor a.sensors b.sensors) (Decides-and _ _ (list_decides 8 self_test a.tests b.tests) (Decides-and _ _ (list_decides 8 status a.status_texts b.status_texts) (particular a.particulars b.particulars)))))))))))))
