-- What it means that two surveys agree, and what holds of each survey that is kept.
use Rattle.std.specs.Prelude.{◌≡◌, ℕ, ◌^◌, ◌<◌, ◌≤◌, Bool, true, List, length, Option, Some, IfSome, IsSome}
use Rattle.std.specs.List.{AllByRecursion}
use Rattle.rdm_frame.specs.FrameText.{IsUid}
use Rattle.rdm_survey.specs.declared.row.SubDevice.{SubDevice}
use Rattle.rdm_compare.specs.declared.field.Field.{Field}
use Rattle.rdm_compare.specs.declared.field.Told.{Told}
use Rattle.rdm_compare.specs.declared.kept.Kept.{Kept}
use Rattle.rdm_compare.specs.Differences.{fixture_of, sub_of}
use Rattle.rdm_compare.specs.Fields.{told_in}
use Rattle.rdm_compare.specs.Reading.{subs_are_once}
use Rattle.rdm_compare.specs.Remedies.{address_now, is_address, is_personality}

-- Each sub-device is the one with its number: none stands twice.
abbrev pub SubsAreOnce : List SubDevice → Type 0
SubsAreOnce subs = AllByRecursion (λ s. sub_of s.number subs ≡ Some s) subs

-- Each fixture is the one with its UID: none stands twice; nor do their sub-devices.
abbrev pub AreOnce : List Kept → Type 0
AreOnce list = AllByRecursion (λ k. (fixture_of k.uid list ≡ Some k) × SubsAreOnce k.sub_devices) list

-- What both tell is the same.
abbrev pub Agree : {A : Type 0} → Option A → Option A → Type 0
Agree {A} was is = (a b : A) → was ≡ Some a → is ≡ Some b → a ≡ b

pub record SubsAgree (was is : List SubDevice) : Type 0 where
  pub there : AllByRecursion (λ s. IsSome (sub_of s.number is)) was
  pub known : AllByRecursion (λ s. IsSome (sub_of s.number was)) is
  pub address : AllByRecursion (λ s. (t : SubDevice) → sub_of s.number is ≡ Some t → Agree s.address t.address) was
  pub footprint : AllByRecursion (λ s. (t : SubDevice) → sub_of s.number is ≡ Some t → s.footprint ≡ t.footprint) was

-- The two have the same fixtures, each with the same sub-devices, and what both tell of one is the same.
pub record SurveysAgree (was is : List Kept) : Type 0 where
  pub there : AllByRecursion (λ k. IsSome (fixture_of k.uid is)) was
  pub known : AllByRecursion (λ k. IsSome (fixture_of k.uid was)) is
  pub told : AllByRecursion (λ k. (l : Kept) → fixture_of k.uid is ≡ Some l → (f : Field) → Agree (told_in f k) (told_in f l)) was
  pub subs : AllByRecursion (λ k. (l : Kept) → fixture_of k.uid is ≡ Some l → SubsAgree k.sub_devices l.sub_devices) was

-- what holds of each value that is kept: a text has at most 32 bytes, and each number fits its slots
abbrev pub IsText : List ℕ → Type 0
IsText text = AllByRecursion (λ byte. byte < 256) text × (length text ≤ 32)

pub record IsSub (s : SubDevice) : Type 0 where
  pub number : s.number < 65536
  pub address : IfSome s.address (λ n. n < 65536)
  pub footprint : s.footprint < 65536

-- A fixture is kept so, and no sub-device stands twice.
pub record IsKept (k : Kept) : Type 0 where
  pub uid : IsUid k.uid
  pub manufacturer : IfSome k.manufacturer IsText
  pub model : IfSome k.model IsText
  pub model_id : IfSome k.model_id (λ n. n < 65536)
  pub label : IfSome k.label IsText
  pub software : IfSome k.software IsText
  pub software_id : IfSome k.software_id (λ n. n < 2 ^ 32)
  pub personality : IfSome k.personality (λ n. n < 256)
  pub personality_name : IfSome k.personality_name IsText
  pub personalities : IfSome k.personalities (λ n. n < 256)
  pub address : IfSome k.address (λ n. n < 65536)
  pub footprint : IfSome k.footprint (λ n. n < 65536)
  pub hours : IfSome k.hours (λ n. n < 2 ^ 32)
  pub sub_devices : AllByRecursion IsSub k.sub_devices
  pub once : subs_are_once k.sub_devices ≡ true

-- What both tell is the same, if the first can be set.
abbrev pub SettableAgree : (ℕ → Bool) → Option ℕ → Option ℕ → Type 0
SettableAgree can was is = (n m : ℕ) → was ≡ Some n → is ≡ Some m → can n ≡ true → n ≡ m

-- Nothing that can be set differs.
pub record NothingToSet (was is : Kept) : Type 0 where
  pub personality : SettableAgree is_personality was.personality is.personality
  pub address : SettableAgree is_address was.address is.address
  pub sub_devices : AllByRecursion (λ s. SettableAgree is_address s.address (address_now s.number is.sub_devices)) was.sub_devices
  pub label : Agree was.label is.label
