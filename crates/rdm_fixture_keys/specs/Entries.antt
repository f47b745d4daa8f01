-- Which table is an entry of a list: a personality, a slot, a sensor, a self test, a status ID or the name of a choice.
use Rattle.std.specs.Prelude.{ℕ, ◌==◌, false, if◌then◌else◌, pos, neg_ℤ, IsTrue, List, [], ◌∷◌, Option, codes}
use Rattle.toml.specs.Data.{Members, get_member}
use Rattle.rdm_profile.specs.declared.profile.choices.ChoiceName.{ChoiceName}
use Rattle.rdm_profile.specs.declared.profile.Personality.{Personality}
use Rattle.rdm_profile.specs.declared.profile.SelfTest.{SelfTest}
use Rattle.rdm_profile.specs.declared.profile.SensorDef.{SensorDef}
use Rattle.rdm_profile.specs.declared.profile.Slot.{Slot}
use Rattle.rdm_profile.specs.declared.profile.StatusText.{StatusText}
use Rattle.rdm_fixture_keys.specs.declared.refusal.Wanted.TheVariants as wanted
use Rattle.rdm_fixture_keys.specs.Keys.{Must, May, has_only, may}
use Rattle.rdm_fixture_keys.specs.Values.{number, named, label_id, signed, text, flag}
use Rattle.rdm_fixture_keys.specs.Wrong.{Part, given, only, needed, needed_name, needed_number, free, free_name, free_number, free_signed, free_text}
use Rattle.rdm_standard_names.specs.declared.kind.NameKind.TheVariants.{Sensors, Units, Prefixes, Slots, Labels}

-- ---- what the entries say

abbrev pub personality_keys : List (List ℕ)
personality_keys = codes "dmx_footprint" ∷ codes "description" ∷ []

-- A personality uses no more slots than there are. Section 10.6.2.
pub record IsPersonality (slots : ℕ) (t : Members) (m : Personality) : Type 0 where
  pub keys : IsTrue (has_only personality_keys t)
  pub footprint : Must t (codes "dmx_footprint") (number 0 slots) m.footprint
  pub name : May t (codes "description") [] text m.name

abbrev pub slot_keys : List (List ℕ)
slot_keys = codes "type" ∷ codes "label_id" ∷ codes "default_value" ∷ codes "description" ∷ []

-- Sections 10.6.4 to 10.6.6.
pub record IsSlot (t : Members) (s : Slot) : Type 0 where
  pub keys : IsTrue (has_only slot_keys t)
  pub kind : May t (codes "type") 0 (named Slots) s.kind
  pub label : Must t (codes "label_id") (label_id s.kind) s.label
  pub value : May t (codes "default_value") 0 (number 0 0xFF) s.value
  pub name : May t (codes "description") [] text s.name

abbrev pub sensor_keys : List (List ℕ)
sensor_keys =
    codes "type" ∷ codes "unit" ∷ codes "prefix" ∷ codes "range_minimum_value" ∷ codes "range_maximum_value"
    ∷ codes "normal_minimum_value" ∷ codes "normal_maximum_value" ∷ codes "recorded_value_support"
    ∷ codes "description" ∷ codes "answered_at_once" ∷ codes "present" ∷ codes "over_time" ∷ codes "course" ∷ codes "repeats" ∷ []

-- What it measures, and shows over time, is no part of what it is. Sections 10.7.1 and 10.7.2.
pub record IsSensor (t : Members) (s : SensorDef) : Type 0 where
  pub keys : IsTrue (has_only sensor_keys t)
  pub kind : Must t (codes "type") (named Sensors) s.kind
  pub unit : May t (codes "unit") 0 (named Units) s.unit
  pub prefix : May t (codes "prefix") 0 (named Prefixes) s.prefix
  pub low : May t (codes "range_minimum_value") (neg_ℤ (pos 32768)) signed s.low
  pub high : May t (codes "range_maximum_value") (pos 32767) signed s.high
  pub normal_low : May t (codes "normal_minimum_value") (neg_ℤ (pos 32768)) signed s.normal_low
  pub normal_high : May t (codes "normal_maximum_value") (pos 32767) signed s.normal_high
  pub support : May t (codes "recorded_value_support") 0 (number 0 0xFF) s.support
  pub name : May t (codes "description") [] text s.name
  pub at_once : May t (codes "answered_at_once") false flag s.at_once

abbrev pub self_test_keys : List (List ℕ)
self_test_keys = codes "number" ∷ codes "description" ∷ []

-- Section 10.11. The numbers 0 and 255 stand for no test and for all.
pub record IsSelfTest (t : Members) (s : SelfTest) : Type 0 where
  pub keys : IsTrue (has_only self_test_keys t)
  pub number : Must t (codes "number") (number 1 254) s.number
  pub name : May t (codes "description") [] text s.name

abbrev pub status_keys : List (List ℕ)
status_keys = codes "id" ∷ codes "description" ∷ []

-- Section 10.3.3.
pub record IsStatus (t : Members) (s : StatusText) : Type 0 where
  pub keys : IsTrue (has_only status_keys t)
  pub id : Must t (codes "id") (number 0 0xFFFF) s.id
  pub text : May t (codes "description") [] text s.text

abbrev pub choice_keys : List (List ℕ)
choice_keys = codes "pid" ∷ codes "number" ∷ codes "hertz" ∷ codes "description" ∷ []

-- What a thing is called of which one is chosen, by the parameter that tells it. E1.37-1, CURVE_DESCRIPTION and the like.
pub record IsChoice (t : Members) (c : ChoiceName) : Type 0 where
  pub keys : IsTrue (has_only choice_keys t)
  pub pid : Must t (codes "pid") (number 0 0xFFFF) c.pid
  pub hertz : May t (codes "hertz") 0 (number 0 0xFFFFFFFF) c.hertz
  pub number : Must t (codes "number") (number 1 0xFF) c.number
  pub name : May t (codes "description") [] text c.name

-- ---- what they are looked at for, part by part, in the order in which it is done

abbrev pub personality_parts : ℕ → List Part
personality_parts slots = only personality_keys ∷ needed_number (codes "dmx_footprint") 0 slots ∷ free_text (codes "description") ∷ []

-- the type of a slot, which says what its label ID may be
abbrev pub slot_kind : Members → Option ℕ
slot_kind t = may 0 (named Slots) (get_member (codes "type") t)

abbrev pub label_part : ℕ → Part
label_part kind = needed (codes "label_id") (label_id kind) (if kind == 0 then wanted.Named Labels else wanted.Number (pos 0) (pos 0xFFFF))

abbrev pub slot_parts : List Part
slot_parts =
    only slot_keys ∷ free_name (codes "type") Slots ∷ given slot_kind label_part
    ∷ free_number (codes "default_value") 0 0xFF ∷ free_text (codes "description") ∷ []

abbrev pub sensor_parts : List Part
sensor_parts =
    only sensor_keys ∷ needed_name (codes "type") Sensors ∷ free_name (codes "unit") Units ∷ free_name (codes "prefix") Prefixes
    ∷ free_signed (codes "range_minimum_value") ∷ free_signed (codes "range_maximum_value")
    ∷ free_signed (codes "normal_minimum_value") ∷ free_signed (codes "normal_maximum_value")
    ∷ free_number (codes "recorded_value_support") 0 0xFF ∷ free_text (codes "description")
    ∷ free (codes "answered_at_once") flag wanted.Boolean ∷ []

abbrev pub self_test_parts : List Part
self_test_parts = only self_test_keys ∷ needed_number (codes "number") 1 254 ∷ free_text (codes "description") ∷ []

abbrev pub status_parts : List Part
status_parts = only status_keys ∷ needed_number (codes "id") 0 0xFFFF ∷ free_text (codes "description") ∷ []

abbrev pub choice_parts : List Part
choice_parts =
    only choice_keys ∷ needed_number (codes "pid") 0 0xFFFF ∷ needed_number (codes "number") 1 0xFF
    ∷ free_number (codes "hertz") 0 0xFFFFFFFF ∷ free_text (codes "description") ∷ []
