-- What is written of the root and of the sub-devices.
use Rattle.std.proofs.Common.{◌≡◌, ℕ, ◌≤◌, pos, true, false, Bool, List, [], ◌∷◌, ◌++◌, ◌||◌, length, Option, Some, IsTrue, All, refl, ap, ◌∙◌, arith, codes}
use Rattle.std.specs.List.{list_any}
use Rattle.std.specs.Str.{bytes_eq}
use Rattle.rdm_profile.specs.declared.profile.Unit.{Unit as DeviceUnit}
use Rattle.rdm_profile.specs.Profiles.{IsGoodUnit}
use Rattle.toml.specs.Data.{Data, integer, table, Members, no_members, member, get_member}
use Rattle.rdm_fixture.specs.Describable.{are_printable, HasPrintableUnit}
use Rattle.rdm_fixture_keys.specs.Entries.{IsPersonality}
use Rattle.rdm_fixture.specs.Format.{IsUnit, IsSub, unit_keys, root_keys}
use Rattle.rdm_fixture_keys.specs.Keys.{may, must, has_only}
use Rattle.rdm_fixture.specs.Lists.{ListAt, OfTable}
use Rattle.rdm_fixture.specs.declared.starting.Starting.{Starting}
use Rattle.rdm_fixture.specs.Starting.{IsCounted, counter_keys}
use Rattle.rdm_fixture_keys.specs.Values.{named, number, text}
use Rattle.rdm_standard_names.specs.declared.kind.NameKind.TheVariants.{Categories}
use Rattle.rdm_fixture.specs.Writing.{text_field, named_field, IsPlain}
use Rattle.rdm_fixture.proofs.WrittenNames.{named_plain}
use Rattle.rdm_fixture.proofs.Fields.{Field, members_on, members_from, find_on, get_on, get_from, only_on, only_from, plain_on, plain_from, and_two, first_true, second_true}
use Rattle.rdm_fixture.proofs.Said.{number_says, must_say, may_say, may_text, or_none, number_plain, text_plain, option_plain}
use Rattle.rdm_fixture.proofs.WrittenEntries.{says_named, says_word, says_long, says_text}

-- all but the personalities
abbrev pub unit_fields_but : DeviceUnit → List Field
unit_fields_but u =
    (codes "dmx_start_address", Some (integer (pos u.start)))
    ∷ (codes "software_version_label", text_field u.software_text) ∷ (codes "software_version_id", Some (integer (pos u.software)))
    ∷ (codes "product_category", Some (named_field Categories u.category)) ∷ (codes "device_label", text_field u.label)
    ∷ (codes "manufacturer_label", text_field u.maker_text) ∷ (codes "device_model_description", text_field u.model_text)
    ∷ (codes "device_model_id", Some (integer (pos u.model))) ∷ []

abbrev pub unit_fields : DeviceUnit → Option Data → List Field
unit_fields u list = (codes "personality", list) ∷ unit_fields_but u

pub unit_says : (slots : ℕ) (u : DeviceUnit) (list : Option Data) → IsGoodUnit u slots → length u.personalities.items ≤ 8
    → says_word u.model → says_named Categories u.category → says_long u.software
    → says_text u.model_text → says_text u.maker_text → says_text u.label → says_text u.software_text
    → ListAt (OfTable (IsPersonality slots)) list u.personalities.items → IsUnit slots (members_from (unit_fields u list)) u
unit_says slots u list good fit model category software model_text maker_text label software_text items = let fs = unit_fields u list in record {
  model = must_say (codes "device_model_id") fs (number 0 0xFFFF) _ _ refl model;
  model_text = may_text (codes "device_model_description") fs u.model_text refl model_text;
  maker_text = may_text (codes "manufacturer_label") fs u.maker_text refl maker_text;
  label = may_text (codes "device_label") fs u.label refl label;
  category = may_say (codes "product_category") fs 0 (named Categories) _ _ refl category;
  software = may_say (codes "software_version_id") fs 0 (number 0 0xFFFFFFFF) _ _ refl software;
  software_text = may_text (codes "software_version_label") fs u.software_text refl software_text;
  start = may_say (codes "dmx_start_address") fs 1 (number 1 512) _ _ refl (number_says 1 512 u.start good.start_least good.start_greatest);
  personalities = record {
    items = rw (get_from (codes "personality") fs, or_none list) items;
    enough = let some = good.personality in omega (arith, some);
    fit = fit;
  };
}

pub unit_only : (u : DeviceUnit) (list : Option Data) → IsTrue (has_only unit_keys (members_from (unit_fields u list)))
unit_only u list = only_from unit_keys (unit_fields u list) refl

-- each personality can be written
pub can_write : (slots : ℕ) (u : DeviceUnit) → IsGoodUnit u slots → HasPrintableUnit u
    → All (λ m. (m.footprint ≤ slots) × IsTrue (are_printable m.name)) u.personalities.items
can_write slots u good texts = λ k d less. (good.footprints k d less, texts.personalities k d less)

-- how deep it is
pub unit_plain : (u : DeviceUnit) (list : Option Data) → ((d : Data) → list ≡ Some d → IsPlain 2 d) → IsPlain 3 (table (members_from (unit_fields u list)))
unit_plain u list is =
    plain_from 2 (unit_fields u list)
    (option_plain 2 (codes "personality") list (unit_fields_but u) is (
      number_plain 2 _,
      text_plain 2 (codes "software_version_label") u.software_text _ (
        number_plain 2 _,
        (
          named_plain 2 Categories u.category,
          text_plain 2 (codes "device_label") u.label _
              (text_plain 2 (codes "manufacturer_label") u.maker_text _ (text_plain 2 (codes "device_model_description") u.model_text _ (number_plain 2 _, tt))),
        ),
      ),
    ))

-- ---- what is put beside a unit

module _ (base : Members) (fs : List Field) where
  pub kept : {A : Type 0} (key : List ℕ) (reads : Option Data → Option A) (x : A) → find_on base key fs ≡ get_member key base
      → reads (get_member key base) ≡ Some x → reads (get_member key (members_on base fs)) ≡ Some x
  kept key reads x same is = ap reads (get_on base key fs ∙ same) ∙ is

  -- keys beside those of a unit leave what it says
  pub unit_kept : (slots : ℕ) (u : DeviceUnit)
      → find_on base (codes "device_model_id") fs ≡ get_member (codes "device_model_id") base
      → find_on base (codes "device_model_description") fs ≡ get_member (codes "device_model_description") base
      → find_on base (codes "manufacturer_label") fs ≡ get_member (codes "manufacturer_label") base
      → find_on base (codes "device_label") fs ≡ get_member (codes "device_label") base
      → find_on base (codes "product_category") fs ≡ get_member (codes "product_category") base
      → find_on base (codes "software_version_id") fs ≡ get_member (codes "software_version_id") base
      → find_on base (codes "software_version_label") fs ≡ get_member (codes "software_version_label") base
      → find_on base (codes "dmx_start_address") fs ≡ get_member (codes "dmx_start_address") base
      → find_on base (codes "personality") fs ≡ get_member (codes "personality") base
      → IsUnit slots base u → IsUnit slots (members_on base fs) u
  unit_kept slots u a b c d e f g h i is = record {
    model = kept (codes "device_model_id") (must (number 0 0xFFFF)) u.model a is.model;
    model_text = kept (codes "device_model_description") (may [] text) u.model_text b is.model_text;
    maker_text = kept (codes "manufacturer_label") (may [] text) u.maker_text c is.maker_text;
    label = kept (codes "device_label") (may [] text) u.label d is.label;
    category = kept (codes "product_category") (may 0 (named Categories)) u.category e is.category;
    software = kept (codes "software_version_id") (may 0 (number 0 0xFFFFFFFF)) u.software f is.software;
    software_text = kept (codes "software_version_label") (may [] text) u.software_text g is.software_text;
    start = kept (codes "dmx_start_address") (may 1 (number 1 512)) u.start h is.start;
    personalities = record {
      items = rw (get_on base (codes "personality") fs, i) is.personalities.items;
      enough = is.personalities.enough;
      fit = is.personalities.fit;
    };
  }

-- more keys than these
or_second : (a b : Bool) → b ≡ true → (a || b) ≡ true
or_second true b h = refl
or_second false b h = h

any_more : (k : List ℕ) (more keys : List (List ℕ)) → list_any (bytes_eq k) keys ≡ true → list_any (bytes_eq k) (more ++ keys) ≡ true
any_more k [] keys h = h
any_more k (m ∷ more) keys h = or_second (bytes_eq k m) (list_any (bytes_eq k) (more ++ keys)) (any_more k more keys h)

pub wider : (more keys : List (List ℕ)) (ms : Members) → IsTrue (has_only keys ms) → IsTrue (has_only (more ++ keys) ms)
wider more keys no_members h = refl
wider more keys (member k d ms) h = and_two _ _ (any_more k more keys (first_true _ _ h)) (wider more keys ms (second_true _ _ h))

-- ---- the sub-devices

abbrev pub sub_fields : ℕ → List Field
sub_fields count = (codes "count", Some (integer (pos count))) ∷ []

pub sub_says : (base : Members) (count : ℕ) (u : DeviceUnit) → count ≤ 512 → IsTrue (has_only unit_keys base) → IsUnit 512 base u
    → IsSub (members_on base (sub_fields count)) count u
sub_says base count u few only is = let fs = sub_fields count in record {
  keys = only_on (codes "count" ∷ unit_keys) base fs (wider (codes "count" ∷ []) unit_keys base only) refl;
  count = ap (must (number 0 512)) (get_on base (codes "count") fs) ∙ number_says 0 512 count (omega arith) few;
  unit = unit_kept base fs 512 u refl refl refl refl refl refl refl refl refl is;
}

pub sub_plain : (base : Members) (count : ℕ) → IsPlain 3 (table base) → IsPlain 3 (table (members_on base (sub_fields count)))
sub_plain base count is = plain_on 2 base (sub_fields count) is (number_plain 2 _, tt)

-- ---- what the counters show

abbrev pub counter_fields : Starting → List Field
counter_fields s =
    (codes "device_power_cycles", Some (integer (pos s.device_power_cycles))) ∷ (codes "lamp_strikes", Some (integer (pos s.lamp_strikes)))
    ∷ (codes "lamp_hours", Some (integer (pos s.lamp_hours))) ∷ (codes "device_hours", Some (integer (pos s.device_hours))) ∷ []

pub root_says : (base : Members) (s : Starting) (slots : ℕ) (u : DeviceUnit) → IsUnit slots base u → IsUnit slots (members_on base (counter_fields s)) u
root_says base s slots u is = unit_kept base (counter_fields s) slots u refl refl refl refl refl refl refl refl refl is

pub root_counted : (base : Members) (s : Starting) → says_long s.device_hours → says_long s.lamp_hours → says_long s.lamp_strikes → says_long s.device_power_cycles
    → IsCounted (members_on base (counter_fields s)) s
root_counted base s device lamp strikes cycles = let fs = counter_fields s in record {
  device_hours = ap (may 0 (number 0 0xFFFFFFFF)) (get_on base (codes "device_hours") fs) ∙ device;
  lamp_hours = ap (may 0 (number 0 0xFFFFFFFF)) (get_on base (codes "lamp_hours") fs) ∙ lamp;
  lamp_strikes = ap (may 0 (number 0 0xFFFFFFFF)) (get_on base (codes "lamp_strikes") fs) ∙ strikes;
  device_power_cycles = ap (may 0 (number 0 0xFFFFFFFF)) (get_on base (codes "device_power_cycles") fs) ∙ cycles;
}

pub root_only : (base : Members) (s : Starting) → IsTrue (has_only unit_keys base) → IsTrue (has_only root_keys (members_on base (counter_fields s)))
root_only base s only = only_on root_keys base (counter_fields s) (wider counter_keys unit_keys base only) refl

pub root_plain : (base : Members) (s : Starting) → IsPlain 3 (table base) → IsPlain 3 (table (members_on base (counter_fields s)))
root_plain base s is = plain_on 2 base (counter_fields s) is (number_plain 2 _, (number_plain 2 _, (number_plain 2 _, (number_plain 2 _, tt))))
