-- What holds of each parameter that a table says: a device can have it, and a file can say it.
use Rattle.std.proofs.Common.{◌≡◌, ℕ, arith, nat_le, ℤ, int_le, Bool, true, false, ◌&&◌, List, [], Option, Some, None, option_and_then, IsTrue, if◌then◌else◌, refl, sym, subst, codes}
use Rattle.std.proofs.lemmas.Bool.{and_from, le-leb}
use Rattle.std.proofs.lemmas.Option.{same_Some}
use Rattle.arrayvec.specs.declared.array_vec.ArrayVec.{ArrayVec}
use Rattle.rdm_profile.specs.declared.profile.fields.Field.{Field}
use Rattle.rdm_profile.specs.declared.profile.own.ParameterDef.{ParameterDef}
use Rattle.rdm_profile.specs.declared.profile.own.Rights.{Rights}
use Rattle.rdm_profile.specs.declared.profile.own.Shape.{Shape}
use Rattle.rdm_profile.specs.declared.profile.own.Shape.TheVariants as shapes
use Rattle.rdm_profile.specs.OwnParameters.{is_addable, has_number, has_limits}
use Rattle.toml.specs.Data.{Data, Members, get_member}
use Rattle.rdm_fixture.specs.Describable.{are_printable, can_stand, limits_stand, is_sayable}
use Rattle.rdm_fixture_keys.specs.Keys.{may, must, Must, May, has_only}
use Rattle.rdm_fixture.specs.Lists.{OfTable, Lists}
use Rattle.rdm_fixture_keys.specs.Values.{integer_from, flag, named, number, text}
use Rattle.rdm_standard_names.specs.declared.kind.NameKind.TheVariants.{Prefixes, Units}
use Rattle.rdm_fixture.specs.Parameters.{IsField, SaysParameter, IsParameter, parameter_keys, own_pid, command_class, least_of, greatest_of, limit, low_in, high_in, shape_in, slots_of, spelled, start, start as starting, is_setting, can_reset}
use Rattle.rdm_fixture.proofs.NumberSlots.{le_through, le_same, least_greatest, in_shape, within_from}
use Rattle.rdm_fixture.proofs.Starts.{IsSized, sized, spelled_slots, stands}
use Rattle.rdm_fixture.proofs.Printables.{printable_at}

-- ---- the PID

addable_if : (b : Bool) (k n : ℕ) → (if b then Some k else None) ≡ Some n → (b ≡ true) × (k ≡ n)
addable_if true k n h = (refl, same_Some k n h)
addable_if false k n h = absurd (cc)

addable_in : (o : Option ℕ) (n : ℕ) → option_and_then (λ pid. if is_addable pid then Some pid else None) o ≡ Some n → is_addable n ≡ true
addable_in None n h = absurd (cc)
addable_in (Some k) n h = let (is, same) = addable_if (is_addable k) k n h in subst (λ (m : ℕ). is_addable m ≡ true) same is

addable : (found : Option Data) (n : ℕ) → must own_pid found ≡ Some n → is_addable n ≡ true
addable None n h = absurd (cc)
addable (Some d) n h = addable_in (number 0 0xFFFF d) n h

-- ---- the limits

three : (a b c : Bool) → a ≡ true → b ≡ true → c ≡ true → (a && b && c) ≡ true
three a b c p q r = rw (p, q, r) refl

low_fits : (s : Shape) (found : Option Data) (z : ℤ) → may (least_of s) (limit s) found ≡ Some z → (int_le (least_of s) z ≡ true) × (int_le z (greatest_of s) ≡ true)
low_fits s None z h =
    subst (λ (k : ℤ). (int_le (least_of s) k ≡ true) × (int_le k (greatest_of s) ≡ true)) (same_Some (least_of s) z h) (le_same (least_of s), least_greatest s)
low_fits s (Some d) z h = within_from (least_of s) (greatest_of s) d z h

high_fits : (s : Shape) (low : ℤ) (found : Option Data) (z : ℤ) → int_le low (greatest_of s) ≡ true
    → may (greatest_of s) (integer_from low (greatest_of s)) found ≡ Some z → (int_le low z ≡ true) × (int_le z (greatest_of s) ≡ true)
high_fits s low None z less h =
    subst (λ (k : ℤ). (int_le low k ≡ true) × (int_le k (greatest_of s) ≡ true)) (same_Some (greatest_of s) z h) (less, le_same (greatest_of s))
high_fits s low (Some d) z less h = within_from low (greatest_of s) d z h

-- data that are no number have few slots
abbrev HasFew : Shape → Type 0
HasFew (shapes.Bits n) = nat_le n 32 ≡ true
HasFew (shapes.Slots n) = nat_le n 32 ≡ true
HasFew _ = Unit {0}

few_spelled : (n : ℕ) (d : Data) (xs : List ℕ) → n ≡ slots_of (Some d) → spelled d ≡ Some xs → nat_le n 32 ≡ true
few_spelled n d xs k h =
    let (long, few) = spelled_slots d xs h in
    le-leb n 32 (omega (arith, k, long, few))

few_slots : (s : Shape) (low high : ℤ) (found : Option Data) (xs : List ℕ) → IsSized (slots_of found) s → must (start s low high) found ≡ Some xs → HasFew s
few_slots s low high None xs k h = absurd (cc)
few_slots shapes.Byte low high (Some d) xs k h = tt
few_slots shapes.SignedByte low high (Some d) xs k h = tt
few_slots shapes.Word low high (Some d) xs k h = tt
few_slots shapes.SignedWord low high (Some d) xs k h = tt
few_slots shapes.Long low high (Some d) xs k h = tt
few_slots shapes.SignedLong low high (Some d) xs k h = tt
few_slots shapes.Text low high (Some d) xs k h = tt
few_slots shapes.Choice low high (Some d) xs k h = tt
few_slots shapes.Names low high (Some d) xs k h = tt
few_slots shapes.Rates low high (Some d) xs k h = tt
few_slots shapes.Block low high (Some d) xs k h = tt
few_slots shapes.Scenes low high (Some d) xs k h = tt
few_slots shapes.Lock low high (Some d) xs k h = tt
few_slots shapes.Pin low high (Some d) xs k h = tt
few_slots (shapes.Bits n) low high (Some d) xs k h = few_spelled n d xs k h
few_slots (shapes.Slots n) low high (Some d) xs k h = few_spelled n d xs k h

limits_from : (s : Shape) (low high : ℤ) → HasFew s → has_number s low ≡ true → has_number s high ≡ true → int_le low high ≡ true → has_limits s low high ≡ true
limits_from shapes.Byte low high few a b c = three _ _ _ a b c
limits_from shapes.SignedByte low high few a b c = three _ _ _ a b c
limits_from shapes.Word low high few a b c = three _ _ _ a b c
limits_from shapes.SignedWord low high few a b c = three _ _ _ a b c
limits_from shapes.Long low high few a b c = three _ _ _ a b c
limits_from shapes.SignedLong low high few a b c = three _ _ _ a b c
limits_from shapes.Text low high few a b c = refl
limits_from shapes.Choice low high few a b c = three _ _ _ a b c
limits_from shapes.Names low high few a b c = refl
limits_from shapes.Rates low high few a b c = refl
limits_from shapes.Block low high few a b c = refl
limits_from shapes.Scenes low high few a b c = three _ _ _ a b c
limits_from shapes.Lock low high few a b c = three _ _ _ a b c
limits_from shapes.Pin low high few a b c = three _ _ _ a b c
limits_from (shapes.Bits n) low high few a b c = few
limits_from (shapes.Slots n) low high few a b c = few

-- ---- what it starts with

start_stands : (s : Shape) (low high : ℤ) (found : Option Data) (xs : List ℕ) → must (start s low high) found ≡ Some xs → can_stand s xs ≡ true
start_stands s low high None xs h = absurd (cc)
start_stands s low high (Some d) xs h = stands s low high d xs h

-- ---- the whole

pub free_pid : (t : Members) (d : ParameterDef) → IsParameter t d → IsTrue (is_addable d.pid)
free_pid t d h = addable (get_member (codes "pid") t) d.pid h.said.pid

pub good_limits : (t : Members) (d : ParameterDef) → IsParameter t d → IsTrue (has_limits d.shape d.low d.high)
good_limits t d is =
    let h = is.said in
    let low = low_fits d.shape (get_member (codes "minimum_valid_value") t) d.low h.low in
    let high = high_fits d.shape d.low (get_member (codes "maximum_valid_value") t) d.high low.1 h.high in
    let slots = sized (slots_of (get_member (codes "default_value") t)) (get_member (codes "data_type") t) d.shape h.shape in
    limits_from d.shape d.low d.high (few_slots d.shape d.low d.high (get_member (codes "default_value") t) d.start slots h.start)
    (in_shape d.shape d.low low.0 low.1) (in_shape d.shape d.high (le_through (least_of d.shape) d.low d.high low.0 high.0) high.1) high.0

pub sayable : (t : Members) (d : ParameterDef) → IsParameter t d → IsTrue (is_sayable d)
sayable t d is =
    let h = is.said in
    let low = low_fits d.shape (get_member (codes "minimum_valid_value") t) d.low h.low in
    let high = high_fits d.shape d.low (get_member (codes "maximum_valid_value") t) d.high low.1 h.high in
    and_from (limits_stand d) (can_stand d.shape d.start && (are_printable d.name && can_reset d))
    (and_from (int_le (least_of d.shape) d.low) (int_le d.low d.high && int_le d.high (greatest_of d.shape)) low.0
    (and_from (int_le d.low d.high) (int_le d.high (greatest_of d.shape)) high.0 high.1))
    (and_from (can_stand d.shape d.start) (are_printable d.name && can_reset d) (start_stands d.shape d.low d.high (get_member (codes "default_value") t) d.start h.start)
    (and_from (are_printable d.name) (can_reset d) (printable_at t (codes "description") d.name h.name) is.reset))

-- the parts of a parameter, one by one
parameter_is : (t : Members) (pid : ℕ) (rights : Rights) (shape : Shape) (low high : ℤ) (fields : ArrayVec Field 8 (Unit {0})) (start : List ℕ) (unit prefix : ℕ) (resets : Bool) (name : List ℕ)
    → IsTrue (has_only parameter_keys t) → Must t (codes "pid") own_pid pid → Must t (codes "command_class") command_class rights
    → shape_in t ≡ Some shape → low_in shape t ≡ Some low → high_in shape low t ≡ Some high
    → Lists t (codes "fields") (OfTable IsField) 0 8 fields.items → Must t (codes "default_value") (starting shape low high) start
    → May t (codes "unit") 0 (named Units) unit → May t (codes "prefix") 0 (named Prefixes) prefix
    → May t (codes "factory_defaults") (is_setting rights shape) flag resets → May t (codes "description") [] text name
    → SaysParameter t (record { pid = pid; rights = rights; shape = shape; low = low; high = high; fields = fields; start = start; unit = unit; prefix = prefix; name = name; resets = resets })
parameter_is t pid rights shape low high fields start unit prefix resets name keys at_pid at_rights at_shape at_low at_high at_fields at_start at_unit at_prefix at_resets at_name =
    record {
      keys = keys;
      pid = at_pid;
      rights = at_rights;
      shape = at_shape;
      low = at_low;
      high = at_high;
      fields = at_fields;
      start = at_start;
      unit = at_unit;
      prefix = at_prefix;
      resets = at_resets;
      name = at_name;
    }

-- the same where its limits are these numbers again
pub parameter_at : (t : Members) (pid : ℕ) (rights : Rights) (shape : Shape) (low high low2 high2 : ℤ) (fields : ArrayVec Field 8 (Unit {0})) (start : List ℕ) (unit prefix : ℕ) (resets : Bool) (name : List ℕ)
    → low2 ≡ low → high2 ≡ high
    → IsTrue (has_only parameter_keys t) → Must t (codes "pid") own_pid pid → Must t (codes "command_class") command_class rights
    → shape_in t ≡ Some shape → low_in shape t ≡ Some low → high_in shape low t ≡ Some high
    → Lists t (codes "fields") (OfTable IsField) 0 8 fields.items → Must t (codes "default_value") (starting shape low high) start
    → May t (codes "unit") 0 (named Units) unit → May t (codes "prefix") 0 (named Prefixes) prefix
    → May t (codes "factory_defaults") (is_setting rights shape) flag resets → May t (codes "description") [] text name
    → SaysParameter t (record { pid = pid; rights = rights; shape = shape; low = low2; high = high2; fields = fields; start = start; unit = unit; prefix = prefix; name = name; resets = resets })
parameter_at t pid rights shape low high low2 high2 fields start unit prefix resets name same_low same_high keys at_pid at_rights at_shape at_low at_high at_fields at_start at_unit at_prefix at_resets at_name =
    subst (λ (l : ℤ). SaysParameter t (record { pid = pid; rights = rights; shape = shape; low = l; high = high2; fields = fields; start = start; unit = unit; prefix = prefix; name = name; resets = resets })) (sym same_low)
    (subst (λ (h : ℤ). SaysParameter t (record { pid = pid; rights = rights; shape = shape; low = low; high = h; fields = fields; start = start; unit = unit; prefix = prefix; name = name; resets = resets })) (sym same_high)
    (parameter_is t pid rights shape low high fields start unit prefix resets name keys at_pid at_rights at_shape at_low at_high at_fields at_start at_unit at_prefix at_resets at_name))
