-- Which table is a parameter that a profile adds: one of the maker's own, or one of the standards'. A key is named as the field of
-- PARAMETER_DESCRIPTION that it sets, in small letters; commands and types have the names of tables A-16 and A-15. E1.20 section 10.4.2.
use Rattle.std.specs.Prelude.{◌≡◌, ℕ, ◌-◌, ◌/◌, ◌%◌, min, ℤ, pos, neg_ℤ, Bool, true, false, ◌||◌, not, if◌then◌else◌, ◌==◌, nat_le, IsTrue, List, [], ◌∷◌, length, Option, Some, None, option_and_then, option_map, codes}
use Rattle.std.specs.Int.{w64, cast_unsigned}
use Rattle.std.specs.Str.{bytes_eq}
use Rattle.toml.specs.Data.{Data, string, Members, get_member}
use Rattle.rdm_frame.specs.DigitReading.{bytes_in}
use Rattle.rdm_profile.specs.declared.profile.fields.Field.{Field}
use Rattle.rdm_profile.specs.declared.profile.fields.Width.{Width}
use Rattle.rdm_profile.specs.declared.profile.fields.Width.TheVariants as widths
use Rattle.rdm_profile.specs.declared.profile.own.ParameterDef.{ParameterDef}
use Rattle.rdm_profile.specs.declared.profile.own.Rights.{Rights}
use Rattle.rdm_profile.specs.declared.profile.own.Rights.TheVariants as rights
use Rattle.rdm_profile.specs.declared.profile.own.Shape.{Shape}
use Rattle.rdm_profile.specs.declared.profile.own.Shape.TheVariants as shapes
use Rattle.rdm_profile.specs.Fields.{reach_of}
use Rattle.rdm_profile.specs.OwnParameters.{is_addable, can_start, has_good_fields}
use Rattle.rdm_profile.specs.Standards.{follows}
use Rattle.rdm_profile.specs.Values.{word_slots, long_slots}
use Rattle.rdm_fixture_keys.specs.Keys.{must, may, Must, May, has_only}
use Rattle.rdm_fixture.specs.Lists.{OfTable, Lists}
use Rattle.rdm_fixture_keys.specs.Values.{named, number, integer_from, flag, text}
use Rattle.rdm_standard_names.specs.declared.kind.NameKind.TheVariants.{Prefixes, Units}

-- ---- its PID and its commands

-- a PID that a profile can add
abbrev pub own_pid : Data → Option ℕ
own_pid d = option_and_then (λ pid. if is_addable pid then Some pid else None) (number 0 0xFFFF d)

-- The commands of this name: table A-16, and a GET with a SET without data that sets back, as COMMS_STATUS has.
abbrev pub rights_named : List ℕ → Option Rights
rights_named s =
    if bytes_eq s (codes "get") then Some rights.Get
    else (if bytes_eq s (codes "set") then Some rights.Set
    else (if bytes_eq s (codes "get_set") then Some rights.Both
    else (if bytes_eq s (codes "get_clear") then Some rights.Clear else None)))

abbrev pub command_class : Data → Option Rights
command_class (string s) = rights_named s
command_class _ = None

-- ---- its data

-- the data of the type with this name, and with so many slots if the type leaves that open. Table A-15; the last seven are those
-- of E1.37-1: CURVE, CURVE_DESCRIPTION and MODULATION_FREQUENCY_DESCRIPTION and the like, PRESET_STATUS, LOCK_STATE, LOCK_PIN and
-- DMX_BLOCK_ADDRESS.
abbrev pub shape_named : ℕ → List ℕ → Option Shape
shape_named slots s =
    if bytes_eq s (codes "unsigned_byte") then Some shapes.Byte
    else (if bytes_eq s (codes "signed_byte") then Some shapes.SignedByte
    else (if bytes_eq s (codes "unsigned_word") then Some shapes.Word
    else (if bytes_eq s (codes "signed_word") then Some shapes.SignedWord
    else (if bytes_eq s (codes "unsigned_dword") then Some shapes.Long
    else (if bytes_eq s (codes "signed_dword") then Some shapes.SignedLong
    else (if bytes_eq s (codes "ascii") then Some shapes.Text
    else (if bytes_eq s (codes "bit_field") then Some (shapes.Bits slots)
    else (if bytes_eq s (codes "not_defined") then Some (shapes.Slots slots)
    else (if bytes_eq s (codes "choice") then Some shapes.Choice
    else (if bytes_eq s (codes "names") then Some shapes.Names
    else (if bytes_eq s (codes "rates") then Some shapes.Rates
    else (if bytes_eq s (codes "scenes") then Some shapes.Scenes
    else (if bytes_eq s (codes "lock") then Some shapes.Lock
    else (if bytes_eq s (codes "pin") then Some shapes.Pin
    else (if bytes_eq s (codes "block") then Some shapes.Block else None)))))))))))))))

abbrev pub data_type : ℕ → Data → Option Shape
data_type slots (string s) = shape_named slots s
data_type slots _ = None

-- as many slots as a default value has digits for; of more than 255 it is none anyway
abbrev pub slots_of : Option Data → ℕ
slots_of (Some (string s)) = min (length s / 2) 255
slots_of _ = 0

-- which data it has: bits and data of no type have as many slots as they start with
abbrev pub shape_in : Members → Option Shape
shape_in t = must (data_type (slots_of (get_member (codes "default_value") t))) (get_member (codes "data_type") t)

-- the least and the greatest number that data can say, or of the scenes that they tell of; else nothing but 0 stands for their limits
abbrev pub least_of : Shape → ℤ
least_of shapes.SignedByte = neg_ℤ (pos 128)
least_of shapes.SignedWord = neg_ℤ (pos 32768)
least_of shapes.SignedLong = neg_ℤ (pos 2147483648)
least_of _ = pos 0

abbrev pub greatest_of : Shape → ℤ
greatest_of shapes.Byte = pos 255
greatest_of shapes.Choice = pos 255
greatest_of shapes.Scenes = pos 255
greatest_of shapes.Lock = pos 255
greatest_of shapes.Pin = pos 9999
greatest_of shapes.SignedByte = pos 127
greatest_of shapes.Word = pos 65535
greatest_of shapes.SignedWord = pos 32767
greatest_of shapes.Long = pos 4294967295
greatest_of shapes.SignedLong = pos 2147483647
greatest_of _ = pos 0

-- a limit of its numbers
abbrev pub limit : Shape → Data → Option ℤ
limit shape d = integer_from (least_of shape) (greatest_of shape) d

-- ---- what it starts with

-- a number in the slots of data, in two's complement if it is signed
abbrev pub number_slots : Shape → ℤ → List ℕ
number_slots shapes.Byte z = cast_unsigned w64 z % 0x100 ∷ []
number_slots shapes.Choice z = cast_unsigned w64 z % 0x100 ∷ []
number_slots shapes.Lock z = cast_unsigned w64 z % 0x100 ∷ []
number_slots shapes.SignedByte z = cast_unsigned w64 z % 0x100 ∷ []
number_slots shapes.Word z = word_slots (cast_unsigned w64 z % 0x10000)
number_slots shapes.Pin z = word_slots (cast_unsigned w64 z % 0x10000)
number_slots shapes.SignedWord z = word_slots (cast_unsigned w64 z % 0x10000)
number_slots shapes.Long z = long_slots (cast_unsigned w64 z % 0x100000000)
number_slots shapes.SignedLong z = long_slots (cast_unsigned w64 z % 0x100000000)
number_slots _ z = []

-- the slots that a text has two hexadecimal digits for: at most 32
abbrev pub spelled : Data → Option (List ℕ)
spelled (string s) = if nat_le (length s) 64 then bytes_in s else None
spelled _ = None

-- a number from the least to the greatest, a text, or slots
abbrev pub start : Shape → ℤ → ℤ → Data → Option (List ℕ)
start shapes.Text low high d = text d
start (shapes.Bits n) low high d = spelled d
start (shapes.Slots n) low high d = spelled d
start shapes.Names low high d = spelled d
start shapes.Rates low high d = spelled d
start shapes.Scenes low high d = spelled d
start shapes.Block low high d = spelled d
start shape low high d = option_map (number_slots shape) (integer_from low high d)

-- ---- the numbers that its slots say

-- how many slots a number has: 1, 2 or 4
abbrev pub width_of_slots : ℕ → Option Width
width_of_slots n = if n == 1 then Some widths.One else (if n == 2 then Some widths.Two else (if n == 4 then Some widths.Four else None))

abbrev pub width : Data → Option Width
width d = option_and_then width_of_slots (number 1 4 d)

-- the greatest number that so many slots can say
abbrev pub greatest_said : Width → ℕ
greatest_said w = reach_of w - 1

abbrev pub field_keys : List (List ℕ)
field_keys = codes "slots" ∷ codes "minimum_valid_value" ∷ codes "maximum_valid_value" ∷ codes "also_valid_value" ∷ []

-- A number of so many slots, from the least to the greatest, or one more; where nothing is said of it, the least is this one again.
pub record IsField (t : Members) (f : Field) : Type 0 where
  pub keys : IsTrue (has_only field_keys t)
  pub width : Must t (codes "slots") width f.width
  pub low : May t (codes "minimum_valid_value") 0 (number 0 0xFFFFFFFF) f.low
  pub high : May t (codes "maximum_valid_value") (greatest_said f.width) (number 0 0xFFFFFFFF) f.high
  pub also : May t (codes "also_valid_value") f.low (number 0 0xFFFFFFFF) f.also

-- ---- the whole

abbrev pub parameter_keys : List (List ℕ)
parameter_keys =
    codes "pid" ∷ codes "command_class" ∷ codes "data_type" ∷ codes "minimum_valid_value" ∷ codes "maximum_valid_value"
    ∷ codes "fields" ∷ codes "default_value" ∷ codes "unit" ∷ codes "prefix" ∷ codes "factory_defaults" ∷ codes "description" ∷ []

-- what these keys say: the least value, and the greatest one from there on
abbrev pub low_in : Shape → Members → Option ℤ
low_in shape t = may (least_of shape) (limit shape) (get_member (codes "minimum_valid_value") t)

abbrev pub high_in : Shape → ℤ → Members → Option ℤ
high_in shape low t = may (greatest_of shape) (integer_from low (greatest_of shape)) (get_member (codes "maximum_valid_value") t)

-- whether it is a setting, which FACTORY_DEFAULTS sets back where nothing is said of it: not what can only be read, no order, no counts,
-- no scenes, and neither a lock state nor its PIN, since nobody is asked for that then. Section 10.5.6.
abbrev pub is_setting : Rights → Shape → Bool
is_setting rights.Both shapes.Scenes = false
is_setting rights.Both shapes.Lock = false
is_setting rights.Both shapes.Pin = false
is_setting rights.Both shapes.Block = false
is_setting rights.Both _ = true
is_setting _ shape = false

-- whether there is a value that FACTORY_DEFAULTS can set back, and that is told or used afterwards: scenes, names and blocks have none
-- of their own, and an order is never told; a PIN is, by what it opens
abbrev pub is_told_back : Rights → Shape → Bool
is_told_back _ shapes.Scenes = false
is_told_back _ shapes.Names = false
is_told_back _ shapes.Rates = false
is_told_back _ shapes.Block = false
is_told_back _ shapes.Pin = true
is_told_back rights.Set _ = false
is_told_back _ _ = true

-- it is set back only if that changes something
abbrev pub can_reset : ParameterDef → Bool
can_reset d = not d.resets || is_told_back d.rights d.shape

-- What the keys of a parameter say.
pub record SaysParameter (t : Members) (d : ParameterDef) : Type 0 where
  pub keys : IsTrue (has_only parameter_keys t)
  pub pid : Must t (codes "pid") own_pid d.pid
  pub rights : Must t (codes "command_class") command_class d.rights
  pub shape : shape_in t ≡ Some d.shape
  pub low : low_in d.shape t ≡ Some d.low
  pub high : high_in d.shape d.low t ≡ Some d.high
  pub fields : Lists t (codes "fields") (OfTable IsField) 0 8 d.fields.items
  pub start : Must t (codes "default_value") (start d.shape d.low d.high) d.start
  pub unit : May t (codes "unit") 0 (named Units) d.unit
  pub prefix : May t (codes "prefix") 0 (named Prefixes) d.prefix
  pub resets : May t (codes "factory_defaults") (is_setting d.rights d.shape) flag d.resets
  pub name : May t (codes "description") [] text d.name

-- Its fields take all of its slots, if it has any; it starts with data of its form that say numbers in range; and if its PID is one of
-- E1.20 or E1.37-1, it has the commands and the data of that standard. FACTORY_DEFAULTS sets it back only if that changes something.
pub record IsParameter (t : Members) (d : ParameterDef) : Type 0 where
  pub said : SaysParameter t d
  pub fields : IsTrue (has_good_fields d)
  pub start : IsTrue (can_start d)
  pub standard : IsTrue (follows d)
  pub reset : IsTrue (can_reset d)
