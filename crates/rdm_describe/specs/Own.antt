-- The parameters of its maker's own that a fixture describes. E1.20 section 10.4.2, tables A-15 and A-16.
use Rattle.std.specs.Prelude.{ℕ, zero, suc, ◌+◌, ◌-◌, min, Bool, true, false, not, ◌==◌, ◌&&◌, ◌||◌, nat_le, if◌then◌else◌, List, [], ◌∷◌, length, take, drop, slice_index, replicate, Option, Some, None, ℤ, pos, int_le}
use Rattle.std.specs.Int.{w8, w16, w32, cast_signed, to_be_bytes}
use Rattle.rdm_profile.specs.declared.profile.own.ParameterDef.{ParameterDef}
use Rattle.rdm_profile.specs.declared.profile.own.Rights.{Rights}
use Rattle.rdm_profile.specs.declared.profile.own.Rights.TheVariants as rights
use Rattle.rdm_profile.specs.declared.profile.own.Shape.{Shape}
use Rattle.rdm_profile.specs.declared.profile.own.Shape.TheVariants as shapes
use Rattle.rdm_profile.specs.OwnParameters.{can_start}
use Rattle.rdm_describe.specs.declared.answers.Answer.{Answer}
use Rattle.rdm_describe.specs.Answers.{data_of, each, has, is_answered, long_at, signed_byte_at, signed_long_at, signed_word_at, word_at}
use Rattle.rdm_describe.specs.Texts.{text_of}

-- ---- what PARAMETER_DESCRIPTION says: PID 2, size 1, data type 1, command class 1, unused 1, unit 1, prefix 1, least value 4, greatest
-- ---- value 4, default value 4, text

-- table A-16
abbrev pub rights_in : ℕ → Option Rights
rights_in class = if class == 1 then Some rights.Get else if class == 2 then Some rights.Set else if class == 3 then Some rights.Both else None

-- table A-15; a field of bits and slots have as many slots as the value that the fixture told
abbrev pub shape_in : ℕ → ℕ → Option Shape
shape_in data_type size =
    if data_type == 0 then Some (shapes.Slots size) else if data_type == 1 then Some (shapes.Bits size) else if data_type == 2 then Some shapes.Text
    else if data_type == 3 then Some shapes.Byte else if data_type == 4 then Some shapes.SignedByte
    else if data_type == 5 then Some shapes.Word else if data_type == 6 then Some shapes.SignedWord
    else if data_type == 7 then Some shapes.Long else if data_type == 8 then Some shapes.SignedLong else None

-- the number in four slots, of which one of fewer takes the last
abbrev pub limit_in : Shape → List ℕ → ℕ → ℤ
limit_in shapes.Byte slots place = pos (slice_index slots (place + 3))
limit_in shapes.SignedByte slots place = signed_byte_at slots (place + 3)
limit_in shapes.Word slots place = pos (word_at slots (place + 2))
limit_in shapes.SignedWord slots place = signed_word_at slots (place + 2)
limit_in shapes.Long slots place = pos (long_at slots place)
limit_in shapes.SignedLong slots place = signed_long_at slots place
limit_in shape slots place = pos 0

-- the value of a parameter whose data are no number: what it has now; where it can't be read, slots of 0
abbrev pub value_of : List Answer → ℕ → ℕ → List ℕ
value_of answers pid size = if is_answered answers 0 pid 0 then take 32 (data_of answers 0 pid 0) else replicate (min 32 size) 0

-- what a parameter starts with: a number as its description says, and else the value
abbrev pub start_in : Shape → List ℕ → List ℕ → List ℕ
start_in shapes.Byte slots value = slice_index slots 19 ∷ []
start_in shapes.SignedByte slots value = slice_index slots 19 ∷ []
start_in shapes.Word slots value = to_be_bytes w16 (word_at slots 18)
start_in shapes.SignedWord slots value = to_be_bytes w16 (word_at slots 18)
start_in shapes.Long slots value = to_be_bytes w32 (long_at slots 16)
start_in shapes.SignedLong slots value = to_be_bytes w32 (long_at slots 16)
start_in shapes.Text slots value = text_of value
start_in shape slots value = value

-- FACTORY_DEFAULTS sets back what can be read and set, as far as a file knows
abbrev pub is_both : Rights → Bool
is_both rights.Both = true
is_both _ = false

abbrev pub def_with : ℕ → Rights → Shape → List ℕ → List ℕ → ParameterDef
def_with pid rights shape slots value = record {
  pid = pid;
  rights = rights;
  shape = shape;
  low = limit_in shape slots 8;
  high = limit_in shape slots 12;
  fields = record { items = [] };
  start = start_in shape slots value;
  unit = slice_index slots 6;
  prefix = slice_index slots 7;
  name = text_of (drop 20 slots);
  resets = is_both rights;
}

abbrev pub def_if : ℕ → Option Rights → Option Shape → List ℕ → List ℕ → Option ParameterDef
def_if pid (Some rights) (Some shape) slots value = Some (def_with pid rights shape slots value)
def_if pid _ _ slots value = None

-- The parameter that a description of 20 slots and a text tells of, with this value now.
abbrev pub def_in : ℕ → List ℕ → List ℕ → Option ParameterDef
def_in pid slots value = if nat_le 20 (length slots)
    then def_if pid (rights_in (slice_index slots 4)) (shape_in (slice_index slots 3) (length value)) slots value else None

abbrev pub description : List Answer → ℕ → List ℕ
description answers pid = data_of answers 0 0x0051 pid

abbrev pub def_of : List Answer → ℕ → Option ParameterDef
def_of answers pid = def_in pid (description answers pid) (value_of answers pid (slice_index (description answers pid) 2))

-- ---- which of them a file can say

-- the least value isn't above the greatest, and it starts with data of its own in range
abbrev pub is_sayable : ParameterDef → Bool
is_sayable d = int_le d.low d.high && can_start d

abbrev pub if_sayable : Option ParameterDef → List ParameterDef
if_sayable None = []
if_sayable (Some d) = if is_sayable d then d ∷ [] else []

-- the parameter with this PID, if the fixture lists it and a file can say it
abbrev pub own_at : List Answer → ℕ → List ParameterDef
own_at answers pid = if has answers 0 pid then if_sayable (def_of answers pid) else []

-- those with the PIDs that E1.20 leaves to makers, 0x8000 to 0xFFDF, in their order
abbrev pub own_of : List Answer → List ParameterDef
own_of answers = each (own_at answers) 0x8000 0x7FE0
