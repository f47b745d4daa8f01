-- The parameters that the maker of a fixture adds: which data and commands they have, and which PIDs they can have.
-- E1.20 sections 6.2.10.2 and 10.4.2, tables A-3, A-15 and A-16.
use Rattle.std.specs.Prelude.{ℕ, ℤ, pos, neg_ℤ, Bool, true, false, ◌&&◌, ◌||◌, nat_le, nat_lt, int_le, Option, None}
use Rattle.std.specs.List.{list_all}
use Rattle.std.specs.Option.{option_map, option_map_or}
use Rattle.std.specs.Int.{w8, w16, w32, cast_signed}
use Rattle.rdm_profile.specs.declared.profile.own.ParameterDef.{ParameterDef}
use Rattle.rdm_profile.specs.declared.profile.own.Rights.{Rights}
use Rattle.rdm_profile.specs.declared.profile.own.Rights.TheVariants as rights
use Rattle.rdm_profile.specs.declared.profile.own.Shape.{Shape}
use Rattle.rdm_profile.specs.declared.profile.own.Shape.TheVariants as shapes
use Rattle.rdm_profile.specs.declared.value.Value.{Value}
use Rattle.rdm_profile.specs.Forms.{Form, nothing, byte, word, long, label, sized, has_form, value_of}
use Rattle.rdm_profile.specs.Fields.{says, can_say, are_taken}
use Rattle.rdm_profile.specs.Standards.{is_of_standards}
use Rattle.rdm_profile.specs.Values.{byte_in, word_in, long_in}

-- ---- which data it has

-- the form of data of a shape
abbrev pub form_of : Shape → Form
form_of shapes.Byte = byte
form_of shapes.Word = word
form_of shapes.Long = long
form_of shapes.SignedByte = byte
form_of shapes.SignedWord = word
form_of shapes.SignedLong = long
form_of shapes.Text = label
form_of (shapes.Bits n) = sized n
form_of (shapes.Slots n) = sized n
form_of shapes.Choice = byte
form_of shapes.Names = nothing
form_of shapes.Rates = nothing
form_of shapes.Scenes = nothing
form_of shapes.Lock = byte
form_of shapes.Pin = word
form_of shapes.Block = nothing

-- the number that a value says in a shape, in two's complement where that is signed
abbrev pub number_in : Shape → Value → Option ℤ
number_in shapes.Byte v = option_map pos (byte_in v)
number_in shapes.Choice v = option_map pos (byte_in v)
number_in shapes.Lock v = option_map pos (byte_in v)
number_in shapes.Word v = option_map pos (word_in v)
number_in shapes.Pin v = option_map pos (word_in v)
number_in shapes.Long v = option_map pos (long_in v)
number_in shapes.SignedByte v = option_map (cast_signed w8) (byte_in v)
number_in shapes.SignedWord v = option_map (cast_signed w16) (word_in v)
number_in shapes.SignedLong v = option_map (cast_signed w32) (long_in v)
number_in _ v = None

-- a number from the least to the greatest, slots of the form that say numbers of the fields, or any text
abbrev pub is_within : ParameterDef → Value → Bool
is_within d v = option_map_or (λ n. int_le d.low n && int_le n d.high) (number_in d.shape v) (has_form (form_of d.shape) v && says d.fields.items v)

-- whether data that it starts with have the length of the shape and are in range
abbrev pub can_start : ParameterDef → Bool
can_start d = option_map_or (is_within d) (value_of (form_of d.shape) d.start) false

-- whether a number lies between two others
abbrev lies : ℤ → ℤ → ℤ → Bool
lies least greatest n = int_le least n && int_le n greatest

-- whether a number can be said in a shape; where the data are no number, any can
abbrev pub has_number : Shape → ℤ → Bool
has_number shapes.Byte n = lies (pos 0) (pos 255) n
has_number shapes.Choice n = lies (pos 0) (pos 255) n
has_number shapes.Scenes n = lies (pos 0) (pos 255) n
has_number shapes.Lock n = lies (pos 0) (pos 255) n
has_number shapes.Pin n = lies (pos 0) (pos 9999) n
has_number shapes.Word n = lies (pos 0) (pos 65535) n
has_number shapes.Long n = lies (pos 0) (pos 4294967295) n
has_number shapes.SignedByte n = lies (neg_ℤ (pos 128)) (pos 127) n
has_number shapes.SignedWord n = lies (neg_ℤ (pos 32768)) (pos 32767) n
has_number shapes.SignedLong n = lies (neg_ℤ (pos 2147483648)) (pos 2147483647) n
has_number _ n = true

-- whether the least and the greatest number of a shape are numbers that it can say, in this order; where the data are no number,
-- whether they have at most 32 slots
abbrev pub has_limits : Shape → ℤ → ℤ → Bool
has_limits shapes.Text low high = true
has_limits shapes.Names low high = true
has_limits shapes.Rates low high = true
has_limits shapes.Block low high = true
has_limits (shapes.Bits n) low high = nat_le n 32
has_limits (shapes.Slots n) low high = nat_le n 32
has_limits shape low high = has_number shape low && has_number shape high && int_le low high

-- whether its fields take all of its slots, if it has any, and can say their limits
abbrev pub has_good_fields : ParameterDef → Bool
has_good_fields d = list_all can_say d.fields.items && are_taken d.shape d.fields.items

-- ---- which commands it has

abbrev pub has_get : Rights → Bool
has_get rights.Set = false
has_get _ = true

abbrev pub has_set : Rights → Bool
has_set rights.Get = false
has_set _ = true

-- whether it is an order: there is nothing to read, so a SET of it asks for something to be done
abbrev pub is_order : Rights → Bool
is_order rights.Set = true
is_order _ = false

-- ---- which PIDs it can have

-- the PIDs that E1.20 leaves to makers
abbrev pub is_makers : ℕ → Bool
is_makers pid = nat_le 0x8000 pid && nat_lt pid 0xFFE0

-- the PIDs of E1.20 and of E1.37-1 that a profile can add
abbrev pub is_lent : ℕ → Bool
is_lent pid = is_of_standards pid

abbrev pub is_addable : ℕ → Bool
is_addable pid = is_makers pid || is_lent pid
