-- The forms that the data of a command can have.
use Rattle.std.specs.Prelude.{ℕ, Bool, true, false, ◌==◌, ◌&&◌, nat_le, List, length, take, slice_index, Option, Some, None, if◌then◌else◌, is_some, [], ◌∷◌}
use Rattle.std.specs.List.{list_any}
use Rattle.std.specs.Option.{option_map_or}
use Rattle.std.specs.Int.{w16, w32, from_be_bytes}
use Rattle.rdm_profile.specs.declared.value.Value.{Value}
use Rattle.rdm_profile.specs.declared.value.Value.TheVariants.{Nothing, Byte, Word, Long, Preset, Label}
use Rattle.rdm_profile.specs.Values.{byte_in, word_in, long_in, preset_in, label_in}

-- no data; a number of 8, 16 or 32 bits; a preset and its level; a text of at most 32 bytes; so many slots, of at most 32
pub data Form : Type 0 where
  nothing : Form
  byte : Form
  word : Form
  long : Form
  preset : Form
  label : Form
  sized : ℕ → Form

-- whether data of a form may have n slots
abbrev pub has_length : Form → ℕ → Bool
has_length nothing n = n == 0
has_length byte n = n == 1
has_length word n = n == 2
has_length long n = n == 4
has_length preset n = n == 3
has_length label n = nat_le n 32
has_length (sized size) n = (n == size) && nat_le n 32

-- the value that data of this form says, if it has as many slots as it may
abbrev pub value_in : Form → List ℕ → Value
value_in nothing bytes = Nothing
value_in byte bytes = Byte (slice_index bytes 0)
value_in word bytes = Word (from_be_bytes w16 bytes)
value_in long bytes = Long (from_be_bytes w32 bytes)
value_in preset bytes = Preset (from_be_bytes w16 (take 2 bytes)) (slice_index bytes 2)
value_in label bytes = Label bytes
value_in (sized n) bytes = Label bytes

-- the value that the data says, or none if it doesn't have the length of the form
abbrev pub value_of : Form → List ℕ → Option Value
value_of form bytes = if has_length form (length bytes) then Some (value_in form bytes) else None

-- whether a value is one of this form
abbrev pub has_form : Form → Value → Bool
has_form nothing Nothing = true
has_form nothing _ = false
has_form byte v = is_some (byte_in v)
has_form word v = is_some (word_in v)
has_form long v = is_some (long_in v)
has_form preset v = is_some (preset_in v)
has_form label v = is_some (label_in v)
has_form (sized n) v = option_map_or (λ bytes. length bytes == n) (label_in v) false

-- whether a value is of a form that the data of a command can have
abbrev pub is_of_a_form : Value → Bool
is_of_a_form v = list_any (λ form. has_form form v) (nothing ∷ byte ∷ word ∷ long ∷ preset ∷ label ∷ [])
