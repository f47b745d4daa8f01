-- Values of parameters, and the bytes that stand for them. E1.20 section 6.2.10.
use Rattle.std.specs.Prelude.{ℕ, ℤ, ◌+◌, ◌*◌, Bool, false, List, [], ◌∷◌, ◌++◌, Option, Some, None, slice_index, unwrap_or}
use Rattle.std.specs.Option.{option_map_or}
use Rattle.std.specs.Int.{w16, w32, to_be_bytes, cast_unsigned}
use Rattle.rdm_profile.specs.declared.value.Value.{Value}
use Rattle.rdm_profile.specs.declared.value.Value.TheVariants.{Nothing, Byte, Word, Long, Pair, Label, Preset, Named, SlotName, Mode, Reading, Sensor, Info, Block}

-- a number of 16 bits, most significant byte first
abbrev pub word_slots : ℕ → List ℕ
word_slots n = to_be_bytes w16 n

-- the number that the first two slots say, most significant byte first; a slot that isn't there is 0
abbrev pub front_word : List ℕ → ℕ
front_word slots = 256 * slice_index slots 0 + slice_index slots 1

-- a number of 32 bits, most significant byte first
abbrev pub long_slots : ℕ → List ℕ
long_slots n = to_be_bytes w32 n

-- a signed number of 16 bits, in two's complement
abbrev pub signed_slots : ℤ → List ℕ
signed_slots n = to_be_bytes w16 (cast_unsigned w16 n)

-- the fields of a value in their order
abbrev pub bytes_of : Value → List ℕ
bytes_of Nothing = []
bytes_of (Byte n) = n ∷ []
bytes_of (Word n) = word_slots n
bytes_of (Long n) = long_slots n
bytes_of (Pair m n) = m ∷ n ∷ []
bytes_of (Label text) = text
bytes_of (Preset mode level) = word_slots mode ++ level ∷ []
bytes_of (Named number name) = number ∷ name
bytes_of (SlotName offset name) = word_slots offset ++ name
bytes_of (Mode number footprint name) = number ∷ word_slots footprint ++ name
bytes_of (Reading number present lowest highest recorded) =
    number ∷ signed_slots present ++ signed_slots lowest ++ signed_slots highest ++ signed_slots recorded
bytes_of (Sensor number d) =
    number ∷ d.kind ∷ d.unit ∷ d.prefix ∷ signed_slots d.low ++ signed_slots d.high
    ++ signed_slots d.normal_low ++ signed_slots d.normal_high ++ d.support ∷ d.name
bytes_of (Info protocol model category software footprint personality personalities start subs sensors) =
    word_slots protocol ++ word_slots model ++ word_slots category ++ long_slots software ++ word_slots footprint
    ++ personality ∷ personalities ∷ word_slots start ++ word_slots subs ++ sensors ∷ []
bytes_of (Block bytes) = bytes

-- the 8-bit number, if the value is one
abbrev pub byte_in : Value → Option ℕ
byte_in (Byte n) = Some n
byte_in _ = None

-- the 16-bit number, if the value is one
abbrev pub word_in : Value → Option ℕ
word_in (Word n) = Some n
word_in _ = None

-- the 32-bit number, if the value is one
abbrev pub long_in : Value → Option ℕ
long_in (Long n) = Some n
long_in _ = None

-- the preset and its level, if the value is one
abbrev pub preset_in : Value → Option (ℕ × ℕ)
preset_in (Preset mode level) = Some (mode, level)
preset_in _ = None

-- the text, if the value is one
abbrev pub label_in : Value → Option (List ℕ)
label_in (Label text) = Some text
label_in _ = None

-- the 8-bit number, or 0 if the value isn't one
abbrev pub byte_or_0 : Value → ℕ
byte_or_0 v = unwrap_or (byte_in v) 0

-- the 16-bit number, or 0 if the value isn't one
abbrev pub word_or_0 : Value → ℕ
word_or_0 v = unwrap_or (word_in v) 0

-- a test of the 8-bit number, if the value is one
abbrev pub for_byte : (ℕ → Bool) → Value → Bool
for_byte test v = option_map_or test (byte_in v) false

-- a test of the 16-bit number, if the value is one
abbrev pub for_word : (ℕ → Bool) → Value → Bool
for_word test v = option_map_or test (word_in v) false
