-- The numbers that the slots of a parameter say, one after another, most significant byte first. E1.20 section 6.2.10.
use Rattle.std.specs.Prelude.{ℕ, ◌+◌, Bool, true, false, ◌==◌, ◌&&◌, ◌||◌, nat_le, nat_lt, List, [], ◌∷◌, length, take, drop, slice_index}
use Rattle.std.specs.Option.{option_map_or}
use Rattle.std.specs.Int.{w16, w32, from_be_bytes}
use Rattle.rdm_profile.specs.declared.profile.fields.Field.{Field}
use Rattle.rdm_profile.specs.declared.profile.fields.Width.{Width}
use Rattle.rdm_profile.specs.declared.profile.fields.Width.TheVariants as widths
use Rattle.rdm_profile.specs.declared.profile.own.Shape.{Shape}
use Rattle.rdm_profile.specs.declared.profile.own.Shape.TheVariants as shapes
use Rattle.rdm_profile.specs.declared.value.Value.{Value}
use Rattle.rdm_profile.specs.Values.{label_in}

-- how many slots a number has
abbrev pub width_of : Width → ℕ
width_of widths.One = 1
width_of widths.Two = 2
width_of widths.Four = 4

-- how many numbers these slots can say
abbrev pub reach_of : Width → ℕ
reach_of widths.One = 0x100
reach_of widths.Two = 0x10000
reach_of widths.Four = 0x100000000

-- the number that the first slots of data say
abbrev pub front_number : Width → List ℕ → ℕ
front_number widths.One bytes = slice_index bytes 0
front_number widths.Two bytes = from_be_bytes w16 (take 2 bytes)
front_number widths.Four bytes = from_be_bytes w32 (take 4 bytes)

-- whether a field can be this number: one from its least to its greatest, or the one that it can be beside these
abbrev pub is_of_field : Field → ℕ → Bool
is_of_field f n = (nat_le f.low n && nat_le n f.high) || (n == f.also)

-- whether data begin with a number of a field
abbrev pub begins_with : Field → List ℕ → Bool
begins_with f bytes = nat_le (width_of f.width) (length bytes) && is_of_field f (front_number f.width bytes)

-- whether data begin with numbers of these fields, one after another
abbrev pub say : List Field → List ℕ → Bool
say [] bytes = true
say (f ∷ fs) bytes = begins_with f bytes && say fs (drop (width_of f.width) bytes)

-- whether a value that is slots says numbers of these fields
abbrev pub says : List Field → Value → Bool
says fs v = option_map_or (say fs) (label_in v) true

-- how many slots the fields take
abbrev pub slots_of : List Field → ℕ
slots_of [] = 0
slots_of (f ∷ fs) = width_of f.width + slots_of fs

-- whether fields take all slots of a shape, or there are none; only slots have any
abbrev pub are_taken : Shape → List Field → Bool
are_taken (shapes.Slots n) fs = (length fs == 0) || (slots_of fs == n)
are_taken _ fs = length fs == 0

-- whether fields have so many slots each
abbrev pub have_sizes : List Field → List ℕ → Bool
have_sizes [] [] = true
have_sizes [] (n ∷ ns) = false
have_sizes (f ∷ fs) [] = false
have_sizes (f ∷ fs) (n ∷ ns) = (width_of f.width == n) && have_sizes fs ns

-- whether a field can say its limits, the least first, and the number beside them
abbrev pub can_say : Field → Bool
can_say f = nat_le f.low f.high && nat_lt f.high (reach_of f.width) && nat_lt f.also (reach_of f.width)
