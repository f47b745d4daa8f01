-- How a field of parameter data is named: by the number that counts, by its digits, or by its text.
use Rattle.std.specs.Prelude.{ℕ, zero, suc, ◌==◌, nat_le, Bool, ℤ, pos, negsuc, int_lt, List, [], ◌∷◌, ◌++◌, length, take, drop, decimal, slice_index, if◌then◌else◌}
use Rattle.std.specs.List.{flat_map, list_any}
use Rattle.std.specs.Int.{w16, w32, cast_signed, to_be_bytes, from_be_bytes}
use Rattle.std.specs.Fmt.{signed_decimal}
use Rattle.rdm_device.specs.Device.Measuring.{signed_in}
use Rattle.rdm_frame.specs.Digits.{digits}
use Rattle.rdm_frame.specs.Reading.{uid_at}
use Rattle.rdm_frame.specs.UidText.{uid_text}
use Rattle.rdm_words.specs.HeaderFacts.{name_and, place_fact}
use Rattle.rdm_words.specs.HeaderWords.{quoted}
use Rattle.rdm_words.specs.Tables.{standard_name}

-- the slots of a field: so many from the first one on, or as many of them as there are
abbrev pub slots_at : ℕ → ℕ → List ℕ → List ℕ
slots_at first count d = take count (drop first d)

-- the number that one, two or four slots are, the most significant first
abbrev pub number_in : List ℕ → ℕ
number_in slots =
    if length slots == 1 then slice_index slots 0 else
    if length slots == 2 then from_be_bytes w16 slots else
    if length slots == 4 then from_be_bytes w32 slots else 0

-- in decimal, what counts
abbrev pub as_number : List ℕ → List (List ℕ)
as_number slots = decimal (number_in slots) ∷ []

-- in hexadecimal digits, what stands for something else: a name may stand before them
abbrev pub as_digits : List ℕ → List (List ℕ)
as_digits slots = digits slots ∷ []

-- what counts, but for these numbers, which stand for something else
abbrev pub as_number_but : List ℕ → List ℕ → List (List ℕ)
as_number_but others slots = (if list_any (λ number. number == number_in slots) others then digits slots else decimal (number_in slots)) ∷ []

-- a text in quotes
abbrev pub as_text : List ℕ → List (List ℕ)
as_text slots = quoted slots ∷ []

-- fields, one after the other
abbrev pub all_of : List (List (List ℕ)) → List (List ℕ)
all_of fields = flat_map (λ field. field) fields

-- data without fields: all digits of them, if there are any
abbrev pub as_data : List ℕ → List (List ℕ)
as_data d = if length d == 0 then [] else digits d ∷ []

-- what measures, with a sign: two slots
abbrev pub as_signed : List ℕ → List (List ℕ)
as_signed slots = if length slots == 2 then signed_decimal (signed_in slots) ∷ [] else as_data slots

-- what a sensor measures: two slots behind its number
abbrev pub as_measured : List ℕ → List (List ℕ)
as_measured slots = if length slots == 3 then as_signed (slots_at 1 2 slots) else as_data slots

-- a UID: six slots
abbrev pub as_uid : List ℕ → List (List ℕ)
as_uid slots = if length slots == 6 then uid_text (uid_at slots 0) ∷ [] else as_data slots

-- a parameter, by its name if the standard has one, and by its PID: two slots
abbrev pub as_parameter : List ℕ → List (List ℕ)
as_parameter slots = if length slots == 2 then name_and (standard_name (from_be_bytes w16 slots)) (digits slots) else as_data slots

-- the root, all sub-devices or the number of one: two slots
abbrev pub as_place : List ℕ → List (List ℕ)
as_place slots = if length slots == 2 then place_fact (from_be_bytes w16 slots) ∷ [] else as_data slots

-- A failure: its status type, its status ID, and two values with a sign.
abbrev pub failure_facts : ℕ → ℕ → ℕ → ℕ → List (List ℕ)
failure_facts severity id first second =
    digits (severity ∷ []) ∷ digits (to_be_bytes w16 id) ∷ signed_decimal (cast_signed w16 first) ∷ signed_decimal (cast_signed w16 second) ∷ []

-- the number of two slots, of which this is the first
abbrev pub word_at : ℕ → List ℕ → ℕ
word_at first slots = from_be_bytes w16 (slice_index slots first ∷ slice_index slots (suc first) ∷ [])

-- a failure in seven slots
abbrev pub as_failure : List ℕ → List (List ℕ)
as_failure slots =
    if length slots == 7 then failure_facts (slice_index slots 0) (word_at 1 slots) (word_at 3 slots) (word_at 5 slots) else as_data slots

-- Whether a range has a lower end and an upper one: the least and the greatest number stand for none. Section 10.7.1.
abbrev pub has_lowest : ℤ → Bool
has_lowest low = int_lt (negsuc 32767) low

abbrev pub has_highest : ℤ → Bool
has_highest high = int_lt high (pos 32767)

-- a range: the ends that it has
abbrev pub range_facts : ℤ → ℤ → List (List ℕ)
range_facts low high =
    (if has_lowest low then signed_decimal low ∷ [] else []) ++ (if has_highest high then signed_decimal high ∷ [] else [])

-- the same in four slots
abbrev pub as_range : List ℕ → List (List ℕ)
as_range slots =
    if length slots == 4 then range_facts (cast_signed w16 (word_at 0 slots)) (cast_signed w16 (word_at 2 slots)) else as_data slots

-- What a slot is for, by its type: its label if it is a primary one, whose type is 0, or else the number of its primary slot.
abbrev pub slot_use : ℕ → List ℕ → List (List ℕ)
slot_use kind label = digits (kind ∷ []) ∷ (if kind == 0 then digits label else decimal (number_in label)) ∷ []

-- the same in three slots
abbrev pub as_slot_use : List ℕ → List (List ℕ)
as_slot_use slots = if length slots == 3 then slot_use (slice_index slots 0) (slice_index slots 1 ∷ slice_index slots 2 ∷ []) else as_data slots

-- these fields, if there are so many slots; else the data
abbrev pub exactly : ℕ → List ℕ → List (List (List ℕ)) → List (List ℕ)
exactly slots d fields = if length d == slots then all_of fields else as_data d

-- these fields, if there are so many slots or more; else the data
abbrev pub at_least : ℕ → List ℕ → List (List (List ℕ)) → List (List ℕ)
at_least slots d fields = if nat_le slots (length d) then all_of fields else as_data d

-- The entries of so many slots that data have, of which the last may be cut off: at most as many as are asked for.
abbrev pub entries : ℕ → ℕ → List ℕ → List (List ℕ)
entries zero slots d = []
entries (suc most) slots d = if length d == 0 then [] else take slots d ∷ entries most slots (drop slots d)

-- the facts of each entry, one after the other: there are no more entries than slots
abbrev pub each_entry : ℕ → (List ℕ → List (List ℕ)) → List ℕ → List (List ℕ)
each_entry slots facts d = flat_map facts (entries (length d) slots d)
