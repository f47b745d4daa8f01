-- What the commands of a parameter that the maker adds read and write. E1.20 section 10.4.2 and tables A-15 and A-16.
use Rattle.std.specs.Prelude.{ℕ, ℤ, pos, ◌+◌, ◌%◌, Bool, true, false, ◌==◌, ◌&&◌, List, [], ◌∷◌, ◌++◌, find, slice_index, unwrap_or, if◌then◌else◌}
use Rattle.std.specs.List.{list_any}
use Rattle.std.specs.Option.{option_map_or}
use Rattle.std.specs.Int.{w64, cast_unsigned}
use Rattle.rdm_profile.specs.declared.profile.choices.ChoiceName.{ChoiceName}
use Rattle.rdm_profile.specs.declared.profile.locks.Lock.{Lock}
use Rattle.rdm_profile.specs.declared.profile.own.ParameterDef.{ParameterDef}
use Rattle.rdm_profile.specs.declared.profile.own.Rights.{Rights}
use Rattle.rdm_profile.specs.declared.profile.own.Rights.TheVariants as rights
use Rattle.rdm_profile.specs.declared.profile.own.Shape.{Shape}
use Rattle.rdm_profile.specs.declared.profile.own.Shape.TheVariants as shapes
use Rattle.rdm_profile.specs.declared.value.Value.{Value}
use Rattle.rdm_profile.specs.declared.value.Value.TheVariants.{Byte, Word}
use Rattle.rdm_added.specs.Locking.{lock_state, locks_in, pin_kept, knows_pin, knows_old_pin, state_of, new_pin}
use Rattle.rdm_profile.specs.Forms.{Form, nothing, word, sized, value_of}
use Rattle.rdm_added.specs.Scenes.{is_set_of, scene_of, scene_kept, scene_placed}
use Rattle.rdm_profile.specs.Values.{for_byte, for_word, front_word, bytes_of, word_slots, long_slots, byte_or_0, word_or_0, label_in}
use Rattle.rdm_profile.specs.Choices.{greatest, is_name_of, has_name}
use Rattle.rdm_added.specs.Map.{Entry, has_key, lookup}
use Rattle.rdm_profile.specs.OwnParameters.{form_of, number_in, is_within, is_makers}
use Rattle.rdm_added.specs.Spot.{Spot, Range, Change}

-- what is kept of it
abbrev pub added_value : ℕ → Spot → List ℕ
added_value pid spot = lookup spot.added pid 0

-- the count of an order with one more, of which there are 256 numbers
abbrev pub counted : List ℕ → List ℕ
counted bytes = (slice_index bytes 0 + 1) % 256 ∷ []

-- three counts of two slots, each 0
abbrev pub no_counts : List ℕ
no_counts = 0 ∷ 0 ∷ 0 ∷ 0 ∷ 0 ∷ 0 ∷ []

-- the counts of COMMS_STATUS become 0, whatever they start with. Section 10.2.1.
abbrev pub counts_cleared : ParameterDef → Change
counts_cleared d spot v e = if has_key d.pid 0 e then no_counts else e.bytes

-- ---- what a SET of a parameter takes, and keeps, by the commands that it has

-- the slots of a value that is slots
abbrev pub slots_in : Value → List ℕ
slots_in v = unwrap_or (label_in v) []

-- the form of its data, by their shape
abbrev pub form_taken : Shape → Form
form_taken shapes.Scenes = sized 9
form_taken shapes.Lock = sized 3
form_taken shapes.Pin = sized 4
form_taken shapes.Block = word
form_taken shape = form_of shape

abbrev pub form_by : Rights → Shape → Form
form_by rights.Clear shape = nothing
form_by _ shape = form_taken shape

abbrev pub set_form : ParameterDef → Form
set_form d = form_by d.rights d.shape

-- whether it takes a value, by the shape of its data, where this PIN is kept
abbrev pub taken_as : Shape → ParameterDef → List ℕ → Value → Bool
taken_as shapes.Scenes d pin v = is_set_of d (slots_in v)
taken_as shapes.Lock d pin v = knows_pin pin (slots_in v) && is_within d (Byte (state_of (slots_in v)))
taken_as shapes.Pin d pin v = knows_old_pin pin (slots_in v) && is_within d (Word (front_word (slots_in v)))
taken_as shapes.Block d pin v = true
taken_as _ d pin v = is_within d v

abbrev pub taken_by : Rights → ParameterDef → List ℕ → Value → Bool
taken_by rights.Clear d pin v = true
taken_by _ d pin v = taken_as d.shape d pin v

abbrev pub takes : ParameterDef → List ℕ → Value → Bool
takes d pin v = taken_by d.rights d pin v

-- the range
abbrev pub set_range : ParameterDef → Form → Range
set_range d form spot v = takes d (pin_kept spot.added) v

-- which of its entries takes the value, and what that keeps
abbrev pub index_kept : Shape → Value → ℕ
index_kept shapes.Scenes v = scene_of (slots_in v)
index_kept _ v = 0

abbrev pub bytes_kept : Shape → Value → List ℕ
bytes_kept shapes.Scenes v = scene_kept (slots_in v)
bytes_kept shapes.Lock v = state_of (slots_in v) ∷ []
bytes_kept shapes.Pin v = new_pin (slots_in v)
bytes_kept shapes.Block v = []
bytes_kept _ v = bytes_of v

-- what an order keeps: the same, as if it could be read; and of a scene all slots of its SET, since they say which it is
abbrev pub bytes_ordered : Shape → Value → List ℕ
bytes_ordered shapes.Scenes v = bytes_of v
bytes_ordered shape v = bytes_kept shape v

abbrev pub kept_stored : ParameterDef → Change
kept_stored d spot v e = if has_key d.pid (index_kept d.shape v) e then bytes_kept d.shape v else e.bytes

-- An order: its entry takes what it keeps, and it is counted, so that one is told as a change which is as the last.
abbrev pub order_stored : ParameterDef → Change
order_stored d spot v e =
    if has_key d.pid 0 e then bytes_ordered d.shape v else (if has_key d.pid 1 e then counted (lookup spot.added d.pid 1) else e.bytes)

-- what its entries become
abbrev pub stored_by : Rights → ParameterDef → Change
stored_by rights.Set d = order_stored d
stored_by rights.Clear d = counts_cleared d
stored_by _ d = kept_stored d

abbrev pub own_stored : ParameterDef → Change
own_stored d = stored_by d.rights d

-- ---- what the firmware places, whichever commands it has: a value, or a scene as a SET names it

-- whether it keeps data: names are the profile's, and where a block begins is kept by the sub-devices
abbrev pub keeps_data : Shape → Bool
keeps_data shapes.Names = false
keeps_data shapes.Rates = false
keeps_data shapes.Block = false
keeps_data _ = true

-- the form of what is placed
abbrev pub placed_form : Shape → Form
placed_form shapes.Scenes = sized 9
placed_form shape = form_of shape

-- whether it is in range
abbrev pub placed_within : Shape → ParameterDef → Value → Bool
placed_within shapes.Scenes d v = is_set_of d (slots_in v)
placed_within _ d v = is_within d v

-- what the entry keeps that takes it
abbrev pub bytes_placed : Shape → ParameterDef → Value → List ℕ
bytes_placed shapes.Scenes d v = scene_placed d (slots_in v)
bytes_placed _ d v = bytes_of v

abbrev pub placed_stored : ParameterDef → Change
placed_stored d spot v e = if has_key d.pid (index_kept d.shape v) e then bytes_placed d.shape d v else e.bytes

-- ---- FACTORY_DEFAULTS: section 10.5.6

-- the data that a parameter of this PID starts with, if it is one that FACTORY_DEFAULTS sets back, else these
abbrev pub start_in : List ParameterDef → ℕ → List ℕ → List ℕ
start_in ds pid bytes = option_map_or (λ d. d.start) (find (λ d. d.resets && (d.pid == pid)) ds) bytes

-- What the bytes of an entry become when those of these parameters that FACTORY_DEFAULTS sets back take the data that they start with.
-- Orders stay counted, and what one of these locks in this state stays as it is.
abbrev pub set_back_in : List Lock → ℕ → List ParameterDef → Entry → List ℕ
set_back_in locks state ds e =
    if locks_in locks state e.pid then e.bytes else (if e.index == 0 then start_in ds e.pid e.bytes else e.bytes)

-- FACTORY_DEFAULTS sets back those of the maker's own that say so, unless they are locked. Section 10.5.6.
abbrev pub added_set_back : Change
added_set_back spot v e = set_back_in spot.profile.particulars.locks (lock_state spot.added) spot.profile.particulars.own e

-- ---- choices: E1.37-1, CURVE, OUTPUT_RESPONSE_TIME, MODULATION_FREQUENCY and their descriptions

-- the number that is chosen, and the greatest
abbrev pub choice_shown : ParameterDef → Spot → List ℕ
choice_shown d spot = added_value d.pid spot ++ greatest d ∷ []

-- the number of a thing that has a name
abbrev pub a_name : ParameterDef → Form → Range
a_name d form spot v = for_byte (has_name spot.profile.particulars.choices d.pid) v

-- the frequency of a thing, if it is told, and what it is called
abbrev pub name_slots : Shape → ChoiceName → List ℕ
name_slots shapes.Rates c = long_slots c.hertz ++ c.name
name_slots _ c = c.name

-- its number and its name
abbrev pub name_shown : ParameterDef → Spot → Value → List ℕ
name_shown d spot v =
    byte_or_0 v ∷ option_map_or (name_slots d.shape) (find (is_name_of d.pid (byte_or_0 v)) spot.profile.particulars.choices) []

-- ---- PARAMETER_DESCRIPTION: section 10.4.2

-- how many slots its data have; of a text, how many at most
abbrev pub size_of : Shape → ℕ
size_of shapes.Byte = 1
size_of shapes.Word = 2
size_of shapes.Long = 4
size_of shapes.SignedByte = 1
size_of shapes.SignedWord = 2
size_of shapes.SignedLong = 4
size_of shapes.Text = 32
size_of (shapes.Bits n) = n
size_of (shapes.Slots n) = n
size_of shapes.Choice = 1
size_of shapes.Names = 0
size_of shapes.Rates = 0
size_of shapes.Scenes = 9
size_of shapes.Lock = 1
size_of shapes.Pin = 2
size_of shapes.Block = 0

-- the type of its data. Table A-15.
abbrev pub data_type_of : Shape → ℕ
data_type_of shapes.Byte = 0x03
data_type_of shapes.Word = 0x05
data_type_of shapes.Long = 0x07
data_type_of shapes.SignedByte = 0x04
data_type_of shapes.SignedWord = 0x06
data_type_of shapes.SignedLong = 0x08
data_type_of shapes.Text = 0x02
data_type_of (shapes.Bits n) = 0x01
data_type_of (shapes.Slots n) = 0x00
data_type_of shapes.Choice = 0x03
data_type_of shapes.Names = 0x00
data_type_of shapes.Rates = 0x00
data_type_of shapes.Scenes = 0x00
data_type_of shapes.Lock = 0x03
data_type_of shapes.Pin = 0x05
data_type_of shapes.Block = 0x00

-- the commands that it has. Table A-16.
abbrev pub class_of : Rights → ℕ
class_of rights.Get = 0x01
class_of rights.Set = 0x02
class_of rights.Both = 0x03
class_of rights.Clear = 0x03

-- how many numbers the data can say, and one where they are no number
abbrev pub span_of : Shape → ℕ
span_of shapes.Byte = 0x100
span_of shapes.Choice = 0x100
span_of shapes.Lock = 0x100
span_of shapes.Word = 0x10000
span_of shapes.Pin = 0x10000
span_of shapes.Long = 0x100000000
span_of shapes.SignedByte = 0x100
span_of shapes.SignedWord = 0x10000
span_of shapes.SignedLong = 0x100000000
span_of _ = 1

-- a number of the data in four slots, with 00 before it: in two's complement where it is signed, and 0 where the data are no number
abbrev pub four_slots : Shape → ℤ → List ℕ
four_slots shape z = long_slots (cast_unsigned w64 z % span_of shape)

-- the number that it starts with, and 0 where the data are no number
abbrev pub first_number : ParameterDef → ℤ
first_number d = option_map_or (λ v. unwrap_or (number_in d.shape v) (pos 0)) (value_of (form_of d.shape) d.start) (pos 0)

-- the fields of the reply
abbrev pub description_of : ParameterDef → List ℕ
description_of d =
    word_slots d.pid ++ (size_of d.shape ∷ data_type_of d.shape ∷ class_of d.rights ∷ 0 ∷ d.unit ∷ d.prefix ∷ [])
    ++ four_slots d.shape d.low ++ four_slots d.shape d.high ++ four_slots d.shape (first_number d) ++ d.name

-- whether a parameter has this PID
abbrev pub is_pid_of : ℕ → ParameterDef → Bool
is_pid_of pid d = d.pid == pid

-- whether it has a PID that the standard leaves to makers
abbrev pub has_makers_pid : ParameterDef → Bool
has_makers_pid d = is_makers d.pid

-- a parameter that the maker adds, with a PID that the standard leaves to makers
abbrev pub a_makers_pid : Form → Range
a_makers_pid form spot v = for_word (λ pid. is_makers pid && list_any (is_pid_of pid) spot.profile.particulars.own) v

-- the description of a parameter that the maker adds
abbrev pub described : Spot → Value → List ℕ
described spot v = option_map_or description_of (find (is_pid_of (word_or_0 v)) spot.profile.particulars.own) []
