-- What the code's tables of fields name: they give the facts of DataFacts, which a reader needs. These definitions join the two.
use Rattle.std.specs.Prelude.{◌≡◌, ℕ, ◌==◌, nat_le, ◌&&◌, Bool, true, false, length, List, [], ◌∷◌, ◌++◌, codes, decimal, Option, Some, None, if◌then◌else◌}
use Rattle.std.specs.List.{flat_map, list_all, list_any}
use Rattle.rdm_frame.specs.Digits.{digits}
use Rattle.rdm_words.specs.declared.data.form.Field.{Field}
use Rattle.rdm_words.specs.declared.data.form.Form.{Form}
use Rattle.rdm_words.specs.declared.data.form.Form.TheVariants.{Nothing, Shown, Code, StatusType, Fields, InShort, OneOf, Languages, List as Entries}
use Rattle.rdm_words.specs.declared.data.form.Layout.{Layout}
use Rattle.rdm_words.specs.declared.data.form.List.{List as Entered}
use Rattle.rdm_words.specs.declared.data.form.List.TheVariants.{Parameters, Statuses, Slots, SlotDefaults}
use Rattle.rdm_words.specs.declared.data.form.Meaning.{Meaning}
use Rattle.rdm_words.specs.declared.data.form.Meaning.TheVariants as meaning
use Rattle.rdm_words.specs.declared.data.form.Record.{Record}
use Rattle.rdm_words.specs.declared.data.form.Record.TheVariants.{Exactly, AtLeast}
use Rattle.rdm_words.specs.declared.data.form.Value.{Value}
use Rattle.rdm_words.specs.declared.data.form.Value.TheVariants.{Number, Digits, Text, Code as Coded, Counted, Other}
use Rattle.rdm_standard_names.specs.declared.table.Table.{Table}
use Rattle.rdm_standard_names.specs.Tables.{has_name}
use Rattle.rdm_words.specs.DataFacts.{languages, supported, status_message, slot_info, slot_default}
use Rattle.rdm_words.specs.FieldFacts.{slots_at, number_in, as_number, as_digits, as_text, as_data, as_signed, as_measured, as_uid, as_parameter, as_place, as_failure, as_range, as_slot_use, each_entry}
use Rattle.rdm_words.specs.HeaderWords.{quoted, with_number}
use Rattle.rdm_words.specs.Naming.{is_apart, NamesInLine}

-- words that end with a byte that ends a word, or none
abbrev pub ends_apart : List ℕ → Bool
ends_apart [] = true
ends_apart (b ∷ []) = is_apart b
ends_apart (b ∷ c ∷ words) = ends_apart (c ∷ words)

-- words that begin with such a byte
abbrev pub begins_apart : List ℕ → Bool
begins_apart [] = false
begins_apart (b ∷ words) = is_apart b

-- the words before a field keep it apart from the field before
abbrev pub is_separated : Field → Bool
is_separated field = begins_apart field.0.now && ends_apart field.0.now

abbrev pub are_separated : List Field → Bool
are_separated [] = true
are_separated (first ∷ others) = ends_apart first.0.now && list_all is_separated others

abbrev pub counted_facts : Table → List ℕ → List (List ℕ)
counted_facts table slots = (if has_name table (number_in slots) then digits slots else decimal (number_in slots)) ∷ []

-- slots with a meaning that only some parameters have
abbrev pub meaning_facts : Meaning → List ℕ → List (List ℕ)
meaning_facts meaning.Signed slots = as_signed slots
meaning_facts meaning.Measured slots = as_measured slots
meaning_facts meaning.Uid slots = as_uid slots
meaning_facts meaning.Parameter slots = as_parameter slots
meaning_facts meaning.Place slots = as_place slots
meaning_facts meaning.Failure slots = as_failure slots
meaning_facts meaning.SlotUse slots = as_slot_use slots
meaning_facts meaning.StatusId slots = as_digits slots
meaning_facts meaning.Range slots = as_range slots
meaning_facts meaning.Unit slots = as_digits slots
meaning_facts meaning.Control slots = as_digits slots
meaning_facts other slots = []

-- slots that are said as such a value
abbrev pub slots_facts : Value → List ℕ → List (List ℕ)
slots_facts Number slots = as_number slots
slots_facts Digits slots = as_digits slots
slots_facts Text slots = as_text slots
slots_facts (Coded table) slots = as_digits slots
slots_facts (Counted before table) slots = if ends_apart before.now then counted_facts table slots else []
slots_facts (Other what) slots = meaning_facts what slots

abbrev pub field_facts : List ℕ → Field → List (List ℕ)
field_facts d field = slots_facts field.3 (slots_at field.1 field.2 d)

abbrev pub fields_of : Record → List Field
fields_of (Exactly slots fields) = fields.now
fields_of (AtLeast slots fields) = fields.now

abbrev pub fits : Record → List ℕ → Bool
fits (Exactly slots fields) d = length d == slots
fits (AtLeast slots fields) d = nat_le slots (length d)

abbrev pub fields_facts : List Field → List ℕ → List (List ℕ)
fields_facts fields d = if are_separated fields then flat_map (field_facts d) fields else []

abbrev pub laid_facts : Record → List ℕ → List (List ℕ)
laid_facts laid d = if fits laid d then fields_facts (fields_of laid) d else as_data d

-- the first of the others that has as many slots, or else the record itself
abbrev pub one_of : Record → Record → Record → List ℕ → List (List ℕ)
one_of laid first second d =
    if fits first d then fields_facts (fields_of first) d else if fits second d then fields_facts (fields_of second) d else laid_facts laid d

-- how many slots an entry of a list has, and what it names
abbrev pub entry_slots : Entered → ℕ
entry_slots Parameters = 2
entry_slots Statuses = 9
entry_slots Slots = 5
entry_slots SlotDefaults = 3

abbrev pub entry_facts : Entered → List ℕ → List (List ℕ)
entry_facts Parameters d = supported d
entry_facts Statuses d = status_message d
entry_facts Slots d = slot_info d
entry_facts SlotDefaults d = slot_default d

abbrev pub list_facts : Entered → List ℕ → List (List ℕ)
list_facts entered d = each_entry (entry_slots entered) (λ entry. entry_facts entered entry) d

abbrev pub form_facts : Form → List ℕ → List (List ℕ)
form_facts Nothing d = as_data d
form_facts Shown d = as_data d
form_facts (Code table) d = as_data d
form_facts StatusType d = as_data d
form_facts (Fields laid) d = laid_facts laid d
form_facts (InShort laid short) d = laid_facts laid d
form_facts (OneOf laid first second) d = one_of laid first second d
form_facts Languages d = languages d
form_facts (Entries entered) d = list_facts entered d

abbrev pub layout_facts : Option Layout → List ℕ → List (List ℕ)
layout_facts None d = as_data d
layout_facts (Some layout) d = form_facts layout.1 d

-- what the data are, if that is said
abbrev pub noun_words : List ℕ → List ℕ
noun_words noun = if length noun == 0 then [] else noun ++ codes " "

-- data without fields
abbrev pub data_words : List ℕ → List ℕ
data_words d = if length d == 0 then codes "no data" else codes "data " ++ digits d

-- A field is said: the words that stand before it, and words that name these facts.
pub record SaysField (before : List ℕ) (facts : List (List ℕ)) (old new : List ℕ) : Type 0 where
  pub words : List ℕ
  pub whole : new ≡ old ++ (before ++ words)
  pub named : NamesInLine facts words

-- Fields of these data are said, one after the other.
abbrev pub AreSaid : List ℕ → List Field → List ℕ → List ℕ → Type 0
AreSaid d [] old new = new ≡ old
AreSaid d (field ∷ fields) old new = (mid : List ℕ) × SaysField field.0.now (field_facts d field) old mid × AreSaid d fields mid new

-- a parameter of a list: by the standard's name, by the fixture's own, or by its PID alone
abbrev pub listed_words : Option (List ℕ) → Option (List ℕ) → List ℕ → List ℕ
listed_words (Some name) own pid = with_number name pid
listed_words None (Some own) pid = with_number (quoted own) pid
listed_words None None pid = pid
