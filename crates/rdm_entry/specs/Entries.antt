-- What words say for the fields of parameter data, one word a field.
use Rattle.std.specs.Prelude.{ℕ, ◌+◌, ◌-◌, Bool, ◌==◌, nat_le, nat_lt, List, [], ◌∷◌, ◌++◌, length, Result, Ok, Err, if◌then◌else◌}
use Rattle.rdm_entry.specs.declared.field.Field.{Field}
use Rattle.rdm_entry.specs.declared.error.EntryError.{EntryError}
use Rattle.rdm_entry.specs.declared.error.Wrong.{Wrong}
use Rattle.rdm_entry.specs.declared.error.Wrong.TheVariants as wrong
use Rattle.rdm_entry.specs.Words.{said}

-- the word at this index is wrong for this reason
abbrev pub at : ℕ → Wrong → Result (List ℕ) EntryError
at index reason = Err (record { index = index; wrong = reason })

-- data with these in front
abbrev pub behind : List ℕ → Result (List ℕ) EntryError → Result (List ℕ) EntryError
behind front (Ok slots) = Ok (front ++ slots)
behind front (Err e) = Err e

-- What a word says, and what those behind it do where so many slots are left.
abbrev pub with_word : ℕ → ℕ → Result (List ℕ) Wrong → (ℕ → Result (List ℕ) EntryError) → Result (List ℕ) EntryError
with_word index room (Err reason) rest = at index reason
with_word index room (Ok slots) rest =
    if nat_lt room (length slots) then at index wrong.NoRoom else behind slots (rest (room - length slots))

-- The data that words say for fields: each word the slots of its field, one after the other; or the first word that says
-- nothing, by its index, and why. So many words stand before these, and there is room for so many slots.
abbrev pub entered : ℕ → ℕ → List Field → List (List ℕ) → Result (List ℕ) EntryError
entered index room [] [] = Ok []
entered index room [] (word ∷ words) = at index wrong.Surplus
entered index room (field ∷ fields) [] = at index wrong.Missing
entered index room (field ∷ fields) (word ∷ words) =
    with_word index room (said field word) (λ left. entered (index + 1) left fields words)

-- the data that words say, of at most as many slots as a frame carries. E1.20 section 6.2.10.
unfoldable pub data_in : List Field → List (List ℕ) → Result (List ℕ) EntryError
data_in fields words = entered 0 231 fields words
