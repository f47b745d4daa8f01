-- What STATUS_MESSAGES tells. E1.20 section 10.3.2.
use Rattle.std.specs.Prelude.{ℕ, List, [], ◌∷◌, ◌++◌, slice_index, Option, Some, None}
use Rattle.std.specs.Option.{option_map}
use Rattle.std.specs.Int.{w16, from_be_bytes, to_be_bytes}
use Rattle.rdm_health.specs.declared.statuses.StatusEntry.{StatusEntry}

-- the number of 16 bits in two slots
abbrev pub word : ℕ → ℕ → ℕ
word high low = from_be_bytes w16 (high ∷ low ∷ [])

-- the entry of nine slots: sub-device, status type, status ID and two values
abbrev pub entry_of : (s t kind i j a b c d : ℕ) → StatusEntry
entry_of s t kind i j a b c d = record { sub = word s t; status_type = kind; id = word i j; first = word a b; second = word c d }

-- An entry for each nine slots, in order; if fewer are left in the end, there is none.
abbrev pub status_entries_in : List ℕ → Option (List StatusEntry)
status_entries_in [] = Some []
status_entries_in (s ∷ t ∷ kind ∷ i ∷ j ∷ a ∷ b ∷ c ∷ d ∷ more) =
    option_map (λ entries. entry_of s t kind i j a b c d ∷ entries) (status_entries_in more)
status_entries_in _ = None

-- the entry of the first nine
abbrev pub first_entry : List ℕ → StatusEntry
first_entry slots =
    entry_of (slice_index slots 0) (slice_index slots 1) (slice_index slots 2) (slice_index slots 3) (slice_index slots 4) (slice_index slots 5)
    (slice_index slots 6) (slice_index slots 7) (slice_index slots 8)

-- the slots of an entry
abbrev pub entry_slots : StatusEntry → List ℕ
entry_slots entry =
    to_be_bytes w16 entry.sub ++ entry.status_type ∷ to_be_bytes w16 entry.id ++ to_be_bytes w16 entry.first ++ to_be_bytes w16 entry.second
