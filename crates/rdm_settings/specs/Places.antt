-- The device that a line is for.
use Rattle.std.specs.Prelude.{ℕ, ◌==◌, ◌||◌, nat_le, List, [], ◌∷◌, length, codes, Option, Some, None, Result, Ok, Err, unwrap_or, if◌then◌else◌}
use Rattle.std.specs.Int.{w16, from_be_bytes}
use Rattle.std.specs.Option.{option_map_or}
use Rattle.std.specs.Result.{result_ok}
use Rattle.std.specs.Str.{str_eq_ignore_ascii_case}
use Rattle.rdm_frame.specs.declared.uid.Uid.{Uid}
use Rattle.rdm_frame.specs.Addressing.{is_broadcast}
use Rattle.rdm_frame.specs.DigitReading.{uid_in, ◌>>=◌}
use Rattle.rdm_profile.specs.declared.profile.fields.Width.TheVariants.{Two}
use Rattle.rdm_entry.specs.declared.field.Field.TheVariants as fields
use Rattle.rdm_entry.specs.declared.error.EntryError.{EntryError}
use Rattle.rdm_entry.specs.Entries.{data_in}
use Rattle.rdm_settings.specs.declared.complaint.Trouble.{Trouble}
use Rattle.rdm_settings.specs.declared.complaint.Trouble.TheVariants as trouble
use Rattle.rdm_settings.specs.declared.column.Role.{Role}
use Rattle.rdm_settings.specs.declared.column.Role.TheVariants as role
use Rattle.rdm_settings.specs.declared.column.Column.{Column}
use Rattle.rdm_settings.specs.Cells.{utf8_in}
use Rattle.rdm_settings.specs.Columns.{is_for}

-- the cell of the first column that has what a role says
abbrev pub under : Role → List Column → List (List ℕ) → Option (List ℕ)
under r [] cells = None
under r (column ∷ columns) [] = None
under r (column ∷ columns) (cell ∷ cells) = if is_for r column then Some cell else under r columns cells

-- the UID of one device. E1.20 section 6.2.4.
abbrev pub one_device : Option Uid → Result Uid Trouble
one_device None = Err trouble.NoUid
one_device (Some uid) = if is_broadcast uid then Err trouble.Several else Ok uid

abbrev pub uid_said : List ℕ → Result Uid Trouble
uid_said cell = one_device (uid_in cell)

-- the number that two slots say
abbrev pub number_of : List ℕ → Option ℕ
number_of slots = if length slots == 2 then Some (from_be_bytes w16 slots) else None

abbrev pub number_said : Result (List ℕ) EntryError → Option ℕ
number_said (Ok slots) = number_of slots
number_said (Err e) = None

-- the number that a cell says, as the data of a command say one
unfoldable pub number_in : List ℕ → Option ℕ
number_in cell = option_map_or (λ word. number_said (data_in (fields.Number Two ∷ []) (word ∷ []))) (utf8_in cell) None

-- The root, or a sub-device from 1 to 512. E1.20 section 9.
unfoldable pub sub_said : List ℕ → Result ℕ Trouble
sub_said cell =
    if (length cell == 0) || str_eq_ignore_ascii_case cell (codes "root") then Ok 0
    else option_map_or (λ n. if nat_le n 512 then Ok n else Err trouble.NoSub) (number_in cell) (Err trouble.NoSub)

-- the device that a line is for, where its cells say one: a UID, and a sub-device, or the root where no column has it
unfoldable pub place_in : List Column → List (List ℕ) → Option (Uid × ℕ)
place_in columns cells = do
  cell ← under role.Uid columns cells
  uid ← result_ok (uid_said cell)
  sub ← result_ok (sub_said (unwrap_or (under role.Sub columns cells) []))
  Some (uid, sub)
