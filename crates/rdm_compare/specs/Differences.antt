-- What has changed from one survey of a line to another.
use Rattle.std.specs.Prelude.{ℕ, ◌==◌, List, [], ◌∷◌, ◌++◌, find, Option, Some, None, if◌then◌else◌}
use Rattle.std.specs.List.{flat_map}
use Rattle.rdm_frame.specs.declared.uid.Uid.{Uid}
use Rattle.rdm_frame.specs.Addressing.{same_uid}
use Rattle.rdm_survey.specs.declared.row.SubDevice.{SubDevice}
use Rattle.rdm_compare.specs.declared.difference.Difference.{Difference}
use Rattle.rdm_compare.specs.declared.difference.Difference.TheVariants.{Gone, New, Changed}
use Rattle.rdm_compare.specs.declared.field.Field.{Field}
use Rattle.rdm_compare.specs.declared.field.Field.TheVariants as field
use Rattle.rdm_compare.specs.declared.field.Told.{Told}
use Rattle.rdm_compare.specs.declared.field.Told.TheVariants as told
use Rattle.rdm_compare.specs.declared.kept.Kept.{Kept}
use Rattle.rdm_compare.specs.Fields.{a_number, fields, same_told, told_in}

-- the fixture with a UID, and the sub-device with a number
abbrev pub fixture_of : Uid → List Kept → Option Kept
fixture_of uid list = find (λ k. same_uid k.uid uid) list

abbrev pub sub_of : ℕ → List SubDevice → Option SubDevice
sub_of number list = find (λ s. s.number == number) list

-- A field has changed if both surveys tell it, and not the same.
unfoldable pub changed : Uid → ℕ → Field → Option Told → Option Told → List Difference
changed uid sub f (Some was) (Some is) = if same_told was is then [] else Changed uid sub f was is ∷ []
changed uid sub f (Some was) None = []
changed uid sub f None is = []

unfoldable pub field_change : Kept → Kept → Field → List Difference
field_change was is f = changed was.uid 0 f (told_in f was) (told_in f is)

-- a sub-device that was there, with what the other survey has of it
abbrev pub sub_changes : Uid → SubDevice → Option SubDevice → List Difference
sub_changes uid was None = Gone uid was.number ∷ []
sub_changes uid was (Some is) =
    changed uid was.number field.Address (a_number was.address) (a_number is.address)
    ++ changed uid was.number field.Footprint (Some (told.Number was.footprint)) (Some (told.Number is.footprint))

unfoldable pub sub_fate : Uid → List SubDevice → SubDevice → List Difference
sub_fate uid now was = sub_changes uid was (sub_of was.number now)

abbrev pub new_sub : Uid → SubDevice → Option SubDevice → List Difference
new_sub uid is None = New uid is.number None ∷ []
new_sub uid is (Some was) = []

unfoldable pub sub_arrival : Uid → List SubDevice → SubDevice → List Difference
sub_arrival uid before is = new_sub uid is (sub_of is.number before)

-- The changes of a fixture that is there both times: its fields in order, its sub-devices that were there, and those that are new.
abbrev pub changes : Kept → Kept → List Difference
changes was is =
    flat_map (field_change was is) fields ++ flat_map (sub_fate was.uid is.sub_devices) was.sub_devices
    ++ flat_map (sub_arrival was.uid was.sub_devices) is.sub_devices

-- a fixture that was there, with what the other survey has of it
abbrev pub fixture_changes : Kept → Option Kept → List Difference
fixture_changes was None = Gone was.uid 0 ∷ []
fixture_changes was (Some is) = changes was is

unfoldable pub fate : List Kept → Kept → List Difference
fate now was = fixture_changes was (fixture_of was.uid now)

abbrev pub new_fixture : Kept → Option Kept → List Difference
new_fixture is None = New is.uid 0 is.model ∷ []
new_fixture is (Some was) = []

unfoldable pub arrival : List Kept → Kept → List Difference
arrival before is = new_fixture is (fixture_of is.uid before)

-- What has become of each fixture that was there, in the order of that survey, and then those that are new.
abbrev pub differences : List Kept → List Kept → List Difference
differences before now = flat_map (fate now) before ++ flat_map (arrival before) now
