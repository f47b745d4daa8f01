-- What SENSOR_DEFINITION and SENSOR_VALUE tell. E1.20 sections 10.7.1 and 10.7.2.
use Rattle.std.specs.Prelude.{ℕ, ℤ, ◌==◌, ◌/◌, ◌%◌, nat_le, ◌&&◌, Bool, List, length, drop, slice_index, Option, Some, None, if◌then◌else◌}
use Rattle.std.specs.Int.{w16, cast_signed}
use Rattle.rdm_survey.specs.DeviceInfos.{word_at}
use Rattle.rdm_health.specs.declared.sensors.SensorDefinition.{SensorDefinition}
use Rattle.rdm_health.specs.declared.sensors.SensorValue.{SensorValue}

-- the number with a sign in the two slots from a place on
abbrev pub signed_at : List ℕ → ℕ → ℤ
signed_at slots i = cast_signed w16 (word_at slots i)

-- Of what it supports, bit 0 says that it records a value, and bit 1 that it keeps the lowest and the highest.
abbrev pub records : ℕ → Bool
records support = support % 2 == 1

abbrev pub keeps_extremes : ℕ → Bool
keeps_extremes support = (support / 2) % 2 == 1

-- What 13 slots and a text of at most 32 tell; other data tell nothing.
abbrev pub definition_in : List ℕ → Option SensorDefinition
definition_in slots = if nat_le 13 (length slots) && nat_le (length slots) 45 then Some (record {
  number = slice_index slots 0;
  kind = slice_index slots 1;
  unit = slice_index slots 2;
  prefix = slice_index slots 3;
  lowest = signed_at slots 4;
  highest = signed_at slots 6;
  normal_lowest = signed_at slots 8;
  normal_highest = signed_at slots 10;
  keeps_extremes = keeps_extremes (slice_index slots 12);
  keeps_recorded = records (slice_index slots 12);
  description = drop 13 slots;
}) else None

-- a sensor measures this now, and keeps these
abbrev pub value_with : List ℕ → Option ℤ → Option ℤ → Option ℤ → SensorValue
value_with slots lowest highest recorded = record {
  number = slice_index slots 0;
  present = signed_at slots 1;
  lowest = lowest;
  highest = highest;
  recorded = recorded;
}

-- What nine slots tell. The recorded value may be left out, or the lowest and the highest. Other data tell nothing.
abbrev pub value_in : List ℕ → Option SensorValue
value_in slots =
    if length slots == 9 then Some (value_with slots (Some (signed_at slots 3)) (Some (signed_at slots 5)) (Some (signed_at slots 7)))
    else if length slots == 7 then Some (value_with slots (Some (signed_at slots 3)) (Some (signed_at slots 5)) None)
    else if length slots == 5 then Some (value_with slots None None (Some (signed_at slots 3)))
    else None
