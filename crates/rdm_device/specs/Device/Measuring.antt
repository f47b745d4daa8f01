-- What a sensor shows after it has measured, and of what it keeps. E1.20 sections 10.7.1 and 10.7.2.
use Rattle.std.specs.Prelude.{ℕ, ℤ, ◌%◌, Bool, ◌==◌, nat_le, List, ◌++◌, map, take, drop, slice_index, Option, if◌then◌else◌}
use Rattle.std.specs.Option.{option_map_or}
use Rattle.std.specs.Int.{w16, from_be_bytes, cast_signed, int_min, int_max}
use Rattle.rdm_profile.specs.declared.profile.SensorDef.{SensorDef}
use Rattle.rdm_added.specs.Map.{Entry, has_key}
use Rattle.rdm_profile.specs.Values.{signed_slots}

-- the signed number that 16 bits say
abbrev pub signed_in : List ℕ → ℤ
signed_in bytes = cast_signed w16 (from_be_bytes w16 bytes)

-- What a sensor shows after it has measured v: v is present, the lowest and the highest value take it in, and the
-- recorded value stays. Section 10.7.2.
unfoldable pub measured : ℤ → List ℕ → List ℕ
measured v bytes =
    signed_slots v
    ++ signed_slots (int_min (signed_in (take 2 (drop 2 bytes))) v)
    ++ signed_slots (int_max (signed_in (take 2 (drop 4 bytes))) v)
    ++ drop 6 bytes

-- the sensor of this number shows what is made of the bytes that it shows
abbrev pub at_sensor : (List ℕ → List ℕ) → ℕ → Entry → List ℕ
at_sensor made number e = if has_key 0x0201 number e then made e.bytes else e.bytes

-- the sensor of this number has measured v
abbrev pub measured_by : ℕ → ℤ → Entry → List ℕ
measured_by number v e = at_sensor (measured v) number e

-- The sensor that the first of these 9 slots names shows the other eight: the present, the lowest, the highest and the
-- recorded value, as SENSOR_VALUE replies them. Section 10.7.2.
abbrev pub placed_by : List ℕ → Entry → List ℕ
placed_by slots e = at_sensor (λ bytes. drop 1 slots) (slice_index slots 0) e

-- ---- what it supports

-- whether a sensor supports the recorded value, which is bit 0. Section 10.7.1.
abbrev pub records : SensorDef → Bool
records d = d.support % 2 == 1

-- whether it supports the lowest and the highest value, which is bit 1. Section 10.7.1.
abbrev pub keeps_extremes : SensorDef → Bool
keeps_extremes d = nat_le 2 (d.support % 4)

-- the slots of a value that is supported, and 0 in their place if it isn't
abbrev pub or_zero : Bool → List ℕ → List ℕ
or_zero supported slots = if supported then slots else map (λ slot. 0) slots

-- What a sensor shows of its four values: 0 for each that it doesn't support. Section 10.7.2.
abbrev pub supported_slots : SensorDef → List ℕ → List ℕ
supported_slots d slots = take 2 slots ++ or_zero (keeps_extremes d) (take 4 (drop 2 slots)) ++ or_zero (records d) (drop 6 slots)

-- the same of the sensor that there may be
abbrev pub shown_slots : Option SensorDef → List ℕ → List ℕ
shown_slots sensor slots = option_map_or (λ d. supported_slots d slots) sensor slots
