-- What is said of the value of a sensor. E1.20 section 10.7.1.
use Rattle.std.specs.Prelude.{◌≡◌, ◌⊎◌, ℕ, ℤ, int_le, int_lt, Bool, true, false, not, ◌&&◌, ◌||◌, List, codes, Option, Some, if◌then◌else◌}
use Rattle.rdm_words.specs.FieldFacts.{has_highest, has_lowest}
use Rattle.rdm_health.specs.declared.sensors.SensorDefinition.{SensorDefinition}
use Rattle.rdm_health.specs.declared.sensors.SensorValue.{SensorValue}
use Rattle.rdm_health.specs.declared.verdict.Verdict.{Verdict}
use Rattle.rdm_health.specs.declared.verdict.Verdict.TheVariants as verdict

-- An end that isn't defined is the least or the greatest number, and leaves nothing out.
abbrev pub is_within : ℤ → ℤ → ℤ → Bool
is_within lowest highest v = int_le lowest v && int_le v highest

-- an end of its normal range is defined
abbrev pub tells_normal : SensorDefinition → Bool
tells_normal d = has_lowest d.normal_lowest || has_highest d.normal_highest

-- the value is in the normal range, if that is defined
abbrev pub is_normal : SensorDefinition → ℤ → Bool
is_normal d v = tells_normal d && is_within d.normal_lowest d.normal_highest v

-- What is in the normal range is fine. Of what isn't, the range of the sensor is told first.
abbrev pub verdict_of : SensorDefinition → ℤ → Verdict
verdict_of d v =
    if is_normal d v then verdict.Fine
    else if not (is_within d.lowest d.highest v) then verdict.OutOfRange
    else if int_lt v d.normal_lowest then verdict.BelowNormal
    else if int_lt d.normal_highest v then verdict.AboveNormal
    else verdict.Fine

-- the same, if both are told
abbrev pub verdict_on : Option SensorDefinition → Option SensorValue → Verdict
verdict_on (Some d) (Some value) = verdict_of d value.present
verdict_on _ _ = verdict.NotTold

abbrev pub verdict_word : Verdict → List ℕ
verdict_word verdict.Fine = codes "ok"
verdict_word verdict.BelowNormal = codes "below normal"
verdict_word verdict.AboveNormal = codes "above normal"
verdict_word verdict.OutOfRange = codes "out of range"
verdict_word verdict.NotTold = codes "not reported"

-- What it says of the value is so: it is fine if it is in the normal range, or none is defined and it is in the range of the sensor.
abbrev pub IsRight : Verdict → SensorDefinition → ℤ → Type 0
IsRight verdict.Fine d v = (is_normal d v ≡ true) ⊎ ((tells_normal d ≡ false) × (is_within d.lowest d.highest v ≡ true))
IsRight verdict.BelowNormal d v = int_lt v d.normal_lowest ≡ true
IsRight verdict.AboveNormal d v = int_lt d.normal_highest v ≡ true
IsRight verdict.OutOfRange d v = is_within d.lowest d.highest v ≡ false
IsRight verdict.NotTold d v = ⊥
