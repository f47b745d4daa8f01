-- With what a fixture is switched on beside its profile: what its counters and its sensors show.
use Rattle.std.specs.Prelude.{ℕ, ◌/◌, ◌%◌, ◌==◌, ℤ, List, [], ◌∷◌, ◌++◌, map, Option, Some, None, option_map, if◌then◌else◌, codes}
use Rattle.rdm_profile.specs.declared.profile.SensorDef.{SensorDef}
use Rattle.rdm_profile.specs.Values.{signed_slots}
use Rattle.toml.specs.Data.{Data, Members}
use Rattle.rdm_fixture.specs.declared.starting.Starting.{Starting}
use Rattle.rdm_fixture_keys.specs.Keys.{May}
use Rattle.rdm_fixture.specs.Lists.{Lists, OfTable}
use Rattle.rdm_fixture.specs.Notices.{IsNotice}
use Rattle.rdm_fixture.specs.OverTime.{IsCourse, no_courses}
use Rattle.rdm_fixture_keys.specs.Values.{number, signed}

-- ---- counters: sections 10.8.1 to 10.8.6

abbrev pub counter_keys : List (List ℕ)
counter_keys = codes "device_hours" ∷ codes "lamp_hours" ∷ codes "lamp_strikes" ∷ codes "device_power_cycles" ∷ []

-- What the counters of the root show. Each of which nothing is said shows 0.
pub record IsCounted (t : Members) (s : Starting) : Type 0 where
  pub device_hours : May t (codes "device_hours") 0 (number 0 0xFFFFFFFF) s.device_hours
  pub lamp_hours : May t (codes "lamp_hours") 0 (number 0 0xFFFFFFFF) s.lamp_hours
  pub lamp_strikes : May t (codes "lamp_strikes") 0 (number 0 0xFFFFFFFF) s.lamp_strikes
  pub device_power_cycles : May t (codes "device_power_cycles") 0 (number 0 0xFFFFFFFF) s.device_power_cycles

-- ---- sensors: section 10.7.2

abbrev pub measured : Data → Option (Option ℤ)
measured d = option_map (λ z. Some z) (signed d)

-- What a sensor has measured. One of which nothing is said has measured nothing.
abbrev pub SaysPresent : Members → Option ℤ → Type 0
SaysPresent t present = May t (codes "present") None measured present

-- the fixture of which nothing is said
abbrev pub nothing_measured : List SensorDef → Starting
nothing_measured sensors = record {
  device_hours = 0;
  lamp_hours = 0;
  lamp_strikes = 0;
  device_power_cycles = 0;
  presents = record { items = map (λ s. None) sensors };
  courses = record { items = no_courses sensors };
  notices = record { items = [] };
}

-- the lowest and the highest value of a sensor that keeps them (bit 1 of its support) are what it has measured
abbrev pub ends_at_start : ℤ → ℕ → List ℕ
ends_at_start present support = if support / 2 % 2 == 1 then signed_slots present else 0 ∷ 0 ∷ []

-- What SENSOR_VALUE replies of a sensor that has measured this, and has recorded nothing.
abbrev pub shown_at_start : ℕ → ℤ → ℕ → List ℕ
shown_at_start number present support =
    number ∷ (signed_slots present ++ (ends_at_start present support ++ (ends_at_start present support ++ 0 ∷ 0 ∷ [])))

-- ---- the whole

pub record IsStarting (t : Members) (s : Starting) : Type 0 where
  pub counted : IsCounted t s
  pub presents : Lists t (codes "sensor") (OfTable SaysPresent) 0 8 s.presents.items
  pub courses : Lists t (codes "sensor") (OfTable IsCourse) 0 8 s.courses.items
  pub notices : Lists t (codes "status_message") (OfTable IsNotice) 0 16 s.notices.items
