-- What a fixture counts when it is switched on, and its values are restored.
use Rattle.std.specs.Prelude.{ℕ, ◌+◌, List, min, if◌then◌else◌}
use Rattle.std.specs.Int.{w32, from_be_bytes}
use Rattle.rdm_added.specs.Map.{Entry, has_key, update}
use Rattle.rdm_added.specs.Parameters.{Parameters}
use Rattle.rdm_profile.specs.Values.{long_slots}

-- a number of 32 bits and one more, but no more than they can say
abbrev pub one_more : List ℕ → List ℕ
one_more bytes = long_slots (min (from_be_bytes w32 bytes + 1) 4294967295)

-- the number of power cycles counts one more, and each other value stays
abbrev pub counted : Entry → List ℕ
counted e = if has_key 0x0405 0 e then one_more e.bytes else e.bytes

-- The values after the fixture is switched on: DEVICE_POWER_CYCLES counts one more. Section 10.8.6.
unfoldable pub powered_on : Parameters → Parameters
powered_on p = record p { root = update counted p.root }
