-- What status messages name, by the tables of the standard.
use Rattle.std.specs.Prelude.{ℕ, List, [], ◌∷◌, codes, Option}
use Rattle.rdm_health.specs.SensorNames.{named}
use Rattle.rdm_standard_names.specs.Names.{slot_labels}

-- E1.20 table B-2: the texts of status IDs, with `%d`, `%x` and `%L` for their values
abbrev pub status_texts : List (ℕ × List ℕ)
status_texts =
    (0x0001, codes "%L failed calibration") ∷
    (0x0002, codes "%L sensor not found") ∷
    (0x0003, codes "%L sensor always on") ∷
    (0x0004, codes "%L feedback error") ∷
    (0x0005, codes "%L index circuit error") ∷
    (0x0011, codes "lamp doused") ∷
    (0x0012, codes "lamp failed to strike") ∷
    (0x0013, codes "lamp access open") ∷
    (0x0014, codes "lamp on without command") ∷
    (0x0021, codes "sensor %d over temp at %d degrees C") ∷
    (0x0022, codes "sensor %d under temp at %d degrees C") ∷
    (0x0023, codes "sensor %d out of range") ∷
    (0x0031, codes "phase %d over voltage at %d V") ∷
    (0x0032, codes "phase %d under voltage at %d V") ∷
    (0x0033, codes "phase %d over current at %d A") ∷
    (0x0034, codes "phase %d under current at %d A") ∷
    (0x0035, codes "phase %d is at %d degrees") ∷
    (0x0036, codes "phase %d error") ∷
    (0x0037, codes "%d amps") ∷
    (0x0038, codes "%d volts") ∷
    (0x0041, codes "no dimmer") ∷
    (0x0042, codes "tripped breaker") ∷
    (0x0043, codes "%d watts") ∷
    (0x0044, codes "dimmer failure") ∷
    (0x0045, codes "panic mode") ∷
    (0x0046, codes "lamp or cable failure") ∷
    (0x0050, codes "%L ready") ∷
    (0x0051, codes "%L not ready") ∷
    (0x0052, codes "%L low fluid") ∷
    (0x0060, codes "EEPROM error") ∷
    (0x0061, codes "RAM error") ∷
    (0x0062, codes "FPGA programming error") ∷
    (0x0070, codes "proxy dropped a broadcast: PID %x at transaction %d") ∷
    (0x0071, codes "DMX512 with START code %x received OK") ∷
    (0x0072, codes "DMX512 with START code %x now dropped") ∷
    (0x0080, codes "DMX512 null START code never received") ∷
    (0x0081, codes "DMX512 null START code received, now dropped") ∷
    (0x0082, codes "DMX512 null START code timing or packet error") ∷
    (0x0083, codes "DMX512 null START code received OK") ∷ []

-- E1.20 table A-8
abbrev pub lamp_states : List (ℕ × List ℕ)
lamp_states =
    (0x00, codes "off") ∷
    (0x01, codes "on") ∷
    (0x02, codes "strike") ∷
    (0x03, codes "standby") ∷
    (0x04, codes "not present") ∷
    (0x7F, codes "error") ∷ []

-- the text of a status ID
unfoldable pub status_text : ℕ → Option (List ℕ)
status_text number = named status_texts number

-- what a slot controls
unfoldable pub slot_label : ℕ → Option (List ℕ)
slot_label number = named slot_labels number

-- the state of a lamp
unfoldable pub lamp_state : ℕ → Option (List ℕ)
lamp_state number = named lamp_states number
