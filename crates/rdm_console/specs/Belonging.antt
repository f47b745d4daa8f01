-- Which message is the result of a command that was answered by ACK_TIMER. E1.20 sections 6.3.3 and 10.3.1, and E1.37-1.
use Rattle.std.specs.Prelude.{ℕ, ◌+◌, Bool, true, false, ◌&&◌, ◌||◌, ◌==◌, if◌then◌else◌, List, take}
use Rattle.std.specs.Str.{bytes_eq}
use Rattle.rdm_collector.specs.declared.command.Action.{Action}
use Rattle.rdm_collector.specs.declared.command.Action.TheVariants.{Disc, Get, Set}
use Rattle.rdm_collector.specs.declared.command.Command.{Command}
use Rattle.rdm_collector.specs.declared.reply.Response.{Response}
use Rattle.rdm_collector.specs.declared.reply.Response.TheVariants.{Ack, AckOverflow}
use Rattle.rdm_collector.specs.Requests.{class_of}

-- A message that a device sent, whole: its response type, command class, sub-device and parameter, and the data of all its parts.
-- Sections 6.3 and 6.3.2.
pub record Told : Type 0 where
  pub response : Response
  pub class : ℕ
  pub sub : ℕ
  pub pid : ℕ
  pub body : List ℕ

-- The parameters whose value has an index of one slot: the data of a GET are the index, and those of the response begin with it.
abbrev pub has_short_index : ℕ → Bool
has_short_index pid =
    (pid == 0x00E1)  -- DMX_PERSONALITY_DESCRIPTION: the personality. Section 10.6.2.
    || (pid == 0x0200)  -- SENSOR_DEFINITION: the sensor. Section 10.7.1.
    || (pid == 0x0201)  -- SENSOR_VALUE: the sensor. Section 10.7.2.
    || (pid == 0x1021)  -- SELF_TEST_DESCRIPTION: the self test. Section 10.11.
    || (pid == 0x0344)  -- CURVE_DESCRIPTION: the curve. E1.37-1, as the three below.
    || (pid == 0x0346)  -- OUTPUT_RESPONSE_TIME_DESCRIPTION: the response time
    || (pid == 0x0348)  -- MODULATION_FREQUENCY_DESCRIPTION: the frequency
    || (pid == 0x0642)  -- LOCK_STATE_DESCRIPTION: the state

-- Those whose index has two slots. STATUS_ID_DESCRIPTION isn't one: its response is the text alone. Section 10.3.3.
abbrev pub has_long_index : ℕ → Bool
has_long_index pid =
    (pid == 0x0051)  -- PARAMETER_DESCRIPTION: the parameter. Section 10.4.2.
    || (pid == 0x0121)  -- SLOT_DESCRIPTION: the slot. Section 10.6.5.
    || (pid == 0x1042)  -- PRESET_STATUS: the scene. E1.37-1.

-- how many slots of index the data of a GET response begin with
abbrev pub index_size : ℕ → ℕ
index_size pid = if has_short_index pid then 1 else if has_long_index pid then 2 else 0

-- How many slots of index the data of a response begin with. The response to a SET has data for SENSOR_VALUE alone.
abbrev pub index_size_of : Action → ℕ → ℕ
index_size_of Get pid = index_size pid
index_size_of Set pid = if pid == 0x0201 then 1 else 0
index_size_of Disc pid = 0

-- the data of a message begin with the same slots of index as those of a command
abbrev pub same_index : ℕ → Command → Told → Bool
same_index size c m = bytes_eq (take size m.body) (take size c.load)

-- The data of a NACK are its reason, and those of an ACK_TIMER the estimate: there is no index to compare. Sections 6.3.3 and 6.3.4.
abbrev pub has_value : Response → Bool
has_value Ack = true
has_value AckOverflow = true
has_value _ = false

abbrev pub fits_index : Command → Told → Bool
fits_index c m = if has_value m.response then same_index (index_size_of c.action c.pid) c m else true

-- The message is the result of the command: it has the class of its response, its parameter and sub-device, and the index that the
-- command asks for.
unfoldable pub belongs : Command → Told → Bool
belongs c m = (m.class == class_of c.action + 1) && (m.pid == c.pid) && (m.sub == c.sub) && fits_index c m
