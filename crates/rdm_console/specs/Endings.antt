-- How a command ends that was answered by ACK_TIMER. E1.20 sections 6.3.3, 6.3.4, 10.3.1 and 10.3.2.
use Rattle.std.specs.Prelude.{ℕ, zero, suc, ◌+◌, ◌*◌, ◌/◌, Bool, true, false, ◌&&◌, ◌||◌, ◌==◌, if◌then◌else◌, List, length, slice_index, Option, Some, None}
use Rattle.std.specs.Option.{option_map_or, option_and_then, option_or}
use Rattle.rdm_frame.specs.Reading.{word_at}
use Rattle.rdm_frame.specs.declared.status.Entry.{Entry}
use Rattle.rdm_frame.specs.declared.status.Severity.{Severity}
use Rattle.rdm_frame.specs.declared.status.Severity.TheVariants.{Advisory, Warning, Error}
use Rattle.rdm_frame.specs.Severities.{severity_in}
use Rattle.rdm_collector.specs.declared.command.Action.{Action}
use Rattle.rdm_collector.specs.declared.command.Action.TheVariants.{Set}
use Rattle.rdm_collector.specs.declared.command.Command.{Command}
use Rattle.rdm_collector.specs.declared.reply.Response.{Response}
use Rattle.rdm_collector.specs.declared.reply.Response.TheVariants.{Ack, AckTimer, Nack, AckOverflow}
use Rattle.rdm_console.specs.declared.awaiting.Verdict.{Verdict}
use Rattle.rdm_console.specs.declared.awaiting.Verdict.TheVariants as verdict
use Rattle.rdm_console.specs.Belonging.{Told, belongs, index_size, same_index}

-- What a command's own result comes to. A part of a message whose rest didn't come is no result.
abbrev pub verdict_by : Response → Verdict
verdict_by Ack = verdict.Done
verdict_by (AckTimer tenths) = verdict.NeedsTime tenths
verdict_by (Nack reason) = verdict.Rejected reason
verdict_by AckOverflow = verdict.Waits

-- ---- a SET that failed

abbrev pub is_set : Action → Bool
is_set Set = true
is_set _ = false

abbrev pub is_ack : Response → Bool
is_ack Ack = true
is_ack _ = false

-- The message tells the value of what a SET was to set, unasked: the device kept it, or somebody changed it at the device.
unfoldable pub tells_value : Command → Told → Bool
tells_value c m =
    is_set c.action && is_ack m.response && (m.class == 0x21) && (m.pid == c.pid) && (m.sub == c.sub) && same_index (index_size c.pid) c m

-- it is a status message. Section 10.3.2.
abbrev pub is_status : Told → Bool
is_status m = is_ack m.response && (m.class == 0x21) && (m.pid == 0x0030)

-- it isn't over: a cleared form says that something is well again. Table A-4.
abbrev pub is_standing : Severity → Bool
is_standing Advisory = true
is_standing Warning = true
is_standing Error = true
is_standing _ = false

abbrev pub cause_with : ℕ → Entry → Option Entry
cause_with sub e = if (e.sub == sub) && is_standing e.severity then Some e else None

-- the entry at a slot: sub-device, status type, status ID and two values, in nine slots. Section 10.3.2.
abbrev pub entry_with : List ℕ → ℕ → Severity → Entry
entry_with body slot severity = record {
  sub = word_at body slot;
  severity = severity;
  id = word_at body (slot + 3);
  v1 = word_at body (slot + 5);
  v2 = word_at body (slot + 7);
}

-- it, if it says what is wrong with a sub-device
unfoldable pub cause_at : ℕ → List ℕ → ℕ → Option Entry
cause_at sub body slot =
    option_and_then (λ severity. cause_with sub (entry_with body slot severity)) (severity_in (slice_index body (slot + 2)))

-- the newest of the first entries that says what is wrong with it: the last, since they are in order of time
abbrev pub newest_cause : ℕ → List ℕ → ℕ → Option Entry
newest_cause sub body zero = None
newest_cause sub body (suc n) = option_or (cause_at sub body (9 * n)) (newest_cause sub body n)

-- what is wrong with a sub-device, by a message: nothing unless it is a status message
abbrev pub cause_in : ℕ → Told → Option Entry
cause_in sub m = if is_status m then newest_cause sub m.body (length m.body / 9) else None

-- ---- a console that waits for the result

-- What a contract sees of it: the command, and whether a message has told the value of what it was to set.
pub record Waiting : Type 0 where
  pub command : Command
  pub value_told : Bool

abbrev pub new_waiting : Command → Waiting
new_waiting c = record { command = c; value_told = false }

-- What a message says of the command. It is its result; or the SET failed, since its value was told in place of the result, and now
-- what is wrong with its sub-device is; or the result is still to come.
unfoldable pub verdict_on : Waiting → Told → Verdict
verdict_on w m =
    if belongs w.command m then verdict_by m.response
    else if w.value_told then option_map_or verdict.Failed (cause_in w.command.sub m) verdict.Waits
    else verdict.Waits

abbrev pub after_hearing : Waiting → Told → Waiting
after_hearing w m = record w { value_told = w.value_told || tells_value w.command m }
