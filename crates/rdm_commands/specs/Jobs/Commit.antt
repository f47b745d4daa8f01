-- What the end of a job makes of the values, and the message that tells of it. E1.20 sections 6.3.3 and 10.3.1.
use Rattle.std.specs.Prelude.{ℕ, List, []}
use Rattle.rdm_frame.specs.declared.message.Message.{Message}
use Rattle.rdm_table.specs.declared.kind.Verb.TheVariants.{Get, Set}
use Rattle.rdm_commands.specs.declared.jobs.outcome.Outcome.{Outcome}
use Rattle.rdm_commands.specs.declared.jobs.outcome.Outcome.TheVariants.{Done, Reading, Failed}
use Rattle.rdm_commands.specs.declared.jobs.work.Work.{Work}
use Rattle.rdm_profile.specs.declared.value.Value.TheVariants.{Byte}
use Rattle.rdm_table.specs.Table.Rows.{command_of}
use Rattle.rdm_commands.specs.Commands.Commands.{carried_out, addressed, reply_at}
use Rattle.rdm_added.specs.Map.{update}
use Rattle.rdm_device.specs.Device.Measuring.{measured_by}
use Rattle.rdm_added.specs.Parameters.{Parameters}

-- The values after the end of a job: what is done is carried out as the SET, a sensor shows what it has measured, and
-- if the job failed, nothing changes.
unfoldable pub after_commit : Parameters → Work → Outcome → Parameters
after_commit p w Done = carried_out p w.sub (command_of w.pid Set) (Byte w.arg)
after_commit p w (Reading v) = record p { root = update (measured_by w.arg v) p.root }
after_commit p w (Failed severity id v1 v2) = p

-- what a GET of the parameter reads, a slow one too
abbrev pub shown : Parameters → Work → List ℕ
shown p w = reply_at (command_of w.pid Get) (addressed p w.sub Get) (Byte w.arg)

-- the responses to the SET and to the GET of a work, the second with the data that it reads from these values
abbrev pub set_response : Work → Message
set_response w = record { class = 0x31; pid = w.pid; sub = w.sub; body = [] }

abbrev pub get_response : Parameters → Work → Message
get_response p w = record { class = 0x21; pid = w.pid; sub = w.sub; body = shown p w }

-- the message that devices with these values queue at the end of a job
abbrev pub message_of : Parameters → Work → Outcome → Message
message_of p w Done = set_response w
message_of p w (Reading v) = get_response p w
message_of p w (Failed severity id v1 v2) = get_response p w

-- The message at the end of a job, of the values afterwards.
unfoldable pub committed : Parameters → Work → Outcome → Message
committed p w outcome = message_of (after_commit p w outcome) w outcome
