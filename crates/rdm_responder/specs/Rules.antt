-- The reply rules: what is answered to the bytes that are heard, after any history, and the job that starts.
use Rattle.std.specs.Prelude.{ℕ, ◌+◌, ◌-◌, Bool, true, false, List, [], ◌∷◌, ◌++◌, length, fold, slice_index_or, min, Option, Some, None, ◌==◌, ◌&&◌, not, nat_le, if◌then◌else◌}
use Rattle.std.specs.Int.{w16, to_be_bytes}
use Rattle.std.specs.Result.{result_ok}
use Rattle.rdm_frame.specs.declared.uid.Uid.{Uid}
use Rattle.rdm_frame.specs.declared.frame.Frame.{Frame}
use Rattle.rdm_frame.specs.Addressing.{is_broadcast}
use Rattle.rdm_frame.specs.FrameText.{frame_text, uid_slots}
use Rattle.rdm_frame.specs.UidNumber.{uid_number}
use Rattle.rdm_frame.specs.Reading.{frame_in}
use Rattle.rdm_frame.specs.Discovery.{branch_reply}
use Rattle.rdm_frame.specs.declared.nack.Nack.{Nack}
use Rattle.rdm_frame.specs.declared.nack.Nack.TheVariants.{BufferFull}
use Rattle.rdm_frame.specs.declared.message.Message.{Message}
use Rattle.rdm_frame.specs.declared.status.Entry.{Entry as StatusEntry}
use Rattle.rdm_frame.specs.Nacks.{nack_code}
use Rattle.rdm_profile.specs.declared.profile.Profile.{Profile}
use Rattle.rdm_commands.specs.declared.panel.Change.{Change}
use Rattle.rdm_commands.specs.declared.jobs.outcome.Outcome.{Outcome}
use Rattle.rdm_commands.specs.declared.jobs.outcome.Outcome.TheVariants.{Failed}
use Rattle.rdm_commands.specs.declared.jobs.work.Work.{Work}
use Rattle.rdm_commands.specs.declared.verdict.Verdict.{Verdict}
use Rattle.rdm_commands.specs.declared.verdict.Verdict.TheVariants.{Reply, Start, Queue, Status, Clear, Refuse}
use Rattle.rdm_params.specs.Commands.Commands.{got, answer_to_set, after_set}
use Rattle.rdm_params.specs.Commands.Panel.{after_change, change_message}
use Rattle.rdm_params.specs.Commands.Placing.{after_place}
use Rattle.rdm_params.specs.Commands.Saving.{powered_on}
use Rattle.rdm_params.specs.Device.Parameters.{Parameters, parameters_of}
use Rattle.rdm_params.specs.Jobs.Work.{worker_at, estimate_of}
use Rattle.rdm_params.specs.Jobs.Commit.{after_commit, committed}
use Rattle.rdm_params.specs.Jobs.Thresholds.{notes}
use Rattle.rdm_outbox.specs.declared.job.Job.{Job}
use Rattle.rdm_outbox.specs.Account as outbox
use Rattle.rdm_outbox.specs.Jobs.{has_room, reserved, after_reserve, after_arrive, waiting_of}
use Rattle.rdm_outbox.specs.Messages.{after_post, after_post_newest, after_drop, dispensed, after_dispense, status_dispensed, after_status}
use Rattle.rdm_outbox.specs.Statuses.{after_note, after_clear}
use Rattle.rdm_saved.specs.Restoring.{restored}
use Rattle.rdm_responder.specs.declared.report.Report.{Report}
use Rattle.rdm_responder.specs.History.{Setup, Event, Heard, Arrived, Changed, Placed, Noted, Restored, Dropped, History}
use Rattle.rdm_responder.specs.Requests.{Request, Ignored, Branch, Muting, Get, Set, request_in}

-- What a history comes to: the setup, the values of the parameters, each mute (true) and un-mute (false) that was
-- carried out, in order of time, and the account of jobs and messages.
pub record Account : Type 0 where
  pub setup : Setup
  pub parameters : Parameters
  pub mutings : List Bool
  pub outbox : outbox.Account

-- The device is muted if the last of them is a mute. It starts unmuted. Section 7.6.
abbrev pub is_muted : List Bool → Bool
is_muted mutings = slice_index_or mutings (length mutings - 1) false

-- ---- what a command comes to

-- What a response says, beside whom it is for: its response type, command class, sub-device, PID and data.
pub record Response : Type 0 where
  pub port : ℕ
  pub class : ℕ
  pub sub : ℕ
  pub pid : ℕ
  pub body : List ℕ

-- A response to the request itself, of its sub-device and PID, and of its command class plus 1. Section 6.2.
abbrev pub own_response : Frame → ℕ → List ℕ → Response
own_response f port bytes = record { port = port; class = f.class + 1; sub = f.sub; pid = f.pid; body = bytes }

-- ACK with data. Section 6.3.1.
abbrev pub ack : Frame → List ℕ → Response
ack f bytes = own_response f 0 bytes

-- ACK_TIMER with the estimate, in tenths of a second. Section 6.3.3.
abbrev pub ack_timer : Frame → ℕ → Response
ack_timer f estimate = own_response f 1 (to_be_bytes w16 estimate)

-- NACK_REASON with the reason. Section 6.3.4.
abbrev pub nack_reason : Frame → Nack → Response
nack_reason f nack = own_response f 2 (to_be_bytes w16 (nack_code nack))

-- ACK with a message: its command class, its PID and its sub-device. Sections 10.3.1 and 10.3.2.
abbrev pub ack_message : Message → Response
ack_message m = record { port = 0; class = m.class; sub = m.sub; pid = m.pid; body = m.body }

-- Rules 6 to 11 are those of the table, and refuse or give the way in which a command is answered. Rule 12: a slow
-- command for which there is no room is rejected. Rule 13: else the command is carried out. A profile says how long jobs take.
abbrev pub response_of : Profile → outbox.Account → Frame → Verdict → Response
response_of p b f (Refuse nack) = nack_reason f nack
response_of p b f (Start work) = if has_room b work then ack_timer f (estimate_of p work) else nack_reason f BufferFull
response_of p b f (Queue ask) = ack_message (dispensed b ask)
response_of p b f (Status ask) = ack_message (status_dispensed b ask)
response_of p b f Clear = ack f []
response_of p b f (Reply bytes) = ack f bytes

-- the job that starts
abbrev pub started_by : outbox.Account → Verdict → Option Job
started_by b (Start work) = result_ok (reserved b work)
started_by b _ = None

-- the account of jobs and messages afterwards
abbrev pub outbox_after : outbox.Account → Verdict → outbox.Account
outbox_after b (Start work) = after_reserve b work
outbox_after b (Queue ask) = after_dispense b ask
outbox_after b (Status ask) = after_status b ask
outbox_after b Clear = after_clear b
outbox_after b _ = b

-- ---- what a request changes

abbrev pub account_with : Account → Request → Account
account_with a Ignored = a
account_with a (Branch lower upper) = a
account_with a (Muting muted f) = record a { mutings = a.mutings ++ muted ∷ [] }
account_with a (Get f) = record a { outbox = outbox_after a.outbox (got a.parameters f.sub f.pid f.body) }
account_with a (Set f) = record a { parameters = after_set a.parameters f.sub f.pid f.body; outbox = outbox_after a.outbox (answer_to_set a.parameters f.sub f.pid f.body) }

-- ---- what is answered

-- The message count tells how many messages wait, and 255 if there are more. Section 6.2.8.
abbrev pub message_count : outbox.Account → ℕ
message_count b = min 255 (length (waiting_of b))

-- The bytes of a response, back to the source of the request and with its transaction number, unless the request was
-- for more than one device: that is never answered. Section 6.2.
unfoldable pub answer_with : Uid → Frame → ℕ → Response → Option (List ℕ)
answer_with own f count r =
    if is_broadcast f.dst then None
    else Some (frame_text (record { dst = f.src; src = own; tn = f.tn; port = r.port; count = count; sub = r.sub; class = r.class; pid = r.pid; body = r.body }))

-- these bytes, if there is an answer
abbrev pub answered : Bool → List ℕ → Option (List ℕ)
answered true bytes = Some bytes
answered false bytes = None

-- The control field tells whether there are sub-devices, and what the profile says: whether the device can do nothing until firmware is
-- uploaded to it, and whether a proxy answers for it. Section 7.6.
abbrev pub control_field : Parameters → List ℕ
control_field p = to_be_bytes w16 (
    (if length p.subs == 0 then 0 else 0x0002)
    + (if p.profile.particulars.mute_reply.boot_loader then 0x0004 else 0)
    + (if p.profile.particulars.mute_reply.proxied_device then 0x0008 else 0))

-- a binding UID, if there is one
abbrev pub binding_slots : Option Uid → List ℕ
binding_slots None = []
binding_slots (Some uid) = uid_slots uid

-- What a device tells when it is muted or un-muted: the control field, and its binding UID if it has one. Section 7.6.
abbrev pub mute_data : Parameters → List ℕ
mute_data p = control_field p ++ binding_slots p.profile.particulars.mute_reply.binding

-- a UID between two others, both ends included
abbrev pub is_between : Uid → Uid → Uid → Bool
is_between lower own upper = nat_le (uid_number lower) (uid_number own) && nat_le (uid_number own) (uid_number upper)

-- The bytes of the response to a GET or a SET that comes to this. The messages are counted after it was carried out.
abbrev pub reply_with : Uid → Profile → outbox.Account → Frame → Verdict → Option (List ℕ)
reply_with own p b f verdict = answer_with own f (message_count (outbox_after b verdict)) (response_of p b f verdict)

-- The bytes of the answer. In discovery no messages are counted.
abbrev pub answer_to : Account → Request → Option (List ℕ)
answer_to a Ignored = None
answer_to a (Branch lower upper) =
    if not (is_muted a.mutings) && is_between lower a.setup.uid upper then Some (branch_reply a.setup.uid) else None
answer_to a (Muting muted f) = answer_with a.setup.uid f 0 (ack f (mute_data a.parameters))
answer_to a (Get f) = reply_with a.setup.uid a.parameters.profile a.outbox f (got a.parameters f.sub f.pid f.body)
answer_to a (Set f) = reply_with a.setup.uid a.parameters.profile a.outbox f (answer_to_set a.parameters f.sub f.pid f.body)

-- the job that starts
abbrev pub job_with : Account → Request → Option Job
job_with a (Get f) = started_by a.outbox (got a.parameters f.sub f.pid f.body)
job_with a (Set f) = started_by a.outbox (answer_to_set a.parameters f.sub f.pid f.body)
job_with a _ = None

-- the answer to bytes that are the text of this frame, or of none, and the job that they start
abbrev pub reply_to : Account → Option Frame → Option (List ℕ)
reply_to a found = answer_to a (request_in a.setup.uid found)

abbrev pub job_to : Account → Option Frame → Option Job
job_to a found = job_with a (request_in a.setup.uid found)

-- ---- what a history comes to

-- A status entry is noted if the threshold of its device lets it, with these values of the parameters. Section 10.3.5.
abbrev pub after_entry : Parameters → outbox.Account → StatusEntry → outbox.Account
after_entry p b entry = if notes p entry then after_note b entry else b

-- a failed job leaves a status entry. Section 10.3.2.
abbrev pub after_outcome : Parameters → outbox.Account → Work → Outcome → outbox.Account
after_outcome p b work (Failed severity id v1 v2) = after_entry p b (record { sub = work.sub; severity = severity; id = id; v1 = v1; v2 = v2 })
after_outcome p b work _ = b

-- The report of a job makes of the parameters what the table says, ends the job, queues its message, and notes what
-- failed.
abbrev pub account_after_report : Account → Report → Account
account_after_report a r = record a {
  parameters = after_commit a.parameters r.job.work r.outcome;
  outbox = after_outcome (after_commit a.parameters r.job.work r.outcome) (after_arrive a.outbox (worker_at a.outbox.workers r.job.work) (committed a.parameters r.job.work r.outcome)) r.job.work r.outcome;
}

-- whether the message of a change takes the place of one that still waits and tells of the same: the profile says so
abbrev pub newest_only : Parameters → Bool
newest_only p = p.profile.particulars.newest_only

-- the account of jobs and messages after the message of a change, if it has one, was queued: in the place of one that tells
-- of the same, if the profile asks for that
abbrev pub after_message : Bool → outbox.Account → Option Message → outbox.Account
after_message newest b None = b
after_message true b (Some message) = after_post_newest b message
after_message false b (Some message) = after_post b message

-- A change makes of the parameters what a SET of the same value would, and its message is queued. If that SET would be
-- out of range nothing changes.
abbrev pub account_after_change : Account → Change → Account
account_after_change a change = record a {
  parameters = after_change a.parameters change;
  outbox = after_message (newest_only a.parameters) a.outbox (change_message a.parameters change);
}

-- What the firmware places changes the values alone. An entry that it tells is noted as that of a failed job is. What it
-- restores changes the values alone, and since a fixture restores them when it was switched on, that is one more power cycle.
-- The message that it drops is gone by its own word.
abbrev pub account_after : Account → Event → Account
account_after a (Heard bytes) = account_with a (request_in a.setup.uid (frame_in bytes))
account_after a (Arrived report) = account_after_report a report
account_after a (Changed change) = account_after_change a change
account_after a (Placed sub pid bytes) = record a { parameters = after_place a.parameters sub pid bytes }
account_after a (Noted entry) = record a { outbox = after_entry a.parameters a.outbox entry }
account_after a (Restored image) = record a { parameters = powered_on (restored a.parameters image) }
account_after a Dropped = record a { outbox = after_drop a.outbox }

-- how many jobs a worker can be given: their numbers have 32 bits, so that no two are alike
abbrev pub most_jobs : ℕ
most_jobs = 4294967295

abbrev pub account_before : Setup → Account
account_before setup = record {
  setup = setup;
  parameters = parameters_of setup.profile;
  mutings = [];
  outbox = outbox.account_before (record {
    q = setup.queue_size;
    entries = setup.entries;
    jobs = most_jobs;
    first_job = setup.first_job;
    workers = setup.profile.workers;
  });
}

unfoldable pub account_of : History → Account
account_of h = fold account_after (account_before h.setup) h.events

-- The reply rules: the answer to these bytes, after this history, and the job that they start.
abbrev pub reply_of : History → List ℕ → Option (List ℕ)
reply_of h bytes = reply_to (account_of h) (frame_in bytes)

abbrev pub job_of : History → List ℕ → Option Job
job_of h bytes = job_to (account_of h) (frame_in bytes)
