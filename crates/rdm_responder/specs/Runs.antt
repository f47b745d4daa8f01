-- Whole runs: byte strings that are heard, reports that are handed in and changes at the fixture's own menu, one after
-- another.
use Rattle.std.specs.Prelude.{◌≡◌, List, [], ◌∷◌, ◌++◌, length, Option, nat_lt}
use Rattle.rdm_frame.specs.declared.message.Message.{Message}
use Rattle.rdm_commands.specs.declared.panel.Change.{Change}
use Rattle.rdm_params.specs.Commands.Panel.{change_message}
use Rattle.rdm_outbox.specs.Account as outbox
use Rattle.rdm_responder.specs.declared.report.Arrival.{Arrival}
use Rattle.rdm_responder.specs.declared.report.Report.{Report}
use Rattle.rdm_responder.specs.declared.run.Input.{Input}
use Rattle.rdm_responder.specs.declared.run.Input.TheVariants as input
use Rattle.rdm_responder.specs.declared.run.Output.{Output}
use Rattle.rdm_responder.specs.declared.run.Output.TheVariants as output
use Rattle.rdm_responder.specs.History.{History, Heard, Arrived, Changed, then_event}
use Rattle.rdm_responder.specs.Lawful.{MayArrive, MayChange}
use Rattle.rdm_responder.specs.Rules.{account_of, reply_of, job_of}

-- the account of jobs and messages after a history
abbrev pub outbox_of : History → outbox.Account
outbox_of h = (account_of h).outbox

-- A report arrives: it may, its message is the last that arrived, and an entry was kept if one more is noted.
pub record IsArrival (h : History) (r : Report) (arrival : Arrival) : Type 0 where
  pub may : MayArrive (account_of h) r
  pub message : (outbox_of (then_event h (Arrived r))).arrived ≡ (outbox_of h).arrived ++ arrival.message ∷ []
  pub kept : arrival.kept ≡ nat_lt (length (outbox_of h).noted) (length (outbox_of (then_event h (Arrived r))).noted)

-- Something is changed: it may be, and the message of it is that of the values before.
pub record IsChange (h : History) (change : Change) (message : Option Message) : Type 0 where
  pub may : MayChange (account_of h)
  pub message_is : message ≡ change_message (account_of h).parameters change

-- A run from a history to the one at its end: each output is that of the rules after the inputs before it. A report that
-- may not arrive is handed back, and so is a change that may not come: neither is an event.
abbrev pub IsRun : History → List Input → List Output → History → Type 0
IsRun h [] [] end = end ≡ h
IsRun h (input.Heard bytes ∷ inputs) (output.Answered reply job ∷ outputs) end =
    (reply ≡ reply_of h bytes.now) × (job ≡ job_of h bytes.now) × IsRun (then_event h (Heard bytes.now)) inputs outputs end
IsRun h (input.Reported report ∷ inputs) (output.Arrived arrival ∷ outputs) end =
    IsArrival h report arrival × IsRun (then_event h (Arrived report)) inputs outputs end
IsRun h (input.Reported report ∷ inputs) (output.HandedBack astray ∷ outputs) end =
    (¬ MayArrive (account_of h) report) × (astray.report ≡ report) × IsRun h inputs outputs end
IsRun h (input.Changed change ∷ inputs) (output.Changed message ∷ outputs) end =
    IsChange h change message × IsRun (then_event h (Changed change)) inputs outputs end
IsRun h (input.Changed change ∷ inputs) (output.NoRoom refused ∷ outputs) end =
    (¬ MayChange (account_of h)) × (refused.change ≡ change) × IsRun h inputs outputs end
IsRun _ _ _ _ = ⊥
