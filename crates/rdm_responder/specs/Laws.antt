-- Laws of histories.
use Rattle.std.specs.Prelude.{◌≡◌, ◌≤◌, ℕ, false, IsTrue, length}
use Rattle.rdm_commands.specs.declared.jobs.outcome.Outcome.{Outcome}
use Rattle.rdm_commands.specs.declared.jobs.work.Work.{Work}
use Rattle.rdm_commands.specs.declared.panel.Change.{Change}
use Rattle.rdm_params.specs.Commands.Panel.{told}
use Rattle.rdm_params.specs.Commands.Saving.{powered_on}
use Rattle.rdm_params.specs.Device.Parameters.{Parameters}
use Rattle.rdm_params.specs.Jobs.Commit.{committed}
use Rattle.rdm_params.specs.Jobs.Outcome.{fits}
use Rattle.rdm_saved.specs.Laws.{IsWhole, AreTexts, AreWhole, AreOfOneMake, taken}
use Rattle.rdm_saved.specs.SavedText.{saved_text}
use Rattle.rdm_outbox.specs.Account as outbox
use Rattle.rdm_outbox.specs.Jobs.{jobs_of, ended_of}
use Rattle.rdm_outbox.specs.Messages.{tell_of_same}
use Rattle.rdm_outbox.specs.State.{HasRoom}
use Rattle.rdm_responder.specs.History.{History, Restored, then_event}
use Rattle.rdm_responder.specs.Lawful.{IsLawful, MayRestore}
use Rattle.rdm_responder.specs.Rules.{account_of}
use Rattle.rdm_responder.specs.Runs.{outbox_of}
use Rattle.rdm_outbox.specs.Settings.{IsQueueSize}
use Rattle.rdm_responder.specs.StandsFor.{State, StandsFor}

-- What `StandsFor` asks of jobs and messages beside equations: no worker has ended more jobs than it was given, and no more
-- messages have left the queue than arrived.
pub record CanBeShown (a : outbox.Account) : Type 0 where
  pub first_ended : ended_of 0 a.ended ≤ length (jobs_of a.workers 0 a.accepted)
  pub second_ended : ended_of 1 a.ended ≤ length (jobs_of a.workers 1 a.accepted)
  pub within : a.gone ≤ length a.arrived

-- Every lawful history has it.
abbrev pub LawfulHistoriesCanBeShown : Type 0
LawfulHistoriesCanBeShown = (h : History) → IsLawful h → CanBeShown (outbox_of h)

-- So there is a state that stands for each lawful history, and there is no other.
abbrev pub LawfulHistoriesHaveOneState : Type 0
LawfulHistoriesHaveOneState =
    (h : History) → IsLawful h
    → (state : State) × StandsFor state h × ((other : State) → StandsFor other h → other ≡ state)

-- And if the setup has room for 1 to 1,024 results, that state has the room that an outbox keeps: jobs and messages are no
-- more than there are places for, no worker was given more jobs than it may be, and no more entries are to be shown than the
-- setup has room for.
abbrev pub LawfulHistoriesHaveRoom : Type 0
LawfulHistoriesHaveRoom =
    (h : History) → IsLawful h → IsQueueSize h.setup.queue_size → (state : State) → StandsFor state h → HasRoom state.outbox

-- the values after a history
abbrev pub values_of : History → Parameters
values_of h = (account_of h).parameters

-- the manufacturer ID of the fixture. Section 6.2.4.
abbrev pub maker_of : History → ℕ
maker_of h = (account_of h).setup.uid.maker

-- What one responder saves, another of the same manufacturer and make may restore. Then its values that last are the saved ones, with one more
-- power cycle, and the others stay.
abbrev pub SavedValuesAreRestored : Type 0
SavedValuesAreRestored =
    (saves restores : History) → IsWhole (values_of saves).root → AreTexts (values_of saves).added → AreWhole (values_of saves).subs
    → AreOfOneMake (values_of restores) (values_of saves) → maker_of restores ≡ maker_of saves
    → MayRestore (account_of restores) (saved_text (maker_of saves) (values_of saves))
    × (values_of (then_event restores (Restored (saved_text (maker_of saves) (values_of saves)))) ≡ powered_on (taken (values_of restores) (values_of saves)))

-- The message of a change at the menu never tells of the same as the result of a job, whatever the values are: so none takes the place of
-- a result that waits.
abbrev pub ResultsAreNeverReplaced : Type 0
ResultsAreNeverReplaced =
    (p q : Parameters) (change : Change) (w : Work) (outcome : Outcome) → IsTrue (fits w outcome) → tell_of_same (told p change) (committed q w outcome) ≡ false
