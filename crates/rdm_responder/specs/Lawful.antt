-- Which reports may arrive, when a change may come, which values may be placed, and which may be restored.
use Rattle.std.specs.Prelude.{◌≡◌, ℕ, true, List, [], ◌∷◌, Some, None, slice_get}
use Rattle.rdm_params.specs.Commands.Placing.{place_refusal}
use Rattle.rdm_params.specs.Jobs.Outcome.{fits}
use Rattle.rdm_params.specs.Jobs.Work.{worker_at}
use Rattle.rdm_saved.specs.Restoring.{restore_refusal}
use Rattle.rdm_outbox.specs.Jobs.{has_place, outstanding_of}
use Rattle.rdm_responder.specs.declared.report.Report.{Report}
use Rattle.rdm_responder.specs.History.{Event, Heard, Arrived, Changed, Placed, Noted, Restored, Dropped, History}
use Rattle.rdm_responder.specs.Rules.{Account, account_before, account_after}

-- The report is of the oldest outstanding job of its worker, number and work alike, and its outcome fits that work.
pub record MayArrive (a : Account) (r : Report) : Type 0 where
  pub oldest : slice_get (outstanding_of a.outbox (worker_at a.outbox.workers r.job.work)) 0 ≡ Some r.job
  pub fits : fits r.job.work r.outcome ≡ true

-- A person may change something if there is a place for the message of it.
abbrev pub MayChange : Account → Type 0
MayChange a = has_place a.outbox ≡ true

-- The firmware may place what isn't refused.
abbrev pub MayPlace : Account → ℕ → ℕ → List ℕ → Type 0
MayPlace a sub pid bytes = place_refusal a.parameters sub pid bytes ≡ None

-- The firmware may restore an image that isn't refused at a fixture of this manufacturer.
abbrev pub MayRestore : Account → List ℕ → Type 0
MayRestore a image = restore_refusal a.setup.uid.maker a.parameters image ≡ None

-- any bytes may be heard, any entry may be told, and at any time a message may be dropped, if one waits
abbrev pub MayHappen : Account → Event → Type 0
MayHappen a (Heard bytes) = Unit {0}
MayHappen a (Arrived report) = MayArrive a report
MayHappen a (Changed change) = MayChange a
MayHappen a (Placed sub pid bytes) = MayPlace a sub pid bytes
MayHappen a (Noted entry) = Unit {0}
MayHappen a (Restored image) = MayRestore a image
MayHappen a Dropped = Unit {0}

-- each event may happen after those before it
abbrev pub AreLawful : Account → List Event → Type 0
AreLawful a [] = Unit {0}
AreLawful a (event ∷ events) = MayHappen a event × AreLawful (account_after a event) events

-- Each report in the history was of the oldest outstanding job of its worker, and fitted. There was a place for the message
-- of each change, and what was placed or restored wasn't refused.
abbrev pub IsLawful : History → Type 0
IsLawful h = AreLawful (account_before h.setup) h.events
