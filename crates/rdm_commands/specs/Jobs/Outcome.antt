-- Which outcome a job can have.
use Rattle.std.specs.Prelude.{Bool, true, false, ◌&&◌}
use Rattle.rdm_table.specs.declared.kind.Verb.{Verb}
use Rattle.rdm_table.specs.declared.kind.Verb.TheVariants.{Get, Set}
use Rattle.rdm_commands.specs.declared.jobs.outcome.Outcome.{Outcome}
use Rattle.rdm_commands.specs.declared.jobs.outcome.Outcome.TheVariants.{Done, Reading, Failed}
use Rattle.rdm_commands.specs.declared.jobs.work.Work.{Work}
use Rattle.rdm_table.specs.Table.Rows.{command_of}
use Rattle.rdm_table.specs.Table.Uses.{is_slow}

-- a SET is done, a GET reads what a sensor measured, and each of them may fail
abbrev pub ends : Verb → Outcome → Bool
ends Set Done = true
ends Get (Reading v) = true
ends verb (Failed severity id v1 v2) = true
ends _ _ = false

-- whether it is an outcome that a job of this work can have
abbrev pub fits : Work → Outcome → Bool
fits w outcome = is_slow (command_of w.pid w.verb) && ends w.verb outcome
