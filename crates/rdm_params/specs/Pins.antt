-- The PIN of a fixture after whatever becomes of its values: it opens. E1.37-1, LOCK_STATE and LOCK_PIN.
use Rattle.std.specs.Prelude.{◌≡◌, ℕ, true, List, [], ◌∷◌, ◌++◌, fold, find, Some}
use Rattle.rdm_commands.specs.declared.panel.Change.{Change}
use Rattle.rdm_commands.specs.declared.jobs.outcome.Outcome.{Outcome}
use Rattle.rdm_commands.specs.declared.jobs.work.Work.{Work}
use Rattle.rdm_commands.specs.declared.verdict.Verdict.TheVariants.{Reply}
use Rattle.rdm_profile.specs.declared.profile.own.ParameterDef.{ParameterDef}
use Rattle.rdm_profile.specs.declared.profile.Profile.{Profile}
use Rattle.rdm_profile.specs.declared.value.Value.TheVariants.{Byte}
use Rattle.rdm_added.specs.Added.{is_pid_of}
use Rattle.rdm_profile.specs.Locks.{has_pin}
use Rattle.rdm_added.specs.Locking.{new_pin, pin_kept}
use Rattle.rdm_profile.specs.OwnParameters.{has_set, is_within}
use Rattle.rdm_added.specs.Parameters.{Parameters, parameters_of}
use Rattle.rdm_profile.specs.Profiles.{IsGoodProfile}
use Rattle.rdm_commands.specs.Commands.Commands.{answer_to_set, after_set}
use Rattle.rdm_commands.specs.Commands.Panel.{after_change}
use Rattle.rdm_commands.specs.Commands.Placing.{after_place}
use Rattle.rdm_commands.specs.Commands.Saving.{powered_on}
use Rattle.rdm_commands.specs.Jobs.Commit.{after_commit}

-- One thing that becomes of the values of devices: a SET; data that the firmware places; the end of a job; a change at the menu; or that
-- the fixture is switched on again, with the values that it had.
pub data Step : Type 0 where
  set : ℕ → ℕ → List ℕ → Step
  place : ℕ → ℕ → List ℕ → Step
  commit : Work → Outcome → Step
  change : Change → Step
  power : Step

abbrev pub after_step : Parameters → Step → Parameters
after_step p (set sub pid bytes) = after_set p sub pid bytes
after_step p (place sub pid bytes) = after_place p sub pid bytes
after_step p (commit w outcome) = after_commit p w outcome
after_step p (change c) = after_change p c
after_step p power = powered_on p

-- the values of the devices of a profile after these steps, in the order of time
abbrev pub values_after : Profile → List Step → Parameters
values_after profile steps = fold after_step (parameters_of profile) steps

-- Whatever became of the values, the PIN that is kept opens: a SET of LOCK_STATE that hands it in is accepted, with each state that there is.
abbrev pub KeptPinOpens : Type 0
KeptPinOpens =
    (profile : Profile) (steps : List Step) (d : ParameterDef) (state : ℕ)
    → IsGoodProfile profile → find (is_pid_of 0x0641) profile.particulars.own ≡ Some d → has_set d.rights ≡ true → is_within d (Byte state) ≡ true
    → answer_to_set (values_after profile steps) 0 0x0641 (pin_kept (values_after profile steps).added ++ state ∷ []) ≡ Reply []

-- And the PIN that is kept is the one that was accepted last: a SET of LOCK_PIN that is answered keeps the new one, also if that can't be
-- read. No other SET changes it, but for FACTORY_DEFAULTS where the profile says so, as the law of the keys that a SET writes says.
abbrev pub NewPinIsKept : Type 0
NewPinIsKept =
    (profile : Profile) (steps : List Step) (bytes reply : List ℕ)
    → IsGoodProfile profile → has_pin profile.particulars.own ≡ true
    → answer_to_set (values_after profile steps) 0 0x0640 bytes ≡ Reply reply
    → pin_kept (after_set (values_after profile steps) 0 0x0640 bytes).added ≡ new_pin bytes
