-- Why a run ends tells why its script stops.
use Rattle.std.proofs.Common.{◌≡◌, ◌↔◌, ◌<◌, inl, inr, List, Result, Ok, Err, IfErr, OnOk, IsErrOf, Some, refl}
use Rattle.rdm_bus.specs.declared.system.PlayError.TheVariants as refused
use Rattle.rdm_crew.specs.declared.error.RunError.TheVariants as run
use Rattle.rdm_crew.specs.declared.stopped.Stopped.{Stopped}
use Rattle.rdm_crew.specs.declared.stopped.Stopped.TheVariants.{OutOfMemory, BadSetup, Reserved, TooLong, Unsettled}
use Rattle.rdm_crew.specs.declared.step.CrewStep.{CrewStep}
use Rattle.rdm_crew.specs.RunTrace.{HasSettle, first_refusal}
use Rattle.rdm_crew.specs.Setups.{IsBadSetup}
use Rattle.rdm_crew.specs.Stops.{error_of}
use Rattle.rdm_crew.specs.Traces.{Traced}
use Rattle.rdm_script.specs.declared.script.ScriptSetup.{ScriptSetup}
use Rattle.rdm_script.specs.Running.{crew_setup, IsBad, IsGood, Stops}
use Rattle.rdm_script.specs.Scene.{Scene}

-- A script that names no more sub-devices than there are has a bad setup exactly where the run has.
pub bad_of : (r : Result Traced Stopped) (scene : Scene) (setup : ScriptSetup) → ¬ (scene.profile.subs < setup.subs)
    → (IsErrOf r BadSetup ↔ IsBadSetup (crew_setup scene.device scene.profile setup)) → IsErrOf r BadSetup ↔ IsBad scene setup
bad_of r scene setup few only = (
  λ e. inr (only.0 e),
  λ bad. elim bad [
    | inl h ↦ absurd (few h)
    | inr h ↦ only.1 h
  ],
)

good : (r : Result Traced Stopped) (scene : Scene) (setup : ScriptSetup) → ¬ IsErrOf r BadSetup → (IsErrOf r BadSetup ↔ IsBad scene setup) → IsGood scene setup
good r scene setup other only = λ bad. other (only.1 bad)

pub stops : (r : Result Traced Stopped) (scene : Scene) (setup : ScriptSetup) (steps : List CrewStep) → (IsErrOf r BadSetup ↔ IsBad scene setup)
    → IfErr r (λ s. error_of s ≡ run.Reserved → first_refusal steps ≡ Some refused.Reserved)
    → IfErr r (λ s. error_of s ≡ run.TooLong → first_refusal steps ≡ Some refused.TooLong)
    → IfErr r (λ s. error_of s ≡ run.Unsettled → HasSettle steps)
    → IfErr r (λ s. Stops scene (error_of s) setup steps)
stops (Ok t) scene setup steps only reserved long unsettled = tt
stops (Err OutOfMemory) scene setup steps only reserved long unsettled = tt
stops (Err BadSetup) scene setup steps only reserved long unsettled = only.0 refl
stops (Err (Reserved k)) scene setup steps only reserved long unsettled = (good (Err (Reserved k)) scene setup (λ e. cc) only, reserved refl)
stops (Err (TooLong k)) scene setup steps only reserved long unsettled = (good (Err (TooLong k)) scene setup (λ e. cc) only, long refl)
stops (Err (Unsettled k)) scene setup steps only reserved long unsettled = (good (Err (Unsettled k)) scene setup (λ e. cc) only, unsettled refl)

-- where a run was Ok, its device could be made
pub good_run : (r : Result Traced Stopped) (scene : Scene) (setup : ScriptSetup) → (IsErrOf r BadSetup ↔ IsBad scene setup) → OnOk r (IsGood scene setup)
good_run (Ok t) scene setup only = good (Ok t) scene setup (λ e. cc) only
good_run (Err e) scene setup only = tt
