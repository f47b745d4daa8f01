-- A script is played: how its run is set up, what the run is, and why it stops before its end.
use Rattle.std.specs.Prelude.{◌≡◌, ◌<◌, ◌⊎◌, List, Some}
use Rattle.rdm_frame.specs.declared.uid.Uid.{Uid}
use Rattle.rdm_profile.specs.declared.profile.Profile.{Profile}
use Rattle.rdm_bus.specs.declared.event.Event.{Event}
use Rattle.rdm_bus.specs.declared.system.PlayError.TheVariants as refused
use Rattle.rdm_crew.specs.declared.error.RunError.{RunError}
use Rattle.rdm_crew.specs.declared.error.RunError.TheVariants.{OutOfMemory, Reserved, TooLong, Unsettled, Astray, Missing, BadSetup}
use Rattle.rdm_crew.specs.declared.setup.Setup.{Setup as CrewSetup}
use Rattle.rdm_crew.specs.declared.step.CrewStep.{CrewStep}
use Rattle.rdm_crew.specs.RunTrace.{IsRunTrace, HasSettle, first_refusal}
use Rattle.rdm_crew.specs.Setups.{IsBadSetup}
use Rattle.rdm_script.specs.Parties.{controller}
use Rattle.rdm_script.specs.Scene.{Scene}
use Rattle.rdm_script.specs.declared.script.ScriptSetup.{ScriptSetup}

-- a device of this UID and profile, and the controller, as the script sets them up: it says how many of the sub-devices
-- there are
abbrev pub crew_setup : Uid → Profile → ScriptSetup → CrewSetup
crew_setup device profile s = record { device = device; controller = controller; want = s.want; profile = record profile { subs = s.subs }; queue_size = s.queue_size }

-- Events are a run of the script: the device of the scene has just been switched on, its parts do the jobs, and its panel
-- offers the changes.
abbrev pub IsScriptRun : Scene → ScriptSetup → List CrewStep → List Event → Type 0
IsScriptRun scene setup steps events =
    IsRunTrace (crew_setup scene.device scene.profile setup) scene.first scene.second scene.offers steps events

-- The script wants more sub-devices than the fixture has, or there can be no such device.
abbrev pub IsBad : Scene → ScriptSetup → Type 0
IsBad scene setup = (scene.profile.subs < setup.subs) ⊎ IsBadSetup (crew_setup scene.device scene.profile setup)

-- There is such a device.
abbrev pub IsGood : Scene → ScriptSetup → Type 0
IsGood scene setup = ¬ IsBad scene setup

-- Why steps aren't played to their end after this setup: it is a bad one; else the first step that is never played tells
-- it, or a Settle gave up.
abbrev pub Stops : Scene → RunError → ScriptSetup → List CrewStep → Type 0
Stops scene OutOfMemory setup steps = Unit {0}
Stops scene Reserved setup steps = IsGood scene setup × (first_refusal steps ≡ Some refused.Reserved)
Stops scene TooLong setup steps = IsGood scene setup × (first_refusal steps ≡ Some refused.TooLong)
Stops scene Unsettled setup steps = IsGood scene setup × HasSettle steps
Stops scene Astray setup steps = ⊥
Stops scene Missing setup steps = ⊥
Stops scene BadSetup setup steps = IsBad scene setup
