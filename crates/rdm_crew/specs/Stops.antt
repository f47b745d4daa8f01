-- Why a run ends early, and at which step.
use Rattle.std.specs.Prelude.{◌≡◌, ℕ, List, All, take, slice_get, Option, Some, None}
use Rattle.rdm_bus.specs.declared.system.PlayError.{PlayError}
use Rattle.rdm_bus.specs.declared.system.PlayError.TheVariants as refused
use Rattle.rdm_crew.specs.declared.bus.stop.Stop.{Stop}
use Rattle.rdm_crew.specs.declared.bus.stop.Stop.TheVariants as stop
use Rattle.rdm_crew.specs.declared.error.RunError.{RunError}
use Rattle.rdm_crew.specs.declared.error.RunError.TheVariants as run
use Rattle.rdm_crew.specs.declared.step.CrewStep.{CrewStep}
use Rattle.rdm_crew.specs.declared.step.CrewStep.TheVariants.{Settle}
use Rattle.rdm_crew.specs.declared.stopped.Stopped.{Stopped}
use Rattle.rdm_crew.specs.declared.stopped.Stopped.TheVariants.{OutOfMemory, BadSetup, Reserved, TooLong, Unsettled}
use Rattle.rdm_crew.specs.RunTrace.{refusal_at}

-- ---- what a caller sees

-- the cause alone
abbrev pub error_of : Stopped → RunError
error_of OutOfMemory = run.OutOfMemory
error_of BadSetup = run.BadSetup
error_of (Reserved k) = run.Reserved
error_of (TooLong k) = run.TooLong
error_of (Unsettled k) = run.Unsettled

-- the step, if one is the cause
abbrev pub step_of : Stopped → Option ℕ
step_of OutOfMemory = None
step_of BadSetup = None
step_of (Reserved k) = Some k
step_of (TooLong k) = Some k
step_of (Unsettled k) = Some k

-- No step of these is refused.
abbrev pub NoneIsRefused : List CrewStep → Type 0
NoneIsRefused steps = All (λ step. refusal_at step ≡ None) steps

-- Step k is this one, and no step before it is refused.
abbrev pub IsReached : List CrewStep → ℕ → CrewStep → Type 0
IsReached steps k step = (slice_get steps k ≡ Some step) × NoneIsRefused (take k steps)

-- A run of these steps may stop so: at the first step that is refused, which is refused for this cause, or at a Settle with no
-- such step before it. Want of memory and a bad setup are of no step.
abbrev pub IsStopAt : List CrewStep → Stopped → Type 0
IsStopAt steps OutOfMemory = Unit {0}
IsStopAt steps BadSetup = Unit {0}
IsStopAt steps (Reserved k) = (step : CrewStep) × IsReached steps k step × (refusal_at step ≡ Some refused.Reserved)
IsStopAt steps (TooLong k) = (step : CrewStep) × IsReached steps k step × (refusal_at step ≡ Some refused.TooLong)
IsStopAt steps (Unsettled k) = (empties : ℕ) × IsReached steps k (Settle empties)

-- ---- how it is told

-- why a command or a poll isn't played
abbrev pub stop_of : PlayError → Stop
stop_of refused.OutOfMemory = stop.OutOfMemory
stop_of refused.Reserved = stop.Reserved
stop_of refused.TooLong = stop.TooLong
stop_of refused.Astray = stop.Astray
stop_of refused.NoRoom = stop.Astray

-- what is told of step k that isn't played to its end
abbrev pub told_of : Stop → ℕ → Stopped
told_of stop.OutOfMemory k = OutOfMemory
told_of stop.Reserved k = Reserved k
told_of stop.TooLong k = TooLong k
told_of stop.Unsettled k = Unsettled k
told_of stop.Astray k = OutOfMemory
