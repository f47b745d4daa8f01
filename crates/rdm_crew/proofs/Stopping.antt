-- Where steps end early, and what is told of it.
use Rattle.std.proofs.Common.{◌≡◌, ℕ, zero, suc, ◌+◌, ◌<◌, List, [], ◌∷◌, length, take, get_or, Option, Some, None, refl, sym, subst, ◌∙◌}
use Rattle.std.specs.Prelude.{IfSome}
use Rattle.std.specs.Option.{option_or}
use Rattle.std.proofs.lemmas.List.Elements.{All-head, All-tail, All-more}
use Rattle.std.proofs.lemmas.Option.{slice_get_within}
use Rattle.rdm_bus.specs.declared.system.PlayError.{PlayError}
use Rattle.rdm_bus.specs.declared.system.PlayError.TheVariants as refused
use Rattle.rdm_crew.specs.declared.bus.crew.Crew.{Crew}
use Rattle.rdm_crew.specs.declared.bus.stop.Stop.{Stop}
use Rattle.rdm_crew.specs.declared.bus.stop.Stop.TheVariants as stop
use Rattle.rdm_crew.specs.declared.bus.stop.StopAt.{StopAt}
use Rattle.rdm_crew.specs.declared.error.RunError.TheVariants as run
use Rattle.rdm_crew.specs.declared.step.CrewStep.{CrewStep}
use Rattle.rdm_crew.specs.declared.step.CrewStep.TheVariants.{Settle}
use Rattle.rdm_crew.specs.declared.stopped.Stopped.{Stopped}
use Rattle.rdm_crew.specs.declared.stopped.Stopped.TheVariants.{OutOfMemory, BadSetup, Reserved, TooLong, Unsettled}
use Rattle.rdm_crew.specs.Crews.{IsStopped, AreStopped}
use Rattle.rdm_crew.specs.RunTrace.{HasSettle, first_refusal, refusal_at}
use Rattle.rdm_crew.specs.Stops.{NoneIsRefused, IsReached, IsStopAt, error_of, step_of, told_of}

-- ---- a loop over the steps

module _ (steps : List CrewStep) (i : ℕ) (x s : CrewStep) (at : s ≡ get_or steps i x) (lt : i < length steps) (none : NoneIsRefused (take i steps)) where
  pub still_none : refusal_at s ≡ None → NoneIsRefused (take (i + 1) steps)
  still_none sent = All-more (λ (t : CrewStep). refusal_at t ≡ None) steps i x lt none (subst (λ (t : CrewStep). refusal_at t ≡ None) at sent)

-- ---- what is told

told : (steps : List CrewStep) (c : Crew) (why : Stop) (k : ℕ) (step : CrewStep) → IsReached steps k step → IsStopped step c why → IsStopAt steps (told_of why k)
told steps c stop.OutOfMemory k step at is = tt
told steps c stop.Reserved k step at is = (step, at, is)
told steps c stop.TooLong k step at is = (step, at, is)
told steps c stop.Unsettled k step at is = (is.0, subst (IsReached steps k) is.1 at)
told steps c stop.Astray k step at is = tt

-- what is told of a stop is where the run may stop
pub told_at : (steps : List CrewStep) (c : Crew) (at : StopAt) → AreStopped steps c at → IsStopAt steps (told_of at.why at.step)
told_at steps c at is = told steps c at.why at.step is.0 is.1 is.2

-- ---- what a stop says of the steps

or_some : (o p : Option PlayError) (x : PlayError) → o ≡ Some x → option_or o p ≡ Some x
or_some None p x e = absurd cc
or_some (Some y) p x e = e

or_none : (o p : Option PlayError) → o ≡ None → option_or o p ≡ p
or_none None p e = refl
or_none (Some y) p e = absurd cc

same_step : (s t : CrewStep) → Some s ≡ Some t → s ≡ t
same_step s t e = cc

-- the first refusal is that of a refused step with no refused step before it
refused_first : (steps : List CrewStep) (k : ℕ) (step : CrewStep) (x : PlayError) → IsReached steps k step → refusal_at step ≡ Some x → first_refusal steps ≡ Some x
refused_first [] k step x is why = absurd cc
refused_first (s ∷ steps) zero step x is why =
    or_some (refusal_at s) (first_refusal steps) x (subst (λ (t : CrewStep). refusal_at t ≡ Some x) (sym (same_step s step is.0)) why)
refused_first (s ∷ steps) (suc k) step x is why =
    or_none (refusal_at s) (first_refusal steps) (All-head (λ (t : CrewStep). refusal_at t ≡ None) s (take k steps) is.1)
    ∙ refused_first steps k step x (is.0, All-tail (λ (t : CrewStep). refusal_at t ≡ None) s (take k steps) is.1) why

pub stops_within : (steps : List CrewStep) (s : Stopped) → IsStopAt steps s → IfSome (step_of s) (λ k. k < length steps)
stops_within steps OutOfMemory is = tt
stops_within steps BadSetup is = tt
stops_within steps (Reserved k) is = slice_get_within steps k is.0 is.1.0
stops_within steps (TooLong k) is = slice_get_within steps k is.0 is.1.0
stops_within steps (Unsettled k) is = slice_get_within steps k (Settle is.0) is.1.0

pub stops_reserved : (steps : List CrewStep) (s : Stopped) → IsStopAt steps s → error_of s ≡ run.Reserved → first_refusal steps ≡ Some refused.Reserved
stops_reserved steps OutOfMemory is same = absurd cc
stops_reserved steps BadSetup is same = absurd cc
stops_reserved steps (Reserved k) is same = refused_first steps k is.0 refused.Reserved is.1 is.2
stops_reserved steps (TooLong k) is same = absurd cc
stops_reserved steps (Unsettled k) is same = absurd cc

pub stops_too_long : (steps : List CrewStep) (s : Stopped) → IsStopAt steps s → error_of s ≡ run.TooLong → first_refusal steps ≡ Some refused.TooLong
stops_too_long steps OutOfMemory is same = absurd cc
stops_too_long steps BadSetup is same = absurd cc
stops_too_long steps (Reserved k) is same = absurd cc
stops_too_long steps (TooLong k) is same = refused_first steps k is.0 refused.TooLong is.1 is.2
stops_too_long steps (Unsettled k) is same = absurd cc

pub stops_unsettled : (steps : List CrewStep) (s : Stopped) → IsStopAt steps s → error_of s ≡ run.Unsettled → HasSettle steps
stops_unsettled steps OutOfMemory is same = absurd cc
stops_unsettled steps BadSetup is same = absurd cc
stops_unsettled steps (Reserved k) is same = absurd cc
stops_unsettled steps (TooLong k) is same = absurd cc
stops_unsettled steps (Unsettled k) is same = (k, is.0, is.1.0)
