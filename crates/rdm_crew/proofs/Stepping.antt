-- The steps of the bus in a run with workers: its commands and polls, with arrivals and changes between them.
use Rattle.std.proofs.Common.{◌≡◌, List, [], ◌∷◌, ◌++◌, refl, sym, ap, subst, ◌∙◌}
use Rattle.std.specs.List.{flat_map}
use Rattle.std.proofs.lemmas.List.Concat.{flat_map-append}
use Rattle.rdm_frame.specs.declared.message.Message.{Message}
use Rattle.rdm_params.specs.Jobs.Work.{Choice}
use Rattle.rdm_responder.specs.declared.report.Report.{Report}
use Rattle.rdm_bus.specs.declared.event.Event.{Event}
use Rattle.rdm_bus.specs.declared.event.Step.{Step}
use Rattle.rdm_bus.specs.declared.event.Step.TheVariants.{Ask, Collect, Arrive, Change}
use Rattle.rdm_bus.specs.BusRun.{Start, IsBusRun, after, after_all}
use Rattle.rdm_bus.specs.BusLaws.{BusLawsHold, recorded}
use Rattle.rdm_bus.specs.Headline.{Headline, NothingAfterClose}
use Rattle.rdm_bus.specs.Messages.{KeepingHolds}
use Rattle.rdm_bus.proofs.Headlines.{headline_of}
use Rattle.rdm_lane.specs.declared.taken.Taken.{Taken}
use Rattle.rdm_crew.specs.declared.setup.Setup.{Setup}
use Rattle.rdm_crew.specs.declared.step.CrewStep.{CrewStep}
use Rattle.rdm_crew.specs.declared.step.CrewStep.TheVariants as crew
use Rattle.rdm_crew.specs.Closes.{asked_at, asked_on, handed_by, IsHandedOver, HeadlineOfRun}
use Rattle.rdm_crew.specs.RunTrace.{AreArrivals, AreChanges, IsPiece, IsCut}
use Rattle.rdm_crew.specs.Setups.{switched_on}
use Rattle.rdm_crew.proofs.Accounts.{first_choice}

-- steps of the bus by which this happens, with these commands and polls
pub record Steps (s : Start) (es : List Event) (asked : List Step) : Type 0 where
  pub steps : List Step
  pub run : IsBusRun s steps es
  pub asked_are : flat_map asked_on steps ≡ asked

arrived : (s : Start) (es : List Event) → AreArrivals s es → Steps s es []
arrived s [] is = record { steps = []; run = tt; asked_are = refl }
arrived s (e ∷ es) is =
    let later = arrived (after s e) es is.1 in
    record { steps = Arrive is.0.0 ∷ later.steps; run = (is.0.1, later.run); asked_are = later.asked_are }

changed : (s : Start) (es : List Event) → AreChanges s es → Steps s es []
changed s [] is = record { steps = []; run = tt; asked_are = refl }
changed s (e ∷ es) is =
    let later = changed (after s e) es is.1 in
    record { steps = Change is.0.0 ∷ later.steps; run = (is.0.1, later.run); asked_are = later.asked_are }

run_append : (s : Start) (ps qs : List Step) (es fs : List Event) → IsBusRun s ps es → IsBusRun (after_all s es) qs fs → IsBusRun s (ps ++ qs) (es ++ fs)
run_append s [] qs [] fs one two = two
run_append s [] qs (e ∷ es) fs one two = absurd one
run_append s (p ∷ ps) qs [] fs one two = absurd one
run_append s (p ∷ ps) qs (e ∷ es) fs one two = (one.0, run_append (after s e) ps qs es fs one.1 two)

together : (s : Start) (es fs : List Event) (xs ys : List Step) → Steps s es xs → Steps (after_all s es) fs ys → Steps s (es ++ fs) (xs ++ ys)
together s es fs xs ys one two = record {
  steps = one.steps ++ two.steps;
  run = run_append s one.steps two.steps es fs one.run two.run;
  asked_are =
      flat_map-append asked_on one.steps two.steps
      ∙ ap (λ (l : List Step). l ++ flat_map asked_on two.steps) one.asked_are
      ∙ ap (λ (l : List Step). xs ++ l) two.asked_are;
}

of_piece : (s : Start) (step : CrewStep) (es : List Event) → IsPiece s step es → Steps s es (asked_at step)
of_piece s (crew.Ask c f) es is =
    subst (λ (l : List Event). Steps s l (Ask c f ∷ [])) (sym is.1) (record { steps = Ask c f ∷ []; run = (is.2, tt); asked_are = refl })
of_piece s (crew.Collect f) es is =
    subst (λ (l : List Event). Steps s l (Collect f ∷ [])) (sym is.1) (record { steps = Collect f ∷ []; run = (is.2, tt); asked_are = refl })
of_piece s crew.Draw es is = arrived s es is.0
of_piece s (crew.Settle empties) es is = arrived s es is.0
of_piece s (crew.Panel empties) es is = changed s es is.0

of_cut : (s : Start) (steps : List CrewStep) (es : List Event) → IsCut s steps es → Steps s es (flat_map asked_at steps)
of_cut s [] es is = arrived s es is.0
of_cut s (step ∷ steps) es is =
    subst (λ (l : List Event). Steps s l (flat_map asked_at (step ∷ steps))) (sym is.2)
    (together s is.0 is.1 (asked_at step) (flat_map asked_at steps) (of_piece s step is.0 is.3) (of_cut (after_all s is.0) steps is.1 is.4))

pub bus_of : (s : Start) (steps : List CrewStep) (es : List Event) → IsCut s steps es → (bus : List Step) × IsBusRun s bus es
bus_of s steps es cut = let found = of_cut s steps es cut in (found.steps, found.run)

-- ---- what is seen of a run is what it came to

pub cut_at : (s s' : Setup) (steps : List CrewStep) (es es' : List Event) → s ≡ s' → es' ≡ es → IsCut (switched_on s) steps es → IsCut (switched_on s') steps es'
cut_at s s' steps es es' e1 e2 cut = subst (λ (x : Setup). IsCut (switched_on x) steps es') e1 (subst (IsCut (switched_on s) steps) (sym e2) cut)

pub over_at : (s s' : Setup) (es es' : List Event) (taken taken' : List (Taken Report)) → s ≡ s' → es' ≡ es → taken' ≡ taken
    → IsHandedOver s.profile.workers es (handed_by taken) → IsHandedOver s'.profile.workers es' (handed_by taken')
over_at s s' es es' taken taken' e1 e2 e3 over =
    subst (λ (x : Setup). IsHandedOver x.profile.workers es' (handed_by taken')) e1
    (subst (λ (l : List (Taken Report)). IsHandedOver s.profile.workers es' (handed_by l)) (sym e3) (subst (λ (l : List Event). IsHandedOver s.profile.workers l (handed_by taken)) (sym e2) over))

pub headline_of_run : BusLawsHold → KeepingHolds → (setup : Setup) (steps : List CrewStep) (taken : List (Taken Report)) (es : List Event) (collected : List Message)
    → IsCut (switched_on setup) steps es → IsHandedOver setup.profile.workers es (handed_by taken) → collected ≡ recorded es → HeadlineOfRun setup steps taken es collected
headline_of_run hold keeping setup steps taken es collected cut over same =
    let found = of_cut (switched_on setup) steps es cut in
    record {
      first_closed = over.first_closed;
      second_closed = over.second_closed;
      bus = found.steps;
      asked = found.asked_are;
      headline = subst (Headline (switched_on setup) found.steps (handed_by taken) es) (sym same)
          (headline_of hold keeping (switched_on setup) found.steps es (handed_by taken) tt found.run over.enters
          (subst (λ (ws : Choice). NothingAfterClose ws (handed_by taken)) (sym (first_choice setup)) over.nothing_after_close));
    }
