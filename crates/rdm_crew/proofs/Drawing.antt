-- What each take from the report lane makes of a desk.
use Rattle.std.proofs.Common.{◌≡◌, ◌≢◌, ℕ, ◌<◌, ◌≤◌, ◌+◌, List, [], ◌∷◌, ◌++◌, refl, sym, ap, subst, ◌∙◌, arith, append_assoc, append-nil}
use Rattle.std.specs.Prelude.{Ok, Err}
use Rattle.std.proofs.lemmas.List.Concat.{flat_map-append}
use Rattle.std.proofs.lemmas.List.Sums.{fold-append}
use Rattle.rdm_outbox.specs.declared.job.Job.{Job}
use Rattle.rdm_outbox.specs.Jobs.{jobs_of, outstanding_count}
use Rattle.rdm_responder.specs.declared.report.Report.{Report}
use Rattle.rdm_responder.specs.History.{History}
use Rattle.rdm_responder.specs.Lawful.{MayArrive}
use Rattle.rdm_responder.specs.Rules.{account_of}
use Rattle.rdm_responder.specs.Runs.{outbox_of}
use Rattle.rdm_responder.specs.StandsFor.{StandsFor}
use Rattle.rdm_bus.specs.declared.event.Event.{Event}
use Rattle.rdm_bus.specs.declared.event.Event.TheVariants.{Bus, Arrived, Changed}
use Rattle.rdm_bus.specs.declared.event.Step.{Step}
use Rattle.rdm_bus.specs.declared.event.Step.TheVariants.{Arrive}
use Rattle.rdm_bus.specs.BusRun.{Start, IsPlayed, after, after_all}
use Rattle.rdm_bus.specs.Systems.{Played, IsTrace, IsAstray}
use Rattle.rdm_lane.specs.declared.taken.Taken.{Taken}
use Rattle.rdm_lane.specs.declared.taken.Taken.TheVariants.{Item, Mark, Empty, Closed}
use Rattle.rdm_lane.specs.Ends.{TakeState, IsNext, IsOver, took}
use Rattle.rdm_lane.specs.Lane.{items_of}
use Rattle.rdm_crew.specs.declared.bus.desk.Desk.{Desk}
use Rattle.rdm_crew.specs.declared.bus.desk.Drawn.{Drawn}
use Rattle.rdm_crew.specs.declared.bus.desk.Drawn.TheVariants as drawn
use Rattle.rdm_crew.specs.declared.bus.stop.Stop.{Stop}
use Rattle.rdm_crew.specs.declared.bus.stop.Stop.TheVariants as stop
use Rattle.rdm_crew.specs.Crews.{jobs_for}
use Rattle.rdm_crew.specs.Desks.{chosen, began, stands_at, HasRun, OfTwo, IsDrawn, IsSuspect, IsSameDesk, HasArrived, HaveArrived, HaveSettled, IsCutShort, AfterDraw, nones_in}
use Rattle.rdm_bus.specs.Happened.{started_in, arrived_in, jobs_in, reports_in}
use Rattle.rdm_crew.specs.RunTrace.{AreArrivals}
use Rattle.rdm_crew.specs.Setups.{switched_on}
use Rattle.rdm_crew.proofs.Items.{items-append}

-- ---- lists of events

pub jobs-append : (es fs : List Event) → jobs_in (es ++ fs) ≡ jobs_in es ++ jobs_in fs
unfolding jobs_in
jobs-append es fs = flat_map-append started_in es fs

pub reports-append : (es fs : List Event) → reports_in (es ++ fs) ≡ reports_in es ++ reports_in fs
unfolding reports_in
reports-append es fs = flat_map-append arrived_in es fs

jobs_one : (e : Event) → jobs_in (e ∷ []) ≡ started_in e
unfolding jobs_in
jobs_one e = append-nil (started_in e)

reports_one : (e : Event) → reports_in (e ∷ []) ≡ arrived_in e
unfolding reports_in
reports_one e = append-nil (arrived_in e)

pub jobs-more : (es : List Event) (e : Event) → jobs_in (es ++ e ∷ []) ≡ jobs_in es ++ started_in e
jobs-more es e = jobs-append es (e ∷ []) ∙ ap (λ (l : List Job). jobs_in es ++ l) (jobs_one e)

pub reports-more : (es : List Event) (e : Event) → reports_in (es ++ e ∷ []) ≡ reports_in es ++ arrived_in e
reports-more es e = reports-append es (e ∷ []) ∙ ap (λ (l : List Report). reports_in es ++ l) (reports_one e)

arrival_reports : (s : Start) (r : Report) (e : Event) → IsPlayed s (Arrive r) e → arrived_in e ≡ r ∷ []
arrival_reports s r (Bus sent poll f reply job heard) is = absurd is
arrival_reports s r (Arrived reported m kept) is = ap (λ (x : Report). x ∷ []) is.0
arrival_reports s r (Changed change m) is = absurd is

arrival_starts : (s : Start) (r : Report) (e : Event) → IsPlayed s (Arrive r) e → started_in e ≡ []
arrival_starts s r (Bus sent poll f reply job heard) is = absurd is
arrival_starts s r (Arrived reported m kept) is = refl
arrival_starts s r (Changed change m) is = absurd is

pub no_jobs : jobs_in [] ≡ []
unfolding jobs_in
no_jobs = refl

pub no_reports : reports_in [] ≡ []
unfolding reports_in
no_reports = refl

jobs_cons : (e : Event) (es : List Event) → jobs_in (e ∷ es) ≡ started_in e ++ jobs_in es
unfolding jobs_in
jobs_cons e es = refl

arrivals_start : (s : Start) (es : List Event) → AreArrivals s es → jobs_in es ≡ []
arrivals_start s [] all = no_jobs
arrivals_start s (e ∷ es) all =
    jobs_cons e es ∙ ap (λ (l : List Job). l ++ jobs_in es) (arrival_starts s all.0.0 e all.0.1) ∙ arrivals_start (after s e) es all.1

arrivals-more : (s : Start) (es : List Event) (e : Event) (r : Report) → AreArrivals s es → IsPlayed (after_all s es) (Arrive r) e → AreArrivals s (es ++ e ∷ [])
arrivals-more s [] e r all is = ((r, is), tt)
arrivals-more s (x ∷ es) e r all is = (all.0, arrivals-more (after s x) es e r all.1 is)

-- ---- lists of what was taken

two-append : (es fs : List (Taken Report)) → OfTwo es → OfTwo fs → OfTwo (es ++ fs)
two-append [] fs one two = two
two-append (Item q n r ∷ es) fs one two = (one.0, two-append es fs one.1 two)
two-append (Mark q ∷ es) fs one two = two-append es fs one two
two-append (Empty ∷ es) fs one two = two-append es fs one two
two-append (Closed ∷ es) fs one two = two-append es fs one two

item_only : (q n : ℕ) (r : Report) → items_of (Item q n r ∷ []) ≡ r ∷ []
unfolding items_of
item_only q n r = refl

mark_only : (q : ℕ) (m : Taken Report) → m ≡ Mark q → items_of (m ∷ []) ≡ []
unfolding items_of
mark_only q m e = subst (λ (x : Taken Report). items_of (x ∷ []) ≡ []) (sym e) refl

-- ---- one take

-- the run goes on where the setup stays
run_of : (d e : Desk) → e.setup ≡ d.setup → (steps : List Step) → IsTrace (began d) steps e.system → HasRun e
run_of d e same steps trace = (steps, subst (λ s. IsTrace (switched_on s.value) steps e.system) (sym same) trace)

same_run : (d e : Desk) → e.setup ≡ d.setup → e.system ≡ d.system → HasRun d → HasRun e
same_run d e same still run = run_of d e same run.0 (subst (IsTrace (began d) run.0) (sym still) run.1)

module _ (d e : Desk) (t : Taken Report) (is : IsDrawn d) (same : e.setup ≡ d.setup) (takes : e.reports ≡ took d.reports t) where
  -- a report that arrives
  pub arrives : (q n : ℕ) (r : Report) (event : Event) → t ≡ Item q n r → IsNext d.reports t → e.system.trace ≡ d.system.trace ++ event ∷ []
      → ((start : Start) (steps : List Step) → IsTrace start steps d.system → IsPlayed (after_all start d.system.trace) (Arrive r) event)
      → ((start : Start) (steps : List Step) → IsTrace start steps d.system → IsTrace start (steps ++ Arrive r ∷ []) e.system)
      → IsDrawn e × HasArrived d e
  arrives q n r event item came longer plays goes =
      let took_item : e.reports ≡ took d.reports (Item q n r) = takes ∙ ap (took d.reports) item in
      let next : IsNext d.reports (Item q n r) = subst (IsNext d.reports) item came in
      let posts : d.reports.posts ≡ 2 = is.posts in
      let below : q < d.reports.posts = next.0 in
      let played : IsPlayed (stands_at d) (Arrive r) event = plays (began d) is.run.0 is.run.1 in
      let taken : e.reports.taken ≡ d.reports.taken ++ Item q n r ∷ [] = ap (λ (s : TakeState Report). s.taken) took_item in (
        record {
          run = run_of d e same (is.run.0 ++ Arrive r ∷ []) (goes (began d) is.run.0 is.run.1);
          posts = ap (λ (s : TakeState Report). s.posts) took_item ∙ is.posts;
          two = subst OfTwo (sym taken) (two-append d.reports.taken (Item q n r ∷ []) is.two (omega arith, tt));
          all =
              ap items_of taken
              ∙ items-append d.reports.taken (Item q n r ∷ [])
              ∙ ap (λ (l : List Report). items_of d.reports.taken ++ l) (item_only q n r)
              ∙ ap (λ (l : List Report). l ++ r ∷ []) is.all
              ∙ sym (ap reports_in longer ∙ reports-more d.system.trace event ∙ ap (λ (l : List Report). reports_in d.system.trace ++ l) (arrival_reports (stands_at d) r event played));
        },
        (event, r, longer, played),
      )

  -- a mark
  pub marked : (q : ℕ) → t ≡ Mark q → e.system ≡ d.system → IsDrawn e
  marked q mark still =
      let took_mark : e.reports ≡ took d.reports (Mark q) = takes ∙ ap (took d.reports) mark in
      let taken : e.reports.taken ≡ d.reports.taken ++ Mark q ∷ [] = ap (λ (s : TakeState Report). s.taken) took_mark in
      record {
        run = same_run d e same still is.run;
        posts = ap (λ (s : TakeState Report). s.posts) took_mark ∙ is.posts;
        two = subst OfTwo (sym taken) (two-append d.reports.taken (Mark q ∷ []) is.two tt);
        all =
            ap items_of taken
            ∙ items-append d.reports.taken (Mark q ∷ [])
            ∙ ap (λ (l : List Report). items_of d.reports.taken ++ l) (mark_only q (Mark q) refl)
            ∙ append-nil (items_of d.reports.taken)
            ∙ is.all
            ∙ ap (λ (p : Played). reports_in p.trace) (sym still);
      }

  -- a report that may not arrive
  pub suspected : (q n : ℕ) (r : Report) → t ≡ Item q n r → IsNext d.reports t → e.system ≡ d.system → IsAstray d.system.responder (Arrive r) → IsSuspect e
  suspected q n r item came still astray =
      let took_item : e.reports ≡ took d.reports (Item q n r) = takes ∙ ap (took d.reports) item in
      let next : IsNext d.reports (Item q n r) = subst (IsNext d.reports) item came in
      let posts : d.reports.posts ≡ 2 = is.posts in
      let below : q < d.reports.posts = next.0 in
      let at : stands_at e ≡ stands_at d = ap (λ s. after_all (switched_on s.value) e.system.trace) same ∙ ap (λ (p : Played). after_all (began d) p.trace) still in
      record {
        run = same_run d e same still is.run;
        posts = ap (λ (s : TakeState Report). s.posts) took_item ∙ is.posts;
        before = d.reports.taken;
        producer = q;
        number = n;
        report = r;
        after = [];
        taken = ap (λ (s : TakeState Report). s.taken) took_item;
        two = is.two;
        below = omega arith;
        all = is.all ∙ ap (λ (p : Played). reports_in p.trace) (sym still);
        astray = λ may. astray (stands_at d).history is.run.1.stands.responder (subst (λ (s : Start). MayArrive (account_of s.history) r) at may);
      }

-- ---- what is taken after a suspected report

pub still_suspected : (d e : Desk) (more : List (Taken Report)) → IsSuspect d → e.setup ≡ d.setup → e.system ≡ d.system → e.reports.posts ≡ d.reports.posts → e.reports.taken ≡ d.reports.taken ++ more → IsSuspect e
still_suspected d e more is same still posts takes =
    let at : stands_at e ≡ stands_at d = ap (λ s. after_all (switched_on s.value) e.system.trace) same ∙ ap (λ (p : Played). after_all (began d) p.trace) still in
    record {
      run = same_run d e same still is.run;
      posts = posts ∙ is.posts;
      before = is.before;
      producer = is.producer;
      number = is.number;
      report = is.report;
      after = is.after ++ more;
      taken = takes ∙ ap (λ (l : List (Taken Report)). l ++ more) is.taken ∙ append_assoc is.before (Item is.producer is.number is.report ∷ is.after) more;
      two = is.two;
      below = is.below;
      all = is.all ∙ ap (λ (p : Played). reports_in p.trace) (sym still);
      astray = λ may. is.astray (subst (λ (s : Start). MayArrive (account_of s.history) is.report) at may);
    }

module _ (d e : Desk) (t : Taken Report) (is : IsSuspect d) (same : e.setup ≡ d.setup) (still : e.system ≡ d.system) (takes : e.reports ≡ took d.reports t) where
  pub suspected_before_item : (q n : ℕ) (r : Report) → t ≡ Item q n r → IsSuspect e
  suspected_before_item q n r item =
      let took_item : e.reports ≡ took d.reports (Item q n r) = takes ∙ ap (took d.reports) item in
      still_suspected d e (Item q n r ∷ []) is same still (ap (λ (s : TakeState Report). s.posts) took_item) (ap (λ (s : TakeState Report). s.taken) took_item)

  pub suspected_before_mark : (q : ℕ) → t ≡ Mark q → IsSuspect e
  suspected_before_mark q mark =
      let took_mark : e.reports ≡ took d.reports (Mark q) = takes ∙ ap (took d.reports) mark in
      still_suspected d e (Mark q ∷ []) is same still (ap (λ (s : TakeState Report). s.posts) took_mark) (ap (λ (s : TakeState Report). s.taken) took_mark)

  pub suspected_to_the_end : t ≡ Closed → IsNext d.reports t → IsSuspect e × IsOver e.reports
  suspected_to_the_end closed came =
      let took_closed : e.reports ≡ took d.reports Closed = takes ∙ ap (took d.reports) closed in
      let over : IsOver d.reports = subst (IsNext d.reports) closed came in (
        still_suspected d e [] is same still (ap (λ (s : TakeState Report). s.posts) took_closed) (ap (λ (s : TakeState Report). s.taken) took_closed ∙ sym (append-nil d.reports.taken)),
        subst IsOver (sym took_closed) over,
      )

-- ---- reports that have arrived since

pub none_arrived : (d : Desk) → HaveArrived d d
none_arrived d = ([], sym (append-nil d.system.trace), tt)

-- the jobs of a worker, where the setup stays and no further job has started
pub jobs_stay : (p : ℕ) (d e : Desk) → e.setup ≡ d.setup → jobs_in e.system.trace ≡ jobs_in d.system.trace → jobs_for p d ≡ jobs_for p e
jobs_stay p d e same jobs = ap (λ s. jobs_of s.value.profile.workers p (jobs_in d.system.trace)) (sym same) ∙ ap (jobs_of (chosen e) p) (sym jobs)

pub stands_after : (d e : Desk) (es : List Event) → e.setup ≡ d.setup → e.system.trace ≡ d.system.trace ++ es → stands_at e ≡ after_all (stands_at d) es
stands_after d e es same longer =
    ap (λ s. after_all (switched_on s.value) e.system.trace) same
    ∙ ap (after_all (began d)) longer
    ∙ fold-append after (began d) d.system.trace es

pub one_more : (d m e : Desk) → IsSameDesk d m → HaveArrived d m → HasArrived m e → HaveArrived d e
one_more d m e same before one = (
  before.0 ++ one.0 ∷ [],
  one.2 ∙ ap (λ (l : List Event). l ++ one.0 ∷ []) before.1 ∙ append_assoc d.system.trace before.0 (one.0 ∷ []),
  arrivals-more (stands_at d) before.0 one.0 one.1 before.2
      (subst (λ (s : Start). IsPlayed s (Arrive one.1) one.0) (stands_after d m before.0 same.0 before.1) one.3),
)

pub same_desk : (d m e : Desk) → IsSameDesk d m → IsSameDesk m e → IsSameDesk d e
same_desk d m e one two = (two.0 ∙ one.0, (two.1.0 ∙ one.1.0, two.1.1 ∙ one.1.1))

-- .. and one more
pub keeps_arrived : (d m e : Desk) (x : Drawn) → x ≡ drawn.Arrived → AfterDraw m e (Ok x) → HaveArrived d m → IsSameDesk d m → IsSameDesk m e → IsDrawn e × HaveArrived d e × IsSameDesk d e
keeps_arrived d m e x arrived after before one two =
    let is : IsDrawn e × HasArrived m e = subst (λ (y : Drawn). AfterDraw m e (Ok y)) arrived after in
    (is.0, one_more d m e one before is.1, same_desk d m e one two)

no_more : (old new most k : ℕ) → k ≡ 0 → new ≡ old + k → old ≤ most → new ≤ most
no_more old new most k none sum within = omega arith

-- a report that arrives isn't counted
pub still_within : (old new most : ℕ) (x : Drawn) → x ≡ drawn.Arrived → new ≡ old + nones_in (Ok x) → old ≤ most → new ≤ most
still_within old new most x arrived sum within = no_more old new most (nones_in (Ok x)) (ap (λ (y : Drawn). nones_in (Ok y)) arrived) sum within

pub still_arrived : (d m e : Desk) → HaveArrived d m → e.system ≡ m.system → HaveArrived d e
still_arrived d m e before still = (before.0, ap (λ (p : Played). p.trace) still ∙ before.1, before.2)

pub same_jobs : (d e : Desk) → HaveArrived d e → jobs_in e.system.trace ≡ jobs_in d.system.trace
same_jobs d e before =
    ap jobs_in before.1
    ∙ jobs-append d.system.trace before.0
    ∙ ap (λ (l : List Job). jobs_in d.system.trace ++ l) (arrivals_start (stands_at d) before.0 before.2)
    ∙ append-nil (jobs_in d.system.trace)

-- no job is outstanding
pub settles : (d e : Desk) (n : ℕ) → IsSameDesk d e → HaveArrived d e → IsDrawn e → ((h : History) → StandsFor e.system.responder h → n ≡ outstanding_count (outbox_of h)) → n ≡ 0 → HaveSettled d e
settles d e n same before is counts none = (
  before.0,
  before.1,
  (
    before.2,
    subst (λ (s : Start). outstanding_count (outbox_of s.history) ≡ 0) (stands_after d e before.0 same.0 before.1)
        (sym (counts (stands_at e).history is.run.1.stands.responder) ∙ none),
  ),
)

pub cut_short : (d m e : Desk) (why : Stop) → HaveArrived d m → AfterDraw m e (Err why) → IsCutShort d e why
cut_short d m e stop.OutOfMemory before is = tt
cut_short d m e stop.Unsettled before is = tt
cut_short d m e stop.Astray before is = (is.0, ap (λ (p : Played). jobs_in p.trace) is.1 ∙ same_jobs d m before)
cut_short d m e stop.Reserved before is = absurd is
cut_short d m e stop.TooLong before is = absurd is

pub never_unsettled : (d e : Desk) (why : Stop) → AfterDraw d e (Err why) → why ≢ stop.Unsettled
never_unsettled d e stop.OutOfMemory is same = absurd cc
never_unsettled d e stop.Unsettled is same = is
never_unsettled d e stop.Astray is same = absurd cc
never_unsettled d e stop.Reserved is same = absurd cc
never_unsettled d e stop.TooLong is same = absurd cc
