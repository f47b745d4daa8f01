-- The start of a run: nothing has happened, and nothing was put into a lane or taken from one.
use Rattle.std.proofs.Common.{◌≡◌, ◌↔◌, ℕ, List, [], ◌∷◌, refl, sym, ap, subst, ◌∙◌}
use Rattle.std.specs.Prelude.{◌≢◌, Result, Ok, Err, IfErr, IsErrOf}
use Rattle.rdm_commands.specs.declared.panel.Change.{Change}
use Rattle.rdm_outbox.specs.declared.job.Job.{Job}
use Rattle.rdm_params.specs.Jobs.Work.{Choice}
use Rattle.rdm_outbox.specs.Jobs.{jobs_of}
use Rattle.rdm_responder.specs.declared.report.Report.{Report}
use Rattle.rdm_bus.specs.declared.event.Event.{Event}
use Rattle.rdm_bus.specs.BusRun.{Start, IsBusRun}
use Rattle.rdm_bus.specs.Systems.{IsTrace, Played}
use Rattle.rdm_lane.specs.Ends.{PostState, TakeState, new_post}
use Rattle.rdm_lane.specs.Lane.{items_of, items_from}
use Rattle.rdm_crew.specs.declared.bus.crew.Crew.{Crew}
use Rattle.rdm_crew.specs.declared.bus.desk.Desk.{Desk}
use Rattle.rdm_crew.specs.declared.error.RunError.{RunError}
use Rattle.rdm_crew.specs.declared.error.RunError.TheVariants as run
use Rattle.rdm_crew.specs.declared.ready.Ready.{Ready}
use Rattle.rdm_crew.specs.declared.setup.Setup.{Setup}
use Rattle.rdm_crew.specs.declared.stopped.Stopped.{Stopped}
use Rattle.rdm_crew.specs.declared.stopped.Stopped.TheVariants.{OutOfMemory, BadSetup, Reserved, TooLong, Unsettled}
use Rattle.rdm_crew.specs.declared.threads.equipment.Equipment.{Equipment}
use Rattle.rdm_crew.specs.Setups.{switched_on}
use Rattle.rdm_crew.specs.Stops.{error_of}
use Rattle.rdm_crew.specs.Crews.{HasChanges, IsTied}
use Rattle.rdm_crew.specs.Desks.{began, chosen, OfTwo, IsDrawn}
use Rattle.rdm_bus.specs.Happened.{changes_in, jobs_in, reports_in}
use Rattle.rdm_crew.specs.Stages.{IsReady}
use Rattle.rdm_crew.specs.Settling.{IsLaneOfOne, IsNewLaneOfOne, IsReportLane}
use Rattle.rdm_crew.specs.Watchers.{most_changes}
use Rattle.rdm_crew.specs.Workers.{most, IsIdle}
use Rattle.rdm_crew.proofs.Changing.{no_changes}
use Rattle.rdm_crew.proofs.Drawing.{no_jobs, no_reports}

nothing : (s : Start) (es : List Event) → IsBusRun s [] es → es ≡ []
nothing s [] run = refl
nothing s (e ∷ es) run = absurd run

no_items : items_of {T = Report} [] ≡ []
unfolding items_of
no_items = refl

drawn : (d : Desk) (a b : PostState Report) → IsTrace (began d) [] d.system → IsReportLane d.reports a b → IsDrawn d
drawn d a b trace lane =
    let taken : d.reports.taken ≡ [] = ap (λ (t : TakeState Report). t.taken) lane.0 in
    record {
      run = ([], trace);
      posts = ap (λ (t : TakeState Report). t.posts) lane.0;
      two = subst OfTwo (sym taken) tt;
      all = ap items_of taken ∙ no_items ∙ sym (ap reports_in (nothing (began d) d.system.trace trace.run) ∙ no_reports);
    }

none_put : (ws : Choice) (p : ℕ) (es : List Event) (post : PostState Job) → es ≡ [] → post.items ≡ [] → post.items ≡ jobs_of ws p (jobs_in es)
none_put ws p es post none items = items ∙ sym (ap (λ (l : List Event). jobs_of ws p (jobs_in l)) none ∙ ap (jobs_of ws p) no_jobs)

tied : (c : Crew) (first_jobs second_jobs : TakeState Job) (a b : PostState Report)
    → IsTrace (began c.desk) [] c.desk.system → IsNewLaneOfOne most first_jobs c.first → IsNewLaneOfOne most second_jobs c.second → IsReportLane c.desk.reports a b
    → IsTied c × (c.desk.system.trace ≡ [])
tied c first_jobs second_jobs a b trace one two reports =
    let none : c.desk.system.trace ≡ [] = nothing (began c.desk) c.desk.system.trace trace.run in (
      record {
        drawn = drawn c.desk a b trace reports;
        jobs = (
          none_put (chosen c.desk) 0 c.desk.system.trace c.first none (ap (λ (p : PostState Job). p.items) one.1),
          none_put (chosen c.desk) 1 c.desk.system.trace c.second none (ap (λ (p : PostState Job). p.items) two.1),
        );
        first_limit = ap (λ (p : PostState Job). p.limit) one.1;
        second_limit = ap (λ (p : PostState Job). p.limit) two.1;
      },
      none,
    )

lane_of_new : {T : Type 0} (limit : ℕ) (take : TakeState T) (post : PostState T) → IsNewLaneOfOne limit take post → IsLaneOfOne take post
lane_of_new {T} limit take post lane = record {
  lane = ap (λ (p : PostState T). p.lane) lane.1;
  producer = ap (λ (p : PostState T). p.producer) lane.1;
  posts = ap (λ (t : TakeState T). t.posts) lane.0;
}

idle : (jobs : TakeState Job) (post : PostState Job) (reports : PostState Report) (taker : TakeState Report) (p : ℕ) → IsNewLaneOfOne most jobs post → reports ≡ new_post taker.lane p most → IsIdle jobs reports
idle jobs post reports taker p lane new = record {
  one_post = ap (λ (t : TakeState Job). t.posts) lane.0;
  none_taken = ap (λ (t : TakeState Job). t.taken) lane.0;
  none_put = ap (λ (r : PostState Report). r.items) new;
  limit = ap (λ (r : PostState Report). r.limit) new;
}

no_changes_taken : items_from {T = Change} 0 [] ≡ []
unfolding items_of
no_changes_taken = refl

-- nothing was taken of the panel, and nothing has happened there
unchanged : (d : Desk) (changes : TakeState Change) (post : PostState Change) → IsTrace (began d) [] d.system → IsNewLaneOfOne most_changes changes post → HasChanges d changes × IsLaneOfOne changes post
unchanged d changes post trace lane = (
  (
    ap (λ (t : TakeState Change). items_from 0 t.taken) lane.0 ∙ no_changes_taken ∙ sym (ap changes_in (nothing (began d) d.system.trace trace.run) ∙ no_changes),
    ap (λ (t : TakeState Change). t.posts) lane.0,
  ),
  lane_of_new most_changes changes post lane,
)

-- all that a run is made of, when it was just made
ready_of : (r : Ready)
    → IsTrace (began r.crew.desk) [] r.crew.desk.system → IsNewLaneOfOne most r.first.jobs r.crew.first → IsNewLaneOfOne most r.second.jobs r.crew.second
    → IsReportLane r.crew.desk.reports r.first.reports r.second.reports → IsNewLaneOfOne most_changes r.crew.changes r.watcher.changes → IsReady r
ready_of r trace one two reports panel =
    let start = tied r.crew r.first.jobs r.second.jobs r.first.reports r.second.reports trace one two reports in
    let menu = unchanged r.crew.desk r.crew.changes r.watcher.changes trace panel in
    record {
      tied = start.0;
      new = start.1;
      changes = menu.0;
      lanes = record {
        first = lane_of_new most r.first.jobs r.crew.first one;
        second = lane_of_new most r.second.jobs r.crew.second two;
        reports = record {
          first_lane = ap (λ (p : PostState Report). p.lane) reports.1;
          second_lane = ap (λ (p : PostState Report). p.lane) reports.2;
          first_producer = ap (λ (p : PostState Report). p.producer) reports.1;
          second_producer = ap (λ (p : PostState Report). p.producer) reports.2;
          posts = ap (λ (t : TakeState Report). t.posts) reports.0;
        };
      };
      panel_lane = menu.1;
      first_idle = idle r.first.jobs r.crew.first r.first.reports r.crew.desk.reports 0 one reports.1;
      second_idle = idle r.second.jobs r.crew.second r.second.reports r.crew.desk.reports 1 two reports.2;
      unwatched = record {
        none_put = ap (λ (p : PostState Change). p.items) panel.1;
        limit = ap (λ (p : PostState Change). p.limit) panel.1;
      };
    }

-- .. of a crew and of the equipment of which it has its part
pub made_ready : (c : Crew) (kit : Equipment) (setup : Setup) (system : Played)
    → c.desk.setup.value ≡ setup → c.desk.system ≡ system → c.desk.reports ≡ kit.bus.reports → c.first ≡ kit.bus.first → c.second ≡ kit.bus.second → c.changes ≡ kit.bus.changes
    → IsTrace (switched_on setup) [] system → IsNewLaneOfOne most kit.first.jobs kit.bus.first → IsNewLaneOfOne most kit.second.jobs kit.bus.second
    → IsReportLane kit.bus.reports kit.first.reports kit.second.reports → IsNewLaneOfOne most_changes kit.bus.changes kit.watcher.changes
    → IsReady (record { crew = c; first = kit.first; second = kit.second; watcher = kit.watcher; rooms = kit.rooms })
made_ready c kit setup system e0 e1 e2 e3 e4 e5 trace one two reports panel =
    ready_of (record { crew = c; first = kit.first; second = kit.second; watcher = kit.watcher; rooms = kit.rooms })
    (subst (λ (s : Setup). IsTrace (switched_on s) [] c.desk.system) (sym e0) (subst (λ (s : Played). IsTrace (switched_on setup) [] s) (sym e1) trace))
    (subst (IsNewLaneOfOne most kit.first.jobs) (sym e3) one)
    (subst (IsNewLaneOfOne most kit.second.jobs) (sym e4) two)
    (subst (λ (t : TakeState Report). IsReportLane t kit.first.reports kit.second.reports) (sym e2) reports)
    (subst (λ (t : TakeState Change). IsNewLaneOfOne most_changes t kit.watcher.changes) (sym e5) panel)

abbrev error_in : {A E : Type 0} → E → Result A E → E
error_in d (Ok a) = d
error_in d (Err e) = e

-- an answer of another type is the same error
same_error : {A B : Type 0} (e x : Stopped) → IsErrOf {T = A} (Err e) x → IsErrOf {T = B} (Err e) x
same_error e x is = ap Err (ap (error_in e) is)

pub told_also : {A B : Type 0} (e x : Stopped) (S : Type 0) → (IsErrOf {T = A} (Err e) x ↔ S) → (IsErrOf {T = B} (Err e) x ↔ S)
told_also {A} {B} e x S both = (λ is. both.0 (same_error {A = B} {B = A} e x is), λ s. same_error {A = A} {B = B} e x (both.1 s))

no_error : {A : Type 0} (a : A) (x : Stopped) → IsErrOf {T = A} (Ok a) x → ⊥
no_error a x is = cc

-- where the setup can be run, and something else is told later, it isn't bad
pub good_later : {A B : Type 0} (a : A) (r : Result B Stopped) (S : Type 0) → (IsErrOf {T = A} (Ok a) BadSetup ↔ S) → IfErr r (λ s. s ≢ BadSetup) → (IsErrOf r BadSetup ↔ S)
good_later a (Ok b) S both other = (λ is. absurd (no_error b BadSetup is), λ s. absurd (no_error a BadSetup (both.1 s)))
good_later a (Err e) S both other = (λ is. absurd (other (ap (error_in BadSetup) is)), λ s. absurd (no_error a BadSetup (both.1 s)))

bad_only : (s : Stopped) → error_of s ≡ run.BadSetup → s ≡ BadSetup
bad_only OutOfMemory e = absurd cc
bad_only BadSetup e = refl
bad_only (Reserved k) e = absurd cc
bad_only (TooLong k) e = absurd cc
bad_only (Unsettled k) e = absurd cc

-- the error of a stop tells of a bad setup where the stop does
pub told_bad : {A : Type 0} (s : Stopped) (e : RunError) (S : Type 0) → e ≡ error_of s → (IsErrOf {T = A} (Err s) BadSetup ↔ S) → (IsErrOf {T = A} (Err e) run.BadSetup ↔ S)
told_bad {A} s e S same both = (
  λ is. both.0 (ap Err (bad_only s (sym same ∙ ap (error_in e) is))),
  λ t. ap Err (same ∙ ap error_of (ap (error_in s) (both.1 t))),
)
