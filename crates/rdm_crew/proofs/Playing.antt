-- What each step makes of a crew.
use Rattle.std.proofs.Common.{◌≡◌, ℕ, ◌+◌, ◌<◌, ◌==◌, List, [], ◌∷◌, ◌++◌, length, drop, get_or, Some, refl, sym, ap, subst, ◌∙◌, arith, append_assoc, append-nil, add-one}
use Rattle.std.specs.Prelude.{Option, Result, Ok, Err, IfSome, MatchResult}
use Rattle.std.proofs.Math.Seq.{drop-cons}
use Rattle.std.proofs.lemmas.List.Elements.{filter-append}
use Rattle.rdm_frame.specs.declared.fault.Fault.{Fault}
use Rattle.rdm_commands.specs.declared.panel.Change.{Change}
use Rattle.rdm_params.specs.Jobs.Laws.{GetStartsItsWork, SetStartsItsWork}
use Rattle.rdm_params.specs.Jobs.Work.{Choice, worker_at}
use Rattle.rdm_outbox.specs.declared.job.Job.{Job}
use Rattle.rdm_outbox.specs.Jobs.{jobs_of}
use Rattle.rdm_responder.specs.declared.report.Report.{Report}
use Rattle.rdm_responder.specs.Runs.{outbox_of}
use Rattle.rdm_responder.specs.Started.{IsForItsWorker}
use Rattle.rdm_responder.specs.declared.stepped.Started.{Started}
use Rattle.rdm_bus.specs.declared.event.Event.{Event}
use Rattle.rdm_bus.specs.declared.event.Step.{Step}
use Rattle.rdm_bus.specs.declared.event.Step.TheVariants as bus
use Rattle.rdm_collector.specs.declared.command.Command.{Command}
use Rattle.rdm_bus.specs.declared.system.PlayError.{PlayError}
use Rattle.rdm_bus.specs.declared.system.PlayError.TheVariants as refused
use Rattle.rdm_bus.specs.BusRun.{Start, IsPlayed, after, after_all}
use Rattle.rdm_bus.specs.Systems.{Played, refusal_in}
use Rattle.rdm_lane.specs.Ends.{PostState, TakeState, IsSamePost}
use Rattle.rdm_lane.specs.Lane.{items_of}
use Rattle.rdm_crew.specs.declared.bus.crew.Crew.{Crew}
use Rattle.rdm_crew.specs.declared.bus.desk.Desk.{Desk}
use Rattle.rdm_crew.specs.declared.bus.desk.Drawn.{Drawn}
use Rattle.rdm_crew.specs.declared.bus.desk.Drawn.TheVariants as drawn
use Rattle.rdm_crew.specs.declared.step.CrewStep.{CrewStep}
use Rattle.rdm_crew.specs.declared.step.CrewStep.TheVariants.{Ask, Collect, Draw, Settle}
use Rattle.rdm_crew.specs.declared.bus.stop.Stop.{Stop}
use Rattle.rdm_crew.specs.declared.bus.stop.Stop.TheVariants as stop
use Rattle.rdm_crew.specs.Crews.{HasJobs, jobs_for, HasChanged, IsTied, IsSameCrew, IsSent, HasSent, HasPlayed, HavePlayed, IsRefused, IsStopped}
use Rattle.rdm_crew.specs.Desks.{stands_at, chosen, HasRun, OfTwo, IsDrawn, IsSameDesk, HasArrived, HaveArrived, HaveSettled, IsCutShort, AfterDraw}
use Rattle.rdm_bus.specs.Happened.{started_in, arrived_in, jobs_in, reports_in}
use Rattle.rdm_crew.specs.RunTrace.{AreArrivals, IsCut, refusal_at}
use Rattle.rdm_crew.specs.Stops.{stop_of}
use Rattle.rdm_crew.specs.Workers.{most}
use Rattle.rdm_crew.proofs.Accounts.{IsNextJob, Each, Tells, event_starts, run_tells}
use Rattle.rdm_crew.proofs.Changing.{change_quiet, change_starts}
use Rattle.rdm_crew.proofs.Drawing.{jobs-more, reports-more, same_jobs, jobs_stay, stands_after, same_desk}

-- ---- a command or a poll

-- it is no arrival
nothing_arrives : (s : Start) (p : Step) (e : Event) → IsSent p → IsPlayed s p e → arrived_in e ≡ []
nothing_arrives s (bus.Ask c f) e sent is = ap arrived_in is.1.event_is
nothing_arrives s (bus.Collect f) e sent is = ap arrived_in is.event_is
nothing_arrives s (bus.Arrive r) e sent is = absurd sent
nothing_arrives s (bus.Change change) e sent is = absurd sent

-- why it isn't played
pub refused_for : (p : Step) (e : PlayError) → (e ≡ refused.Reserved → refusal_in p ≡ Some refused.Reserved) → (e ≡ refused.TooLong → refusal_in p ≡ Some refused.TooLong) → (e ≡ refused.Astray → ⊥) → (e ≡ refused.NoRoom → ⊥) → IsRefused p (stop_of e)
refused_for p refused.OutOfMemory reserved long astray room = tt
refused_for p refused.Reserved reserved long astray room = reserved refl
refused_for p refused.TooLong reserved long astray room = long refl
refused_for p refused.Astray reserved long astray room = astray refl
refused_for p refused.NoRoom reserved long astray room = room refl

abbrev pub IsSentTo : Step → Event → Desk → Desk → Type 0
IsSentTo p event d e = (e.setup ≡ d.setup) × (e.reports ≡ d.reports) × (e.system.trace ≡ d.system.trace ++ event ∷ []) × IsPlayed (stands_at d) p event × HasRun e

-- the desk after an event that isn't an arrival
sent_desk : (d e : Desk) (p : Step) (event : Event) → IsDrawn d → arrived_in event ≡ [] → IsSentTo p event d e → IsDrawn e
sent_desk d e p event is quiet done = record {
  run = done.4;
  posts = ap (λ (s : TakeState Report). s.posts) done.1 ∙ is.posts;
  two = subst (λ (s : TakeState Report). OfTwo s.taken) (sym done.1) is.two;
  all =
      ap (λ (s : TakeState Report). items_of s.taken) done.1
      ∙ is.all
      ∙ sym (ap reports_in done.2 ∙ reports-more d.system.trace event ∙ ap (λ (l : List Report). reports_in d.system.trace ++ l) quiet ∙ append-nil (reports_in d.system.trace));
}

-- ---- the job that starts

jobs_of-more : (ws : Choice) (p : ℕ) (es : List Event) (e : Event) → jobs_of ws p (jobs_in (es ++ e ∷ [])) ≡ jobs_of ws p (jobs_in es) ++ jobs_of ws p (started_in e)
jobs_of-more ws p es e = ap (jobs_of ws p) (jobs-more es e) ∙ filter-append (λ (j : Job). worker_at ws j.work == p) (jobs_in es) (started_in e)

-- the lanes where a job started, and where none did
pub has_jobs : (d e : Desk) (event : Event) (js : List Job) (f1 s1 f2 s2 : PostState Job) → HasJobs d f1 s1 → e.setup ≡ d.setup → e.system.trace ≡ d.system.trace ++ event ∷ [] → js ≡ started_in event
    → f2.items ≡ f1.items ++ jobs_of (chosen d) 0 js → s2.items ≡ s1.items ++ jobs_of (chosen d) 1 js → HasJobs e f2 s2
has_jobs d e event js f1 s1 f2 s2 has same longer started first second =
    let ws : Choice = chosen d in
    let more : (p : ℕ) → jobs_for p d ++ jobs_of ws p js ≡ jobs_for p e = λ p.
    ap (λ (l : List Job). jobs_for p d ++ jobs_of ws p l) started
    ∙ sym (ap (λ s. jobs_of s.value.profile.workers p (jobs_in e.system.trace)) same ∙ ap (λ (l : List Event). jobs_of ws p (jobs_in l)) longer ∙ jobs_of-more ws p d.system.trace event) in (
      first ∙ ap (λ (l : List Job). l ++ jobs_of ws 0 js) has.0 ∙ more 0,
      second ∙ ap (λ (l : List Job). l ++ jobs_of ws 1 js) has.1 ∙ more 1,
    )

-- the worker by whose number a job that starts is handed on is the one that has it by the choice of the run
pub own_worker : (d : Desk) (o : Option Started) (s : Started) → HasRun d → IfSome o (IsForItsWorker d.system.responder.outbox.workers) → o ≡ Some s → IsForItsWorker (chosen d) s
own_worker d o s run its is =
    let tells : Tells (chosen d) (outbox_of (stands_at d).history) d.system.trace = run_tells d.setup.value run.0 d.system.trace run.1.run in
    subst (λ (ws : Choice). IsForItsWorker ws s) (run.1.stands.responder.outbox.workers ∙ tells.workers)
    (subst (λ (x : Option Started). IfSome x (IsForItsWorker d.system.responder.outbox.workers)) is its)

-- there is room in its lane for a job that starts
below_most : GetStartsItsWork → SetStartsItsWork → (d : Desk) (p : Step) (event : Event) (j : Job) → HasRun d → IsPlayed (stands_at d) p event → j ∷ [] ≡ started_in event
    → length (jobs_for (worker_at (chosen d) j.work) d) < most
below_most gets sets d p event j run is started =
    let next : IsNextJob (outbox_of (stands_at d).history) j = (subst (Each (IsNextJob (outbox_of (stands_at d).history))) (sym started) (event_starts gets sets (stands_at d) p event is)).0 in
    let ws : Choice = chosen d in
    let a = outbox_of (stands_at d).history in
    let tells : Tells ws a d.system.trace = run_tells d.setup.value run.0 d.system.trace run.1.run in
    subst (λ (n : ℕ). length (jobs_for (worker_at ws j.work) d) < n) tells.most
    (subst (λ (l : List Job). length (jobs_of ws (worker_at ws j.work) l) < a.jobs) tells.accepted
    (subst (λ (v : Choice). length (jobs_of v (worker_at v j.work) a.accepted) < a.jobs) tells.workers next.below))

pub first_has_room : GetStartsItsWork → SetStartsItsWork → (c : Crew) (p : Step) (event : Event) (j : Job) → IsTied c → IsPlayed (stands_at c.desk) p event → j ∷ [] ≡ started_in event → worker_at (chosen c.desk) j.work ≡ 0 → length c.first.items < c.first.limit
first_has_room gets sets c p event j tied is started own =
    let below = below_most gets sets c.desk p event j tied.drawn.run is started in
    let many : length c.first.items ≡ length (jobs_for (worker_at (chosen c.desk) j.work) c.desk) = ap length tied.jobs.0 ∙ ap (λ (w : ℕ). length (jobs_for w c.desk)) (sym own) in
    subst (λ (n : ℕ). length c.first.items < n) (sym tied.first_limit) (subst (λ (n : ℕ). n < most) (sym many) below)

pub second_has_room : GetStartsItsWork → SetStartsItsWork → (c : Crew) (p : Step) (event : Event) (j : Job) → IsTied c → IsPlayed (stands_at c.desk) p event → j ∷ [] ≡ started_in event → worker_at (chosen c.desk) j.work ≡ 1 → length c.second.items < c.second.limit
second_has_room gets sets c p event j tied is started own =
    let below = below_most gets sets c.desk p event j tied.drawn.run is started in
    let many : length c.second.items ≡ length (jobs_for (worker_at (chosen c.desk) j.work) c.desk) = ap length tied.jobs.1 ∙ ap (λ (w : ℕ). length (jobs_for w c.desk)) (sym own) in
    subst (λ (n : ℕ). length c.second.items < n) (sym tied.second_limit) (subst (λ (n : ℕ). n < most) (sym many) below)

-- the crew after the job was put into its lane, and after an event that starts none
tied_after : (c f : Crew) (p : Step) (event : Event) (js : List Job) → IsTied c → arrived_in event ≡ [] → IsSentTo p event c.desk f.desk → js ≡ started_in event
    → f.first.items ≡ c.first.items ++ jobs_of (chosen c.desk) 0 js → f.second.items ≡ c.second.items ++ jobs_of (chosen c.desk) 1 js → f.first.limit ≡ c.first.limit → f.second.limit ≡ c.second.limit → IsTied f × HasSent p c.desk f.desk
tied_after c f p event js tied quiet done started first second first_limit second_limit = (
  record {
    drawn = sent_desk c.desk f.desk p event tied.drawn quiet done;
    jobs = has_jobs c.desk f.desk event js c.first c.second f.first f.second tied.jobs done.0 done.2 started first second;
    first_limit = first_limit ∙ tied.first_limit;
    second_limit = second_limit ∙ tied.second_limit;
  },
  (event, done.2, done.3),
)

pub handed : (c f : Crew) (m : Desk) (p : Step) (event : Event) (j : Job) (r : Result Unit Stop) → IsTied c → IsSent p → IsSentTo p event c.desk m → j ∷ [] ≡ started_in event
    → MatchResult r (λ _. (f.first.items ≡ c.first.items ++ jobs_of (chosen c.desk) 0 (j ∷ [])) × (f.second.items ≡ c.second.items ++ jobs_of (chosen c.desk) 1 (j ∷ []))) (λ why. why ≡ stop.OutOfMemory)
    → f.desk ≡ m → IsSamePost c.first f.first → IsSamePost c.second f.second
    → MatchResult r (λ _. IsTied f × HasSent p c.desk f.desk) (λ why. IsRefused p why)
handed c f m p event j (Ok u) tied sent done started put same first second =
    tied_after c f p event (j ∷ []) tied (nothing_arrives (stands_at c.desk) p event sent done.3) (subst (IsSentTo p event c.desk) (sym same) done) started put.0 put.1 first.2 second.2
handed c f m p event j (Err why) tied sent done started put same first second = subst (IsRefused p) (sym put) tt

pub none_handed : (c f : Crew) (p : Step) (event : Event) → IsTied c → IsSent p → IsSentTo p event c.desk f.desk → [] ≡ started_in event → f.first ≡ c.first → f.second ≡ c.second → IsTied f × HasSent p c.desk f.desk
none_handed c f p event tied sent done started first second =
    tied_after c f p event [] tied (nothing_arrives (stands_at c.desk) p event sent done.3) done started
    (ap (λ (o : PostState Job). o.items) first ∙ sym (append-nil c.first.items)) (ap (λ (o : PostState Job). o.items) second ∙ sym (append-nil c.second.items))
    (ap (λ (o : PostState Job). o.limit) first) (ap (λ (o : PostState Job). o.limit) second)

-- ---- a change

-- the crew after a change at the panel
pub changed_tied : (c d : Crew) (change : Change) (event : Event) → IsTied c → IsSentTo (bus.Change change) event c.desk d.desk → d.first ≡ c.first → d.second ≡ c.second → IsTied d × HasChanged change c.desk d.desk
changed_tied c d change event tied done first second =
    tied_after c d (bus.Change change) event [] tied (change_quiet (stands_at c.desk) change event done.3) done (sym (change_starts (stands_at c.desk) change event done.3))
    (ap (λ (o : PostState Job). o.items) first ∙ sym (append-nil c.first.items)) (ap (λ (o : PostState Job). o.items) second ∙ sym (append-nil c.second.items))
    (ap (λ (o : PostState Job). o.limit) first) (ap (λ (o : PostState Job). o.limit) second)

-- ---- a step

ask_stops : (s : CrewStep) (p : Step) (c : Crew) (why : Stop) → refusal_in p ≡ refusal_at s → IsRefused p why → IsStopped s c why
ask_stops s p c stop.OutOfMemory same is = tt
ask_stops s p c stop.Reserved same is = sym same ∙ is
ask_stops s p c stop.TooLong same is = sym same ∙ is
ask_stops s p c stop.Unsettled same is = absurd is
ask_stops s p c stop.Astray same is = absurd is

-- a command or a poll is the piece of its step
pub asked : (s : CrewStep) (p : Step) (c d : Crew) (r : Result Unit Stop) → refusal_in p ≡ refusal_at s → (HasSent p c.desk d.desk → HasPlayed s c.desk d.desk)
    → MatchResult r (λ _. IsTied d × HasSent p c.desk d.desk) (λ why. IsRefused p why) → MatchResult r (λ _. IsTied d × HasPlayed s c.desk d.desk) (λ why. IsStopped s d why)
asked s p c d (Ok u) same piece is = (is.0, piece is.1)
asked s p c d (Err why) same piece is = ask_stops s p d why same is

pub ask_piece : (c : Command) (f : Fault) (d e : Desk) → HasSent (bus.Ask c f) d e → HasPlayed (Ask c f) d e
ask_piece c f d e is = (is.0 ∷ [], is.1, (is.0, refl, is.2))

pub collect_piece : (f : Fault) (d e : Desk) → HasSent (bus.Collect f) d e → HasPlayed (Collect f) d e
collect_piece f d e is = (is.0 ∷ [], is.1, (is.0, refl, is.2))

-- what was put into the lanes is what has started, where no further job has
lanes_stay : (c d : Crew) → IsTied c → d.desk.setup ≡ c.desk.setup → jobs_in d.desk.system.trace ≡ jobs_in c.desk.system.trace → d.first ≡ c.first → d.second ≡ c.second → HasJobs d.desk d.first d.second
lanes_stay c d tied same jobs first second = (
  ap (λ (p : PostState Job). p.items) first ∙ tied.jobs.0 ∙ jobs_stay 0 c.desk d.desk same jobs,
  ap (λ (p : PostState Job). p.items) second ∙ tied.jobs.1 ∙ jobs_stay 1 c.desk d.desk same jobs,
)

-- the crew after reports have arrived
still_tied : (c d : Crew) → IsTied c → IsDrawn d.desk → d.desk.setup ≡ c.desk.setup → HaveArrived c.desk d.desk → d.first ≡ c.first → d.second ≡ c.second → IsTied d
still_tied c d tied drawn same arrived first second =
    record {
      drawn = drawn;
      jobs = lanes_stay c d tied same (same_jobs c.desk d.desk arrived) first second;
      first_limit = ap (λ (p : PostState Job). p.limit) first ∙ tied.first_limit;
      second_limit = ap (λ (p : PostState Job). p.limit) second ∙ tied.second_limit;
    }

cut_stops : (c d : Crew) (n : ℕ) (why : Stop) → IsTied c → d.desk.setup ≡ c.desk.setup → d.first ≡ c.first → d.second ≡ c.second → IsCutShort c.desk d.desk why → IsStopped (Settle n) d why
cut_stops c d n stop.OutOfMemory tied same first second is = tt
cut_stops c d n stop.Unsettled tied same first second is = (n, refl)
cut_stops c d n stop.Astray tied same first second is = (is.0, lanes_stay c d tied same is.1 first second)
cut_stops c d n stop.Reserved tied same first second is = absurd is
cut_stops c d n stop.TooLong tied same first second is = absurd is

pub settled : (c d : Crew) (n : ℕ) (r : Result Unit Stop) → IsTied c → d.desk.setup ≡ c.desk.setup → d.first ≡ c.first → d.second ≡ c.second
    → MatchResult r (λ _. IsDrawn d.desk × HaveSettled c.desk d.desk) (λ why. IsCutShort c.desk d.desk why)
    → MatchResult r (λ _. IsTied d × HasPlayed (Settle n) c.desk d.desk) (λ why. IsStopped (Settle n) d why)
settled c d n (Ok u) tied same first second is = (still_tied c d tied is.0 same (is.1.0, is.1.1, is.1.2.0) first second, (is.1.0, is.1.1, is.1.2))
settled c d n (Err why) tied same first second is = cut_stops c d n why tied same first second is

pub settled_step : (c d : Crew) (s : CrewStep) (n : ℕ) (r : Result Unit Stop) → s ≡ Settle n → IsTied c → d.desk.setup ≡ c.desk.setup → d.first ≡ c.first → d.second ≡ c.second
    → MatchResult r (λ _. IsDrawn d.desk × HaveSettled c.desk d.desk) (λ why. IsCutShort c.desk d.desk why)
    → MatchResult r (λ _. IsTied d × HasPlayed s c.desk d.desk) (λ why. IsStopped s d why)
settled_step c d s n r is tied same first second after =
    subst (λ (t : CrewStep). MatchResult r (λ _. IsTied d × HasPlayed t c.desk d.desk) (λ why. IsStopped t d why)) (sym is) (settled c d n r tied same first second after)

pub asked_step : (c d : Crew) (s : CrewStep) (q : Command) (f : Fault) (r : Result Unit Stop) → s ≡ Ask q f
    → MatchResult r (λ _. IsTied d × HasSent (bus.Ask q f) c.desk d.desk) (λ why. IsRefused (bus.Ask q f) why)
    → MatchResult r (λ _. IsTied d × HasPlayed s c.desk d.desk) (λ why. IsStopped s d why)
asked_step c d s q f r is after =
    subst (λ (t : CrewStep). MatchResult r (λ _. IsTied d × HasPlayed t c.desk d.desk) (λ why. IsStopped t d why)) (sym is)
    (asked (Ask q f) (bus.Ask q f) c d r refl (ask_piece q f c.desk d.desk) after)

pub collected_step : (c d : Crew) (s : CrewStep) (f : Fault) (r : Result Unit Stop) → s ≡ Collect f
    → MatchResult r (λ _. IsTied d × HasSent (bus.Collect f) c.desk d.desk) (λ why. IsRefused (bus.Collect f) why)
    → MatchResult r (λ _. IsTied d × HasPlayed s c.desk d.desk) (λ why. IsStopped s d why)
collected_step c d s f r is after =
    subst (λ (t : CrewStep). MatchResult r (λ _. IsTied d × HasPlayed t c.desk d.desk) (λ why. IsStopped t d why)) (sym is)
    (asked (Collect f) (bus.Collect f) c d r refl (collect_piece f c.desk d.desk) after)

pub arrived_is : (d e : Desk) (x : Drawn) → x ≡ drawn.Arrived → AfterDraw d e (Ok x) → IsDrawn e × HasArrived d e
arrived_is d e x is after = subst (λ (y : Drawn). AfterDraw d e (Ok y)) is after

pub empty_is : (d e : Desk) (x : Drawn) → x ≡ drawn.Empty → AfterDraw d e (Ok x) → IsDrawn e × (e.system ≡ d.system)
empty_is d e x is after = subst (λ (y : Drawn). AfterDraw d e (Ok y)) is after

-- a draw that ends early
pub draw_stops : (c d : Crew) (why : Stop) → IsTied c → d.desk.setup ≡ c.desk.setup → d.first ≡ c.first → d.second ≡ c.second → AfterDraw c.desk d.desk (Err why) → IsStopped Draw d why
draw_stops c d stop.OutOfMemory tied same first second is = tt
draw_stops c d stop.Unsettled tied same first second is = absurd is
draw_stops c d stop.Astray tied same first second is = (is.0, lanes_stay c d tied same (ap (λ (p : Played). jobs_in p.trace) is.1) first second)
draw_stops c d stop.Reserved tied same first second is = absurd is
draw_stops c d stop.TooLong tied same first second is = absurd is

-- one draw
pub drawn_one : (c d : Crew) → IsTied c → IsDrawn d.desk → d.desk.setup ≡ c.desk.setup → HasArrived c.desk d.desk → d.first ≡ c.first → d.second ≡ c.second → IsTied d × HasPlayed Draw c.desk d.desk
drawn_one c d tied drawn same one first second =
    let arrivals : AreArrivals (stands_at c.desk) (one.0 ∷ []) = ((one.1, one.3), tt) in
    (still_tied c d tied drawn same (one.0 ∷ [], one.2, arrivals) first second, (one.0 ∷ [], one.2, (arrivals, omega arith)))

pub drawn_none : (c d : Crew) → IsTied c → IsDrawn d.desk → d.desk.setup ≡ c.desk.setup → d.desk.system ≡ c.desk.system → d.first ≡ c.first → d.second ≡ c.second → IsTied d × HasPlayed Draw c.desk d.desk
drawn_none c d tied drawn same still first second =
    let trace : d.desk.system.trace ≡ c.desk.system.trace ++ [] = ap (λ (p : Played). p.trace) still ∙ sym (append-nil c.desk.system.trace) in
    (still_tied c d tied drawn same ([], trace, tt) first second, ([], trace, (tt, omega arith)))

-- ---- all steps

-- The steps up to these were played: with pieces for these the events are cut.
abbrev pub IsPlayedSoFar : List CrewStep → List CrewStep → Desk → Desk → Type 0
IsPlayedSoFar steps left d e =
    (es : List Event) × (e.system.trace ≡ d.system.trace ++ es) × ((rest : List Event) → IsCut (stands_at e) left rest → IsCut (stands_at d) steps (es ++ rest))

pub none_played : (steps : List CrewStep) (d : Desk) → IsPlayedSoFar steps steps d d
none_played steps d = ([], sym (append-nil d.system.trace), λ rest cut. cut)

pub one_played : (steps left : List CrewStep) (s : CrewStep) (d m e : Desk) → IsSameDesk d m → IsPlayedSoFar steps (s ∷ left) d m → HasPlayed s m e → IsSameDesk m e → IsPlayedSoFar steps left d e
one_played steps left s d m e same before one same' =
    let at : stands_at e ≡ after_all (stands_at m) one.0 = stands_after m e one.0 same'.0 one.1 in (
      before.0 ++ one.0,
      one.1 ∙ ap (λ (l : List Event). l ++ one.0) before.1 ∙ append_assoc d.system.trace before.0 one.0,
      λ rest cut.
          subst (IsCut (stands_at d) steps) (sym (append_assoc before.0 one.0 rest))
          (before.2 (one.0 ++ rest) (one.0, rest, refl, one.2, subst (λ (b : Start). IsCut b left rest) at cut)),
    )

pub all_played : (steps : List CrewStep) (d e : Desk) → IsPlayedSoFar steps [] d e → HavePlayed steps d e
all_played steps d e before = (before.0, before.1, λ last is. before.2 last is)

pub same_crew : (c d e : Crew) → IsSameCrew c d → IsSameCrew d e → IsSameCrew c e
same_crew c d e one two = (
  same_desk c.desk d.desk e.desk one.0 two.0,
  (two.1.0 ∙ one.1.0, two.1.1 ∙ one.1.1, two.1.2 ∙ one.1.2),
  (two.2.0 ∙ one.2.0, two.2.1 ∙ one.2.1, two.2.2 ∙ one.2.2),
  (two.3.0 ∙ one.3.0, two.3.1 ∙ one.3.1),
)

-- ---- a loop over the steps

module _ (steps : List CrewStep) (i : ℕ) (x s : CrewStep) (at : s ≡ get_or steps i x) (lt : i < length steps) (d m : Desk) (before : IsPlayedSoFar steps (drop i steps) d m) where
  from_here : IsPlayedSoFar steps (s ∷ drop (i + 1) steps) d m
  from_here =
      subst (λ (l : List CrewStep). IsPlayedSoFar steps l d m)
      (drop-cons steps i x lt ∙ ap (λ (k : ℕ). get_or steps i x ∷ drop k steps) (sym (add-one i)) ∙ ap (λ (t : CrewStep). t ∷ drop (i + 1) steps) (sym at)) before

  pub step_done : (e : Desk) → IsSameDesk d m → HasPlayed s m e → IsSameDesk m e → IsPlayedSoFar steps (drop (i + 1) steps) d e
  step_done e same one same' = one_played steps (drop (i + 1) steps) s d m e same from_here one same'
