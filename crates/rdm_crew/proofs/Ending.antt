-- What the lists of all lanes tell of the run, when the workers have ended.
use Rattle.std.proofs.Common.{◌≡◌, ℕ, zero, suc, ◌<◌, ◌==◌, false, List, [], ◌∷◌, ◌++◌, length, take, drop, Some, refl, sym, ap, subst, ◌∙◌, arith, append_assoc, append-nil, length-drop}
use Rattle.std.specs.Prelude.{slice_get, slice_index_or}
use Rattle.rdm_commands.specs.declared.jobs.outcome.Outcome.{Outcome}
use Rattle.rdm_params.specs.Jobs.Laws.{GetStartsItsWork, SetStartsItsWork}
use Rattle.rdm_params.specs.Jobs.Work.{Choice, worker_at}
use Rattle.rdm_outbox.specs.declared.job.Job.{Job}
use Rattle.rdm_outbox.specs.Jobs.{jobs_of, outstanding_of, outstanding_count}
use Rattle.rdm_responder.specs.declared.report.Report.{Report}
use Rattle.rdm_responder.specs.Lawful.{MayArrive}
use Rattle.rdm_responder.specs.Rules.{account_of}
use Rattle.rdm_responder.specs.Runs.{outbox_of}
use Rattle.rdm_bus.specs.Systems.{Played}
use Rattle.rdm_lane.specs.declared.taken.Taken.{Taken}
use Rattle.rdm_lane.specs.declared.taken.Taken.TheVariants.{Item}
use Rattle.rdm_lane.specs.Ends.{PostState, TakeState, IsOver}
use Rattle.rdm_lane.specs.Lane.{IsPrefix, LaneLaw, has_mark, items_of, items_from}
use Rattle.rdm_lane.specs.Settling.{HasLists}
use Rattle.rdm_lane.proofs.ThreeSentences.{takes_a_prefix, whole_at_its_mark}
use Rattle.rdm_crew.specs.declared.bus.desk.Desk.{Desk}
use Rattle.rdm_crew.specs.declared.threads.worker.Worked.{Worked}
use Rattle.rdm_crew.specs.Closes.{handed_by, IsHandedOver}
use Rattle.rdm_crew.specs.Crews.{HasJobs, jobs_for}
use Rattle.rdm_crew.specs.Desks.{stands_at, chosen, OfTwo, IsDrawn, IsSuspect}
use Rattle.rdm_bus.specs.Happened.{jobs_in, reports_in, reports_of}
use Rattle.rdm_crew.specs.Law.{FourLists}
use Rattle.rdm_crew.specs.RunTrace.{IsAnswered, FitsFor}
use Rattle.rdm_crew.specs.Settling.{IsTakenOf, IsSettled, IsLaneOfOne, IsLaneOfReports, AreLanes}
use Rattle.rdm_crew.specs.Workers.{Answers, IsWorked}
use Rattle.rdm_crew.proofs.Accounts.{Tells, run_tells, outstanding_is, IsSlowJob, all_slow, at_filter, first_left}
use Rattle.rdm_crew.proofs.Closes.{handed_over}
use Rattle.rdm_crew.proofs.Drawing.{jobs_stay}
use Rattle.rdm_crew.proofs.Items.{from-append}
use Rattle.rdm_crew.proofs.Law.{none_astray, none_missing}
use Rattle.rdm_crew.proofs.Sorted.{EachOwn, AreOn, sorted, each_own, reports_on, own_job, own_item}

-- ---- a worker

module _ (p : ℕ) (gives : List Job → Job → Outcome → Type 0) (t : TakeState Job) (q : PostState Report) (post : PostState Job) (reports : TakeState Report) (w : Worked) (worked : IsWorked gives t q w) (settled : IsSettled p post reports w) where
  took_front : IsPrefix (items_from 0 w.jobs.taken) post.items
  took_front = (takes_a_prefix 0 w.jobs.taken post.items settled.took).0

  drawn_front : IsPrefix (items_from p reports.taken) w.reports.items
  drawn_front = (takes_a_prefix p reports.taken w.reports.items settled.sent).0

  -- the reports that were taken first of those that were taken
  front_parts : (front more : List (Taken Report)) → reports.taken ≡ front ++ more → items_from p front ++ (items_from p more ++ drawn_front.0) ≡ w.reports.items
  front_parts front more parts =
      sym (append_assoc (items_from p front) (items_from p more) drawn_front.0)
      ∙ ap (λ (l : List Report). l ++ drawn_front.0) (sym (ap (items_from p) parts ∙ from-append p front more))
      ∙ drawn_front.1

  -- each is on a job of this worker
  pub on_own : (ws : Choice) (accepted : List Job) (front more : List (Taken Report)) → post.items ≡ jobs_of ws p accepted → reports.taken ≡ front ++ more → AreOn ws p (items_from p front)
  on_own ws accepted front more has parts =
      reports_on ws gives p accepted (items_from 0 w.jobs.taken) took_front.0 w.reports.items (items_from p front) (items_from p more ++ drawn_front.0) worked.answers (took_front.1 ∙ has) (front_parts front more parts)

  -- its four lists are those of the law
  pub four_lists : FourLists gives post.items (items_from 0 w.jobs.taken) w.reports.items (items_from p reports.taken) (has_mark 0 w.jobs.taken) (has_mark p reports.taken) w.refused
  four_lists = record {
    took = took_front;
    took_all = whole_at_its_mark 0 w.jobs.taken post.items settled.took;
    answers = worked.answers;
    save_one = worked.save_one;
    each = λ not_refused. (worked.all not_refused).1;
    drew = drawn_front;
    drew_all = whole_at_its_mark p reports.taken w.reports.items settled.sent;
  }

  -- one report on each job, where memory wasn't refused and all reports were taken
  pub all_answered : t.posts ≡ 1 → p < reports.posts → IsOver reports → w.refused ≡ false → Answers gives post.items (items_from p reports.taken) × (length post.items ≡ length (items_from p reports.taken))
  all_answered one below over not_refused =
      let posts : w.jobs.posts ≡ 1 = worked.take.1 ∙ one in
      none_missing gives post.items (items_from 0 w.jobs.taken) w.reports.items (items_from p reports.taken) (has_mark 0 w.jobs.taken) (has_mark p reports.taken) w.refused four_lists
      ((worked.all not_refused).0 0 (omega arith)) (over p below) not_refused

  -- a report that was taken is on the job after those that were reported on before it
  pub next_is : (n : ℕ) (r : Report) (before after : List (Taken Report)) → reports.taken ≡ before ++ Item p n r ∷ after → (slice_get post.items (length (items_from p before)) ≡ Some r.job) × gives (take (length (items_from p before)) post.items) r.job r.outcome
  next_is n r before after parts =
      none_astray gives post.items (items_from 0 w.jobs.taken) w.reports.items (items_from p before) worked.answers took_front.0 took_front.1 r (items_from p after ++ drawn_front.0)
      (ap (λ (l : List Report). items_from p before ++ (l ++ drawn_front.0)) (sym (own_item p n r after)) ∙ front_parts before (Item p n r ∷ after) parts)

-- ---- both workers

below_two : (P : ℕ → Type 0) → P 0 → P 1 → (q : ℕ) → q < 2 → P q
below_two P zeroth first zero below = zeroth
below_two P zeroth first (suc zero) below = first
below_two P zeroth first (suc (suc q)) below = absurd (omega arith)

length-none : (n : ℕ) (js : List Job) → length js ≡ n → length (drop n js) ≡ 0
length-none n js e = omega (arith, length-drop n js)

module _ (g0 g1 : List Job → Job → Outcome → Type 0) (t u : TakeState Job) (v x : PostState Report) (first second : PostState Job) (d : Desk) (a b : Worked)
    (first_worked : IsWorked g0 t v a) (second_worked : IsWorked g1 u x b) (first_settled : IsSettled 0 first d.reports a) (second_settled : IsSettled 1 second d.reports b)
    (jobs : HasJobs d first second) where
  abbrev ws : Choice
  ws = chosen d

  -- each report that was taken first is on a job of the worker that sent it
  front_own : (front more : List (Taken Report)) → d.reports.taken ≡ front ++ more → OfTwo front → EachOwn ws front
  front_own front more parts two =
      each_own ws front two (below_two (λ p. AreOn ws p (items_from p front))
      (on_own 0 g0 t v first d.reports a first_worked first_settled ws (jobs_in d.system.trace) front more jobs.0 parts)
      (on_own 1 g1 u x second d.reports b second_worked second_settled ws (jobs_in d.system.trace) front more jobs.1 parts))

  -- the reports of a worker that arrived are those that it sent
  arrived_from : (p : ℕ) (front more : List (Taken Report)) → d.reports.taken ≡ front ++ more → OfTwo front → items_of front ≡ reports_in d.system.trace → reports_of ws p (reports_in d.system.trace) ≡ items_from p front
  arrived_from p front more parts two all = ap (reports_of ws p) (sym all) ∙ sorted ws p front (front_own front more parts two)

  answered : (p : ℕ) (gives : List Job → Job → Outcome → Type 0) (post : PostState Job) → IsDrawn d → post.items ≡ jobs_of ws p (jobs_in d.system.trace)
      → Answers gives post.items (items_from p d.reports.taken) × (length post.items ≡ length (items_from p d.reports.taken)) → IsAnswered ws p gives d.system.trace
  answered p gives post is has all =
      let same : reports_of ws p (reports_in d.system.trace) ≡ items_from p d.reports.taken = arrived_from p d.reports.taken [] (sym (append-nil d.reports.taken)) is.two is.all in
      record {
        answers = subst (Answers gives (jobs_of ws p (jobs_in d.system.trace))) (sym same) (subst (λ (l : List Job). Answers gives l (items_from p d.reports.taken)) has all.0);
        all = ap length (sym has) ∙ all.1 ∙ ap length (sym same);
      }

  -- every job of both workers has its report
  pub first_answered : IsDrawn d → IsOver d.reports → t.posts ≡ 1 → a.refused ≡ false → IsAnswered ws 0 g0 d.system.trace
  first_answered is over one not_refused =
      let posts : d.reports.posts ≡ 2 = is.posts in
      answered 0 g0 first is jobs.0 (all_answered 0 g0 t v first d.reports a first_worked first_settled one (omega arith) over not_refused)

  pub second_answered : IsDrawn d → IsOver d.reports → u.posts ≡ 1 → b.refused ≡ false → IsAnswered ws 1 g1 d.system.trace
  second_answered is over one not_refused =
      let posts : d.reports.posts ≡ 2 = is.posts in
      answered 1 g1 second is jobs.1 (all_answered 1 g1 u x second d.reports b second_worked second_settled one (omega arith) over not_refused)

  -- what both workers handed over, with their closes
  pub handed : IsDrawn d → IsOver d.reports → IsHandedOver ws d.system.trace (handed_by d.reports.taken)
  handed is over =
      handed_over ws d a.reports.items b.reports.items (front_own d.reports.taken [] (sym (append-nil d.reports.taken)) is.two) is.two first_settled.sent second_settled.sent is over

  -- a suspected report may arrive after all
  may_arrive : (gets : GetStartsItsWork) (sets : SetStartsItsWork) (p : ℕ) (gives : Job → Outcome → Type 0) (post : PostState Job) (is : IsSuspect d) → FitsFor ws p gives → post.items ≡ jobs_of ws p (jobs_in d.system.trace)
      → (slice_get post.items (length (items_from p is.before)) ≡ Some is.report.job) × gives is.report.job is.report.outcome → MayArrive (account_of (stands_at d).history) is.report
  may_arrive gets sets p gives post is fits has next =
      let es = d.system.trace in
      let j : Job = is.report.job in
      let tells : Tells ws (outbox_of (stands_at d).history) es = run_tells d.setup.value is.run.0 es is.run.1.run in
      let many : length (reports_of ws p (reports_in es)) ≡ length (items_from p is.before) = ap length (arrived_from p is.before (Item is.producer is.number is.report ∷ is.after) is.taken is.two is.all) in
      let at : slice_get (jobs_of ws p (jobs_in es)) (length (items_from p is.before)) ≡ Some j = ap (λ (l : List Job). slice_get l (length (items_from p is.before))) (sym has) ∙ next.0 in
      let own : worker_at ws j.work ≡ p = own_job ws p (jobs_in es) (length (items_from p is.before)) j at in
      let slow : IsSlowJob j = (at_filter IsSlowJob (λ k. worker_at ws k.work == p) (jobs_in es) (length (items_from p is.before)) j (all_slow gets sets _ is.run.0 es is.run.1.run) at).0 in
      let first_of : slice_get (outstanding_of (outbox_of (stands_at d).history) p) 0 ≡ Some j =
      ap (λ (l : List Job). slice_get l 0) (outstanding_is ws (outbox_of (stands_at d).history) es p tells)
      ∙ first_left (length (reports_of ws p (reports_in es))) (jobs_of ws p (jobs_in es))
      ∙ ap (slice_get (jobs_of ws p (jobs_in es))) many
      ∙ at in
      record {
        oldest = subst (λ (v : Choice). slice_get (outstanding_of (outbox_of (stands_at d).history) (worker_at v j.work)) 0 ≡ Some j) (sym tells.workers)
            (subst (λ (w : ℕ). slice_get (outstanding_of (outbox_of (stands_at d).history) w) 0 ≡ Some j) (sym own) first_of);
        fits = fits j is.report.outcome slow own next.1;
      }

  -- so none is astray
  pub not_astray : (f0 f1 : Job → Outcome → Type 0) → ((before : List Job) (j : Job) (o : Outcome) → g0 before j o → f0 j o) → ((before : List Job) (j : Job) (o : Outcome) → g1 before j o → f1 j o)
      → GetStartsItsWork → SetStartsItsWork → FitsFor ws 0 f0 → FitsFor ws 1 f1 → IsSuspect d → ⊥
  not_astray f0 f1 at_all_0 at_all_1 gets sets fits_0 fits_1 is =
      is.astray (below_two (λ p. is.producer ≡ p → MayArrive (account_of (stands_at d).history) is.report)
      (λ e.
      let next = next_is 0 g0 t v first d.reports a first_worked first_settled is.number is.report is.before is.after (subst (λ (p : ℕ). d.reports.taken ≡ is.before ++ Item p is.number is.report ∷ is.after) e is.taken) in
      may_arrive gets sets 0 f0 first is fits_0 jobs.0 (next.0, at_all_0 _ _ _ next.1))
      (λ e.
      let next = next_is 1 g1 u x second d.reports b second_worked second_settled is.number is.report is.before is.after (subst (λ (p : ℕ). d.reports.taken ≡ is.before ++ Item p is.number is.report ∷ is.after) e is.taken) in
      may_arrive gets sets 1 f1 second is fits_1 jobs.1 (next.0, at_all_1 _ _ _ next.1))
      is.producer is.below refl)

-- no job is outstanding where each has its report
pub none_outstanding : (d : Desk) (g0 g1 : List Job → Job → Outcome → Type 0) → IsDrawn d → IsAnswered (chosen d) 0 g0 d.system.trace → IsAnswered (chosen d) 1 g1 d.system.trace → outstanding_count (outbox_of (stands_at d).history) ≡ 0
none_outstanding d g0 g1 is one two =
    let ws : Choice = chosen d in
    let es = d.system.trace in
    let tells : Tells ws (outbox_of (stands_at d).history) es = run_tells d.setup.value is.run.0 es is.run.1.run in
    let none : (p : ℕ) → length (jobs_of ws p (jobs_in es)) ≡ length (reports_of ws p (reports_in es)) → length (outstanding_of (outbox_of (stands_at d).history) p) ≡ 0 = λ p all.
    ap length (outstanding_is ws (outbox_of (stands_at d).history) es p tells) ∙ length-none (length (reports_of ws p (reports_in es))) (jobs_of ws p (jobs_in es)) all in
    omega (arith, none 0 one.all, none 1 two.all)

pub never_missing : (n m : ℕ) → n ≡ m → m ≡ 0 → 0 < n → ⊥
never_missing n m same none some = omega arith

-- the jobs are the same where nothing has happened
pub still_has_jobs : (d e : Desk) (first second : PostState Job) → e.setup ≡ d.setup → e.system ≡ d.system → HasJobs d first second → HasJobs e first second
still_has_jobs d e first second same still has =
    let stay : (p : ℕ) → jobs_for p d ≡ jobs_for p e = λ p. jobs_stay p d e same (ap (λ (s : Played). jobs_in s.trace) still) in
    (has.0 ∙ stay 0, has.1 ∙ stay 1)

-- ---- a lane with one post

-- what was taken of it, where the lane keeps the lane law
pub settled_of_one : {T : Type 0} (take : TakeState T) (post : PostState T) (taken : List (Taken T)) (posted : List (List T)) (posts : List (PostState T)) → IsLaneOfOne take post → LaneLaw take.posts taken posted
    → taken ≡ take.taken → HasLists posted posts → posts ≡ post ∷ [] → IsTakenOf 0 take.taken post.items
settled_of_one {T} take post taken posted posts lane law same lists one =
    let only : HasLists posted (post ∷ []) = subst (HasLists posted) one lists in
    let posts_one : take.posts ≡ 1 = lane.posts in
    let zeroth : slice_index_or posted 0 [] ≡ post.items = ap (λ (p : ℕ). slice_index_or posted p []) (sym lane.producer) ∙ only 0 post (omega arith) in
    subst (λ (es : List (Taken T)). IsTakenOf 0 es post.items) same (subst (IsTakenOf 0 taken) zeroth (law 0 (omega arith)))

-- ---- the report lane

-- what was taken of each post, where the lane keeps the lane law
pub settled_of_two : (reports : TakeState Report) (first second : PostState Report) (taken : List (Taken Report)) (posted : List (List Report)) (posts : List (PostState Report)) → IsLaneOfReports reports first second
    → LaneLaw reports.posts taken posted → taken ≡ reports.taken → HasLists posted posts → posts ≡ first ∷ second ∷ [] → IsTakenOf 0 reports.taken first.items × IsTakenOf 1 reports.taken second.items
settled_of_two reports first second taken posted posts lane law same lists both =
    let two : HasLists posted (first ∷ second ∷ []) = subst (HasLists posted) both lists in
    let posts_two : reports.posts ≡ 2 = lane.posts in
    let zeroth : slice_index_or posted 0 [] ≡ first.items = ap (λ (p : ℕ). slice_index_or posted p []) (sym lane.first_producer) ∙ two 0 first (omega arith) in
    let next : slice_index_or posted 1 [] ≡ second.items = ap (λ (p : ℕ). slice_index_or posted p []) (sym lane.second_producer) ∙ two 1 first (omega arith) in
    let of_first : IsTakenOf 0 taken first.items = subst (IsTakenOf 0 taken) zeroth (law 0 (omega arith)) in
    let of_second : IsTakenOf 1 taken second.items = subst (IsTakenOf 1 taken) next (law 1 (omega arith)) in
    (subst (λ (es : List (Taken Report)). IsTakenOf 0 es first.items) same of_first, subst (λ (es : List (Taken Report)). IsTakenOf 1 es second.items) same of_second)

-- ---- the ends that come back are those that were given to the workers

pub joined : (reports : TakeState Report) (first second : PostState Job) (t u : TakeState Job) (v x : PostState Report) (g0 g1 : List Job → Job → Outcome → Type 0) (a b : Worked) → AreLanes reports first second t v u x → IsWorked g0 t v a → IsWorked g1 u x b → AreLanes reports first second a.jobs a.reports b.jobs b.reports
joined reports first second t u v x g0 g1 a b lanes one two = record {
  first = record { lane = lanes.first.lane ∙ sym one.take.0; producer = lanes.first.producer; posts = one.take.1 ∙ lanes.first.posts };
  second = record { lane = lanes.second.lane ∙ sym two.take.0; producer = lanes.second.producer; posts = two.take.1 ∙ lanes.second.posts };
  reports = record {
    first_lane = one.post.0 ∙ lanes.reports.first_lane;
    second_lane = two.post.0 ∙ lanes.reports.second_lane;
    first_producer = one.post.1 ∙ lanes.reports.first_producer;
    second_producer = two.post.1 ∙ lanes.reports.second_producer;
    posts = lanes.reports.posts;
  };
}
