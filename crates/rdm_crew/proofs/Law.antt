-- The law over the four lists of a worker.
use Rattle.std.proofs.Common.{◌≡◌, ℕ, zero, suc, List, [], ◌∷◌, ◌++◌, length, take, Option, Some, slice_get, sym, ◌∙◌, ap, subst, arith, append_assoc, append-nil}
use Rattle.rdm_commands.specs.declared.jobs.outcome.Outcome.{Outcome}
use Rattle.rdm_outbox.specs.declared.job.Job.{Job}
use Rattle.rdm_responder.specs.declared.report.Report.{Report}
use Rattle.rdm_crew.specs.Workers.{Answers, AnswersAfter}
use Rattle.rdm_crew.specs.Law.{NoneAstray, EachIsOnItsJob, NoneMissing, OneMissingAtMost}

-- the report after the first ones is on the job after as many jobs
at_report : (gives : List Job → Job → Outcome → Type 0) (before taken more : List Job) (drawn : List Report) (r : Report) (rest : List Report) → AnswersAfter gives before taken (drawn ++ r ∷ rest)
    → (slice_get (taken ++ more) (length drawn) ≡ Some r.job) × gives (before ++ take (length drawn) (taken ++ more)) r.job r.outcome
at_report gives before [] more [] r rest answered = absurd answered
at_report gives before (j ∷ js) more [] r rest answered =
    (ap Some (sym answered.0), subst (λ (l : List Job). gives l r.job r.outcome) (sym (append-nil before)) (subst (λ i. gives before i r.outcome) (sym answered.0) answered.1))
at_report gives before [] more (d ∷ ds) r rest answered = absurd answered
at_report gives before (j ∷ js) more (d ∷ ds) r rest answered =
    let one = at_report gives (before ++ j ∷ []) js more ds r rest answered.2 in
    (one.0, subst (λ (l : List Job). gives l r.job r.outcome) (append_assoc before (j ∷ []) (take (length ds) (js ++ more))) one.1)

pub none_astray : (gives : List Job → Job → Outcome → Type 0) → NoneAstray gives
none_astray gives put taken reports drawn answered more all r rest parts =
    let one : (slice_get (taken ++ more) (length drawn) ≡ Some r.job) × gives (take (length drawn) (taken ++ more)) r.job r.outcome = at_report gives [] taken more drawn r rest (subst (Answers gives taken) (sym parts) answered) in
    (ap (λ l. slice_get l (length drawn)) (sym all) ∙ one.0, subst (λ (l : List Job). gives (take (length drawn) l) r.job r.outcome) all one.1)

abbrev some_job : Job → Option Job
some_job j = Some j

abbrev some_report : Report → Option Report
some_report r = Some r

some_is : (x y : Report) → some_report x ≡ Some y → x ≡ y
some_is x y e = cc

-- the report at a place is on the job there
at_place : (gives : List Job → Job → Outcome → Type 0) (before taken more : List Job) (drawn rest : List Report) (n : ℕ) (r : Report) → AnswersAfter gives before taken (drawn ++ rest) → slice_get drawn n ≡ Some r
    → (slice_get (taken ++ more) n ≡ Some r.job) × gives (before ++ take n (taken ++ more)) r.job r.outcome
at_place gives before taken more [] rest n r answered at = absurd cc
at_place gives before [] more (d ∷ ds) rest n r answered at = absurd answered
at_place gives before (j ∷ js) more (d ∷ ds) rest zero r answered at =
    let given : gives (before ++ []) d.job d.outcome = subst (λ (l : List Job). gives l d.job d.outcome) (sym (append-nil before)) (subst (λ i. gives before i d.outcome) (sym answered.0) answered.1) in
    subst (λ x. (some_job j ≡ Some x.job) × gives (before ++ []) x.job x.outcome) (some_is d r at) (ap some_job (sym answered.0), given)
at_place gives before (j ∷ js) more (d ∷ ds) rest (suc n) r answered at =
    let one = at_place gives (before ++ j ∷ []) js more ds rest n r answered.2 at in
    (one.0, subst (λ (l : List Job). gives l r.job r.outcome) (append_assoc before (j ∷ []) (take n (js ++ more))) one.1)

pub each_is_on_its_job : (gives : List Job → Job → Outcome → Type 0) → EachIsOnItsJob gives
each_is_on_its_job gives put taken reports drawn all_taken all_drawn refused lists n r at =
    let one : (slice_get (taken ++ lists.took.0) n ≡ Some r.job) × gives (take n (taken ++ lists.took.0)) r.job r.outcome = at_place gives [] taken lists.took.0 drawn lists.drew.0 n r (subst (Answers gives taken) (sym lists.drew.1) lists.answers) at in
    (ap (λ l. slice_get l n) (sym lists.took.1) ∙ one.0, subst (λ (l : List Job). gives (take n l) r.job r.outcome) lists.took.1 one.1)

-- what was drawn answers what was put, where all was taken and drawn
pub all_answer : (gives : List Job → Job → Outcome → Type 0) (put taken : List Job) (reports drawn : List Report) → Answers gives taken reports → taken ≡ put → drawn ≡ reports → Answers gives put drawn
all_answer gives put taken reports drawn answered all whole =
    subst (λ l. Answers gives l drawn) all (subst (Answers gives taken) (sym whole) answered)

pub none_missing : (gives : List Job → Job → Outcome → Type 0) → NoneMissing gives
none_missing gives put taken reports drawn all_taken all_drawn refused lists took drew not_refused =
    let all = lists.took_all took in
    let whole = lists.drew_all drew in
    (all_answer gives put taken reports drawn lists.answers all whole, ap length (sym all) ∙ lists.each not_refused ∙ ap length (sym whole))

pub one_missing_at_most : (gives : List Job → Job → Outcome → Type 0) → OneMissingAtMost gives
one_missing_at_most gives put taken reports drawn all_taken all_drawn refused lists took drew =
    let all = lists.took_all took in
    let whole = lists.drew_all drew in
    (all_answer gives put taken reports drawn lists.answers all whole, omega (arith, ap length all, lists.save_one, ap length whole))
