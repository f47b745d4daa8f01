-- The jobs of a worker are numbered in the order in which they were accepted, no two alike, and no more of them have ended than
-- were accepted.
use Rattle.std.proofs.Common.{◌≡◌, ℕ, zero, suc, ◌+◌, ◌^◌, ◌<◌, ◌≤◌, ◌==◌, Bool, true, false, cond, List, [], ◌∷◌, ◌++◌, length, drop, Option, Some, None, refl, sym, ap, subst, ◌∙◌, arith, append-nil, length-append}
use Rattle.std.specs.Prelude.{slice_get, Ok, Err}
use Rattle.std.specs.Option.{option_to_list}
use Rattle.std.specs.Result.{result_ok}
use Rattle.std.specs.List.{fold}
use Rattle.std.proofs.lemmas.Bool.{and_parts, eqb-true, ltb-true}
use Rattle.std.proofs.lemmas.Option.{slice_get_within}
use Rattle.std.proofs.lemmas.List.Elements.{filter-append}
use Rattle.rdm_commands.specs.declared.jobs.work.Work.{Work}
use Rattle.rdm_commands.specs.declared.verdict.Verdict.{Verdict}
use Rattle.rdm_commands.specs.declared.verdict.Verdict.TheVariants as verdict
use Rattle.rdm_params.specs.Commands.Commands.{got, answer_to_set}
use Rattle.rdm_params.specs.Jobs.Work.{Choice, worker_at}
use Rattle.rdm_outbox.specs.declared.job.Job.{Job}
use Rattle.rdm_outbox.specs.declared.job.Full.TheVariants.{NoRoom}
use Rattle.rdm_outbox.specs.Account as outbox
use Rattle.rdm_outbox.specs.Jobs.{jobs_of, given_to, number_after, next_job, has_room}
use Rattle.rdm_frame.specs.Reading.{frame_in}
use Rattle.rdm_responder.specs.History as history
use Rattle.rdm_responder.specs.History.{History, Event}
use Rattle.rdm_responder.specs.Lawful.{AreLawful, IsLawful}
use Rattle.rdm_responder.specs.Requests.{Request, Ignored, Branch, Muting, Get, Set, request_in}
use Rattle.rdm_responder.specs.Rules.{Account, account_of, account_before, account_after, job_with, most_jobs, started_by}
use Rattle.rdm_responder.specs.Runs.{outbox_of}
use Rattle.rdm_responder.proofs.Growth.{Grows, job_at, workers_at, event_grows}
use Rattle.rdm_bus.proofs.Orders.{EndsWithin, accepts, comes}

-- ---- numbers

-- numbered from the one on that comes after so many
abbrev pub NumberedFrom : ℕ → ℕ → List Job → Type 0
NumberedFrom first n [] = Unit {0}
NumberedFrom first n (j ∷ js) = (j.number ≡ number_after first n) × NumberedFrom first (suc n) js

some_is : (x j : Job) → Some x ≡ Some j → x ≡ j
some_is x j e = cc

none_later : (n : ℕ) → n ≡ n + 0
none_later n = omega arith

one_later : (n k : ℕ) → suc n + k ≡ n + suc k
one_later n k = omega arith

pub from_none : (n : ℕ) → n ≡ 0 + n
from_none n = omega arith

pub number_at : (first n k : ℕ) (js : List Job) (j : Job) → NumberedFrom first n js → slice_get js k ≡ Some j → j.number ≡ number_after first (n + k)
number_at first n k [] j all at = absurd cc
number_at first n zero (x ∷ xs) j all at =
    sym (ap (λ (y : Job). y.number) (some_is x j at)) ∙ all.0 ∙ ap (number_after first) (none_later n)
number_at first n (suc k) (x ∷ xs) j all at =
    number_at first (suc n) k xs j all.1 at ∙ ap (number_after first) (one_later n k)

pub push_number : (first n : ℕ) (xs : List Job) (j : Job) → NumberedFrom first n xs → j.number ≡ number_after first (n + length xs) → NumberedFrom first n (xs ++ j ∷ [])
push_number first n [] j all e = (e ∙ ap (number_after first) (sym (none_later n)), tt)
push_number first n (x ∷ xs) j all e =
    (all.0, push_number first (suc n) xs j all.1 (e ∙ ap (number_after first) (sym (one_later n (length xs)))))

drop_number : (first k n : ℕ) (js : List Job) → NumberedFrom first n js → NumberedFrom first (n + k) (drop k js)
drop_number first zero n js all = subst (λ m. NumberedFrom first m js) (omega arith) all
drop_number first (suc k) n [] all = tt
drop_number first (suc k) n (x ∷ xs) all =
    subst (λ m. NumberedFrom first m (drop k xs)) (omega arith) (drop_number first k (suc n) xs all.1)

pub drop_numbered : (first k : ℕ) (js : List Job) → NumberedFrom first 0 js → NumberedFrom first k (drop k js)
drop_numbered first k js all = subst (λ m. NumberedFrom first m (drop k js)) (omega arith) (drop_number first k 0 js all)

pub front_number : (first n : ℕ) (xs ys : List Job) → NumberedFrom first n (xs ++ ys) → NumberedFrom first n xs
front_number first n [] ys all = tt
front_number first n (x ∷ xs) ys all = (all.0, front_number first (suc n) xs ys all.1)

-- Of 2 ^ 32 numbers in a row no two are alike.
pub same_number : (first m n : ℕ) → m < 2 ^ 32 → n < 2 ^ 32 → number_after first m ≡ number_after first n → m ≡ n
unfolding number_after
same_number first m n one other e = omega (arith, one, other, e)

-- where a job stands among so many
pub stands_below : (n : ℕ) (js : List Job) (i : ℕ) (j : Job) → n + length js ≤ 4294967295 → slice_get js i ≡ Some j → n + i < 2 ^ 32
stands_below n js i j few at = omega (arith, few, slice_get_within js i j at)

-- ---- the number of a job that starts

-- its number is the next of its worker, which may be given one more
abbrev pub HasNextNumber : outbox.Account → Option Job → Type 0
HasNextNumber b None = Unit {0}
HasNextNumber b (Some j) =
    (j.number ≡ number_after b.first_job (given_to (worker_at b.workers j.work) b)) × (given_to (worker_at b.workers j.work) b < b.jobs)

reserves_next : (b : outbox.Account) (work : Work) (room : Bool) → has_room b work ≡ room → HasNextNumber b (result_ok (cond room (Ok (next_job b work)) (Err NoRoom)))
reserves_next b work true e = (refl, ltb-true _ _ (and_parts _ _ e).1)
reserves_next b work false e = tt

starts_next : (b : outbox.Account) (v : Verdict) → HasNextNumber b (started_by b v)
starts_next b (verdict.Start work) = reserves_next b work (has_room b work) refl
starts_next b (verdict.Queue ask) = tt
starts_next b (verdict.Status ask) = tt
starts_next b (verdict.Reply bytes) = tt
starts_next b verdict.Clear = tt
starts_next b (verdict.Refuse nack) = tt

request_next : (a : Account) (q : Request) → HasNextNumber a.outbox (job_with a q)
request_next a Ignored = tt
request_next a (Branch lower upper) = tt
request_next a (Muting muted f) = tt
request_next a (Get f) = starts_next a.outbox (got a.parameters f.sub f.pid f.body)
request_next a (Set f) = starts_next a.outbox (answer_to_set a.parameters f.sub f.pid f.body)

event_next : (a : Account) (e : Event) → HasNextNumber a.outbox (job_at a e)
event_next a (history.Heard bytes) = request_next a (request_in a.setup.uid (frame_in bytes))
event_next a (history.Arrived r) = tt
event_next a (history.Changed change) = tt
event_next a (history.Placed sub pid bytes) = tt
event_next a (history.Noted entry) = tt
event_next a (history.Restored image) = tt
event_next a history.Dropped = tt

-- ---- every history

-- The jobs of each worker are numbered from the first number on, and are no more than it may be given.
record HasNumbers (first limit : ℕ) (b : outbox.Account) : Type 0 where
  pub first_job : b.first_job ≡ first
  pub most : b.jobs ≡ limit
  pub numbers : (w : ℕ) → NumberedFrom first 0 (jobs_of b.workers w b.accepted)
  pub within : (w : ℕ) → given_to w b ≤ limit

one_accepted : (w : ℕ) (b b' : outbox.Account) (j : Job) → b'.workers ≡ b.workers → b'.accepted ≡ b.accepted ++ j ∷ [] → jobs_of b'.workers w b'.accepted ≡ jobs_of b.workers w b.accepted ++ cond (worker_at b.workers j.work == w) (j ∷ []) []
one_accepted w b b' j same e =
    ap (λ (v : Choice). jobs_of v w b'.accepted) same ∙ ap (jobs_of b.workers w) e ∙ filter-append (λ (i : Job). worker_at b.workers i.work == w) b.accepted (j ∷ [])

push_if : (first w : ℕ) (b : outbox.Account) (j : Job) (own? : Bool) → (worker_at b.workers j.work == w) ≡ own? → j.number ≡ number_after first (given_to (worker_at b.workers j.work) b) → NumberedFrom first 0 (jobs_of b.workers w b.accepted)
    → NumberedFrom first 0 (jobs_of b.workers w b.accepted ++ cond own? (j ∷ []) [])
push_if first w b j true own next all =
    push_number first 0 (jobs_of b.workers w b.accepted) j all
    (next ∙ ap (λ v. number_after first (given_to v b)) (eqb-true _ _ own) ∙ ap (number_after first) (from_none (given_to w b)))
push_if first w b j false own next all = subst (NumberedFrom first 0) (sym (append-nil (jobs_of b.workers w b.accepted))) all

few_if : (most w : ℕ) (b : outbox.Account) (j : Job) (own? : Bool) → (worker_at b.workers j.work == w) ≡ own? → given_to (worker_at b.workers j.work) b < most → given_to w b ≤ most → length (jobs_of b.workers w b.accepted ++ cond own? (j ∷ []) []) ≤ most
few_if most w b j true own below few =
    omega (arith, length-append (jobs_of b.workers w b.accepted) (j ∷ []), below, ap (λ v. given_to v b) (eqb-true _ _ own))
few_if most w b j false own below few = subst (λ (js : List Job). length js ≤ most) (sym (append-nil (jobs_of b.workers w b.accepted))) few

numbered_more : (first most : ℕ) (b b' : outbox.Account) (o : Option Job) (ws : List ℕ) → Grows b b' (option_to_list o) ws → HasNextNumber b o → HasNumbers first most b → HasNumbers first most b'
numbered_more first most b b' None ws g next has =
    let same : (w : ℕ) → jobs_of b'.workers w b'.accepted ≡ jobs_of b.workers w b.accepted =
    λ w. ap (λ (v : Choice). jobs_of v w b'.accepted) g.workers ∙ ap (jobs_of b.workers w) (g.accepted ∙ append-nil b.accepted) in
    record {
      first_job = g.first_job ∙ has.first_job;
      most = g.most ∙ has.most;
      numbers = λ w. subst (NumberedFrom first 0) (sym (same w)) (has.numbers w);
      within = λ w. subst (λ (js : List Job). length js ≤ most) (sym (same w)) (has.within w);
    }
numbered_more first most b b' (Some j) ws g next has =
    let number : j.number ≡ number_after first (given_to (worker_at b.workers j.work) b) =
    next.0 ∙ ap (λ n. number_after n (given_to (worker_at b.workers j.work) b)) has.first_job in
    let below : given_to (worker_at b.workers j.work) b < most = subst (λ n. given_to (worker_at b.workers j.work) b < n) has.most next.1 in
    record {
      first_job = g.first_job ∙ has.first_job;
      most = g.most ∙ has.most;
      numbers = λ w.
          subst (NumberedFrom first 0) (sym (one_accepted w b b' j g.workers g.accepted)) (push_if first w b j (worker_at b.workers j.work == w) refl number (has.numbers w));
      within = λ w.
          subst (λ (js : List Job). length js ≤ most) (sym (one_accepted w b b' j g.workers g.accepted)) (few_if most w b j (worker_at b.workers j.work == w) refl below (has.within w));
    }

numbered_events : (first most : ℕ) (a : Account) (es : List Event) → HasNumbers first most a.outbox → HasNumbers first most (fold account_after a es).outbox
numbered_events first most a [] has = has
numbered_events first most a (e ∷ es) has =
    numbered_events first most (account_after a e) es (numbered_more first most _ _ (job_at a e) (workers_at a e) (event_grows a e) (event_next a e) has)

has_numbers : (h : History) → HasNumbers h.setup.first_job most_jobs (outbox_of h)
unfolding account_of
has_numbers h =
    numbered_events h.setup.first_job most_jobs (account_before h.setup) h.events (record { first_job = refl; most = refl; numbers = λ w. tt; within = λ w. omega arith })

pub numbered : (h : History) (w : ℕ) → NumberedFrom h.setup.first_job 0 (jobs_of (outbox_of h).workers w (outbox_of h).accepted)
numbered h w = (has_numbers h).numbers w

pub few_jobs : (h : History) (w : ℕ) → length (jobs_of (outbox_of h).workers w (outbox_of h).accepted) ≤ 4294967295
few_jobs h w = (has_numbers h).within w

-- ---- every lawful history

ends_events : (w : ℕ) (a : Account) (es : List Event) → AreLawful a es → EndsWithin w a.outbox → EndsWithin w (fold account_after a es).outbox
ends_events w a [] lawful within = within
ends_events w a (history.Heard bytes ∷ es) lawful within =
    ends_events w (account_after a (history.Heard bytes)) es lawful.1 (accepts w _ _ _ (event_grows a (history.Heard bytes)) within).within
ends_events w a (history.Arrived r ∷ es) lawful within =
    ends_events w (account_after a (history.Arrived r)) es lawful.1 (comes w _ _ r (event_grows a (history.Arrived r)) lawful.0.oldest within).within
ends_events w a (history.Changed change ∷ es) lawful within =
    ends_events w (account_after a (history.Changed change)) es lawful.1 (accepts w _ _ _ (event_grows a (history.Changed change)) within).within
ends_events w a (history.Placed sub pid bytes ∷ es) lawful within =
    ends_events w (account_after a (history.Placed sub pid bytes)) es lawful.1 (accepts w _ _ _ (event_grows a (history.Placed sub pid bytes)) within).within
ends_events w a (history.Noted entry ∷ es) lawful within =
    ends_events w (account_after a (history.Noted entry)) es lawful.1 (accepts w _ _ _ (event_grows a (history.Noted entry)) within).within
ends_events w a (history.Restored image ∷ es) lawful within =
    ends_events w (account_after a (history.Restored image)) es lawful.1 (accepts w _ _ _ (event_grows a (history.Restored image)) within).within
ends_events w a (history.Dropped ∷ es) lawful within =
    ends_events w (account_after a history.Dropped) es lawful.1 (accepts w _ _ _ (event_grows a history.Dropped) within).within

pub ends_within : (h : History) (w : ℕ) → IsLawful h → EndsWithin w (outbox_of h)
unfolding account_of
ends_within h w lawful = ends_events w (account_before h.setup) h.events lawful (omega arith)
