-- Outboxes that show an account, and go on showing it.
use Rattle.std.proofs.Common.{◌≡◌, ℕ, ◌<◌, ◌+◌, ◌-◌, ◌≤◌, Bool, true, false, cond, List, [], ◌∷◌, ◌++◌, length, get_or, drop, refl, sym, ap, subst, ◌∙◌, add-zero, length-append, arith}
use Rattle.std.specs.Prelude.{◌==◌, nat_lt, Some, None, unwrap_or}
use Rattle.std.specs.List.{slice_get}
use Rattle.std.proofs.lemmas.Bool.{lt-ltb, le-ltb, ltb-true, ltb-false, eqb-true}
use Rattle.std.proofs.lemmas.Option.{slice_get_past, slice_get_within, get_or_from_slice_get, unwrap_or-slice_get}
use Rattle.std.proofs.lemmas.List.{get_or-drop, length-drop, drop-drop, drop-append-le}
use Rattle.std.proofs.lemmas.List.Sums.{sum_by-append}
use Rattle.rdm_frame.specs.declared.message.Message.{Message}
use Rattle.rdm_frame.specs.declared.status.Entry.{Entry}
use Rattle.rdm_commands.specs.declared.jobs.ask.Ask.{Ask}
use Rattle.rdm_outbox.specs.Account.{Account}
use Rattle.rdm_outbox.specs.declared.job.Job.{Job}
use Rattle.rdm_outbox.specs.Jobs.{jobs_of, ended_of, after_arrive}
use Rattle.rdm_outbox.specs.Messages.{last_or, next_of, after_next, after_drop}
use Rattle.rdm_outbox.specs.Shows.{Shows}
use Rattle.rdm_outbox.specs.State.{State, jobs_at}
use Rattle.rdm_outbox.specs.Statuses.{after_clear, others, first_asked, status_message, status_now, after_status_now}
use Rattle.rdm_outbox.proofs.Entries.{unshown_after_clear, unshown_after_show}

-- the last of a list that was made longer
pub last_or_push : (m x : Message) (xs : List Message) → last_or m (xs ++ x ∷ []) ≡ x
last_or_push m x [] = refl
last_or_push m x (y ∷ xs) = last_or_push y x xs

-- a list with no first item is empty
slice_get_none : (xs : List Message) → slice_get xs 0 ≡ None → xs ≡ []
slice_get_none [] none = refl
slice_get_none (x ∷ xs) none = absurd (cc)

-- the first that waits is the one after those that have left the queue
pub first_next : (xs : List Message) (n : ℕ) (m : Message) → unwrap_or (slice_get xs n) m ≡ get_or (drop n xs) 0 m
first_next xs n m = unwrap_or-slice_get xs n m ∙ sym (get_or-drop n xs 0 m ∙ ap (λ (k : ℕ). get_or xs k m) (omega arith))

-- the status message becomes the last message
pub shows_status : (s : State) (a : Account) (ask : Ask) → Shows s a → Shows (record s { unshown = others 25 ask s.unshown; last = status_message (first_asked 25 ask s.unshown) }) (after_status_now a ask)
shows_status s a ask h = record {
  q = h.q;
  jobs = h.jobs;
  entries = h.entries;
  first_job = h.first_job;
  workers = h.workers;
  first = h.first;
  second = h.second;
  first_given = h.first_given;
  second_given = h.second_given;
  first_ended = h.first_ended;
  second_ended = h.second_ended;
  queue = h.queue;
  within = h.within;
  unshown = ap (others 25 ask) h.unshown ∙ sym (unshown_after_show 25 ask a.noted);
  last = ap (λ (es : List Entry). status_message (first_asked 25 ask es)) h.unshown ∙ sym (last_or_push (status_message []) (status_now a ask) a.answers);
}

-- how many messages wait
waiting_count : (s : State) (a : Account) → Shows s a → length s.queue + a.gone ≡ length a.arrived
waiting_count s a h = rw (h.queue, length-drop a.gone a.arrived) (omega (arith, h.within))

-- nothing can be dropped from a list with no items
drop_none : (ms : List Message) → length ms ≡ 0 → drop 1 ms ≡ ms
drop_none [] none = refl
drop_none (m ∷ ms) none = absurd (omega (arith, none))

-- where none waits, dropping the first changes nothing
pub drop_of_none : (s t : State) → slice_get s.queue 0 ≡ None → s ≡ t → record s { queue = drop 1 s.queue } ≡ t
drop_of_none s t none same =
    let empty : s.queue ≡ [] = slice_get_none s.queue none in
    ap (λ (ms : List Message). record s { queue = ms }) (ap (drop 1) empty ∙ sym empty) ∙ same

-- where none waits, the next message is the status message
pub shows_none : (s : State) (a : Account) (ask : Ask) → Shows s a → slice_get s.queue 0 ≡ None → Shows (record s { queue = drop 1 s.queue; unshown = others 25 ask s.unshown; last = status_message (first_asked 25 ask s.unshown) }) (after_next a ask)
shows_none s a ask h none =
    let empty : s.queue ≡ [] = slice_get_none s.queue none in
    let rest : drop 1 s.queue ≡ s.queue = ap (drop 1) empty ∙ sym empty in
    rw (rest, le-ltb a.gone (length a.arrived) (omega (arith, waiting_count s a h, ap length empty))) (shows_status s a ask h)

pub next_none : (s : State) (a : Account) (ask : Ask) → Shows s a → slice_get s.queue 0 ≡ None → status_message (first_asked 25 ask s.unshown) ≡ next_of a ask
next_none s a ask h none =
    let empty : s.queue ≡ [] = slice_get_none s.queue none in
    rw (slice_get_past a.arrived a.gone (omega (arith, waiting_count s a h, ap length empty))) (ap (λ (es : List Entry). status_message (first_asked 25 ask es)) h.unshown)

-- where one waits, the first is the next message, and becomes the last one
pub next_first : (s : State) (a : Account) (ask : Ask) (m : Message) → Shows s a → slice_get s.queue 0 ≡ Some m → m ≡ next_of a ask
next_first s a ask m h is_first =
    sym (get_or_from_slice_get s.queue 0 m (status_now a ask) is_first) ∙ ap (λ (ms : List Message). get_or ms 0 (status_now a ask)) h.queue ∙ sym (first_next a.arrived a.gone (status_now a ask))

pub shows_first : (s : State) (a : Account) (ask : Ask) (m : Message) → Shows s a → slice_get s.queue 0 ≡ Some m → Shows (record s { queue = drop 1 s.queue; last = m }) (after_next a ask)
shows_first s a ask m h is_first =
    let some : 0 < length s.queue = slice_get_within s.queue 0 m is_first in
    rw (lt-ltb a.gone (length a.arrived) (omega (arith, waiting_count s a h, some))) (record {
      q = h.q;
      jobs = h.jobs;
      entries = h.entries;
      first_job = h.first_job;
      workers = h.workers;
      first = h.first;
      second = h.second;
      first_given = h.first_given;
      second_given = h.second_given;
      first_ended = h.first_ended;
      second_ended = h.second_ended;
      queue = ap (drop 1) h.queue ∙ drop-drop 1 a.gone a.arrived;
      within = omega (arith, waiting_count s a h, some);
      unshown = h.unshown;
      last = next_first s a ask m h is_first ∙ sym (last_or_push (status_message []) (next_of a ask) a.answers);
    })

-- the oldest message that waits is dropped, or there is none
drops : (s : State) (a : Account) (some : Bool) → nat_lt a.gone (length a.arrived) ≡ some → Shows s a → Shows (record s { queue = drop 1 s.queue }) (cond some (record a { gone = a.gone + 1 }) a)
drops s a true e h = record {
  q = h.q;
  jobs = h.jobs;
  entries = h.entries;
  first_job = h.first_job;
  workers = h.workers;
  first = h.first;
  second = h.second;
  first_given = h.first_given;
  second_given = h.second_given;
  first_ended = h.first_ended;
  second_ended = h.second_ended;
  queue = ap (drop 1) h.queue ∙ drop-drop 1 a.gone a.arrived;
  within = let less : a.gone < length a.arrived = ltb-true _ _ e in omega arith;
  unshown = h.unshown;
  last = h.last;
}
drops s a false e h =
    let past : length a.arrived ≤ a.gone = ltb-false _ _ e in
    let none : length s.queue ≡ 0 = omega (arith, waiting_count s a h, past) in
    subst (λ (ms : List Message). Shows (record s { queue = ms }) a) (sym (drop_none s.queue none)) h

pub shows_drop : (s : State) (a : Account) → Shows s a → Shows (record s { queue = drop 1 s.queue }) (after_drop a)
shows_drop s a h = drops s a (nat_lt a.gone (length a.arrived)) refl h

-- jobs that have ended
pub ended_sum : (worker w : ℕ) (ws : List ℕ) → ended_of worker (ws ++ w ∷ []) ≡ ended_of worker ws + ended_of worker (w ∷ [])
ended_sum worker w ws = sum_by-append (λ (x : ℕ). cond (x == worker) 1 0) ws (w ∷ [])

-- where a job is outstanding, fewer have ended than there are
pub within_more : (n : ℕ) (js : List Job) → 0 < length (drop n js) → n + 1 ≤ length js
within_more n js some =
    let left : 0 < length js - n = rw (← length-drop n js) some in
    omega (arith, left)

-- the first worker's oldest job ends, or the second's
first_ends : (s : State) (a : Account) (m : Message) → Shows s a → 0 < length s.first → Shows (record s { first = drop 1 s.first; queue = s.queue ++ m ∷ [] }) (after_arrive a 0 m)
first_ends s a m h some =
    let one : ended_of 0 (a.ended ++ 0 ∷ []) ≡ ended_of 0 a.ended + 1 = ended_sum 0 0 a.ended in
    let none : ended_of 1 (a.ended ++ 0 ∷ []) ≡ ended_of 1 a.ended = ended_sum 1 0 a.ended ∙ add-zero (ended_of 1 a.ended) in
    record {
      q = h.q;
      jobs = h.jobs;
      entries = h.entries;
      first_job = h.first_job;
      workers = h.workers;
      first = rw one (ap (drop 1) h.first ∙ drop-drop 1 (ended_of 0 a.ended) (jobs_of a.workers 0 a.accepted));
      second = rw none h.second;
      first_given = h.first_given;
      second_given = h.second_given;
      first_ended = rw one (within_more (ended_of 0 a.ended) (jobs_of a.workers 0 a.accepted) (rw (← h.first) some));
      second_ended = rw none h.second_ended;
      queue = ap (λ (ms : List Message). ms ++ m ∷ []) h.queue ∙ sym (drop-append-le a.gone a.arrived (m ∷ []) h.within);
      within = rw (length-append a.arrived (m ∷ [])) (omega (arith, h.within));
      unshown = h.unshown;
      last = h.last;
    }

second_ends : (s : State) (a : Account) (m : Message) → Shows s a → 0 < length s.second → Shows (record s { second = drop 1 s.second; queue = s.queue ++ m ∷ [] }) (after_arrive a 1 m)
second_ends s a m h some =
    let one : ended_of 1 (a.ended ++ 1 ∷ []) ≡ ended_of 1 a.ended + 1 = ended_sum 1 1 a.ended in
    let none : ended_of 0 (a.ended ++ 1 ∷ []) ≡ ended_of 0 a.ended = ended_sum 0 1 a.ended ∙ add-zero (ended_of 0 a.ended) in
    record {
      q = h.q;
      jobs = h.jobs;
      entries = h.entries;
      first_job = h.first_job;
      workers = h.workers;
      first = rw none h.first;
      second = rw one (ap (drop 1) h.second ∙ drop-drop 1 (ended_of 1 a.ended) (jobs_of a.workers 1 a.accepted));
      first_given = h.first_given;
      second_given = h.second_given;
      first_ended = rw none h.first_ended;
      second_ended = rw one (within_more (ended_of 1 a.ended) (jobs_of a.workers 1 a.accepted) (rw (← h.second) some));
      queue = ap (λ (ms : List Message). ms ++ m ∷ []) h.queue ∙ sym (drop-append-le a.gone a.arrived (m ∷ []) h.within);
      within = rw (length-append a.arrived (m ∷ [])) (omega (arith, h.within));
      unshown = h.unshown;
      last = h.last;
    }

-- a worker that isn't the first and has jobs is the second
second_by : (s : State) (worker : ℕ) (zeroth one : Bool) → (worker == 0) ≡ zeroth → (worker == 1) ≡ one → (worker ≡ 0 → ⊥) → 0 < length (jobs_at s worker) → worker ≡ 1
second_by s worker true one z o not_first some = absurd (not_first (eqb-true worker 0 z))
second_by s worker false true z o not_first some = eqb-true worker 1 o
second_by s worker false false z o not_first some =
    let none : jobs_at s worker ≡ [] = rw (z, o) refl in
    let few : 0 < length (jobs_at s worker) = some in
    absurd (omega (arith, few, ap length none))

second_worker : (s : State) (worker : ℕ) → (worker ≡ 0 → ⊥) → 0 < length (jobs_at s worker) → worker ≡ 1
second_worker s worker not_first some = second_by s worker (worker == 0) (worker == 1) refl refl not_first some

-- the oldest job of a worker ends
pub shows_end_of_first : (s : State) (a : Account) (worker : ℕ) (m : Message) → Shows s a → worker ≡ 0 → 0 < length (jobs_at s worker) → Shows (record s { first = drop 1 s.first; queue = s.queue ++ m ∷ [] }) (after_arrive a worker m)
shows_end_of_first s a worker m h first some = rw first (first_ends s a m h (subst (λ (n : ℕ). 0 < length (jobs_at s n)) first some))

pub shows_end_of_second : (s : State) (a : Account) (worker : ℕ) (m : Message) → Shows s a → (worker ≡ 0 → ⊥) → 0 < length (jobs_at s worker) → Shows (record s { second = drop 1 s.second; queue = s.queue ++ m ∷ [] }) (after_arrive a worker m)
shows_end_of_second s a worker m h not_first some =
    let second : worker ≡ 1 = second_worker s worker not_first some in
    rw second (second_ends s a m h (subst (λ (n : ℕ). 0 < length (jobs_at s n)) second some))

-- the status list is cleared
pub shows_clear : (s : State) (a : Account) → Shows s a → Shows (record s { unshown = [] }) (after_clear a)
shows_clear s a h = record {
  q = h.q;
  jobs = h.jobs;
  entries = h.entries;
  first_job = h.first_job;
  workers = h.workers;
  first = h.first;
  second = h.second;
  first_given = h.first_given;
  second_given = h.second_given;
  first_ended = h.first_ended;
  second_ended = h.second_ended;
  queue = h.queue;
  within = h.within;
  unshown = sym (unshown_after_clear a.noted);
  last = h.last;
}
