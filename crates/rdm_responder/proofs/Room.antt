-- Every lawful history leaves the room that an outbox keeps.
use Rattle.std.proofs.Common.{◌≡◌, ℕ, zero, suc, ◌+◌, ◌<◌, ◌≤◌, ◌==◌, Bool, true, false, cond, List, [], ◌∷◌, ◌++◌, length, Option, Some, None, refl, ap, ◌∙◌, arith, length-append, length-drop}
use Rattle.std.specs.Prelude.{nat_lt}
use Rattle.std.specs.List.{fold}
use Rattle.std.proofs.lemmas.Bool.{and_parts, eqb-true, ltb-true}
use Rattle.rdm_frame.specs.Reading.{frame_in}
use Rattle.rdm_frame.specs.declared.message.Message.{Message}
use Rattle.rdm_frame.specs.declared.status.Entry.{Entry, Entry as StatusEntry}
use Rattle.rdm_commands.specs.declared.jobs.ask.Ask.{Ask}
use Rattle.rdm_commands.specs.declared.jobs.outcome.Outcome.{Outcome}
use Rattle.rdm_commands.specs.declared.jobs.outcome.Outcome.TheVariants.{Done, Reading, Failed}
use Rattle.rdm_commands.specs.declared.jobs.work.Work.{Work}
use Rattle.rdm_commands.specs.declared.verdict.Verdict.{Verdict}
use Rattle.rdm_commands.specs.declared.verdict.Verdict.TheVariants.{Reply, Start, Queue, Status, Clear, Refuse}
use Rattle.rdm_params.specs.Commands.Commands.{got, answer_to_set}
use Rattle.rdm_params.specs.Commands.Panel.{change_message}
use Rattle.rdm_params.specs.Device.Parameters.{Parameters}
use Rattle.rdm_params.specs.Jobs.Commit.{committed}
use Rattle.rdm_params.specs.Jobs.Work.{Choice, worker_at}
use Rattle.rdm_commands.proofs.TwoWorkers.{there_are_two_workers}
use Rattle.rdm_outbox.specs.Account as outbox
use Rattle.rdm_outbox.specs.Account.{Noted}
use Rattle.rdm_outbox.specs.declared.job.Job.{Job}
use Rattle.rdm_outbox.specs.Jobs.{jobs_of, ended_of, given_to, has_place, has_room, next_job, outstanding_of, waiting_of, after_arrive}
use Rattle.rdm_outbox.specs.Laws.{OnlyMarks}
use Rattle.rdm_outbox.specs.Messages.{is_last, after_next, after_drop}
use Rattle.rdm_outbox.specs.Shows as outbox_shows
use Rattle.rdm_outbox.specs.State as outbox_state
use Rattle.rdm_outbox.specs.Settings.{most_waiting}
use Rattle.rdm_outbox.specs.State.{HasRoom}
use Rattle.rdm_outbox.specs.Statuses.{can_note, most_shown, show, unshown, after_status_now}
use Rattle.rdm_outbox.proofs.Entries.{unshown_after_clear}
use Rattle.rdm_outbox.proofs.Marks.{show_only_marks}
use Rattle.rdm_outbox.proofs.Newest.{fewer_newest}
use Rattle.rdm_responder.specs.History as history
use Rattle.rdm_responder.specs.History.{Event, Heard, Arrived, Changed, Placed, Restored, Dropped}
use Rattle.rdm_responder.specs.Lawful.{MayHappen, AreLawful}
use Rattle.rdm_responder.specs.Laws.{LawfulHistoriesHaveRoom}
use Rattle.rdm_responder.specs.Requests.{Request, Ignored, Branch, Muting, Get, Set, request_in}
use Rattle.rdm_responder.specs.Rules.{Account, account_of, account_before, account_after, account_with, newest_only, after_message, after_entry, after_outcome, outbox_after}
use Rattle.rdm_responder.proofs.Shown.{IsWithin, either, after_event, ended_one}

-- how many of a worker's jobs have ended
abbrev done_by : ℕ → outbox.Account → ℕ
done_by w b = ended_of w b.ended

-- what an outbox with this account needs is there
record Fits (b : outbox.Account) : Type 0 where
  pub most : b.q ≤ most_waiting
  pub room : given_to 0 b + given_to 1 b + length b.arrived ≤ b.q + done_by 0 b + done_by 1 b + b.gone
  pub jobs : (w : ℕ) → given_to w b ≤ b.jobs
  pub unshown : length (unshown b.noted) ≤ b.entries

-- there is a place
has_a_place : (b : outbox.Account) → IsWithin b → has_place b ≡ true → given_to 0 b + given_to 1 b + length b.arrived < b.q + done_by 0 b + done_by 1 b + b.gone
has_a_place b is e =
    let place = ltb-true (length (outstanding_of b 0) + length (outstanding_of b 1) + length (waiting_of b)) b.q e in
    omega (arith, place, length-drop (done_by 0 b) (jobs_of b.workers 0 b.accepted), length-drop (done_by 1 b) (jobs_of b.workers 1 b.accepted), length-drop b.gone b.arrived, is.ended 0, is.ended 1, is.given)

-- ---- a job that starts

more_if : (c : Bool) (x : Job) (js ks : List Job) (d : ℕ) → length ks ≡ length js + d → length (cond c (x ∷ ks) ks) ≡ length (cond c (x ∷ js) js) + d
more_if true x js ks d e = omega (arith, e)
more_if false x js ks d e = e

one_if : (c : Bool) (j : Job) → length (cond c (j ∷ []) []) ≡ 0 + cond c 1 0
one_if true j = refl
one_if false j = refl

one_more : (ws : Choice) (w : ℕ) (js : List Job) (j : Job) → length (jobs_of ws w (js ++ j ∷ [])) ≡ length (jobs_of ws w js) + cond (worker_at ws j.work == w) 1 0
one_more ws w [] j = one_if (worker_at ws j.work == w) j
one_more ws w (x ∷ js) j = more_if (worker_at ws x.work == w) x (jobs_of ws w js) (jobs_of ws w (js ++ j ∷ [])) (cond (worker_at ws j.work == w) 1 0) (one_more ws w js j)

either_worker : (k : ℕ) → k < 2 → cond (k == 0) 1 0 + cond (k == 1) 1 0 ≡ 1
either_worker zero below = refl
either_worker (suc zero) below = refl
either_worker (suc (suc k)) below = absurd (omega arith)

jobs_still : (w k n jobs : ℕ) (b : outbox.Account) (here : Bool) → (k == w) ≡ here → n ≡ given_to k b → n < jobs → given_to w b ≤ jobs → given_to w b + cond here 1 0 ≤ jobs
jobs_still w k n jobs b true e many below few = omega (arith, ap (λ i. given_to i b) (eqb-true k w e), many, below)
jobs_still w k n jobs b false e many below few = omega (arith, few)

starts : (b : outbox.Account) (work : Work) (room : Bool) → has_room b work ≡ room → IsWithin b → Fits b → Fits (cond room (record b { accepted = b.accepted ++ next_job b work ∷ [] }) b)
starts b work true e is fits =
    let parts = and_parts (has_place b) (nat_lt (given_to (worker_at b.workers work) b) b.jobs) e in
    let j : Job = next_job b work in
    record {
      most = fits.most;
      room = omega (arith, has_a_place b is parts.0, one_more b.workers 0 b.accepted j, one_more b.workers 1 b.accepted j, either_worker (worker_at b.workers work) (there_are_two_workers b.workers work));
      jobs = λ w. omega (arith, one_more b.workers w b.accepted j, jobs_still w (worker_at b.workers work) (given_to (worker_at b.workers work) b) b.jobs b (worker_at b.workers work == w) refl refl (ltb-true (given_to (worker_at b.workers work) b) b.jobs parts.1) (fits.jobs w));
      unshown = fits.unshown;
    }
starts b work false e is fits = fits

-- ---- entries

both : (b : Bool) → b ≡ true → b ≡ false → ⊥
both true e f = cc
both false e f = cc

fewer_one : (b n : Noted) (before now : List Noted) (s t : Bool) → b.shown ≡ s → n.shown ≡ t → (b.shown ≡ true → n.shown ≡ true) → length (unshown now) ≤ length (unshown before) → length (unshown (n ∷ now)) ≤ length (unshown (b ∷ before))
fewer_one b n before now true true e f stays less = rw (e, f) less
fewer_one b n before now true false e f stays less = absurd (both n.shown (stays e) f)
fewer_one b n before now false true e f stays less = rw (e, f) (omega (arith, less))
fewer_one b n before now false false e f stays less = rw (e, f) (omega (arith, less))

fewer : (before now : List Noted) → OnlyMarks before now → length (unshown now) ≤ length (unshown before)
fewer [] [] only = omega arith
fewer [] (n ∷ now) only = absurd only
fewer (b ∷ before) [] only = absurd only
fewer (b ∷ before) (n ∷ now) only = fewer_one b n before now b.shown n.shown refl refl only.1 (fewer before now only.2)

noted_next : (x : Noted) (ns : List Noted) (entry : Entry) (s : Bool) → x.shown ≡ s → length (unshown (ns ++ record { entry = entry; shown = false } ∷ [])) ≡ length (unshown ns) + 1 → length (unshown ((x ∷ ns) ++ record { entry = entry; shown = false } ∷ [])) ≡ length (unshown (x ∷ ns)) + 1
noted_next x ns entry true e more = rw e more
noted_next x ns entry false e more = rw e (omega (arith, more))

noted_one : (ns : List Noted) (entry : Entry) → length (unshown (ns ++ record { entry = entry; shown = false } ∷ [])) ≡ length (unshown ns) + 1
noted_one [] entry = refl
noted_one (x ∷ ns) entry = noted_next x ns entry x.shown refl (noted_one ns entry)

after_shown : (b : outbox.Account) (answers : List Message) (n : ℕ) (ask : Ask) → Fits b → Fits (record b { noted = show n ask b.noted; answers = answers })
after_shown b answers n ask fits = record {
  most = fits.most;
  room = fits.room;
  jobs = fits.jobs;
  unshown = omega (arith, fewer b.noted (show n ask b.noted) (show_only_marks n ask b.noted), fits.unshown);
}

gives_next : (b x y : outbox.Account) (c : Bool) → nat_lt b.gone (length b.arrived) ≡ c → (b.gone < length b.arrived → Fits x) → Fits y → Fits (cond c x y)
gives_next b x y true e one two = one (ltb-true b.gone (length b.arrived) e)
gives_next b x y false e one two = two

after_the_next : (b : outbox.Account) (ask : Ask) → Fits b → Fits (after_next b ask)
after_the_next b ask fits =
    gives_next b _ _ (nat_lt b.gone (length b.arrived)) refl
    (λ some. record { most = fits.most; room = omega (arith, fits.room); jobs = fits.jobs; unshown = fits.unshown })
    (after_shown b _ most_shown ask fits)

drop_fits : (b : outbox.Account) → IsWithin b → Fits b → Fits (after_drop b)
drop_fits b is fits =
    gives_next b _ _ (nat_lt b.gone (length b.arrived)) refl
    (λ some. record { most = fits.most; room = omega (arith, fits.room); jobs = fits.jobs; unshown = fits.unshown }) fits

verdict_fits : (b : outbox.Account) (v : Verdict) → IsWithin b → Fits b → Fits (outbox_after b v)
verdict_fits b (Reply bytes) is fits = fits
verdict_fits b (Start work) is fits = starts b work (has_room b work) refl is fits
verdict_fits b (Queue ask) is fits = either Fits (is_last ask) b (after_next b ask) fits (after_the_next b ask fits)
verdict_fits b (Status ask) is fits = either Fits (is_last ask) b (after_status_now b ask) fits (after_shown b _ most_shown ask fits)
verdict_fits b Clear is fits = record {
  most = fits.most;
  room = fits.room;
  jobs = fits.jobs;
  unshown = omega (arith, ap length (unshown_after_clear b.noted));
}
verdict_fits b (Refuse nack) is fits = fits

request_fits : (a : Account) (r : Request) → IsWithin a.outbox → Fits a.outbox → Fits (account_with a r).outbox
request_fits a Ignored is fits = fits
request_fits a (Branch lower upper) is fits = fits
request_fits a (Muting muted f) is fits = fits
request_fits a (Get f) is fits = verdict_fits a.outbox (got a.parameters f.sub f.pid f.body) is fits
request_fits a (Set f) is fits = verdict_fits a.outbox (answer_to_set a.parameters f.sub f.pid f.body) is fits

-- ---- reports and changes

arrive_fits : (b : outbox.Account) (worker : ℕ) (m : Message) → worker < 2 → Fits b → Fits (after_arrive b worker m)
arrive_fits b worker m two fits = record {
  most = fits.most;
  room = omega (arith, fits.room, length-append b.arrived (m ∷ []), ended_one worker 0 b.ended, ended_one worker 1 b.ended, either_worker worker two);
  jobs = fits.jobs;
  unshown = fits.unshown;
}

noted_fits : (b : outbox.Account) (entry : Entry) (can : Bool) → can_note b ≡ can → Fits b → Fits (cond can (record b { noted = b.noted ++ record { entry = entry; shown = false } ∷ [] }) b)
noted_fits b entry true e fits =
    let some = ltb-true (length (unshown b.noted)) b.entries e in
    record { most = fits.most; room = fits.room; jobs = fits.jobs; unshown = omega (arith, noted_one b.noted entry, some) }
noted_fits b entry false e fits = fits

entry_fits : (p : Parameters) (b : outbox.Account) (entry : StatusEntry) → Fits b → Fits (after_entry p b entry)
entry_fits p b entry fits = either Fits _ _ b (noted_fits b entry (can_note b) refl fits) fits

outcome_fits : (p : Parameters) (b : outbox.Account) (work : Work) (outcome : Outcome) → Fits b → Fits (after_outcome p b work outcome)
outcome_fits p b work Done fits = fits
outcome_fits p b work (Reading v) fits = fits
outcome_fits p b work (Failed severity id v1 v2) fits = entry_fits p b _ fits

message_fits : (newest : Bool) (b : outbox.Account) (message : Option Message) → IsWithin b → has_place b ≡ true → Fits b → Fits (after_message newest b message)
message_fits newest b None is place fits = fits
message_fits true b (Some m) is place fits = record {
  most = fits.most;
  room = omega (arith, has_a_place b is place, fewer_newest b m);
  jobs = fits.jobs;
  unshown = fits.unshown;
}
message_fits false b (Some m) is place fits = record {
  most = fits.most;
  room = omega (arith, has_a_place b is place, length-append b.arrived (m ∷ []));
  jobs = fits.jobs;
  unshown = fits.unshown;
}

event_fits : (a : Account) (e : Event) → MayHappen a e → IsWithin a.outbox → Fits a.outbox → Fits (account_after a e).outbox
event_fits a (Heard bytes) may is fits = request_fits a (request_in a.setup.uid (frame_in bytes)) is fits
event_fits a (Arrived r) may is fits =
    outcome_fits _ _ r.job.work r.outcome
    (arrive_fits a.outbox (worker_at a.outbox.workers r.job.work) (committed a.parameters r.job.work r.outcome) (there_are_two_workers a.outbox.workers r.job.work) fits)
event_fits a (Changed change) may is fits = message_fits (newest_only a.parameters) a.outbox (change_message a.parameters change) is may fits
event_fits a (Placed sub pid bytes) may is fits = fits
event_fits a (history.Noted entry) may is fits = entry_fits a.parameters a.outbox entry fits
event_fits a (Restored image) may is fits = fits
event_fits a Dropped may is fits = drop_fits a.outbox is fits

events_fit : (a : Account) (es : List Event) → AreLawful a es → IsWithin a.outbox → Fits a.outbox → IsWithin (fold account_after a es).outbox × Fits (fold account_after a es).outbox
events_fit a [] lawful is fits = (is, fits)
events_fit a (e ∷ es) lawful is fits = events_fit (account_after a e) es lawful.1 (after_event a e lawful.0 is) (event_fits a e lawful.0 is fits)

-- ---- the state

room_of : (s : outbox_state.State) (b : outbox.Account) → IsWithin b → Fits b → outbox_shows.Shows s b → HasRoom s
room_of s b is fits shows = record {
  most = omega (arith, shows.q, fits.most);
  room = omega (arith, shows.q, fits.room, ap length shows.first ∙ length-drop (done_by 0 b) (jobs_of b.workers 0 b.accepted), ap length shows.second ∙ length-drop (done_by 1 b) (jobs_of b.workers 1 b.accepted), ap length shows.queue ∙ length-drop b.gone b.arrived, is.ended 0, is.ended 1, is.given);
  first_given = omega (arith, shows.first_given, shows.jobs, fits.jobs 0);
  second_given = omega (arith, shows.second_given, shows.jobs, fits.jobs 1);
  unshown = omega (arith, ap length shows.unshown, shows.entries, fits.unshown);
}

pub lawful_histories_have_room : LawfulHistoriesHaveRoom
unfolding account_of
lawful_histories_have_room h lawful size state shows =
    let all = events_fit (account_before h.setup) h.events lawful (record { ended = λ w. omega arith; given = omega arith })
    (record { most = size.1; room = omega arith; jobs = λ w. omega arith; unshown = omega arith }) in
    room_of state.outbox (fold account_after (account_before h.setup) h.events).outbox all.0 all.1 shows.outbox
