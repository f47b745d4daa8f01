-- What a GET of QUEUED_MESSAGE or STATUS_MESSAGES is answered, and that nothing else gives a message.
use Rattle.std.proofs.Common.{◌≡◌, ℕ, Bool, true, false, ◌==◌, ◌&&◌, ◌||◌, List, [], ◌∷◌, Result, Ok, Err, ◌⊎◌, inl, inr, refl, sym, subst, ◌∙◌, cond, Option, None}
use Rattle.std.proofs.lemmas.Bool.{eqb-true}
use Rattle.std.proofs.lemmas.Slice.Eq.{bytes_eq-Decides}
use Rattle.std.specs.Str.{bytes_eq}
use Rattle.rdm_frame.specs.declared.frame.Frame.{Frame}
use Rattle.rdm_frame.specs.declared.nack.Nack.{Nack}
use Rattle.rdm_frame.specs.declared.nack.Nack.TheVariants.{SubDeviceOutOfRange, UnknownPid}
use Rattle.rdm_profile.specs.declared.value.Value.{Value}
use Rattle.rdm_profile.specs.Values.{byte_or_0}
use Rattle.rdm_table.specs.declared.kind.Verb.TheVariants as verbs
use Rattle.rdm_table.specs.Table.Rows.{Row, added_rows, command_in, is_left_out, row_at, row_in, row_of, row_or, table}
use Rattle.rdm_commands.specs.declared.jobs.ask.Ask.{Ask}
use Rattle.rdm_commands.specs.declared.jobs.ask.Ask.TheVariants as asks
use Rattle.rdm_commands.specs.declared.verdict.Verdict.{Verdict as Answer}
use Rattle.rdm_commands.specs.declared.verdict.Verdict.TheVariants.{Queue, Status, Refuse}
use Rattle.rdm_commands.specs.Jobs.Asks.{ask_of}
use Rattle.rdm_params.specs.Commands.Commands.{accepted, addressed, answer_to_set, command_at, got, got_by_row, is_some_device, known, read_data, unprotected, verdict, ◌>>=◌}
use Rattle.rdm_params.specs.Device.Parameters.{Parameters}
use Rattle.rdm_params.proofs.Fetches.{get_queues, get_statuses, set_fetches_nothing}
use Rattle.rdm_judge.specs.Judging.{fetches}
use Rattle.rdm_judge.specs.Seen.{asks_again, polls}
use Rattle.rdm_judge.proofs.Messages.{GivesNone}

-- a message, a status message, or a refusal
pub data Given (v : Answer) : Type 0 where
  Queued : (ask : Ask) → v ≡ Queue ask → Given v
  Shown : (ask : Ask) → v ≡ Status ask → Given v
  Refused : (nack : Nack) → v ≡ Refuse nack → Given v

-- the last message again, or a refusal
pub data Again (v : Answer) : Type 0 where
  QueuedAgain : v ≡ Queue asks.Last → Again v
  ShownAgain : v ≡ Status asks.Last → Again v
  NoneAgain : (nack : Nack) → v ≡ Refuse nack → Again v

-- ---- QUEUED_MESSAGE, which each fixture has

by_result : (p : Parameters) (sub : ℕ) (r : Result Value Nack) → Given (verdict p sub 0x0020 (command_at p 0x0020 verbs.Get) verbs.Get r)
unfolding row_of table
by_result p sub (Ok v) = Queued (ask_of (byte_or_0 v)) refl
by_result p sub (Err nack) = Refused nack refl

poll_gives : (p : Parameters) (sub : ℕ) (bytes : List ℕ) → Given (got p sub 0x0020 bytes)
unfolding got got_by_row
poll_gives p sub bytes = by_result p sub (accepted p sub 0x0020 verbs.Get bytes)

last_again : (p : Parameters) → got p 0 0x0020 (1 ∷ []) ≡ Queue asks.Last
unfolding got got_by_row accepted row_of table
last_again p = refl

-- ---- STATUS_MESSAGES, which a fixture may lack

abbrev by_row : Parameters → ℕ → List ℕ → Option Row → Result Value Nack
by_row p sub bytes row =
    known p sub row verbs.Get >>= (λ u. unprotected p.profile p.added 0x0030 (command_in row verbs.Get) verbs.Get bytes >>= (λ w. read_data p sub (command_in row verbs.Get) verbs.Get bytes))

is_by_row : (p : Parameters) (sub : ℕ) (bytes : List ℕ) → accepted p sub 0x0030 verbs.Get bytes ≡ by_row p sub bytes (row_at p.profile 0x0030)
unfolding accepted
is_by_row p sub bytes = refl

-- its row at a profile, if it isn't left out
abbrev row_if : Parameters → Bool → Option Row
row_if p left = cond left None (row_or (row_of 0x0030) (row_in (added_rows p.profile) 0x0030))

no_row : (p : Parameters) (sub : ℕ) (bytes : List ℕ) (some : Bool) → is_some_device (addressed p sub verbs.Get) ≡ some → Given (verdict p sub 0x0030 None verbs.Get (by_row p sub bytes None))
no_row p sub bytes true e = rw e (Refused UnknownPid refl)
no_row p sub bytes false e = rw e (Refused SubDeviceOutOfRange refl)

shown_at : (p : Parameters) (sub : ℕ) (r : Result Value Nack) → Given (verdict p sub 0x0030 (command_in (row_if p false) verbs.Get) verbs.Get r)
unfolding row_of table
shown_at p sub (Ok v) = Shown (ask_of (byte_or_0 v)) refl
shown_at p sub (Err nack) = Refused nack refl

status_at : (p : Parameters) (sub : ℕ) (bytes : List ℕ) (left : Bool) → Given (verdict p sub 0x0030 (command_in (row_if p left) verbs.Get) verbs.Get (by_row p sub bytes (row_if p left)))
status_at p sub bytes true = no_row p sub bytes (is_some_device (addressed p sub verbs.Get)) refl
status_at p sub bytes false = shown_at p sub (by_row p sub bytes (row_if p false))

status_gives : (p : Parameters) (sub : ℕ) (bytes : List ℕ) → Given (got p sub 0x0030 bytes)
unfolding got got_by_row
status_gives p sub bytes =
    subst (λ (r : Result Value Nack). Given (verdict p sub 0x0030 (command_at p 0x0030 verbs.Get) verbs.Get r)) (sym (is_by_row p sub bytes)) (status_at p sub bytes (is_left_out p.profile 0x0030))

again_at : (p : Parameters) (left : Bool) → Again (verdict p 0 0x0030 (command_in (row_if p left) verbs.Get) verbs.Get (by_row p 0 (1 ∷ []) (row_if p left)))
unfolding row_of table
again_at p true = NoneAgain UnknownPid refl
again_at p false = ShownAgain refl

status_again : (p : Parameters) → Again (got p 0 0x0030 (1 ∷ []))
unfolding got got_by_row
status_again p =
    subst (λ (r : Result Value Nack). Again (verdict p 0 0x0030 (command_at p 0x0030 verbs.Get) verbs.Get r)) (sym (is_by_row p 0 (1 ∷ []))) (again_at p (is_left_out p.profile 0x0030))

-- ---- each command

-- What the verdict on a command comes to, by its frame.
pub record Gives (f : Frame) (v : Answer) : Type 0 where
  pub none : fetches f ≡ false → GivesNone v
  pub fetched : fetches f ≡ true → Given v
  pub not_polled : polls f ≡ false → (ask : Ask) → v ≡ Queue ask → ⊥
  pub again : asks_again f ≡ true → Again v

first_true : (a b : Bool) → (a && b) ≡ true → a ≡ true
first_true true b e = refl
first_true false b e = absurd cc

second_true : (a b : Bool) → (a && b) ≡ true → b ≡ true
second_true true b e = e
second_true false b e = absurd cc

true_is_false : true ≡ false → ⊥
true_is_false e = cc

-- which of the two it is
either : (first second : Bool) → (first || second) ≡ true → (first ≡ true) ⊎ (second ≡ true)
either true second e = inl refl
either false second e = inr e

which : (f : Frame) → fetches f ≡ true → (f.pid ≡ 0x0020) ⊎ (f.pid ≡ 0x0030)
which f e = elim (either (f.pid == 0x0020) (f.pid == 0x0030) (second_true (f.class == 0x20) ((f.pid == 0x0020) || (f.pid == 0x0030)) e)) [
  | inl first ↦ inl (eqb-true f.pid 0x0020 first)
  | inr second ↦ inr (eqb-true f.pid 0x0030 second)
]

get_fetched : (d : Parameters) (f : Frame) → (f.pid ≡ 0x0020) ⊎ (f.pid ≡ 0x0030) → Given (got d f.sub f.pid f.body)
get_fetched d f (inl queue) = subst (λ (pid : ℕ). Given (got d f.sub pid f.body)) (sym queue) (poll_gives d f.sub f.body)
get_fetched d f (inr status) = subst (λ (pid : ℕ). Given (got d f.sub pid f.body)) (sym status) (status_gives d f.sub f.body)

get_again : (d : Parameters) (f : Frame) → f.sub ≡ 0 → f.body ≡ 1 ∷ [] → (f.pid ≡ 0x0020) ⊎ (f.pid ≡ 0x0030) → Again (got d f.sub f.pid f.body)
get_again d f sub body (inl queue) = rw (sub, body, queue) (QueuedAgain (last_again d))
get_again d f sub body (inr status) = rw (sub, body, status) (status_again d)

asked_again : (d : Parameters) (f : Frame) → asks_again f ≡ true → Again (got d f.sub f.pid f.body)
asked_again d f e =
    let first = first_true (fetches f && (f.sub == 0)) (bytes_eq f.body (1 ∷ [])) e in
    get_again d f (eqb-true f.sub 0 (second_true (fetches f) (f.sub == 0) first)) ((bytes_eq-Decides f.body (1 ∷ [])).0 (second_true (fetches f && (f.sub == 0)) (bytes_eq f.body (1 ∷ [])) e))
    (which f (first_true (fetches f) (f.sub == 0) first))

-- a class and a PID that fetch nothing
no_poll : (f : Frame) (pid : ℕ) → (f.class == 0x20) ≡ true → f.pid ≡ pid → (pid == 0x0020) ≡ true → polls f ≡ false → ⊥
no_poll f pid class e is none = true_is_false (sym (rw (class, e) is) ∙ none)

no_fetch : (f : Frame) (pid : ℕ) → (f.class == 0x20) ≡ true → f.pid ≡ pid → ((pid == 0x0020) || (pid == 0x0030)) ≡ true → fetches f ≡ false → ⊥
no_fetch f pid class e is none = true_is_false (sym (rw (class, e) is) ∙ none)

pub get_gives : (d : Parameters) (f : Frame) → (f.class == 0x20) ≡ true → Gives f (got d f.sub f.pid f.body)
get_gives d f class = record {
  none = λ (none : fetches f ≡ false). (λ (ask : Ask) (e : got d f.sub f.pid f.body ≡ Queue ask). no_fetch f 0x0020 class (get_queues d f.sub f.pid f.body ask e).0 refl none, λ (ask : Ask) (e : got d f.sub f.pid f.body ≡ Status ask). no_fetch f 0x0030 class (get_statuses d f.sub f.pid f.body ask e) refl none);
  fetched = λ (fetched : fetches f ≡ true). get_fetched d f (which f fetched);
  not_polled = λ (none : polls f ≡ false) (ask : Ask) (e : got d f.sub f.pid f.body ≡ Queue ask). no_poll f 0x0020 class (get_queues d f.sub f.pid f.body ask e).0 refl none;
  again = asked_again d f;
}

-- a SET isn't a GET
set_is_none : (n : ℕ) → (n == 0x30) ≡ true → (n == 0x20) ≡ false
set_is_none n e = rw (eqb-true n 0x30 e) refl

set_no_fetch : (f : Frame) → (f.class == 0x30) ≡ true → fetches f ≡ true → ⊥
set_no_fetch f set fetched = true_is_false (sym (first_true (f.class == 0x20) ((f.pid == 0x0020) || (f.pid == 0x0030)) fetched) ∙ set_is_none f.class set)

pub set_gives : (d : Parameters) (f : Frame) → (f.class == 0x30) ≡ true → Gives f (answer_to_set d f.sub f.pid f.body)
set_gives d f set = record {
  none = λ (none : fetches f ≡ false). (λ (ask : Ask). (set_fetches_nothing d f.sub f.pid f.body ask).0, λ (ask : Ask). (set_fetches_nothing d f.sub f.pid f.body ask).1);
  fetched = λ (fetched : fetches f ≡ true). absurd (set_no_fetch f set fetched);
  not_polled = λ (none : polls f ≡ false) (ask : Ask). (set_fetches_nothing d f.sub f.pid f.body ask).0;
  again = λ (again : asks_again f ≡ true). absurd (set_no_fetch f set (first_true (fetches f) (f.sub == 0) (first_true (fetches f && (f.sub == 0)) (bytes_eq f.body (1 ∷ [])) again)));
}
