-- A message in the place of one that still waits and tells of the same.
use Rattle.std.proofs.Common.{◌≡◌, ℕ, zero, suc, ◌+◌, ◌<◌, ◌≤◌, List, [], ◌∷◌, ◌++◌, length, take, drop, Option, Some, None, sym, ap, ◌∙◌, length-append, arith}
use Rattle.std.specs.Prelude.{slice_set}
use Rattle.std.specs.List.{position, slice_get}
use Rattle.std.specs.Option.{option_map_or}
use Rattle.std.proofs.lemmas.List.{drop_all, length-drop, length-set, length-take, drop-append-le}
use Rattle.std.proofs.lemmas.List.Quantifiers.{position-Some}
use Rattle.rdm_frame.specs.declared.message.Message.{Message}
use Rattle.rdm_outbox.specs.Account.{Account}
use Rattle.rdm_outbox.specs.Jobs.{waiting_of}
use Rattle.rdm_outbox.specs.Messages.{tell_of_same, in_place_of_same, after_post_newest}
use Rattle.rdm_outbox.specs.Shows.{Shows}
use Rattle.rdm_outbox.specs.State.{State}

-- ---- the place

past : (ms : List Message) (i : ℕ) → i < length ms → slice_get ms i ≡ None → ⊥
past [] i within none = absurd (omega (arith, within))
past (x ∷ ms) zero within none = absurd cc
past (x ∷ ms) (suc i) within none = past ms i (omega (arith, within)) none

-- there is a message at the place of one that tells of the same
pub never_past : (m : Message) (ms : List Message) (i : ℕ) → position (tell_of_same m) ms ≡ Some i → slice_get ms i ≡ None → ⊥
never_past m ms i is none = past ms i (position-Some (tell_of_same m) ms i m is).0 none

-- no fewer than before, and one more at most
no_fewer_by : (m : Message) (ms : List Message) (place : Option ℕ) → length ms ≤ length (option_map_or (λ i. slice_set ms i m) place (ms ++ m ∷ []))
no_fewer_by m ms None = omega (arith, length-append ms (m ∷ []))
no_fewer_by m ms (Some i) = omega (arith, length-set ms i m)

one_more_by : (m : Message) (ms : List Message) (place : Option ℕ) → length (option_map_or (λ i. slice_set ms i m) place (ms ++ m ∷ [])) ≤ length ms + 1
one_more_by m ms None = omega (arith, length-append ms (m ∷ []))
one_more_by m ms (Some i) = omega (arith, length-set ms i m)

pub no_fewer : (m : Message) (ms : List Message) → length ms ≤ length (in_place_of_same m ms)
no_fewer m ms = no_fewer_by m ms (position (tell_of_same m) ms)

pub one_more : (m : Message) (ms : List Message) → length (in_place_of_same m ms) ≤ length ms + 1
one_more m ms = one_more_by m ms (position (tell_of_same m) ms)

-- ---- the account

behind_front : (n : ℕ) (xs ys : List Message) → length xs ≡ n → drop n (xs ++ ys) ≡ ys
behind_front n xs ys e = drop-append-le n xs ys (omega (arith, e)) ∙ ap (λ (l : List Message). l ++ ys) (drop_all n xs (omega (arith, e)))

front_length : (b : Account) → b.gone ≤ length b.arrived → length (take b.gone b.arrived) ≡ b.gone
front_length b within = omega (arith, within, length-take b.gone b.arrived)

-- what waits is what waited, with the message in its place
pub waiting_newest : (b : Account) (m : Message) → b.gone ≤ length b.arrived → waiting_of (after_post_newest b m) ≡ in_place_of_same m (waiting_of b)
waiting_newest b m within = behind_front b.gone (take b.gone b.arrived) (in_place_of_same m (drop b.gone b.arrived)) (front_length b within)

parts : (b : Account) (m : Message) → length (after_post_newest b m).arrived ≡ length (take b.gone b.arrived) + length (in_place_of_same m (drop b.gone b.arrived))
parts b m = length-append (take b.gone b.arrived) (in_place_of_same m (drop b.gone b.arrived))

-- none of those that have left the queue is taken from the account
pub gone_newest : (b : Account) (m : Message) → b.gone ≤ length b.arrived → b.gone ≤ length (after_post_newest b m).arrived
gone_newest b m within = omega (arith, front_length b within, parts b m)

-- no fewer than before have arrived, and one more at most
pub all_newest : (b : Account) (m : Message) → length b.arrived ≤ length (after_post_newest b m).arrived
all_newest b m = omega (arith, parts b m, length-take b.gone b.arrived, length-drop b.gone b.arrived, no_fewer m (drop b.gone b.arrived))

pub fewer_newest : (b : Account) (m : Message) → length (after_post_newest b m).arrived ≤ length b.arrived + 1
fewer_newest b m = omega (arith, parts b m, length-take b.gone b.arrived, length-drop b.gone b.arrived, one_more m (drop b.gone b.arrived))

-- the message is in its place
pub shows_newest : (s : State) (a : Account) (m : Message) → Shows s a → Shows (record s { queue = in_place_of_same m s.queue }) (after_post_newest a m)
shows_newest s a m h = record {
  q = h.q;
  jobs = h.jobs;
  entries = h.entries;
  first_job = h.first_job;
  workers = h.workers;
  first = h.first;
  second = h.second;
  first_given = h.first_given;
  second_given = h.second_given;
  first_ended = h.first_ended;
  second_ended = h.second_ended;
  queue = ap (in_place_of_same m) h.queue ∙ sym (waiting_newest a m h.within);
  within = gone_newest a m h.within;
  unshown = h.unshown;
  last = h.last;
}
