-- Requests that are sent one after another, as a session.
use Rattle.std.proofs.Common.{◌≡◌, ℕ, Bool, true, false, List, [], ◌∷◌, ◌++◌, map, Option, Some, None, refl, sym, ap, subst, append-nil}
use Rattle.std.specs.List.{AllByRecursion}
use Rattle.std.specs.Io.KnownBytes.{Appends, Consumes}
use Rattle.std.proofs.KnownBytes.{Consumes-nil, Consumes-trans}
use Rattle.rdm_messages.specs.Ends.{End}
use Rattle.rdm_messages.specs.Framing.{Message, bytes_of, message_bytes}
use Rattle.rdm_interface.specs.Answers.{has_end, request_message, wanted_by}
use Rattle.rdm_interface.specs.Exchanges.{IsEnded}
use Rattle.rdm_interface.specs.Sessions.{Exchange, IsInTime, IsSession, read_in, requests_of, heard_of, inputs_of}
use Rattle.rdm_interface.proofs.Sessions.{answered_is_in_time}
use Rattle.rdm_widget.proofs.Turns.{appends_then}
use Rattle.rdm_line_ends.specs.Ends.{Asked, requests_in, heard_in, IsAnswered, AreAnswered, AnswersAreRead, read_for, RequestsAreWritten}
use Rattle.rdm_line_ends.proofs.Streams.{CanBeSent}

-- ---- what is written

-- waiting for the end writes nothing
end_writes_nothing : {C : Type 0} (tells : C → ℕ → C → Type 0) (limit : ℕ) (before after : End C) (t : Bool) (end : Option Message) → IsEnded tells limit before after t end → after.written ≡ before.written
end_writes_nothing {C} tells limit before after false end ended = ap (λ (e : End C). e.written) ended
end_writes_nothing tells limit before after true end ended = ended.1

appends_none : (old : Option (List ℕ)) → Appends old old []
appends_none None = tt
appends_none (Some xs) = sym (append-nil xs)

written_in : {C : Type 0} (tells : C → ℕ → C → Type 0) (limit : ℕ) (before after : End C) (x : Asked) → IsAnswered tells limit before after x → Appends before.written after.written (message_bytes (request_message x.request))
written_in tells limit before after x one =
    subst (λ (l : Option (List ℕ)). Appends before.written l (message_bytes (request_message x.request)))
    (sym (end_writes_nothing tells limit one.exchanged.between after (has_end (wanted_by x.request) one.exchanged.answer) one.exchanged.end one.exchanged.ended)) one.exchanged.asked.written

pub requests_are_written : {C : Type 0} (tells : C → ℕ → C → Type 0) → RequestsAreWritten tells
requests_are_written {C} tells limit before after [] is = subst (λ (h : End C). Appends before.written h.written []) (sym is) (appends_none before.written)
requests_are_written {C} tells limit before after (x ∷ xs) is =
    appends_then before.written is.0.written after.written (message_bytes (request_message x.request)) (bytes_of (map request_message (requests_in xs)))
    (written_in tells limit before is.0 x is.1) (requests_are_written tells limit is.0 after xs is.2)

-- ---- what is read

-- what requests that were answered are, as exchanges in time
pub record AreExchanged {C : Type 0} (before after : End C) (xs : List Asked) (read : List ℕ) : Type 0 where
  pub exchanges : List Exchange
  pub requests : requests_of exchanges ≡ requests_in xs
  pub heard : heard_of exchanges ≡ heard_in xs
  pub inputs : inputs_of exchanges ≡ read
  pub session : IsSession before.held exchanges after.held

abbrev exchange : List ℕ → List ℕ → Option (List ℕ) → Exchange
exchange request input heard = record { request = request; input = input; heard = heard }

in_time : {C : Type 0} (tells : C → ℕ → C → Type 0) (limit : ℕ) (before after : End C) (x : Asked) → (one : IsAnswered tells limit before after x)
    → Consumes before.unread after.unread (read_in one.exchanged) × IsInTime x.request (before.held ++ read_in one.exchanged) x.heard after.held
in_time tells limit before after x one =
    answered_is_in_time tells limit before after x.request x.heard one.exchanged one.in_time

pub exchanged : {C : Type 0} (tells : C → ℕ → C → Type 0) (limit : ℕ) (before after : End C) (xs : List Asked) → (asked : AreAnswered tells limit before xs after) → AreExchanged before after xs (read_for tells limit before xs after asked)
exchanged {C} tells limit before after [] is = record { exchanges = []; requests = refl; heard = refl; inputs = refl; session = ap (λ (h : End C). h.held) (sym is) }
exchanged {C} tells limit before after (x ∷ xs) is =
    let mid : End C = is.0 in
    let input : List ℕ = read_in is.1.exchanged in
    let others = exchanged tells limit mid after xs is.2 in
    record {
      exchanges = exchange x.request input x.heard ∷ others.exchanges;
      requests = ap (λ (l : List (List ℕ)). x.request ∷ l) others.requests;
      heard = ap (λ (l : List (Option (List ℕ))). x.heard ∷ l) others.heard;
      inputs = ap (λ (l : List ℕ). input ++ l) others.inputs;
      session = (mid.held, (in_time tells limit before mid x is.1).1, others.session);
    }

pub answers_are_read : {C : Type 0} (tells : C → ℕ → C → Type 0) → AnswersAreRead tells
answers_are_read {C} tells limit before after [] is = subst (λ (h : End C). Consumes before.unread h.unread []) (sym is) (Consumes-nil before.unread)
answers_are_read {C} tells limit before after (x ∷ xs) is =
    Consumes-trans before.unread is.0.unread after.unread (read_in is.1.exchanged) (read_for tells limit is.0 xs after is.2)
    (in_time tells limit before is.0 x is.1).0 (answers_are_read tells limit is.0 after xs is.2)

pub all_sent : {C : Type 0} (tells : C → ℕ → C → Type 0) (limit : ℕ) (before after : End C) (xs : List Asked) → AreAnswered tells limit before xs after → AllByRecursion CanBeSent (requests_in xs)
all_sent tells limit before after [] is = tt
all_sent tells limit before after (x ∷ xs) is =
    (record { bytes = is.1.bytes; fits = is.1.fits }, all_sent tells limit is.0 after xs is.2)
