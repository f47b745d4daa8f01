-- Requests that are sent one after another, and an interface at the other end of the line that answers each in time.
use Rattle.std.specs.Prelude.{◌≡◌, ℕ, ◌≤◌, Bool, true, false, List, [], ◌∷◌, ◌++◌, length, map, Option, Some, None}
use Rattle.std.specs.List.{flat_map}
use Rattle.std.specs.Io.KnownBytes.{Consumes}
use Rattle.rdm_frame.specs.declared.frame.Frame.{Frame}
use Rattle.rdm_frame.specs.Addressing.{is_broadcast}
use Rattle.rdm_messages.specs.Ends.{End}
use Rattle.rdm_messages.specs.Framing.{Message}
use Rattle.rdm_messages.specs.Protocol.{from_line}
use Rattle.rdm_messages.specs.Serving.{answers_with}
use Rattle.rdm_interface.specs.declared.wanted.Wanted.TheVariants.{Labelled}
use Rattle.rdm_interface.specs.Answers.{is_fetch, is_response, wanted_by, request_message, belongs, has_end, heard_in}
use Rattle.rdm_interface.specs.Exchanges.{IsNext, IsEnded, IsExchanged, CameInTime}

-- ---- this end

-- the end behind an answer comes, if it has one
abbrev pub EndComes : Bool → List ℕ → List ℕ → Type 0
EndComes false stream rest = stream ≡ rest
EndComes true stream rest = (end : Message) × IsNext (belongs (Labelled 12)) stream (Some end) rest

-- A request is answered in time: the answer comes in this stream, and its end. It is heard so.
pub record IsInTime (request stream : List ℕ) (heard : Option (List ℕ)) (rest : List ℕ) : Type 0 where
  pub answer : Message
  pub behind : List ℕ
  pub next : IsNext (belongs (wanted_by request)) stream (Some answer) behind
  pub end : EndComes (has_end (wanted_by request) (Some answer)) behind rest
  pub heard_is : heard ≡ heard_in (Some answer)

-- what is sent, what is read then, and what is heard
pub record Exchange : Type 0 where
  pub request : List ℕ
  pub input : List ℕ
  pub heard : Option (List ℕ)

-- One exchange after another, each in time: what is left of what was read is held for the next.
abbrev pub IsSession : List ℕ → List Exchange → List ℕ → Type 0
IsSession held [] kept = held ≡ kept
IsSession held (x ∷ xs) kept = (rest : List ℕ) × IsInTime x.request (held ++ x.input) x.heard rest × IsSession rest xs kept

abbrev pub requests_of : List Exchange → List (List ℕ)
requests_of xs = map (λ x. x.request) xs

abbrev pub heard_of : List Exchange → List (Option (List ℕ))
heard_of xs = map (λ x. x.heard) xs

abbrev pub inputs_of : List Exchange → List ℕ
inputs_of xs = flat_map (λ x. x.input) xs

-- ---- the other end

-- What comes from the line after a request answers it: nothing comes, or bytes that belong to it, no more than a frame has.
abbrev pub IsReplyTo : List ℕ → Option (List ℕ) → Type 0
IsReplyTo request None = Unit {0}
IsReplyTo request (Some bytes) = (length bytes ≤ 257) × (belongs (wanted_by request) (from_line bytes) ≡ true)

abbrev pub AreRepliesTo : List (List ℕ) → List (Option (List ℕ)) → Type 0
AreRepliesTo [] [] = Unit {0}
AreRepliesTo [] (reply ∷ replies) = ⊥
AreRepliesTo (r ∷ requests) [] = ⊥
AreRepliesTo (r ∷ requests) (reply ∷ replies) = IsReplyTo r reply × AreRepliesTo requests replies

-- ---- laws

-- What is read is what an interface writes for these requests if this comes from the line for each, as `serve` does, and more.
-- Each reply is heard as the answer to its request, and nothing else is; and just what was written for them is done with.
abbrev pub RepliesAreHeard : Type 0
RepliesAreHeard =
    (xs : List Exchange) (replies : List (Option (List ℕ))) (kept unread later : List ℕ)
    → AreRepliesTo (requests_of xs) replies → IsSession [] xs kept
    → inputs_of xs ++ unread ≡ answers_with (map request_message (requests_of xs)) replies ++ later
    → (heard_of xs ≡ replies) × (kept ++ unread ≡ later)

-- the bytes that are read for the end
abbrev pub end_read : {C : Type 0} (tells : C → ℕ → C → Type 0) (limit : ℕ) (before after : End C) (has_end : Bool) (end : Option Message) → IsEnded tells limit before after has_end end → List ℕ
end_read tells limit before after false end ended = []
end_read tells limit before after true end ended = ended.0.read.input

-- the bytes that are read in an exchange
abbrev pub read_in : {C : Type 0} {tells : C → ℕ → C → Type 0} {limit : ℕ} {before after : End C} {request : List ℕ} {heard : Option (List ℕ)} → IsExchanged tells limit before after request heard → List ℕ
read_in {C} {tells} {limit} {before} {after} {request} x =
    x.asked.awaited.read.input ++ end_read tells limit x.between after (has_end (wanted_by request) x.answer) x.end x.ended

-- An exchange in which the answer came, and its end, is one in time.
abbrev pub AnsweredIsInTime : {C : Type 0} → (C → ℕ → C → Type 0) → Type 0
AnsweredIsInTime {C} tells =
    (limit : ℕ) (before after : End C) (request : List ℕ) (heard : Option (List ℕ))
    → (x : IsExchanged tells limit before after request heard) → CameInTime x
    → Consumes before.unread after.unread (read_in x) × IsInTime request (before.held ++ read_in x) heard after.held

-- two requests that one response could answer
pub record AreAlike (request other : Frame) : Type 0 where
  pub number : request.tn ≡ other.tn
  -- unless one of them is a broadcast
  pub device : is_broadcast request.dst ≡ false → is_broadcast other.dst ≡ false → request.dst ≡ other.dst
  pub controller : request.src ≡ other.src
  pub command : is_fetch request ≡ false → is_fetch other ≡ false
      → (request.class ≡ other.class) × (request.sub ≡ other.sub) × (request.pid ≡ other.pid)

-- A response to an earlier request, however late, is the answer to no other one that isn't like it.
abbrev pub LateAnswersArePassedOver : Type 0
LateAnswersArePassedOver =
    (request other f : Frame) → is_response request f ≡ true → is_response other f ≡ true → AreAlike request other
