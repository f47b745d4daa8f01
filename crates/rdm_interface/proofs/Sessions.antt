-- What an interface writes for requests is heard of them.
use Rattle.std.proofs.Common.{◌≡◌, ℕ, ◌≤◌, Bool, true, false, ◌||◌, ◌==◌, List, [], ◌∷◌, ◌++◌, length, map, cond, Option, Some, None, refl, sym, ap, subst, ◌∙◌, arith, append_assoc, append-nil, true≢false}
use Rattle.std.specs.List.{list_any}
use Rattle.std.specs.Prelude.{IsSome}
use Rattle.std.specs.Io.KnownBytes.{Consumes}
use Rattle.std.proofs.KnownBytes.{Consumes-nil, Consumes-trans}
use Rattle.std.proofs.lemmas.List.{take_all}
use Rattle.rdm_frame.specs.declared.frame.Frame.{Frame}
use Rattle.rdm_frame.specs.Reading.{frame_in}
use Rattle.rdm_messages.specs.Ends.{End}
use Rattle.rdm_messages.specs.Framing.{Message, IsMessage, message_bytes, bytes_of, Piece, Rubbish, Said, stream_of, messages_of, AreCut}
use Rattle.rdm_messages.specs.Protocol.{from_line, timeout, answer_of_line, answer_of_discovery}
use Rattle.rdm_messages.specs.Serving.{answer_with, answers_with}
use Rattle.rdm_messages.proofs.Pieces.{SameFront, one_message}
use Rattle.rdm_interface.specs.declared.wanted.Wanted.{Wanted}
use Rattle.rdm_interface.specs.declared.wanted.Wanted.TheVariants.{Labelled, Branch, Response, Anything}
use Rattle.rdm_interface.specs.Answers.{is_branch, wanted_for, wanted_by, label_for, request_message, belongs, has_end, heard_in}
use Rattle.rdm_interface.specs.Exchanges.{IsNext, IsAsked, IsEnded}
use Rattle.rdm_interface.specs.Sessions.{EndComes, IsInTime, Exchange, IsSession, requests_of, heard_of, inputs_of, IsReplyTo, AreRepliesTo, RepliesAreHeard, end_read, AnsweredIsInTime}
use Rattle.rdm_interface.proofs.Nexts.{next_more}

-- ---- the message at the front, if it belongs, is the next one

-- the first of some messages doesn't belong if none does
first_not : (b : Message → Bool) (m : Message) (ms : List Message) → list_any b (m ∷ ms) ≡ false → b m ≡ true → ⊥
first_not b m ms none own = true≢false (sym (ap (λ t. t || list_any b ms) own) ∙ none)

front_of_pieces : (b : Message → Bool) (m n : Message) (more rest behind : List ℕ) (ps : List Piece) → IsMessage m → b m ≡ true
    → message_bytes m ++ more ≡ stream_of ps ++ behind → AreCut ps behind → list_any b (messages_of ps) ≡ false → behind ≡ message_bytes n ++ rest → SameFront m n more rest
front_of_pieces b m n more rest behind [] is own e cut none taken = one_message m n more rest (e ∙ taken)
front_of_pieces b m n more rest behind (Rubbish byte ∷ ps) is own e cut none taken =
    absurd (cut.0 m [] more is (append-nil (byte ∷ stream_of ps ++ behind) ∙ sym e))
front_of_pieces b m n more rest behind (Said p ∷ ps) is own e cut none taken =
    let front : SameFront m p more (stream_of ps ++ behind) = one_message m p more (stream_of ps ++ behind) (e ∙ append_assoc (message_bytes p) (stream_of ps) behind) in
    absurd (first_not b p (messages_of ps) none (sym (ap b front.message) ∙ own))

pub next_is_front : (b : Message → Bool) (m n : Message) (more rest : List ℕ) → IsMessage m → b m ≡ true → IsNext b (message_bytes m ++ more) (Some n) rest → SameFront m n more rest
next_is_front b m n more rest is own next =
    front_of_pieces b m n more rest next.behind next.begins.pieces is own next.begins.whole next.begins.cut
    (subst (λ (ms : List Message). list_any b ms ≡ false) next.begins.said next.others) next.taken.2

-- ---- what requests wait for

-- it can be waited for after bytes were sent
abbrev IsAsking : Wanted → Type 0
IsAsking (Labelled label) = ⊥
IsAsking Branch = Unit {0}
IsAsking (Response request) = Unit {0}
IsAsking Anything = Unit {0}

asking_frame : (f : Frame) (t : Bool) → IsAsking (cond t Branch (Response f))
asking_frame f true = tt
asking_frame f false = tt

asking : (o : Option Frame) → IsAsking (wanted_for o)
asking None = tt
asking (Some f) = asking_frame f (is_branch f)

small : (bytes : List ℕ) → length bytes ≤ 257 → IsMessage (from_line bytes)
small bytes most = record { size = omega (arith, most) }

empty : IsMessage timeout
empty = record { size = omega arith }

-- that nobody answers is always waited for
silence_belongs : (w : Wanted) → IsAsking w → belongs w timeout ≡ true
silence_belongs (Labelled label) is = absurd is
silence_belongs Branch is = refl
silence_belongs (Response request) is = refl
silence_belongs Anything is = refl

silence_ends : (w : Wanted) (stream rest : List ℕ) → EndComes (has_end w (Some timeout)) stream rest → stream ≡ rest
silence_ends (Labelled label) stream rest end = end
silence_ends Branch stream rest end = end
silence_ends (Response request) stream rest end = end
silence_ends Anything stream rest end = end

-- ---- one request

-- the answer that comes is this one, and so is what is behind it
came_is : (w : Wanted) (m n : Message) (stream more behind : List ℕ) → IsMessage m → belongs w m ≡ true → stream ≡ message_bytes m ++ more → IsNext (belongs w) stream (Some n) behind → SameFront m n more behind
came_is w m n stream more behind is own e next =
    next_is_front (belongs w) m n more behind is own (subst (λ (l : List ℕ). IsNext (belongs w) l (Some n) behind) e next)

-- of DISC_UNIQUE_BRANCH the end comes behind the bytes
end_is : (later behind rest : List ℕ) → behind ≡ message_bytes timeout ++ later → EndComes true behind rest → rest ≡ later
end_is later behind rest e end =
    sym (came_is (Labelled 12) timeout end.0 behind later rest empty refl e end.1).rest

-- what is written for a request, and then later bytes
one_then : (m : Message) (later : List ℕ) → bytes_of (m ∷ []) ++ later ≡ message_bytes m ++ later
one_then m later = ap (λ (l : List ℕ). l ++ later) (append-nil (message_bytes m))

two_then : (m n : Message) (later : List ℕ) → bytes_of (m ∷ n ∷ []) ++ later ≡ message_bytes m ++ (message_bytes n ++ later)
two_then m n later =
    ap (λ (l : List ℕ). (message_bytes m ++ l) ++ later) (append-nil (message_bytes n)) ∙ append_assoc (message_bytes m) (message_bytes n) later

heard_bytes : (bytes : List ℕ) → length bytes ≤ 257 → heard_in (Some (from_line bytes)) ≡ Some bytes
heard_bytes bytes most = ap Some (take_all 257 bytes most)

-- what was heard is the reply, and what is left comes later
record IsHeardRight (reply heard : Option (List ℕ)) (later rest : List ℕ) : Type 0 where
  same : heard ≡ reply
  left : rest ≡ later

-- nothing came from the line
silent : (w : Wanted) (n : Message) (stream later behind rest : List ℕ) → IsAsking w → stream ≡ bytes_of (timeout ∷ []) ++ later
    → IsNext (belongs w) stream (Some n) behind → EndComes (has_end w (Some n)) behind rest → IsHeardRight None (heard_in (Some n)) later rest
silent w n stream later behind rest is e next end =
    let front : SameFront timeout n later behind = came_is w timeout n stream later behind empty (silence_belongs w is) (e ∙ one_then timeout later) next in
    record {
      same = ap (λ x. heard_in (Some x)) (sym front.message);
      left =
          sym (silence_ends w behind rest (subst (λ x. EndComes (has_end w (Some x)) behind rest) (sym front.message) end)) ∙ sym front.rest;
    }

-- bytes came that are no answer to DISC_UNIQUE_BRANCH
responded : (w : Wanted) (bytes : List ℕ) (n : Message) (stream later behind rest : List ℕ) → length bytes ≤ 257 → belongs w (from_line bytes) ≡ true
    → stream ≡ bytes_of (from_line bytes ∷ []) ++ later → IsNext (belongs w) stream (Some n) behind → behind ≡ rest → IsHeardRight (Some bytes) (heard_in (Some n)) later rest
responded w bytes n stream later behind rest most own e next end =
    let front : SameFront (from_line bytes) n later behind =
    came_is w (from_line bytes) n stream later behind (small bytes most) own (e ∙ one_then (from_line bytes) later) next in
    record {
      same = ap (λ x. heard_in (Some x)) (sym front.message) ∙ heard_bytes bytes most;
      left = sym end ∙ sym front.rest;
    }

-- bytes came that are one
called : (bytes : List ℕ) (n : Message) (stream later behind rest : List ℕ) → length bytes ≤ 257 → belongs Branch (from_line bytes) ≡ true
    → stream ≡ bytes_of (from_line bytes ∷ timeout ∷ []) ++ later → IsNext (belongs Branch) stream (Some n) behind → EndComes (has_end Branch (Some n)) behind rest
    → IsHeardRight (Some bytes) (heard_in (Some n)) later rest
called bytes n stream later behind rest most own e next end =
    let front : SameFront (from_line bytes) n (message_bytes timeout ++ later) behind =
    came_is Branch (from_line bytes) n stream (message_bytes timeout ++ later) behind (small bytes most) own (e ∙ two_then (from_line bytes) timeout later) next in
    record {
      same = ap (λ x. heard_in (Some x)) (sym front.message) ∙ heard_bytes bytes most;
      left = end_is later behind rest (sym front.rest) (subst (λ x. EndComes (has_end Branch (Some x)) behind rest) (sym front.message) end);
    }

-- what is written for a request that waits for this
abbrev written_for : Wanted → Option (List ℕ) → List Message
written_for w reply = cond (label_for w == 11) (answer_of_discovery reply) (answer_of_line reply)

abbrev IsReplyFor : Wanted → Option (List ℕ) → Type 0
IsReplyFor w None = Unit {0}
IsReplyFor w (Some bytes) = (length bytes ≤ 257) × (belongs w (from_line bytes) ≡ true)

one_heard : (w : Wanted) (reply : Option (List ℕ)) (n : Message) (stream later behind rest : List ℕ) → IsAsking w → IsReplyFor w reply
    → stream ≡ bytes_of (written_for w reply) ++ later → IsNext (belongs w) stream (Some n) behind → EndComes (has_end w (Some n)) behind rest
    → IsHeardRight reply (heard_in (Some n)) later rest
one_heard (Labelled label) reply n stream later behind rest is fits e next end = absurd is
one_heard Branch None n stream later behind rest is fits e next end = silent Branch n stream later behind rest is e next end
one_heard Branch (Some bytes) n stream later behind rest is fits e next end = called bytes n stream later behind rest fits.0 fits.1 e next end
one_heard (Response f) None n stream later behind rest is fits e next end = silent (Response f) n stream later behind rest is e next end
one_heard (Response f) (Some bytes) n stream later behind rest is fits e next end = responded (Response f) bytes n stream later behind rest fits.0 fits.1 e next end
one_heard Anything None n stream later behind rest is fits e next end = silent Anything n stream later behind rest is e next end
one_heard Anything (Some bytes) n stream later behind rest is fits e next end = responded Anything bytes n stream later behind rest fits.0 fits.1 e next end

reply_for : (request : List ℕ) (reply : Option (List ℕ)) → IsReplyTo request reply → IsReplyFor (wanted_by request) reply
reply_for request None is = tt
reply_for request (Some bytes) is = is

-- ---- all of them

-- these are answered in time, one after another, from one stream
AreInTime : List ℕ → List Exchange → List ℕ → Type 0
AreInTime stream [] rest = stream ≡ rest
AreInTime stream (x ∷ xs) rest = (mid : List ℕ) × IsInTime x.request stream x.heard mid × AreInTime mid xs rest

end_more : (t : Bool) (stream rest more : List ℕ) → EndComes t stream rest → EndComes t (stream ++ more) (rest ++ more)
end_more false stream rest more end = ap (λ (l : List ℕ). l ++ more) end
end_more true stream rest more end = (end.0, next_more (belongs (Labelled 12)) stream rest more (Some end.0) end.1)

in_time_more : (request stream rest more : List ℕ) (heard : Option (List ℕ)) → IsInTime request stream heard rest → IsInTime request (stream ++ more) heard (rest ++ more)
in_time_more request stream rest more heard one = record {
  answer = one.answer;
  behind = one.behind ++ more;
  next = next_more (belongs (wanted_by request)) stream one.behind more (Some one.answer) one.next;
  end = end_more (has_end (wanted_by request) (Some one.answer)) one.behind rest more one.end;
  heard_is = one.heard_is;
}

-- what is read in a session is one stream
one_stream : (held : List ℕ) (xs : List Exchange) (kept more : List ℕ) → IsSession held xs kept → AreInTime (held ++ (inputs_of xs ++ more)) xs (kept ++ more)
unfolding AreInTime
one_stream held [] kept more session = ap (λ (l : List ℕ). l ++ more) session
one_stream held (x ∷ xs) kept more session =
    let joined : (held ++ x.input) ++ (inputs_of xs ++ more) ≡ held ++ ((x.input ++ inputs_of xs) ++ more) =
    append_assoc held x.input (inputs_of xs ++ more) ∙ ap (λ (l : List ℕ). held ++ l) (sym (append_assoc x.input (inputs_of xs) more)) in (
      session.0 ++ (inputs_of xs ++ more),
      subst (λ (l : List ℕ). IsInTime x.request l x.heard (session.0 ++ (inputs_of xs ++ more))) joined
          (in_time_more x.request (held ++ x.input) session.0 (inputs_of xs ++ more) x.heard session.1),
      one_stream session.0 xs kept more session.2,
    )

cons_same : (h g : Option (List ℕ)) (hs gs : List (Option (List ℕ))) → h ≡ g → hs ≡ gs → h ∷ hs ≡ g ∷ gs
cons_same h g hs gs e f = ap (λ x. x ∷ hs) e ∙ ap (λ (l : List (Option (List ℕ))). g ∷ l) f

all_heard : (xs : List Exchange) (replies : List (Option (List ℕ))) (stream later rest : List ℕ) → AreRepliesTo (requests_of xs) replies
    → stream ≡ answers_with (map request_message (requests_of xs)) replies ++ later → AreInTime stream xs rest → (heard_of xs ≡ replies) × (rest ≡ later)
unfolding AreInTime
all_heard [] [] stream later rest are e inTime = (refl, sym inTime ∙ e)
all_heard [] (reply ∷ replies) stream later rest are e inTime = absurd are
all_heard (x ∷ xs) [] stream later rest are e inTime = absurd are
all_heard (x ∷ xs) (reply ∷ replies) stream later rest are e inTime =
    let one : IsInTime x.request stream x.heard inTime.0 = inTime.1 in
    let first : List ℕ = bytes_of (answer_with (request_message x.request) reply) in
    let others : List ℕ = answers_with (map request_message (requests_of xs)) replies in
    let right : IsHeardRight reply (heard_in (Some one.answer)) (others ++ later) inTime.0 =
    one_heard (wanted_by x.request) reply one.answer stream (others ++ later) one.behind inTime.0
    (asking (frame_in x.request)) (reply_for x.request reply are.0) (e ∙ append_assoc first others later) one.next one.end in
    let rest_heard = all_heard xs replies inTime.0 later rest are.1 right.left inTime.2 in
    (cons_same x.heard reply (heard_of xs) replies (one.heard_is ∙ right.same) rest_heard.0, rest_heard.1)

pub replies_are_heard : RepliesAreHeard
replies_are_heard xs replies kept unread later are session e =
    all_heard xs replies (inputs_of xs ++ unread) later (kept ++ unread) are e (one_stream [] xs kept unread session)

-- ---- an exchange in time

end_came : {C : Type 0} (tells : C → ℕ → C → Type 0) (limit : ℕ) (before after : End C) (t : Bool) (end : Option Message)
    → (ended : IsEnded tells limit before after t end) → (t ≡ true → IsSome end)
    → Consumes before.unread after.unread (end_read tells limit before after t end ended) × EndComes t (before.held ++ end_read tells limit before after t end ended) after.held
end_came {C} tells limit before after false end ended came = (
  subst (λ (e : End C). Consumes before.unread e.unread []) (sym ended) (Consumes-nil before.unread),
  append-nil before.held ∙ ap (λ (e : End C). e.held) (sym ended),
)
end_came tells limit before after true (Some end) ended came = (ended.0.read.read, (end, ended.0.read.next))
end_came tells limit before after true None ended came = absurd (true≢false (sym (came refl)))

in_time : {C : Type 0} (tells : C → ℕ → C → Type 0) (limit : ℕ) (before between after : End C) (request : List ℕ) (heard : Option (List ℕ)) (answer end : Option Message)
    → (asked : IsAsked tells limit before between (request_message request) (belongs (wanted_by request)) answer)
    → (ended : IsEnded tells limit between after (has_end (wanted_by request) answer) end) → heard ≡ heard_in answer → IsSome answer
    → (has_end (wanted_by request) answer ≡ true → IsSome end)
    → Consumes before.unread after.unread (asked.awaited.read.input ++ end_read tells limit between after (has_end (wanted_by request) answer) end ended)
    × IsInTime request (before.held ++ (asked.awaited.read.input ++ end_read tells limit between after (has_end (wanted_by request) answer) end ended)) heard after.held
in_time tells limit before between after request heard None end asked ended is some came = absurd (true≢false (sym some))
in_time tells limit before between after request heard (Some m) end asked ended is some came =
    let last = end_came tells limit between after (has_end (wanted_by request) (Some m)) end ended came in
    let more : List ℕ = end_read tells limit between after (has_end (wanted_by request) (Some m)) end ended in
    let read = asked.awaited.read in (
      Consumes-trans before.unread between.unread after.unread read.input more read.read last.0,
      record {
        answer = m;
        behind = between.held ++ more;
        next =
            subst (λ (l : List ℕ). IsNext (belongs (wanted_by request)) l (Some m) (between.held ++ more)) (append_assoc before.held read.input more)
            (next_more (belongs (wanted_by request)) (before.held ++ read.input) between.held more (Some m) read.next);
        end = last.1;
        heard_is = is;
      },
    )

pub answered_is_in_time : {C : Type 0} (tells : C → ℕ → C → Type 0) → AnsweredIsInTime tells
answered_is_in_time tells limit before after request heard x came =
    in_time tells limit before x.between after request heard x.answer x.end x.asked x.ended x.heard_is came.answered came.ended
