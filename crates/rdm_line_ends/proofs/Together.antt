-- What is replied at one end is heard at the other.
use Rattle.std.proofs.Common.{◌≡◌, ℕ, true, inl, inr, ◌&&◌, ◌||◌, ◌==◌, List, [], ◌∷◌, ◌++◌, map, Option, Some, None, refl, sym, ap, subst, ◌∙◌, arith}
use Rattle.std.specs.List.{AllByRecursion, list_all}
use Rattle.std.proofs.lemmas.Bool.{cases_Bool}
use Rattle.std.proofs.lemmas.List.Elements.{All-from_recursion}
use Rattle.rdm_frame.specs.declared.frame.Frame.{Frame}
use Rattle.rdm_frame.specs.Reading.{frame_in}
use Rattle.rdm_messages.specs.Framing.{Message, IsMessage, Holds, bytes_of}
use Rattle.rdm_messages.specs.Hearing.{Hearing}
use Rattle.rdm_messages.specs.Serving.{answers, answers_with, is_request, messages_in, replies_in}
use Rattle.rdm_messages.proofs.Pieces.{one_list, read_back}
use Rattle.rdm_widget.proofs.Requests.{answered_with}
use Rattle.rdm_interface.specs.Answers.{is_branch, label_for, request_message, wanted_for}
use Rattle.rdm_interface.specs.Sessions.{AreRepliesTo, IsSession, requests_of}
use Rattle.rdm_interface.proofs.Sessions.{replies_are_heard}
use Rattle.rdm_line_ends.specs.Ends.{requests_in, read_for, IsHeard}
use Rattle.rdm_line_ends.specs.Replies.{AreBytes}
use Rattle.rdm_line_ends.proofs.Asking.{AreExchanged, all_sent, exchanged}
use Rattle.rdm_line_ends.proofs.Replying.{if_first, if_second}
use Rattle.rdm_line_ends.proofs.Streams.{CanBeSent, IsFair, are_replies}

-- ---- the messages of requests

pub label_is : (o : Option Frame) → ((label_for (wanted_for o) == 7) || (label_for (wanted_for o) == 11)) ≡ true
label_is None = refl
label_is (Some f) =
    elim (cases_Bool (is_branch f)) [
      | inl branch ↦ if_first (is_branch f) _ _ (λ w. (label_for w == 7) || (label_for w == 11)) branch
      | inr other ↦ if_second (is_branch f) _ _ (λ w. (label_for w == 7) || (label_for w == 11)) other
    ]

all_requests : (requests : List (List ℕ)) → list_all is_request (map request_message requests) ≡ true
all_requests [] = refl
all_requests (r ∷ requests) = ap (λ t. t && list_all is_request (map request_message requests)) (label_is (frame_in r)) ∙ all_requests requests

are_messages : (requests : List (List ℕ)) → AllByRecursion CanBeSent requests → AllByRecursion IsMessage (map request_message requests)
are_messages [] can = tt
are_messages (r ∷ requests) can = (record { size = omega (arith, can.0.fits) }, are_messages requests can.1)

-- ---- both ends

-- the messages of these requests alone were read
pub turns_are : (requests : List (List ℕ)) (input : List ℕ) (messages : List Message) → AllByRecursion CanBeSent requests → Holds input messages → input ≡ bytes_of (map request_message requests)
    → messages ≡ map request_message requests
turns_are requests input messages can holds read =
    let ms : List Message = map request_message requests in
    one_list input messages ms holds
    (subst (λ (l : List ℕ). Holds l ms) (sym read) (read_back ms (All-from_recursion IsMessage ms (are_messages requests can))))

pub heard : {C E D S : Type 0} (tells : C → ℕ → C → Type 0) (times : E → ℕ → E → Type 0) (line : Hearing D S) (IsSuch : S → Type 0) → IsFair line IsSuch → IsHeard tells times line IsSuch
heard tells times line IsSuch fair limit before after xs asked held start end s d served such read rest later bytes stream =
    let ms : List Message = map request_message (requests_in xs) in
    let can : AllByRecursion CanBeSent (requests_in xs) = all_sent tells limit before after xs asked in
    let turns : messages_in served.turns ≡ ms = turns_are (requests_in xs) served.input (messages_in served.turns) can (record { rest = end.held; begins = served.begins; unfinished = served.unfinished }) read in
    let replies : List (Option (List ℕ)) = replies_in line s served.turns in
    let written : answers line s served.turns ≡ answers_with (messages_in served.turns) replies =
    answered_with line s served.turns (ap (list_all is_request) turns ∙ all_requests (requests_in xs)) in
    let session : AreExchanged before after xs (read_for tells limit before xs after asked) = exchanged tells limit before after xs asked in
    let same : messages_in served.turns ≡ map request_message (requests_of session.exchanges) = turns ∙ ap (map request_message) (sym session.requests) in
    let belong : AreRepliesTo (requests_in xs) replies =
    are_replies line IsSuch fair s served.turns (requests_in xs) such can turns (subst AreBytes written bytes) in
    let both =
    replies_are_heard session.exchanges replies after.held rest later
    (subst (λ (l : List (List ℕ)). AreRepliesTo l replies) (sym session.requests) belong)
    (subst (λ (l : List ℕ). IsSession l session.exchanges after.held) held session.session)
    (ap (λ (l : List ℕ). l ++ rest) session.inputs ∙ stream
    ∙ ap (λ (l : List ℕ). l ++ later) (written ∙ ap (λ (l : List Message). answers_with l replies) same)) in
    record { heard = sym session.heard ∙ both.0; left = both.1 }
