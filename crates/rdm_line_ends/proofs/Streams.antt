-- What comes from a line in bytes belongs to the requests for which it comes.
use Rattle.std.proofs.Common.{◌≡◌, ℕ, ◌≤◌, Bool, true, false, ◌||◌, ◌==◌, cond, List, [], ◌∷◌, ◌++◌, length, map, Option, Some, None, sym, ap}
use Rattle.std.specs.List.{AllByRecursion}
use Rattle.rdm_messages.specs.Framing.{Message, bytes_of}
use Rattle.rdm_messages.specs.Hearing.{Hearing}
use Rattle.rdm_messages.specs.Protocol.{after_message, answer_of_discovery, answer_of_line}
use Rattle.rdm_messages.specs.Serving.{Turn, answer_with, answers_with, messages_in, replies_in}
use Rattle.rdm_interface.specs.Answers.{request_message}
use Rattle.rdm_interface.specs.Sessions.{AreRepliesTo, IsReplyTo}
use Rattle.rdm_line_ends.specs.Replies.{AreBytes}

-- ---- bytes among bytes

front_bytes : (xs ys : List ℕ) → AreBytes (xs ++ ys) → AreBytes xs
front_bytes [] ys are = tt
front_bytes (x ∷ xs) ys are = (are.0, front_bytes xs ys are.1)

back_bytes : (xs ys : List ℕ) → AreBytes (xs ++ ys) → AreBytes ys
back_bytes [] ys are = are
back_bytes (x ∷ xs) ys are = back_bytes xs ys are.1

-- what comes from the line stands in the first message
of_either : (t : Bool) (bytes : List ℕ) → AreBytes (bytes_of (cond t (answer_of_discovery (Some bytes)) (answer_of_line (Some bytes)))) → AreBytes bytes
of_either true bytes are = front_bytes bytes _ (front_bytes (bytes ++ 0xE7 ∷ []) _ are.1.1.1.1.1)
of_either false bytes are = front_bytes bytes _ (front_bytes (bytes ++ 0xE7 ∷ []) _ are.1.1.1.1.1)

from_the_line : (m : Message) (bytes : List ℕ) → AreBytes (bytes_of (answer_with m (Some bytes))) → AreBytes bytes
from_the_line m bytes are = of_either (m.label == 11) bytes are

-- ---- a line whose replies belong

-- Where such things are on a line, what comes in bytes after a request belongs to it, and they stay such.
pub record IsFair {D S : Type 0} (line : Hearing D S) (IsSuch : S → Type 0) : Type 0 where
  pub belongs : (now : ℕ) (s : S) (request bytes : List ℕ) → IsSuch s → AreBytes request → AreBytes bytes
      → line.reply now s request ≡ Some bytes → IsReplyTo request (Some bytes)
  pub stays : (now : ℕ) (s : S) (request : List ℕ) → IsSuch s → IsSuch (line.heard now s request)

-- a request that can be sent
pub record CanBeSent (request : List ℕ) : Type 0 where
  pub bytes : AreBytes request
  pub fits : length request ≤ 257

reply_of : {D S : Type 0} (line : Hearing D S) (IsSuch : S → Type 0) → IsFair line IsSuch → (now : ℕ) (s : S) (m : Message) (request : List ℕ) (reply : Option (List ℕ)) → IsSuch s → CanBeSent request
    → line.reply now s request ≡ reply → AreBytes (bytes_of (answer_with m reply)) → IsReplyTo request reply
reply_of line IsSuch fair now s m request None such can e are = tt
reply_of line IsSuch fair now s m request (Some bytes) such can e are = fair.belongs now s request bytes such can.bytes (from_the_line m bytes are) e

stays_such : {D S : Type 0} (line : Hearing D S) (IsSuch : S → Type 0) → IsFair line IsSuch → (now : ℕ) (s : S) (request : List ℕ) (t : Bool) → IsSuch s → IsSuch (cond t (line.heard now s request) s)
stays_such line IsSuch fair now s request true such = fair.stays now s request such
stays_such line IsSuch fair now s request false such = such

-- ---- all turns

pub message_is : (m n : Message) (ms ns : List Message) → m ∷ ms ≡ n ∷ ns → m ≡ n
message_is m n ms ns e = cc

pub messages_are : (m n : Message) (ms ns : List Message) → m ∷ ms ≡ n ∷ ns → ms ≡ ns
messages_are m n ms ns e = cc

pub no_messages : (m : Message) (ms : List Message) → [] ≡ m ∷ ms → ⊥
no_messages m ms e = cc

pub some_messages : (m : Message) (ms : List Message) → m ∷ ms ≡ [] → ⊥
some_messages m ms e = cc

pub are_replies : {D S : Type 0} (line : Hearing D S) (IsSuch : S → Type 0) → IsFair line IsSuch → (s : S) (turns : List Turn) (requests : List (List ℕ)) → IsSuch s → AllByRecursion CanBeSent requests
    → messages_in turns ≡ map request_message requests → AreBytes (answers_with (messages_in turns) (replies_in line s turns)) → AreRepliesTo requests (replies_in line s turns)
are_replies line IsSuch fair s [] [] such can e are = tt
are_replies line IsSuch fair s [] (r ∷ requests) such can e are = absurd (no_messages (request_message r) (map request_message requests) e)
are_replies line IsSuch fair s (turn ∷ turns) [] such can e are = absurd (some_messages turn.message (messages_in turns) e)
are_replies line IsSuch fair s (turn ∷ turns) (r ∷ requests) such can e are =
    let m : Message = turn.message in
    let own : m.body ≡ r = ap (λ (x : Message). x.body) (message_is m (request_message r) (messages_in turns) (map request_message requests) e) in
    let reply : Option (List ℕ) = line.reply turn.at s m.body in
    let first : List ℕ = bytes_of (answer_with m reply) in
    let others : List ℕ = answers_with (messages_in turns) (replies_in line (after_message line turn.at s m) turns) in (
      reply_of line IsSuch fair turn.at s m r reply such can.0 (ap (λ (l : List ℕ). line.reply turn.at s l) (sym own)) (front_bytes first others are),
      are_replies line IsSuch fair (after_message line turn.at s m) turns requests
          (stays_such line IsSuch fair turn.at s m.body ((m.label == 7) || (m.label == 11)) such) can.1
          (messages_are m (request_message r) (messages_in turns) (map request_message requests) e) (back_bytes first others are),
    )
