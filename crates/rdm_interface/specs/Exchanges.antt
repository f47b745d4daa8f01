-- One exchange with the interface: what is written, what is passed over, and what answers.
use Rattle.std.specs.Prelude.{◌≡◌, ◌≢◌, ℕ, ◌-◌, ◌<◌, ◌≤◌, Bool, true, false, List, ◌++◌, length, take, Option, Some, None, IsSome}
use Rattle.std.specs.List.{list_any}
use Rattle.std.specs.Io.KnownBytes.{Consumes, Appends, IsAtEnd}
use Rattle.rdm_collector.specs.declared.port.PortError.{PortError}
use Rattle.rdm_collector.specs.declared.port.PortError.TheVariants.{Closed, Write}
use Rattle.rdm_messages.specs.Ends.{End}
use Rattle.rdm_messages.specs.Framing.{Message, IsMessage, IsUnfinished, message_bytes, Begins}
use Rattle.rdm_interface.specs.declared.wanted.Wanted.TheVariants.{Labelled}
use Rattle.rdm_interface.specs.Answers.{wanted_by, label_for, belongs, has_end, heard_in, request_message}

-- ---- of a stream

-- A message that belongs stands next, and is taken; or none was.
abbrev pub IsTaken : (Message → Bool) → List ℕ → Option Message → List ℕ → Type 0
IsTaken belongs stream None rest = stream ≡ rest
IsTaken belongs stream (Some m) rest = (belongs m ≡ true) × IsMessage m × (stream ≡ message_bytes m ++ rest)

-- The next message of a stream that belongs, if one came: of those that are passed over before it, none does.
pub record IsNext (belongs : Message → Bool) (stream : List ℕ) (came : Option Message) (rest : List ℕ) : Type 0 where
  pub passed : List Message
  pub behind : List ℕ
  pub begins : Begins stream passed behind
  pub others : list_any belongs passed ≡ false
  pub taken : IsTaken belongs behind came rest

-- ---- of a line

-- More is read behind what was held. In both together this comes next, if anything does; what is left is held.
pub record IsReadOn (belongs : Message → Bool) (unread left : Option (List ℕ)) (held kept : List ℕ) (came : Option Message) : Type 0 where
  pub input : List ℕ
  pub read : Consumes unread left input
  pub next : IsNext belongs (held ++ input) came kept

-- No message that belongs was passed over: neither of what was held nor of what was read behind it.
abbrev pub NonePassedOver : {C : Type 0} → (Message → Bool) → End C → End C → Type 0
NonePassedOver belongs before after = IsReadOn belongs before.unread after.unread before.held after.held None

-- The clock told last that the limit is over since then.
pub record IsPast {C : Type 0} (tells : C → ℕ → C → Type 0) (limit start : ℕ) (after : C) : Type 0 where
  pub now : ℕ
  pub last : C
  pub told : tells last now after
  pub past : limit ≤ now - start

-- It was over since the time that the clock told first.
pub record IsOver {C : Type 0} (tells : C → ℕ → C → Type 0) (limit : ℕ) (before after : C) : Type 0 where
  pub start : ℕ
  pub first : C
  pub told : tells before start first
  pub past : IsPast tells limit start after

-- What belongs is waited for. If it doesn't come, the limit is over, and no message is left of what was read.
pub record IsAwaited {C : Type 0} (tells : C → ℕ → C → Type 0) (limit : ℕ) (before after : End C) (belongs : Message → Bool) (came : Option Message) : Type 0 where
  pub read : IsReadOn belongs before.unread after.unread before.held after.held came
  pub over : came ≡ None → IsOver tells limit before.clock after.clock
  pub searched : came ≡ None → IsUnfinished after.held

-- A message is written, and the one that answers it is waited for.
pub record IsAsked {C : Type 0} (tells : C → ℕ → C → Type 0) (limit : ℕ) (before after : End C) (asked : Message) (belongs : Message → Bool) (answer : Option Message) : Type 0 where
  pub written : Appends before.written after.written (message_bytes asked)
  pub awaited : IsAwaited tells limit before after belongs answer

-- Behind an answer that has an end this is waited for too, and nothing is written. Behind another nothing is done.
abbrev pub IsEnded : {C : Type 0} → (C → ℕ → C → Type 0) → ℕ → End C → End C → Bool → Option Message → Type 0
IsEnded tells limit before after false end = after ≡ before
IsEnded tells limit before after true end = IsAwaited tells limit before after (belongs (Labelled 12)) end × (after.written ≡ before.written)

-- A request is sent on the line, and this is heard: what the answer says.
pub record IsExchanged {C : Type 0} (tells : C → ℕ → C → Type 0) (limit : ℕ) (before after : End C) (request : List ℕ) (heard : Option (List ℕ)) : Type 0 where
  pub answer : Option Message
  pub end : Option Message
  pub between : End C
  pub asked : IsAsked tells limit before between (request_message request) (belongs (wanted_by request)) answer
  pub ended : IsEnded tells limit between after (has_end (wanted_by request) answer) end
  pub heard_is : heard ≡ heard_in answer

-- The answer comes before the limit is over, and its end, if it has one.
pub record CameInTime {C : Type 0} {tells : C → ℕ → C → Type 0} {limit : ℕ} {before after : End C} {request : List ℕ} {heard : Option (List ℕ)} (x : IsExchanged tells limit before after request heard) : Type 0 where
  pub answered : IsSome x.answer
  pub ended : has_end (wanted_by request) x.answer ≡ true → IsSome x.end

-- The writer took a front of these bytes that isn't all of them.
abbrev pub IsCutOff : Option (List ℕ) → Option (List ℕ) → List ℕ → Type 0
IsCutOff old new bytes = (count : ℕ) × (count < length bytes) × Appends old new (take count bytes)

-- A request is sent on the line, and this goes wrong. No response to it was passed over. A line that still gives bytes isn't closed.
-- The request is written, but where the writer failed, which took a front of it that isn't all.
pub record HasFailed {C : Type 0} (before after : End C) (request : List ℕ) (error : PortError) : Type 0 where
  pub passed : label_for (wanted_by request) ≡ 7 → NonePassedOver (belongs (wanted_by request)) before after
  pub closed : error ≡ Closed → IsAtEnd after.unread
  pub written : error ≢ Write → Appends before.written after.written (message_bytes (request_message request))
  pub cut : error ≡ Write → IsCutOff before.written after.written (message_bytes (request_message request))
