-- What is answered to each message, whatever is on the line. Labels are those of the ENTTEC DMX USB Pro.
use Rattle.std.specs.Prelude.{ℕ, ◌==◌, ◌||◌, List, [], ◌∷◌, Option, Some, None, if◌then◌else◌}
use Rattle.rdm_messages.specs.Framing.{Message}
use Rattle.rdm_messages.specs.Hearing.{Hearing}

-- ---- to the host

-- firmware 2.4, a break of 9 and a mark of 1 times 10.67 µs, and 40 packets a second
abbrev pub parameters : Message
parameters = record { label = 3; body = 0x04 ∷ 0x02 ∷ 9 ∷ 1 ∷ 40 ∷ [] }

abbrev pub serial_number : Message
serial_number = record { label = 10; body = 0x01 ∷ 0x00 ∷ 0x00 ∷ 0x00 ∷ [] }

-- what came from the line; the first byte says that nothing went wrong
abbrev pub from_line : List ℕ → Message
from_line bytes = record { label = 5; body = 0x00 ∷ bytes }

-- nothing came from the line, or nothing more
abbrev pub timeout : Message
timeout = record { label = 12; body = [] }

-- ---- from the host

-- the reply to a request, or that there is none
abbrev pub answer_of_line : Option (List ℕ) → List Message
answer_of_line None = timeout ∷ []
answer_of_line (Some bytes) = from_line bytes ∷ []

-- the reply to a discovery request, if there is one, and the end
abbrev pub answer_of_discovery : Option (List ℕ) → List Message
answer_of_discovery None = timeout ∷ []
answer_of_discovery (Some bytes) = from_line bytes ∷ timeout ∷ []

-- What is answered to a message that comes now: to 3 the parameters, to 10 the serial number, and to 7 and 11 what comes from
-- the line. No other message is answered.
abbrev pub answer_to : {D S : Type 0} → Hearing D S → ℕ → S → Message → List Message
answer_to line now s m =
    if m.label == 3 then parameters ∷ []
    else (if m.label == 10 then serial_number ∷ []
    else (if m.label == 7 then answer_of_line (line.reply now s m.body)
    else (if m.label == 11 then answer_of_discovery (line.reply now s m.body) else [])))

-- Only a request is heard on the line.
abbrev pub after_message : {D S : Type 0} → Hearing D S → ℕ → S → Message → S
after_message line now s m = if (m.label == 7) || (m.label == 11) then line.heard now s m.body else s
