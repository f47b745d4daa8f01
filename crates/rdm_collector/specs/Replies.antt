-- What a response says. E1.20 section 6.3.
use Rattle.std.specs.Prelude.{ℕ, Bool, ◌||◌, ◌==◌, if◌then◌else◌, List, length, Option, Some, None}
use Rattle.std.specs.Option.{option_map, option_and_then}
use Rattle.rdm_frame.specs.declared.uid.Uid.{Uid}
use Rattle.rdm_frame.specs.declared.frame.Frame.{Frame}
use Rattle.rdm_frame.specs.Reading.{frame_in, word_at}
use Rattle.rdm_collector.specs.declared.reply.Response.{Response}
use Rattle.rdm_collector.specs.declared.reply.Response.TheVariants.{Ack, AckTimer, Nack, AckOverflow}

-- What a response says: how the request is answered, by which device, how many messages wait there, and the sub-device, the
-- command class, the parameter and the data.
pub record Said : Type 0 where
  pub response : Response
  pub src : Uid
  pub waiting : ℕ
  pub sub : ℕ
  pub class : ℕ
  pub pid : ℕ
  pub body : List ℕ

-- the command classes of responses. Table A-1.
abbrev pub is_response : ℕ → Bool
is_response class = (class == 0x11) || (class == 0x21) || (class == 0x31)

-- what two bytes of data say, and nothing if there are more or fewer
abbrev pub with_word : List ℕ → (ℕ → Response) → Option Response
with_word body says = if length body == 2 then Some (says (word_at body 0)) else None

-- How a request is answered by this response type with these data: the estimate of an ACK_TIMER, in tenths of a second, and
-- the reason of a NACK_REASON are their two bytes. Sections 6.3.1 to 6.3.4 and table A-2.
abbrev pub response_in : ℕ → List ℕ → Option Response
response_in type body =
    if type == 0x00 then Some Ack
    else if type == 0x01 then with_word body AckTimer
    else if type == 0x02 then with_word body Nack
    else if type == 0x03 then Some AckOverflow else None

abbrev pub said_with : Frame → Response → Said
said_with f response =
    record { response = response; src = f.src; waiting = f.count; sub = f.sub; class = f.class; pid = f.pid; body = f.body }

-- what a frame says as a response
abbrev pub reply_of : Frame → Option Said
reply_of f = if is_response f.class then option_map (said_with f) (response_in f.port f.body) else None

-- what bytes say as a response, if they are the text of one
abbrev pub reply_in : List ℕ → Option Said
reply_in bytes = option_and_then reply_of (frame_in bytes)
