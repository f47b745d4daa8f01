-- What is asked of the interface, and which message answers. Labels are those of the ENTTEC DMX USB Pro; sections are E1.20's.
use Rattle.std.specs.Prelude.{ℕ, ◌+◌, Bool, false, not, is_some, ◌==◌, ◌&&◌, ◌||◌, nat_lt, nat_le, List, [], ◌∷◌, length, take, drop, slice_index, Option, Some, None, if◌then◌else◌}
use Rattle.std.specs.Int.{w16, w32, from_le_bytes}
use Rattle.std.specs.Option.{option_map_or}
use Rattle.rdm_frame.specs.declared.frame.Frame.{Frame}
use Rattle.rdm_frame.specs.declared.uid.Uid.{Uid}
use Rattle.rdm_frame.specs.Addressing.{is_broadcast, same_uid}
use Rattle.rdm_frame.specs.Reading.{frame_in}
use Rattle.rdm_messages.specs.Framing.{Message}
use Rattle.rdm_interface.specs.declared.parameters.Parameters.{Parameters}
use Rattle.rdm_interface.specs.declared.wanted.Wanted.{Wanted}
use Rattle.rdm_interface.specs.declared.wanted.Wanted.TheVariants.{Labelled, Branch, Response, Anything}

-- ---- responses

-- STATUS_GET_LAST_MESSAGE of table A-4: the last message again
abbrev pub asks_again : List ℕ → Bool
asks_again body = (length body == 1) && (slice_index body 0 == 0x01)

-- A request that fetches a message: GET QUEUED_MESSAGE, and GET STATUS_MESSAGES of the last message again, which may be a queued
-- one. Sections 10.3.1 and 10.3.2.
abbrev pub is_fetch : Frame → Bool
is_fetch f = (f.class == 0x20) && ((f.pid == 0x0020) || ((f.pid == 0x0030) && asks_again f.body))

-- A response has the class of its request plus 1, and the same sub-device and parameter. What fetches a message is answered by the
-- response to a GET or a SET of any parameter. Sections 6.2.9, 6.2.10, 10.3.1 and 10.3.2.
abbrev pub responds_to : Frame → Frame → Bool
responds_to request f =
    if is_fetch request then (f.class == 0x21) || (f.class == 0x31)
    else (f.class == request.class + 1) && (f.sub == request.sub) && (f.pid == request.pid)

-- The device may be the one that was asked. No device responds to a broadcast: any that does breaks a rule, and is heard. Section 6.2.4.
abbrev pub comes_from : Uid → Uid → Bool
comes_from destination device = same_uid device destination || is_broadcast destination

-- It comes in the transaction of this request, from the device that was asked, to the controller that did. Sections 6.2.4 to 6.2.6.
abbrev pub is_response : Frame → Frame → Bool
is_response request f = (f.tn == request.tn) && comes_from request.dst f.src && same_uid f.dst request.src && responds_to request f

-- ---- what is asked

-- DISC_UNIQUE_BRANCH. Its answers have no header, and may collide. Section 7.5.
abbrev pub is_branch : Frame → Bool
is_branch f = (f.class == 0x10) && (f.pid == 0x0001)

-- DISC_MUTE. Who asks for it, asks again where the answer was altered. Section 7.6.
abbrev pub is_mute : Frame → Bool
is_mute f = (f.class == 0x10) && (f.pid == 0x0002)

-- which message is waited for after these bytes: if they are no frame, no device may answer, and whatever does is heard. Section 6.2.11.
abbrev pub wanted_for : Option Frame → Wanted
wanted_for None = Anything
wanted_for (Some f) = if is_branch f then Branch else Response f

abbrev pub wanted_by : List ℕ → Wanted
wanted_by request = wanted_for (frame_in request)

-- The label with which a request is sent: 11 for DISC_UNIQUE_BRANCH, and 7 for all others.
abbrev pub label_for : Wanted → ℕ
label_for (Labelled label) = 7
label_for Branch = 11
label_for (Response request) = 7
label_for Anything = 7

-- the message by which these bytes are sent on the line
abbrev pub request_message : List ℕ → Message
request_message request = record { label = label_for (wanted_by request); body = request }

-- ---- what answers

-- bytes came from the line, behind a status byte
abbrev pub is_from_line : Message → Bool
is_from_line m = m.label == 5

-- and at least one did
abbrev pub has_bytes : Message → Bool
has_bytes m = is_from_line m && nat_lt 1 (length m.body)

abbrev pub line_bytes : Message → List ℕ
line_bytes m = drop 1 m.body

-- nothing came from the line, or nothing more
abbrev pub is_timeout : Message → Bool
is_timeout m = m.label == 12

-- a response to this request came from the line
abbrev pub has_response : Frame → Message → Bool
has_response request m = is_from_line m && option_map_or (is_response request) (frame_in (line_bytes m)) false

-- bytes came from the line that are no frame, as an answer is that was altered on its way
abbrev pub is_altered : Message → Bool
is_altered m = has_bytes m && not (is_some (frame_in (line_bytes m)))

-- The message is what is waited for: the one with a label; of DISC_UNIQUE_BRANCH, and of what is no request, any bytes, or that there
-- are none; of another request a response to it, or that there is none, and of DISC_MUTE an altered one, too.
abbrev pub belongs : Wanted → Message → Bool
belongs (Labelled label) m = m.label == label
belongs Branch m = is_timeout m || has_bytes m
belongs (Response request) m = is_timeout m || has_response request m || (is_mute request && is_altered m)
belongs Anything m = is_timeout m || has_bytes m

-- What is heard if this message answers: of the bytes from the line as many as a frame has at most.
abbrev pub heard_in : Option Message → Option (List ℕ)
heard_in None = None
heard_in (Some m) = if is_from_line m then Some (take 257 (line_bytes m)) else None

-- Behind bytes that answer DISC_UNIQUE_BRANCH there comes a message which says that these were all.
abbrev pub has_end : Wanted → Option Message → Bool
has_end (Labelled label) answer = false
has_end Branch None = false
has_end Branch (Some m) = is_from_line m
has_end (Response request) answer = false
has_end Anything answer = false

-- ---- the interface itself

-- which parameters has it, with no bytes of a user's own; which serial number
abbrev pub ask_parameters : Message
ask_parameters = record { label = 3; body = 0x00 ∷ 0x00 ∷ [] }

abbrev pub ask_serial_number : Message
ask_serial_number = record { label = 10; body = [] }

-- the firmware's version (low byte first), the break, the mark, and packets a second
abbrev pub parameters_in : Message → Option Parameters
parameters_in m =
    if nat_le 5 (length m.body) then Some (record {
      firmware = from_le_bytes w16 (take 2 m.body);
      break_time = slice_index m.body 2;
      mark_time = slice_index m.body 3;
      rate = slice_index m.body 4;
    }) else None

-- four bytes, low byte first
abbrev pub serial_number_in : Message → Option ℕ
serial_number_in m = if length m.body == 4 then Some (from_le_bytes w32 m.body) else None
