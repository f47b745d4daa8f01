-- What the words of a frame's header name, in the order in which they say it. E1.20 section 6.2.
use Rattle.std.specs.Prelude.{ℕ, ◌/◌, ◌%◌, ◌==◌, List, [], ◌∷◌, ◌++◌, length, Option, Some, None, codes, decimal, if◌then◌else◌}
use Rattle.std.specs.Int.{w8, w16, to_be_bytes, from_be_bytes}
use Rattle.rdm_frame.specs.declared.frame.Frame.{Frame}
use Rattle.rdm_frame.specs.Digits.{digits}
use Rattle.rdm_frame.specs.UidText.{uid_text}
use Rattle.rdm_words.specs.Tables.{nack_reason, reply_type_name, standard_name}
use Rattle.rdm_words.specs.Unread.{is_response}

-- a name if there is one, and a number
abbrev pub name_and : Option (List ℕ) → List ℕ → List (List ℕ)
name_and None number = number ∷ []
name_and (Some name) number = name ∷ number ∷ []

-- a name, or the number if there is none
abbrev pub name_or : Option (List ℕ) → List ℕ → List ℕ
name_or None number = number
name_or (Some name) number = name

-- a command class. Table A-1.
abbrev pub class_name : ℕ → Option (List ℕ)
class_name code =
    if code == 0x10 then Some (codes "DISCOVERY") else
    if code == 0x11 then Some (codes "DISCOVERY response") else
    if code == 0x20 then Some (codes "GET") else
    if code == 0x21 then Some (codes "GET response") else
    if code == 0x30 then Some (codes "SET") else
    if code == 0x31 then Some (codes "SET response") else None

abbrev pub class_fact : ℕ → List ℕ
class_fact code = name_or (class_name code) (digits (to_be_bytes w8 code))

-- a parameter, by its name if the standard has one, and by its PID. Table A-3.
abbrev pub parameter_facts : ℕ → List (List ℕ)
parameter_facts pid = name_and (standard_name pid) (digits (to_be_bytes w16 pid))

-- the root, all sub-devices, or the number of one. Section 6.2.9.
abbrev pub place_fact : ℕ → List ℕ
place_fact sub = if sub == 0 then codes "root" else if sub == 0xFFFF then codes "all sub-devices" else decimal sub

-- a port ID that isn't the first. Section 6.2.7.
abbrev pub port_facts : ℕ → List (List ℕ)
port_facts port = if port == 1 then [] else decimal port ∷ []

-- how many messages wait, if any does. Section 6.2.8.
abbrev pub waiting_facts : ℕ → List (List ℕ)
waiting_facts count = if count == 0 then [] else decimal count ∷ []

-- so many tenths of a second. Section 6.3.3.
abbrev pub tenths_text : ℕ → List ℕ
tenths_text tenths = decimal (tenths / 10) ++ (46 ∷ (decimal (tenths % 10) ++ codes " s"))

-- The estimate of an ACK_TIMER, or the reason of a NACK. Sections 6.3.3 and 6.3.4.
abbrev pub details_facts : ℕ → List ℕ → List (List ℕ)
details_facts code body =
    if length body == 2 then (
    if code == 1 then tenths_text (from_be_bytes w16 body) ∷ [] else
    if code == 2 then name_and (nack_reason (from_be_bytes w16 body)) (digits body) else [])
    else []

-- how a request is answered
abbrev pub reply_type_facts : ℕ → List ℕ → List (List ℕ)
reply_type_facts code body = name_or (reply_type_name code) (digits (to_be_bytes w8 code)) ∷ details_facts code body

-- the parameter, where it is, and the transaction number
abbrev pub subject_facts : Frame → List (List ℕ)
subject_facts f = parameter_facts f.pid ++ (place_fact f.sub ∷ decimal f.tn ∷ [])

-- the source, the destination, how it responds, the class, the subject, and how many messages wait
abbrev pub response_header : Frame → List (List ℕ)
response_header f =
    uid_text f.src ∷ uid_text f.dst ∷ (reply_type_facts f.port f.body ++ (class_fact f.class ∷ (subject_facts f ++ waiting_facts f.count)))

-- the source, the destination, the class, the subject, the port, and the message count
abbrev pub request_header : Frame → List (List ℕ)
request_header f = uid_text f.src ∷ uid_text f.dst ∷ class_fact f.class ∷ (subject_facts f ++ (port_facts f.port ++ waiting_facts f.count))

-- What is said of a frame's header.
abbrev pub header_facts : Frame → List (List ℕ)
header_facts f = if is_response f.class then response_header f else request_header f
