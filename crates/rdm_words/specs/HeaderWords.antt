-- How the words of a frame's header are put together. E1.20 section 6.2. That they name what they have to is in HeaderFacts.
use Rattle.std.specs.Prelude.{ℕ, ◌==◌, List, [], ◌++◌, length, Option, Some, None, codes, decimal, if◌then◌else◌}
use Rattle.std.specs.Int.{w8, w16, to_be_bytes, from_be_bytes}
use Rattle.rdm_frame.specs.declared.frame.Frame.{Frame}
use Rattle.rdm_frame.specs.declared.uid.Uid.{Uid}
use Rattle.rdm_frame.specs.Addressing.{all_devices, is_broadcast, same_uid}
use Rattle.rdm_frame.specs.Digits.{digits}
use Rattle.rdm_frame.specs.UidText.{uid_text}
use Rattle.rdm_words.specs.HeaderFacts.{class_name, tenths_text}
use Rattle.rdm_words.specs.Plain.{escaped}
use Rattle.rdm_words.specs.Tables.{nack_reason, reply_type_name, standard_name}
use Rattle.rdm_words.specs.Unread.{is_response}

-- a name, or what has none and its number
abbrev pub words_or : List ℕ → Option (List ℕ) → List ℕ → List ℕ
words_or noun None number = noun ++ number
words_or noun (Some name) number = name

-- a name with its number behind it
abbrev pub with_number : List ℕ → List ℕ → List ℕ
with_number name number = name ++ (codes " (" ++ (number ++ codes ")"))

-- a name and its number, or the number alone
abbrev pub named_words : Option (List ℕ) → List ℕ → List ℕ
named_words None number = number
named_words (Some name) number = with_number name number

-- a text of a fixture
abbrev pub quoted : List ℕ → List ℕ
quoted text = codes "\"" ++ (escaped text ++ codes "\"")

-- words on a line of their own below, if there are any
abbrev pub line_below : List ℕ → List ℕ
line_below words = if length words == 0 then [] else codes "\n  " ++ words

-- all devices of a manufacturer
abbrev pub makers_words : Uid → List ℕ
makers_words uid = codes "all devices of " ++ (digits (to_be_bytes w16 uid.maker) ++ (codes " (" ++ (uid_text uid ++ codes "):")))

-- for whom a frame is: all devices, those of a manufacturer, or one. Section 6.2.4.
unfoldable pub destination_words : Uid → List ℕ
destination_words uid =
    if same_uid uid all_devices then codes "all devices (" ++ (uid_text uid ++ codes "):") else
    if is_broadcast uid then makers_words uid else
    uid_text uid ++ codes ":"

unfoldable pub parties_words : List ℕ → Uid → Uid → List ℕ
parties_words verb source destination = uid_text source ++ (codes " " ++ (verb ++ (codes " " ++ destination_words destination)))

unfoldable pub class_words : ℕ → List ℕ
class_words code = words_or (codes "command class ") (class_name code) (digits (to_be_bytes w8 code))

-- a parameter by the standard's name, by the fixture's own, or by its PID alone
abbrev pub words_of_parameter : Option (List ℕ) → Option (List ℕ) → List ℕ → List ℕ
words_of_parameter (Some name) own pid = with_number name pid
words_of_parameter None (Some own) pid = with_number (quoted own) pid
words_of_parameter None None pid = codes "parameter " ++ pid

unfoldable pub parameter_words : ℕ → Option (List ℕ) → List ℕ
parameter_words pid own = words_of_parameter (standard_name pid) own (digits (to_be_bytes w16 pid))

-- Section 6.2.9.
unfoldable pub place_words : ℕ → List ℕ
place_words sub =
    if sub == 0 then codes "root" else
    if sub == 0xFFFF then codes "all sub-devices" else
    codes "sub-device " ++ decimal sub

unfoldable pub subject_words : ℕ → ℕ → ℕ → Option (List ℕ) → List ℕ
subject_words pid sub tn own =
    codes " " ++ (parameter_words pid own ++ (codes ", " ++ (place_words sub ++ (codes ", transaction " ++ decimal tn))))

unfoldable pub port_words : ℕ → List ℕ
port_words port = if port == 1 then [] else codes ", port " ++ decimal port

abbrev pub waiting_noun : ℕ → List ℕ
waiting_noun count =
    if count == 1 then codes " message waits" else
    if count == 255 then codes " or more messages wait" else
    codes " messages wait"

-- Section 6.2.8.
unfoldable pub waiting_words : ℕ → List ℕ
waiting_words count = if count == 0 then [] else codes ", " ++ (decimal count ++ waiting_noun count)

-- Sections 6.3.3 and 6.3.4.
unfoldable pub details_words : ℕ → List ℕ → List ℕ
details_words code body =
    if length body == 2 then (
    if code == 1 then codes " " ++ tenths_text (from_be_bytes w16 body) else
    if code == 2 then codes " " ++ named_words (nack_reason (from_be_bytes w16 body)) (digits body) else [])
    else []

abbrev pub type_words : ℕ → List ℕ
type_words code = words_or (codes "response type ") (reply_type_name code) (digits (to_be_bytes w8 code))

unfoldable pub reply_type_words : ℕ → List ℕ → List ℕ
reply_type_words code body = type_words code ++ details_words code body

unfoldable pub request_words : List ℕ → Frame → Option (List ℕ) → List ℕ
request_words verb f own =
    parties_words verb f.src f.dst ++ (codes " " ++ (class_words f.class ++ (subject_words f.pid f.sub f.tn own ++ (port_words f.port ++ waiting_words f.count))))

unfoldable pub response_words : Frame → Option (List ℕ) → List ℕ
response_words f own =
    parties_words (codes "answers") f.src f.dst
    ++ (codes " " ++ (reply_type_words f.port f.body ++ (codes ", " ++ (class_words f.class ++ (subject_words f.pid f.sub f.tn own ++ waiting_words f.count)))))

-- a request, or a frame of another command class
unfoldable pub verb_of : ℕ → List ℕ
verb_of class = if class == 0x10 then codes "asks" else if class == 0x20 then codes "asks" else if class == 0x30 then codes "asks" else codes "to"

abbrev pub header_words : Frame → Option (List ℕ) → List ℕ
header_words f own = if is_response f.class then response_words f own else request_words (verb_of f.class) f own
