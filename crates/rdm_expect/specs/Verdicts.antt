-- Whether an expectation holds by the lines of a trace. A request and what is told of it up to the next one are an exchange.
use Rattle.std.specs.Prelude.{ℕ, ◌+◌, ◌-◌, Bool, true, false, ◌==◌, ◌&&◌, nat_le, List, length, drop, filter, find, slice_get, Option, Some, None}
use Rattle.std.specs.Option.{option_map, option_map_or, option_and_then}
use Rattle.std.specs.List.{slice_split}
use Rattle.std.specs.Str.{bytes_eq}
use Rattle.rdm_frame.specs.declared.uid.Uid.{Uid}
use Rattle.rdm_frame.specs.Discovery.{branch_reply}
use Rattle.rdm_frame.specs.Faults.{reply_heard}
use Rattle.rdm_frame.specs.Reading.{frame_in}
use Rattle.rdm_collector.specs.Replies.{Said, reply_in}
use Rattle.rdm_collector.specs.declared.reply.Response.{Response}
use Rattle.rdm_collector.specs.declared.reply.Response.TheVariants as response
use Rattle.rdm_collector.specs.declared.transaction.Heard.{Heard as TheHeard}
use Rattle.rdm_collector.specs.declared.transaction.Heard.TheVariants as heard
use Rattle.rdm_trace.specs.declared.line.Line.{Line}
use Rattle.rdm_trace.specs.declared.line.Line.TheVariants as line
use Rattle.rdm_expect.specs.declared.wish.Wish.{Wish}
use Rattle.rdm_expect.specs.declared.wish.Wish.TheVariants.{Ack, AckTimer, AckOverflow, Nack, Data, Length, MessageCount, Parameter, Found, Nothing, Reply, Within}
use Rattle.rdm_expect.specs.declared.sheet.Expectation.{Expectation}
use Rattle.rdm_expect.specs.declared.judging.Answer.{Answer}
use Rattle.rdm_expect.specs.declared.judging.Came.{Came}
use Rattle.rdm_expect.specs.declared.judging.Came.TheVariants as came
use Rattle.rdm_expect.specs.declared.judging.Verdict.{Verdict}
use Rattle.rdm_expect.specs.declared.judging.Verdict.TheVariants.{Passed, Failed, Skipped}

-- ---- what the lines tell

abbrev pub is_send : Line → Bool
is_send (line.Send bytes fault) = true
is_send other = false

abbrev pub is_reply : Line → Bool
is_reply (line.Reply bytes) = true
is_reply other = false

abbrev pub is_heard : Line → Bool
is_heard (line.Heard what) = true
is_heard other = false

-- The requests of a trace, each with what goes wrong on the way.
abbrev pub sends_of : List Line → List Line
sends_of lines = filter is_send lines

-- What stands before the first request of a trace, and behind each request up to the next one.
abbrev pub parts_of : List Line → List (List Line)
parts_of lines = slice_split is_send lines

abbrev pub bytes_told : Option Line → Option (List ℕ)
bytes_told (Some (line.Reply bytes)) = bytes
bytes_told other = None

-- the bytes that the device answers to a request, by what stands behind it
abbrev pub answered_in : List Line → Option (List ℕ)
answered_in part = bytes_told (find is_reply part)

abbrev pub heard_told : Option Line → Option TheHeard
heard_told (Some (line.Heard what)) = what
heard_told other = None

-- what the controller takes for the answer, if it hears any bytes
abbrev pub heard_in : List Line → Option TheHeard
heard_in part = heard_told (find is_heard part)

-- ---- what came

-- a response that belongs to the request
abbrev pub came_as : Said → Came
came_as said = came.Reply (record { response = said.response; waiting = said.waiting; pid = said.pid; body = said.body })

abbrev pub answer_in : Option (List ℕ) → Came
answer_in bytes = option_map_or came_as (option_and_then reply_in bytes) came.Other

-- What comes to a request is what the controller hears: a reply that is lost is nothing, and one that is altered doesn't belong to it.
abbrev pub came_of : Option TheHeard → Option (List ℕ) → Came
came_of None bytes = came.Nothing
came_of (Some heard.Ignored) bytes = came.Other
came_of (Some heard.Message) bytes = answer_in bytes
came_of (Some heard.Reply) bytes = answer_in bytes

unfoldable pub came_in : List Line → Came
came_in part = came_of (heard_in part) (answered_in part)

-- ---- who is found

-- the bytes of a reply that the controller hears, with what goes wrong on the way
abbrev pub heard_of : Option Line → List Line → Option (List ℕ)
heard_of (Some (line.Send bytes fault)) part = option_and_then (reply_heard fault) (answered_in part)
heard_of other part = None

-- These bytes are the answer of this device to DISC_UNIQUE_BRANCH, of whose preamble interfaces may lose up to 7. E1.20 section 7.5.
abbrev pub is_answer_of : Uid → List ℕ → Bool
is_answer_of uid bytes = nat_le (24 - length bytes) 7 && bytes_eq bytes (drop (24 - length bytes) (branch_reply uid))

-- a request that is DISC_UNIQUE_BRANCH
abbrev pub is_branch : List ℕ → Bool
is_branch request = option_map_or (λ f. f.class == 0x10 && f.pid == 0x0001) (frame_in request) false

abbrev pub asks_branch : Option Line → Bool
asks_branch (Some (line.Send bytes fault)) = is_branch bytes
asks_branch other = false

-- that is the request, and the controller hears that answer
abbrev pub is_found : Uid → Option Line → List Line → Bool
is_found uid sent part = asks_branch sent && option_map_or (is_answer_of uid) (heard_of sent part) false

-- ---- times

abbrev pub time_told : Option Line → Option ℕ
time_told (Some (line.Time millis)) = Some millis
time_told other = None

-- the time directly before a request, and the one directly behind it, which is that of its reply
abbrev pub sent_at : List Line → Option ℕ
sent_at before = time_told (slice_get before (length before - 1))

abbrev pub heard_at : List Line → Option ℕ
heard_at part = time_told (slice_get part 0)

-- how many milliseconds pass from the request to its reply, if the trace tells it
unfoldable pub passed_in : List Line → List Line → Option ℕ
passed_in before part = option_and_then (λ sent. option_map (λ heard. heard - sent) (heard_at part)) (sent_at before)

-- ---- verdicts

-- the response type is ACK, and so on. E1.20 table A-2.
abbrev pub is_ack : Response → Bool
is_ack response.Ack = true
is_ack other = false

abbrev pub is_timer : Response → Bool
is_timer (response.AckTimer tenths) = true
is_timer other = false

abbrev pub is_overflow : Response → Bool
is_overflow response.AckOverflow = true
is_overflow other = false

-- a NACK, and for this reason if one is named
abbrev pub is_nack : Option ℕ → Response → Bool
is_nack None (response.Nack reason) = true
is_nack (Some code) (response.Nack reason) = code == reason
is_nack wanted other = false

-- This reply is what is wanted. How long it took, and who is found, it doesn't say.
abbrev pub is_met : Wish → Answer → Bool
is_met Ack answer = is_ack answer.response
is_met AckTimer answer = is_timer answer.response
is_met AckOverflow answer = is_overflow answer.response
is_met (Nack reason) answer = is_nack reason answer.response
is_met (Data wanted) answer = bytes_eq answer.body wanted
is_met (Length least most) answer = nat_le least (length answer.body) && nat_le (length answer.body) most
is_met (MessageCount count) answer = answer.waiting == count
is_met (Parameter pid) answer = answer.pid == pid
is_met Found answer = false
is_met Nothing answer = false
is_met Reply answer = true
is_met (Within millis) answer = false

abbrev pub holds : Wish → Came → Bool
holds wish came.NoRequest = false
holds Nothing came.Nothing = true
holds wish came.Nothing = false
holds wish came.Other = false
holds wish (came.Reply answer) = is_met wish answer
holds wish (came.After millis) = false

-- passed, or failed by what came
abbrev pub verdict_if : Bool → Came → Verdict
verdict_if true came = Passed
verdict_if false came = Failed came

-- a reply that comes in time. It can't be judged where the trace doesn't tell how long it took.
abbrev pub in_time : ℕ → Option ℕ → Came → Verdict
in_time most None came = Skipped
in_time most (Some millis) (came.Reply answer) = verdict_if (nat_le millis most) (came.After millis)
in_time most (Some millis) other = Failed other

-- whether this is met by a request, and what stands before it and behind it
abbrev pub judged : Uid → Wish → List Line → Option Line → List Line → Verdict
judged uid (Within most) before sent part = in_time most (passed_in before part) (came_in part)
judged uid Found before sent part = verdict_if (is_found uid sent part) (came_in part)
judged uid wish before sent part = verdict_if (holds wish (came_in part)) (came_in part)

-- the same, where there is such a request
abbrev pub judged_at : Uid → Wish → Option (List Line) → Option Line → Option (List Line) → Verdict
judged_at uid wish (Some before) sent (Some part) = judged uid wish before sent part
judged_at uid wish before sent part = Failed came.NoRequest

-- Whether an expectation of the device with this UID holds by the requests of a trace and what stands between them.
abbrev pub verdict_of : Uid → List Line → List (List Line) → Expectation → Verdict
verdict_of uid sends parts e = judged_at uid e.wish (slice_get parts e.request) (slice_get sends e.request) (slice_get parts (e.request + 1))

-- ---- how many there are of each

abbrev pub is_passed : Verdict → Bool
is_passed Passed = true
is_passed other = false

abbrev pub is_failed : Verdict → Bool
is_failed (Failed came) = true
is_failed other = false

abbrev pub is_skipped : Verdict → Bool
is_skipped Skipped = true
is_skipped other = false
