-- The arrows of a trace: one for each message, in the order of its lines.
use Rattle.std.specs.Prelude.{ℕ, Bool, true, false, ◌==◌, ◌||◌, ◌&&◌, List, [], ◌∷◌, ◌++◌, Option, Some, None, if◌then◌else◌}
use Rattle.rdm_frame.specs.declared.fault.Fault.{Fault}
use Rattle.rdm_frame.specs.declared.fault.Fault.TheVariants as fault
use Rattle.rdm_frame.specs.declared.frame.Frame.{Frame}
use Rattle.rdm_frame.specs.Reading.{frame_in}
use Rattle.rdm_commands.specs.declared.jobs.outcome.Outcome.{Outcome}
use Rattle.rdm_commands.specs.declared.jobs.outcome.Outcome.TheVariants.{Done, Reading, Failed}
use Rattle.rdm_trace.specs.declared.line.Line.{Line}
use Rattle.rdm_trace.specs.declared.line.Line.TheVariants.{Send, Reply, Job, Heard, Found, Arrive, Panel, Message, Time, End}
use Rattle.rdm_chart.specs.declared.arrow.Kind.{Kind}
use Rattle.rdm_chart.specs.declared.arrow.Kind.TheVariants.{Whole, Altered, Lost, Negative}

-- the arrow of a request, by what goes wrong with its transaction
abbrev pub request_kind : Fault → Kind
request_kind fault.None = Whole
request_kind fault.LostRequest = Lost
request_kind fault.LostReply = Whole
request_kind (fault.BadRequest slot raise) = Altered
request_kind (fault.BadReply slot raise) = Whole

-- the command class of a response (E1.20, table A-1)
abbrev pub is_response : ℕ → Bool
is_response class = (class == 0x11) || (class == 0x21) || (class == 0x31)

-- a response of the type NACK_REASON (table A-2)
abbrev pub is_nack : Option Frame → Bool
is_nack None = false
is_nack (Some f) = is_response f.class && (f.port == 0x02)

-- the arrow of a message that arrives as it was sent, by whether it says that something wasn't done
abbrev pub kind_told : Bool → Kind
kind_told refused = if refused then Negative else Whole

-- the arrow of a reply with these bytes: one that arrives as it was sent is a NACK or not
abbrev pub reply_kind : Fault → List ℕ → Kind
reply_kind fault.None bytes = kind_told (is_nack (frame_in bytes))
reply_kind fault.LostRequest bytes = kind_told (is_nack (frame_in bytes))
reply_kind fault.LostReply bytes = Lost
reply_kind (fault.BadRequest slot raise) bytes = kind_told (is_nack (frame_in bytes))
reply_kind (fault.BadReply slot raise) bytes = Altered

-- the arrow of a job's report, by how the job ended
abbrev pub report_kind : Outcome → Kind
report_kind Done = Whole
report_kind (Reading value) = Whole
report_kind (Failed severity id v1 v2) = Negative

-- The arrow of a line, by what goes wrong with the transaction that is under way: of each request, of each reply that is sent, of the
-- start of each job and of its report, and of each change at the panel. Nothing else has one.
abbrev pub kinds_of : Fault → Line → List Kind
kinds_of fault (Send bytes own) = request_kind own ∷ []
kinds_of fault (Reply (Some bytes)) = reply_kind fault bytes ∷ []
kinds_of fault (Reply None) = []
kinds_of fault (Job job) = Whole ∷ []
kinds_of fault (Heard heard) = []
kinds_of fault (Found uid) = []
kinds_of fault (Arrive job outcome) = report_kind outcome ∷ []
kinds_of fault (Panel change refused) = (if refused then Lost else Whole) ∷ []
kinds_of fault (Message message) = []
kinds_of fault (Time millis) = []
kinds_of fault End = []

-- what goes wrong with the transaction that is under way behind a line: that of the last request
abbrev pub fault_behind : Line → Fault → Fault
fault_behind (Send bytes own) before = own
fault_behind (Reply reply) before = before
fault_behind (Job job) before = before
fault_behind (Heard heard) before = before
fault_behind (Found uid) before = before
fault_behind (Arrive job outcome) before = before
fault_behind (Panel change refused) before = before
fault_behind (Message message) before = before
fault_behind (Time millis) before = before
fault_behind End before = before

abbrev pub kinds_behind : Fault → List Line → List Kind
kinds_behind fault [] = []
kinds_behind fault (line ∷ lines) = kinds_of fault line ++ kinds_behind (fault_behind line fault) lines

-- the arrows of a trace, before whose first request nothing goes wrong
abbrev pub kinds_said : List Line → List Kind
kinds_said lines = kinds_behind fault.None lines
