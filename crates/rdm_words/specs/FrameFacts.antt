-- What the words of a frame name, and of a line of a trace with one, with a report, a message or a change at the fixture's menu.
use Rattle.std.specs.Prelude.{◌≡◌, ℕ, Bool, List, [], ◌∷◌, ◌++◌, Some, None, codes, decimal, if◌then◌else◌}
use Rattle.std.specs.Fmt.{signed_decimal}
use Rattle.rdm_frame.specs.declared.frame.Frame.{Frame}
use Rattle.rdm_frame.specs.Reading.{frame_in}
use Rattle.rdm_frame.specs.Severities.{severity_code}
use Rattle.rdm_frame.specs.declared.message.Message.{Message}
use Rattle.rdm_commands.specs.declared.jobs.outcome.Outcome.{Outcome}
use Rattle.rdm_commands.specs.declared.jobs.outcome.Outcome.TheVariants.{Done, Reading, Failed}
use Rattle.rdm_commands.specs.declared.panel.Change.{Change}
use Rattle.rdm_commands.specs.declared.panel.Change.TheVariants.{Start, Personality, Label}
use Rattle.rdm_trace.specs.declared.line.JobName.{JobName}
use Rattle.rdm_trace.specs.declared.line.Line.{Line}
use Rattle.rdm_trace.specs.declared.line.Line.TheVariants.{Send, Reply, Job, Heard, Found, Arrive, Panel, Message as TheMessage, Time, End}
use Rattle.rdm_words.specs.DataFacts.{body_facts, data_facts}
use Rattle.rdm_words.specs.FieldFacts.{failure_facts}
use Rattle.rdm_words.specs.Fixed.{with_start}
use Rattle.rdm_words.specs.HeaderFacts.{class_fact, header_facts, parameter_facts, place_fact}
use Rattle.rdm_words.specs.HeaderWords.{quoted}

-- a frame: its header, and its data
abbrev pub frame_facts : Frame → List (List ℕ)
frame_facts f = header_facts f ++ body_facts f

-- a message that the controller recorded: its class, its parameter, where it is, and its data
abbrev pub message_facts : Message → List (List ℕ)
message_facts m = (class_fact m.class ∷ (parameter_facts m.pid ++ (place_fact m.sub ∷ []))) ++ data_facts m.class m.pid m.body

-- a change at the menu: the DMX512 start address, the personality or the label, and whether it was refused
abbrev pub change_fact : Change → List ℕ
change_fact (Start start) = decimal start
change_fact (Personality number) = decimal number
change_fact (Label label) = quoted label

abbrev pub panel_facts : Change → Bool → List (List ℕ)
panel_facts change refused = change_fact change ∷ (if refused then codes "refused" ∷ [] else [])

-- how a job ended
abbrev pub outcome_facts : Outcome → List (List ℕ)
outcome_facts Done = codes "done" ∷ []
outcome_facts (Reading value) = signed_decimal value ∷ []
outcome_facts (Failed severity id v1 v2) = failure_facts (severity_code severity) id v1 v2

-- a report: which job, and how it ended
abbrev pub report_facts : JobName → Outcome → List (List ℕ)
report_facts job outcome = decimal job.number ∷ decimal job.worker ∷ outcome_facts outcome

-- the facts of bytes that are a frame
abbrev pub AreFactsOfWhole : List ℕ → List (List ℕ) → Type 0
AreFactsOfWhole bytes facts = (f : Frame) × (frame_in bytes ≡ Some f) × (facts ≡ frame_facts f)

-- The same of bytes from the bus, which may lack their START code.
abbrev pub AreFactsOfBytes : List ℕ → List (List ℕ) → Type 0
AreFactsOfBytes bytes facts = AreFactsOfWhole (with_start bytes) facts

-- the facts of a line of a trace
abbrev pub AreFactsOfLine : Line → List (List ℕ) → Type 0
AreFactsOfLine (Send bytes fault) facts = AreFactsOfBytes bytes facts
AreFactsOfLine (Reply None) facts = ⊥
AreFactsOfLine (Reply (Some bytes)) facts = AreFactsOfBytes bytes facts
AreFactsOfLine (Job job) facts = ⊥
AreFactsOfLine (Heard heard) facts = ⊥
AreFactsOfLine (Found uid) facts = ⊥
AreFactsOfLine (Arrive job outcome) facts = facts ≡ report_facts job outcome
AreFactsOfLine (Panel change refused) facts = facts ≡ panel_facts change refused
AreFactsOfLine (TheMessage message) facts = facts ≡ message_facts message
AreFactsOfLine (Time millis) facts = ⊥
AreFactsOfLine End facts = ⊥
