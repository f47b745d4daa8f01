-- What the words of a frame name, and of a line of a trace with one.
use Rattle.std.proofs.Common.{◌≡◌, ℕ, Bool, true, false, codes, decimal, List, [], ◌∷◌, ◌++◌, Option, Some, Result, Ok, Err, OnOk, refl, sym, ap, subst, ◌∙◌, append_assoc, append-nil}
use Rattle.std.specs.Result.{result_ok}
use Rattle.rdm_collector.specs.declared.transaction.Heard.{Heard as TheHeard}
use Rattle.rdm_frame.specs.declared.frame.Frame.{Frame}
use Rattle.rdm_frame.specs.declared.uid.Uid.{Uid}
use Rattle.rdm_frame.specs.Reading.{frame_in}
use Rattle.rdm_frame.specs.declared.fault.Fault.{Fault}
use Rattle.rdm_frame.specs.declared.fault.Fault.TheVariants as fault
use Rattle.rdm_frame.specs.declared.message.Message.{Message}
use Rattle.rdm_commands.specs.declared.jobs.outcome.Outcome.{Outcome}
use Rattle.rdm_commands.specs.declared.panel.Change.{Change}
use Rattle.rdm_commands.specs.declared.panel.Change.TheVariants.{Start, Personality, Label}
use Rattle.rdm_trace.specs.declared.line.JobName.{JobName}
use Rattle.rdm_trace.specs.declared.line.Line.{Line}
use Rattle.rdm_trace.specs.declared.line.Line.TheVariants.{Send, Reply, Heard, Found, Arrive, Panel, Message as TheMessage, Time}
use Rattle.rdm_words.specs.Fixed.{fault_line, job_words}
use Rattle.rdm_words.specs.FrameFacts.{change_fact, frame_facts, message_facts, outcome_facts, panel_facts, report_facts, AreFactsOfWhole, AreFactsOfBytes, AreFactsOfLine}
use Rattle.rdm_words.specs.LineWords.{change_words, panel_words}
use Rattle.rdm_words.specs.Naming.{AddsNames, BeginsApart, Names as Named, NamesInLine, SaysFacts}
use Rattle.rdm_words.proofs.Last.{the_frame, no_frame}
use Rattle.rdm_words.proofs.Naming.{in_front, in_back, named_both, some_front}

-- what is appended names such facts, where it works out
abbrev pub Names : {T E : Type 0} → Result T E → (List (List ℕ) → Type 0) → List ℕ → List ℕ → Type 0
Names r Are old new = OnOk r ((facts : List (List ℕ)) → Are facts → SaysFacts facts old new)

pub names_frame : {T E F : Type 0} (r : Result T E) (read : Result Frame F) (bytes : List ℕ) (f : Frame) (old new : List ℕ)
    → read ≡ Ok f → result_ok read ≡ frame_in bytes → OnOk r (SaysFacts (frame_facts f) old new) → Names r (λ facts. AreFactsOfWhole bytes facts) old new
names_frame (Err e) read bytes f old new is value said = tt
names_frame (Ok t) read bytes f old new is value said = λ facts are.
    let same : f ≡ are.0 = the_frame read bytes f are.0 is value are.1 in
    subst (λ (fs : List (List ℕ)). SaysFacts fs old new) (ap (λ (g : Frame). frame_facts g) same ∙ sym are.2) said

pub names_none : {T E F : Type 0} (r : Result T E) (read : Result Frame F) (bytes : List ℕ) (error : F) (old new : List ℕ)
    → read ≡ Err error → result_ok read ≡ frame_in bytes → Names r (λ facts. AreFactsOfWhole bytes facts) old new
names_none (Err e) read bytes error old new is value = tt
names_none (Ok t) read bytes error old new is value = λ facts are. absurd (no_frame read bytes error are.0 is value are.1)

begins_fault : (fault : Fault) → BeginsApart (fault_line fault)
begins_fault fault.None = tt
begins_fault fault.LostRequest = refl
begins_fault fault.LostReply = refl
begins_fault (fault.BadRequest slot raise) = refl
begins_fault (fault.BadReply slot raise) = refl

pub names_send : {T E : Type 0} (r : Result T E) (line : Line) (given bytes : List ℕ) (fault : Fault) (old mid new : List ℕ)
    → line ≡ Send bytes fault → given ≡ bytes
    → ((facts : List (List ℕ)) → AreFactsOfBytes given facts → SaysFacts facts old mid)
    → OnOk r (new ≡ mid ++ fault_line fault) → Names r (λ facts. AreFactsOfLine line facts) old new
names_send (Err e) line given bytes fault old mid new is same first second = tt
names_send (Ok t) line given bytes fault old mid new is same first second = λ facts are.
    let at : AreFactsOfLine (Send given fault) facts =
    subst (λ (l : Line). AreFactsOfLine l facts) (is ∙ ap (λ (b : List ℕ). Send b fault) (sym same)) are in
    let said = first facts at in record {
      words = said.words ++ fault_line fault;
      whole = second ∙ ap (λ (w : List ℕ). w ++ fault_line fault) said.whole ∙ append_assoc old said.words (fault_line fault);
      some = some_front said.words (fault_line fault) said.some;
      named = in_back facts (10 ∷ said.words) (fault_line fault) said.named (begins_fault fault);
    }

pub names_reply : {T E : Type 0} (r : Result T E) (line : Line) (given bytes old new : List ℕ)
    → line ≡ Reply (Some bytes) → given ≡ bytes → Names r (λ facts. AreFactsOfBytes given facts) old new → Names r (λ facts. AreFactsOfLine line facts) old new
names_reply (Err e) line given bytes old new is same names = tt
names_reply (Ok t) line given bytes old new is same names = λ facts are.
    names facts (subst (λ (l : Line). AreFactsOfLine l facts) (is ∙ ap (λ (b : List ℕ). Reply (Some b)) (sym same)) are)

-- a line without a frame
names_no_line : {T E : Type 0} (r : Result T E) (line : Line) (old new : List ℕ) → ((facts : List (List ℕ)) → AreFactsOfLine line facts → ⊥)
    → Names r (λ facts. AreFactsOfLine line facts) old new
names_no_line (Err e) line old new none = tt
names_no_line (Ok t) line old new none = λ facts are. absurd (none facts are)

pub names_found : {T E : Type 0} (r : Result T E) (line : Line) (uid : Uid) (old new : List ℕ) → line ≡ Found uid
    → Names r (λ facts. AreFactsOfLine line facts) old new
names_found r line uid old new is = names_no_line r line old new (λ facts are. subst (λ (l : Line). AreFactsOfLine l facts) is are)

pub names_heard : {T E : Type 0} (r : Result T E) (line : Line) (heard : Option TheHeard) (old new : List ℕ) → line ≡ Heard heard
    → Names r (λ facts. AreFactsOfLine line facts) old new
names_heard r line heard old new is = names_no_line r line old new (λ facts are. subst (λ (l : Line). AreFactsOfLine l facts) is are)

pub names_time : {T E : Type 0} (r : Result T E) (line : Line) (millis : ℕ) (old new : List ℕ) → line ≡ Time millis
    → Names r (λ facts. AreFactsOfLine line facts) old new
names_time r line millis old new is = names_no_line r line old new (λ facts are. subst (λ (l : Line). AreFactsOfLine l facts) is are)

job_named : (worker number : ℕ) → NamesInLine (decimal number ∷ decimal worker ∷ []) (job_words worker number)
job_named worker number = (
  10 ∷ codes "job",
  32,
  codes " of worker " ++ decimal worker,
  refl,
  refl,
  refl,
  (codes " of worker", 32, [], ap (λ (w : List ℕ). codes " of worker " ++ w) (sym (append-nil (decimal worker))), refl, tt, tt),
)

pub names_report : {T E : Type 0} (r : Result T E) (line : Line) (job : JobName) (outcome : Outcome) (old mid new : List ℕ) → line ≡ Arrive job outcome
    → mid ≡ old ++ job_words job.worker job.number → OnOk r (AddsNames (outcome_facts outcome) mid new) → Names r (λ facts. AreFactsOfLine line facts) old new
names_report (Err e) line job outcome old mid new is first more = tt
names_report (Ok t) line job outcome old mid new is first more = λ facts are.
    let same : facts ≡ report_facts job outcome = subst (λ (l : Line). AreFactsOfLine l facts) is are in
    subst (λ (fs : List (List ℕ)). SaysFacts fs old new) (sym same) (
    record {
      words = job_words job.worker job.number ++ more.words;
      whole = more.whole ∙ ap (λ (w : List ℕ). w ++ more.words) first ∙ append_assoc old (job_words job.worker job.number) more.words;
      some = λ e. absurd cc;
      named = named_both (decimal job.number ∷ decimal job.worker ∷ []) (outcome_facts outcome) (10 ∷ job_words job.worker job.number) more.words
          (job_named job.worker job.number) more.begins more.named;
    }
    )

pub names_message : {T E : Type 0} (r : Result T E) (line : Line) (message : Message) (old new : List ℕ) → line ≡ TheMessage message
    → OnOk r (SaysFacts (message_facts message) old new) → Names r (λ facts. AreFactsOfLine line facts) old new
names_message (Err e) line message old new is said = tt
names_message (Ok t) line message old new is said = λ facts are.
    let same : facts ≡ message_facts message = subst (λ (l : Line). AreFactsOfLine l facts) is are in
    subst (λ (fs : List (List ℕ)). SaysFacts fs old new) (sym same) said

change_named : (change : Change) (more : List (List ℕ)) (rest : List ℕ) → BeginsApart rest → Named more rest
    → Named (change_fact change ∷ more) (change_words change ++ rest)
change_named (Start start) more rest begins n = (codes "DMX start address", 32, rest, refl, refl, begins, n)
change_named (Personality number) more rest begins n = (codes "personality", 32, rest, refl, refl, begins, n)
change_named (Label label) more rest begins n = (codes "device label", 32, rest, refl, refl, begins, n)

panel_named : (change : Change) (refused : Bool) → NamesInLine (panel_facts change refused) (panel_words change refused)
panel_named change true =
    in_front (panel_facts change true) (10 ∷ codes "at the fixture's menu: ") (change_words change ++ codes ", refused")
    (change_named change (codes "refused" ∷ []) (codes ", refused") refl (codes ",", 32, [], refl, refl, tt, tt))
panel_named change false =
    in_front (panel_facts change false) (10 ∷ codes "at the fixture's menu: ") (change_words change ++ []) (change_named change [] [] tt tt)

pub names_panel : {T E : Type 0} (r : Result T E) (line : Line) (change : Change) (refused : Bool) (old new : List ℕ) → line ≡ Panel change refused
    → OnOk r (new ≡ old ++ panel_words change refused) → Names r (λ facts. AreFactsOfLine line facts) old new
names_panel (Err e) line change refused old new is put = tt
names_panel (Ok t) line change refused old new is put = λ facts are.
    let same : facts ≡ panel_facts change refused = subst (λ (l : Line). AreFactsOfLine l facts) is are in
    record {
      words = panel_words change refused;
      whole = put;
      some = λ e. absurd cc;
      named = subst (λ (fs : List (List ℕ)). NamesInLine fs (panel_words change refused)) (sym same) (panel_named change refused);
    }
