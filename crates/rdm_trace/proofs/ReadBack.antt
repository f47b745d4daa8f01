-- What is written of a line is read back.
use Rattle.std.proofs.Common.{◌≡◌, ℕ, ◌<◌, ◌^◌, Bool, true, false, eqb, List, [], ◌∷◌, ◌++◌, length, Option, Some, None, refl, ap, ◌∙◌, arith, append_assoc}
use Rattle.std.specs.Prelude.{codes, decimal}
use Rattle.std.specs.Fmt.{signed_decimal}
use Rattle.std.specs.Int.{w16, to_be_bytes}
use Rattle.std.proofs.lemmas.List.{append-nil}
use Rattle.std.proofs.lemmas.Bool.{le-leb, ne_eqb}
use Rattle.rdm_frame.specs.declared.uid.Uid.{Uid}
use Rattle.rdm_frame.specs.FrameText.{IsUid}
use Rattle.rdm_frame.specs.Digits.{digits}
use Rattle.rdm_frame.specs.DigitReading.{uid_in}
use Rattle.rdm_frame.specs.UidText.{uid_text}
use Rattle.rdm_frame.proofs.NumberSpellings.{uid_spelled, uid_written}
use Rattle.rdm_frame.specs.declared.message.Message.{Message as TheMessage}
use Rattle.rdm_frame.specs.declared.status.Severity.{Severity}
use Rattle.rdm_frame.specs.declared.status.Severity.TheVariants as severity
use Rattle.rdm_frame.specs.Severities.{severity_code, severity_in}
use Rattle.rdm_frame.specs.declared.fault.Fault.{Fault}
use Rattle.rdm_frame.specs.declared.fault.Fault.TheVariants as fault
use Rattle.rdm_commands.specs.declared.panel.Change.{Change}
use Rattle.rdm_commands.specs.declared.panel.Change.TheVariants.{Start, Personality, Label}
use Rattle.rdm_commands.specs.declared.jobs.outcome.Outcome.{Outcome}
use Rattle.rdm_commands.specs.declared.jobs.outcome.Outcome.TheVariants.{Done, Reading, Failed}
use Rattle.rdm_collector.specs.declared.transaction.Heard.{Heard as TheHeard}
use Rattle.rdm_collector.specs.declared.transaction.Heard.TheVariants as heard
use Rattle.rdm_trace.specs.declared.line.JobName.{JobName}
use Rattle.rdm_trace.specs.declared.line.Line.{Line}
use Rattle.rdm_trace.specs.declared.line.Line.TheVariants.{Send, Reply, Job, Heard, Found, Arrive, Panel, Message, Time, End}
use Rattle.rdm_trace.specs.LineText.{line_text, word_digits, pair_words, data_words, fault_words, reply_words, job_words, heard_word, status_words, outcome_words, change_words, refused_words, seconds_words, IsBytes, IsWire, IsFault, IsJob, IsOutcome, IsChange, IsLine}
use Rattle.rdm_trace.specs.Numbers.{number_up_to, signed_in}
use Rattle.rdm_trace.specs.Reading.{first_word, behind_word, up_to, wire_in, code_in, body_in, lost_in, altered, altered_in, fault_in, request_in, reply_in, heard_in, job_of, job_in, failed_in, outcome_in, report_in, label_in, change_in, refused_in, panel_in, message_in, time_in, told_by, said_by, line_in}
use Rattle.rdm_trace.proofs.Cuts.{no_space, first_is, behind_is, first_alone, behind_alone}
use Rattle.rdm_trace.proofs.Decimals.{decimal_no_space, number_back, signed_back}
use Rattle.rdm_trace.proofs.Times.{time_back}
use Rattle.rdm_trace.proofs.HexBack.{digits_no_space, wire_back, code_back, word_back, data_no_space, body_back, digits_not_none}

-- ---- what goes wrong

nothing_wrong : fault_in [] ≡ Some fault.None
unfolding fault_in first_word behind_word
nothing_wrong = refl

request_lost : fault_in (codes "lost-request") ≡ Some fault.LostRequest
unfolding fault_in first_word behind_word
request_lost = refl

reply_lost : fault_in (codes "lost-reply") ≡ Some fault.LostReply
unfolding fault_in first_word behind_word
reply_lost = refl

pair_some : (xs ys : List ℕ) → eqb (length (xs ++ 32 ∷ ys)) 0 ≡ false
pair_some [] ys = ne_eqb _ 0 (omega arith)
pair_some (x ∷ xs) ys = ne_eqb _ 0 (omega arith)

raise_back : (name : List ℕ) (k x : ℕ) → k < 2 ^ 16 → x < 2 ^ 8 → altered_in name (pair_words k x) ≡ altered name k x
unfolding altered_in
raise_back name k x hk hx =
    let plain = decimal_no_space k (omega arith) in
    rw (first_is (decimal k) (decimal x) plain, behind_is (decimal k) (decimal x) plain, number_back 65535 k (omega arith) (omega arith), number_back 255 x (omega arith) (omega arith)) refl

raised : (name : List ℕ) (k x : ℕ) → no_space name ≡ true → k < 2 ^ 16 → x < 2 ^ 8 → fault_in (name ++ 32 ∷ pair_words k x) ≡ altered name k x
unfolding fault_in
raised name k x plain hk hx =
    rw (first_is name (pair_words k x) plain, behind_is name (pair_words k x) plain, pair_some (decimal k) (decimal x)) (raise_back name k x hk hx)

request_with : (bytes rest : List ℕ) (f : Fault) → IsWire bytes → fault_in rest ≡ Some f → request_in (digits bytes ++ 32 ∷ rest) ≡ Some (Send bytes f)
unfolding request_in
request_with bytes rest f h e =
    rw (first_is (digits bytes) rest (digits_no_space bytes), behind_is (digits bytes) rest (digits_no_space bytes), wire_back bytes h, e) refl

request_alone : (bytes : List ℕ) → IsWire bytes → request_in (digits bytes) ≡ Some (Send bytes fault.None)
unfolding request_in
request_alone bytes h =
    rw (first_alone (digits bytes) (digits_no_space bytes), behind_alone (digits bytes) (digits_no_space bytes), wire_back bytes h, nothing_wrong) refl

request_back : (bytes : List ℕ) (f : Fault) → IsWire bytes → IsFault f → request_in (digits bytes ++ fault_words f) ≡ Some (Send bytes f)
request_back bytes fault.None h g = ap request_in (append-nil (digits bytes)) ∙ request_alone bytes h
request_back bytes fault.LostRequest h g = request_with bytes (codes "lost-request") fault.LostRequest h request_lost
request_back bytes fault.LostReply h g = request_with bytes (codes "lost-reply") fault.LostReply h reply_lost
request_back bytes (fault.BadRequest k x) h g = request_with bytes (codes "bad-request" ++ 32 ∷ pair_words k x) (fault.BadRequest k x) h (raised (codes "bad-request") k x refl g.0 g.1)
request_back bytes (fault.BadReply k x) h g = request_with bytes (codes "bad-reply" ++ 32 ∷ pair_words k x) (fault.BadReply k x) h (raised (codes "bad-reply") k x refl g.0 g.1)

-- ---- a reply

no_reply : reply_in (codes "none") ≡ Some (Reply None)
unfolding reply_in
no_reply = refl

reply_back : (bytes : List ℕ) → IsWire bytes → reply_in (digits bytes) ≡ Some (Reply (Some bytes))
unfolding reply_in
reply_back bytes h = rw (digits_not_none bytes h.within.fits, wire_back bytes h) refl

heard_back : (taken : Option TheHeard) → heard_in (heard_word taken) ≡ Some taken
heard_back None = refl
heard_back (Some heard.Message) = refl
heard_back (Some heard.Reply) = refl
heard_back (Some heard.Ignored) = refl

-- ---- a job

job_again : (job : JobName) → IsJob job → job_of (decimal job.worker) (decimal job.number) ≡ Some job
unfolding job_of
job_again job h =
    rw (number_back 255 job.worker (omega (arith, h.0)) (omega (arith, h.0)), number_back 4294967295 job.number (omega (arith, h.1)) (omega (arith, h.1))) refl

job_back : (job : JobName) → IsJob job → job_in (job_words job) ≡ Some job
unfolding job_in
job_back job h =
    let plain = decimal_no_space job.worker (omega (arith, h.0)) in
    rw (first_is (decimal job.worker) (decimal job.number) plain, behind_is (decimal job.worker) (decimal job.number) plain) (job_again job h)

-- ---- how a job ended

severity_back : (s : Severity) → severity_in (severity_code s) ≡ Some s
severity_back severity.Advisory = refl
severity_back severity.Warning = refl
severity_back severity.Error = refl
severity_back severity.AdvisoryCleared = refl
severity_back severity.WarningCleared = refl
severity_back severity.ErrorCleared = refl

small_severity : (s : Severity) → severity_code s < 256
small_severity severity.Advisory = omega arith
small_severity severity.Warning = omega arith
small_severity severity.Error = omega arith
small_severity severity.AdvisoryCleared = omega arith
small_severity severity.WarningCleared = omega arith
small_severity severity.ErrorCleared = omega arith

-- four words
record AreFour (text a b c d : List ℕ) : Type 0 where
  pub first : first_word text ≡ a
  pub second : first_word (behind_word text) ≡ b
  pub third : first_word (behind_word (behind_word text)) ≡ c
  pub last : behind_word (behind_word (behind_word text)) ≡ d

four_words : (a b c d : List ℕ) → no_space a ≡ true → no_space b ≡ true → no_space c ≡ true → AreFour (a ++ 32 ∷ (b ++ 32 ∷ (c ++ 32 ∷ d))) a b c d
four_words a b c d pa pb pc =
    let one = behind_is a (b ++ 32 ∷ (c ++ 32 ∷ d)) pa in
    let two = behind_is b (c ++ 32 ∷ d) pb in
    record {
      first = first_is a (b ++ 32 ∷ (c ++ 32 ∷ d)) pa;
      second = rw one (first_is b (c ++ 32 ∷ d) pb);
      third = rw (one, two) (first_is c d pc);
      last = rw (one, two) (behind_is c d pc);
    }

failed_back : (s : Severity) (id v1 v2 : ℕ) → id < 2 ^ 16 → v1 < 2 ^ 16 → v2 < 2 ^ 16 → failed_in (status_words s id v1 v2) ≡ Some (Failed s id v1 v2)
unfolding failed_in
failed_back s id v1 v2 h1 h2 h3 =
    let four = four_words (digits (severity_code s ∷ [])) (word_digits id) (word_digits v1) (word_digits v2) (digits_no_space (severity_code s ∷ [])) (digits_no_space (to_be_bytes w16 id)) (digits_no_space (to_be_bytes w16 v1)) in
    rw (four.first, four.second, four.third, four.last, code_back (severity_code s) (small_severity s), severity_back s, word_back id h1, word_back v1 h2, word_back v2 h3) refl

done_back : outcome_in (codes "done") ≡ Some Done
unfolding outcome_in first_word behind_word
done_back = refl

reading_back : (rest : List ℕ) (v : _) → signed_in rest ≡ Some v → outcome_in (codes "reading" ++ 32 ∷ rest) ≡ Some (Reading v)
unfolding outcome_in
reading_back rest v e = rw (first_is (codes "reading") rest refl, behind_is (codes "reading") rest refl, e) refl

failure_back : (rest : List ℕ) (o : Outcome) → failed_in rest ≡ Some o → outcome_in (codes "failed" ++ 32 ∷ rest) ≡ Some o
unfolding outcome_in
failure_back rest o e = rw (first_is (codes "failed") rest refl, behind_is (codes "failed") rest refl) e

-- two words, and what stands behind a third space
record AreTwo (text a b rest : List ℕ) : Type 0 where
  pub first : first_word text ≡ a
  pub second : first_word (behind_word text) ≡ b
  pub behind : behind_word (behind_word text) ≡ rest

two_words : (a b rest : List ℕ) → no_space a ≡ true → no_space b ≡ true → AreTwo ((a ++ 32 ∷ b) ++ 32 ∷ rest) a b rest
two_words a b rest pa pb =
    let parts : (a ++ 32 ∷ b) ++ 32 ∷ rest ≡ a ++ 32 ∷ (b ++ 32 ∷ rest) = append_assoc a (32 ∷ b) (32 ∷ rest) in
    let one : behind_word ((a ++ 32 ∷ b) ++ 32 ∷ rest) ≡ b ++ 32 ∷ rest = ap behind_word parts ∙ behind_is a (b ++ 32 ∷ rest) pa in
    record {
      first = ap first_word parts ∙ first_is a (b ++ 32 ∷ rest) pa;
      second = ap first_word one ∙ first_is b rest pb;
      behind = ap behind_word one ∙ behind_is b rest pb;
    }

two_alone : (a b : List ℕ) → no_space a ≡ true → no_space b ≡ true → AreTwo (a ++ 32 ∷ b) a b []
two_alone a b pa pb =
    let one = behind_is a b pa in
    record {
      first = first_is a b pa;
      second = ap first_word one ∙ first_alone b pb;
      behind = ap behind_word one ∙ behind_alone b pb;
    }

report_by : (job : JobName) (rest : List ℕ) (outcome : Outcome) → IsJob job → outcome_in rest ≡ Some outcome → report_in (job_words job ++ 32 ∷ rest) ≡ Some (Arrive job outcome)
unfolding report_in
report_by job rest outcome h e =
    let two = two_words (decimal job.worker) (decimal job.number) rest (decimal_no_space job.worker (omega (arith, h.0))) (decimal_no_space job.number (omega (arith, h.1))) in
    rw (two.first, two.second, two.behind, job_again job h, e) refl

report_back : (job : JobName) (outcome : Outcome) → IsJob job → IsOutcome outcome → report_in (job_words job ++ outcome_words outcome) ≡ Some (Arrive job outcome)
report_back job Done h g = report_by job (codes "done") Done h done_back
report_back job (Reading v) h g = report_by job (codes "reading" ++ 32 ∷ signed_decimal v) (Reading v) h (reading_back (signed_decimal v) v (signed_back v g))
report_back job (Failed s id v1 v2) h g =
    report_by job (codes "failed" ++ 32 ∷ status_words s id v1 v2) (Failed s id v1 v2) h (failure_back (status_words s id v1 v2) (Failed s id v1 v2) (failed_back s id v1 v2 g.0 g.1 g.2))

-- ---- a change

start_back : (n : ℕ) → n < 2 ^ 16 → change_in (codes "start") (decimal n) ≡ Some (Start n)
unfolding change_in
start_back n h = rw (number_back 65535 n (omega arith) (omega arith)) refl

personality_back : (n : ℕ) → n < 2 ^ 8 → change_in (codes "personality") (decimal n) ≡ Some (Personality n)
unfolding change_in
personality_back n h = rw (number_back 255 n (omega arith) (omega arith)) refl

label_again : (text : List ℕ) → IsBytes 32 text → label_in (data_words text) ≡ Some (Label text)
unfolding label_in
label_again text h =
    let longer : IsBytes 231 text = record { room = omega (arith, h.room); fits = h.fits } in
    rw (body_back text longer, le-leb (length text) 32 h.room) refl

label_back : (text : List ℕ) → IsBytes 32 text → change_in (codes "label") (data_words text) ≡ Some (Label text)
unfolding change_in
label_back text h = label_again text h

panel_with : (name value rest : List ℕ) (change : Change) (refused : Bool) (words : List ℕ) → AreTwo words name value rest → refused_in rest ≡ Some refused → change_in name value ≡ Some change → panel_in words ≡ Some (Panel change refused)
unfolding panel_in
panel_with name value rest change refused words two r e = rw (two.first, two.second, two.behind, r, e) refl

panel_by : (name value : List ℕ) (change : Change) (refused : Bool) → no_space name ≡ true → no_space value ≡ true → change_in name value ≡ Some change → panel_in ((name ++ 32 ∷ value) ++ refused_words refused) ≡ Some (Panel change refused)
panel_by name value change true pn pv e = panel_with name value (codes "refused") change true _ (two_words name value (codes "refused") pn pv) refl e
panel_by name value change false pn pv e = ap panel_in (append-nil (name ++ 32 ∷ value)) ∙ panel_with name value [] change false _ (two_alone name value pn pv) refl e

panel_back : (change : Change) (refused : Bool) → IsChange change → panel_in (change_words change ++ refused_words refused) ≡ Some (Panel change refused)
panel_back (Start n) refused h = panel_by (codes "start") (decimal n) (Start n) refused refl (decimal_no_space n (omega arith)) (start_back n h)
panel_back (Personality n) refused h = panel_by (codes "personality") (decimal n) (Personality n) refused refl (decimal_no_space n (omega arith)) (personality_back n h)
panel_back (Label text) refused h = panel_by (codes "label") (data_words text) (Label text) refused refl (data_no_space text) (label_back text h)

-- ---- a message

message_back : (m : TheMessage) → m.class < 2 ^ 8 → m.pid < 2 ^ 16 → m.sub < 2 ^ 16 → IsBytes 231 m.body → message_in (digits (m.class ∷ []) ++ 32 ∷ word_digits m.pid ++ 32 ∷ word_digits m.sub ++ 32 ∷ data_words m.body) ≡ Some m
unfolding message_in
message_back m hc hp hs hb =
    let four = four_words (digits (m.class ∷ [])) (word_digits m.pid) (word_digits m.sub) (data_words m.body) (digits_no_space (m.class ∷ [])) (digits_no_space (to_be_bytes w16 m.pid)) (digits_no_space (to_be_bytes w16 m.sub)) in
    rw (four.first, four.second, four.third, four.last, code_back m.class (omega arith), word_back m.pid hp, word_back m.sub hs, body_back m.body hb) refl

-- ---- a line

by_word : (word rest : List ℕ) (o : Option Line) → no_space word ≡ true → said_by word rest ≡ o → line_in (word ++ 32 ∷ rest) ≡ o
unfolding line_in
by_word word rest o plain e = rw (first_is word rest plain, behind_is word rest plain) e

said_send : (rest : List ℕ) → said_by (codes "send") rest ≡ request_in rest
unfolding said_by
said_send rest = refl

said_reply : (rest : List ℕ) → said_by (codes "reply") rest ≡ reply_in rest
unfolding said_by
said_reply rest = refl

said_job : (rest : List ℕ) (job : JobName) → job_in rest ≡ Some job → said_by (codes "job") rest ≡ Some (Job job)
unfolding said_by
said_job rest job e = rw e refl

said_heard : (rest : List ℕ) (taken : Option TheHeard) → heard_in rest ≡ Some taken → said_by (codes "heard") rest ≡ Some (Heard taken)
unfolding said_by
said_heard rest taken e = rw e refl

uid_back : (uid : Uid) → IsUid uid → uid_in (uid_text uid) ≡ Some uid
uid_back uid h = (uid_spelled (uid_text uid) uid).1 (uid_written uid h)

said_found : (rest : List ℕ) (uid : Uid) → uid_in rest ≡ Some uid → said_by (codes "found") rest ≡ Some (Found uid)
unfolding said_by
said_found rest uid e = rw e refl

said_arrive : (rest : List ℕ) → said_by (codes "arrive") rest ≡ report_in rest
unfolding said_by told_by
said_arrive rest = refl

said_panel : (rest : List ℕ) → said_by (codes "panel") rest ≡ panel_in rest
unfolding said_by told_by
said_panel rest = refl

said_message : (rest : List ℕ) (m : TheMessage) → message_in rest ≡ Some m → said_by (codes "message") rest ≡ Some (Message m)
unfolding said_by told_by
said_message rest m e = rw e refl

said_time : (rest : List ℕ) → said_by (codes "#") rest ≡ time_in rest
unfolding said_by told_by
said_time rest = refl

end_back : line_in (codes "end") ≡ Some End
unfolding line_in said_by told_by first_word behind_word
end_back = refl

pub line_back : (line : Line) → IsLine line → line_in (line_text line) ≡ Some line
unfolding line_text
line_back (Send bytes f) h = by_word (codes "send") (digits bytes ++ fault_words f) _ refl (said_send _ ∙ request_back bytes f h.0 h.1)
line_back (Reply None) h = by_word (codes "reply") (codes "none") _ refl (said_reply _ ∙ no_reply)
line_back (Reply (Some bytes)) h = by_word (codes "reply") (digits bytes) _ refl (said_reply _ ∙ reply_back bytes h)
line_back (Job job) h = by_word (codes "job") (job_words job) _ refl (said_job _ job (job_back job h))
line_back (Heard taken) h = by_word (codes "heard") (heard_word taken) _ refl (said_heard _ taken (heard_back taken))
line_back (Found uid) h = by_word (codes "found") (uid_text uid) _ refl (said_found _ uid (uid_back uid h))
line_back (Arrive job outcome) h = by_word (codes "arrive") (job_words job ++ outcome_words outcome) _ refl (said_arrive _ ∙ report_back job outcome h.0 h.1)
line_back (Panel change refused) h = by_word (codes "panel") (change_words change ++ refused_words refused) _ refl (said_panel _ ∙ panel_back change refused h)
line_back (Message m) h = by_word (codes "message") _ _ refl (said_message _ m (message_back m h.0 h.1 h.2 h.3))
line_back (Time millis) h = by_word (codes "#") (seconds_words millis ++ codes " s") _ refl (said_time _ ∙ time_back millis h)
line_back End h = end_back
