-- Runs one behind the other.
use Rattle.std.proofs.Common.{◌≡◌, ℕ, List, [], ◌∷◌, ◌++◌, map, length, get_or, take, ◌+◌, ◌<◌, ◌≤◌, Bool, Option, Result, Ok, Err, Bor, refl, sym, ap, subst, ◌∙◌, arith, append_assoc, add-one}
use Rattle.std.specs.Prelude.{unwrap_or, option_map, IfOk, OnOk, IfErr, OnErr}
use Rattle.std.specs.List.{cons_option}
use Rattle.std.proofs.Math.Seq.{take-suc}
use Rattle.std.proofs.lemmas.List.{append-nil, get_or-map, length-map, take_all}
use Rattle.std.proofs.lemmas.List.Elements.{filter_map-append}
use Rattle.std.proofs.lemmas.Grind.{flat_map-append}
use Rattle.rdm_outbox.specs.declared.job.Job.{Job}
use Rattle.rdm_commands.specs.declared.jobs.outcome.Outcome.{Outcome}
use Rattle.rdm_responder.specs.declared.report.Arrival.{Arrival}
use Rattle.rdm_responder.specs.declared.report.Astray.{Astray}
use Rattle.rdm_responder.specs.declared.report.Report.{Report}
use Rattle.rdm_responder.specs.declared.run.Input.{Input}
use Rattle.rdm_responder.specs.declared.run.Input.TheVariants as input
use Rattle.rdm_responder.specs.declared.run.Output.{Output}
use Rattle.rdm_responder.specs.declared.run.Output.TheVariants as output
use Rattle.rdm_responder.specs.History.{History, Heard, Arrived, Changed, then_event}
use Rattle.rdm_responder.specs.Lawful.{MayArrive}
use Rattle.rdm_responder.specs.Rules.{account_of, answered, reply_of, job_of}
use Rattle.rdm_responder.specs.Runs.{IsRun, IsArrival}
use Rattle.rdm_responder.specs.StandsFor.{State, StandsFor}
use Rattle.rdm_bench.specs.Replay.{IsRunOf, IsReplay, heard, reported, started, reply_bytes, repeated}
use Rattle.rdm_bench.specs.Reports.{reports_of, report_of, outcome_of}
use Rattle.rdm_bench.specs.Tally.{tally_of}
use Rattle.rdm_bench.specs.declared.reports.Reports.{Reports}
use Rattle.rdm_bench.specs.declared.tally.Tally.{Tally}

-- a run, and another from where it ends
run_and_run : (h g end : History) (inputs more : List Input) (outputs others : List Output) → IsRun h inputs outputs g → IsRun g more others end → IsRun h (inputs ++ more) (outputs ++ others) end
run_and_run h g end [] more [] others run rest = subst (λ (k : History). IsRun k more others end) run rest
run_and_run h g end [] more (o ∷ outputs) others run rest = absurd run
run_and_run h g end (input.Heard bytes ∷ inputs) more [] others run rest = absurd run
run_and_run h g end (input.Reported report ∷ inputs) more [] others run rest = absurd run
run_and_run h g end (input.Changed change ∷ inputs) more [] others run rest = absurd run
run_and_run h g end (input.Heard bytes ∷ inputs) more (output.Answered reply job ∷ outputs) others run rest =
    (run.0, run.1, run_and_run (then_event h (Heard bytes.now)) g end inputs more outputs others run.2 rest)
run_and_run h g end (input.Heard bytes ∷ inputs) more (output.Arrived arrival ∷ outputs) others run rest = run
run_and_run h g end (input.Heard bytes ∷ inputs) more (output.HandedBack astray ∷ outputs) others run rest = run
run_and_run h g end (input.Heard bytes ∷ inputs) more (output.Changed message ∷ outputs) others run rest = run
run_and_run h g end (input.Heard bytes ∷ inputs) more (output.NoRoom refused ∷ outputs) others run rest = run
run_and_run h g end (input.Reported report ∷ inputs) more (output.Answered reply job ∷ outputs) others run rest = run
run_and_run h g end (input.Reported report ∷ inputs) more (output.Arrived arrival ∷ outputs) others run rest =
    (run.0, run_and_run (then_event h (Arrived report)) g end inputs more outputs others run.1 rest)
run_and_run h g end (input.Reported report ∷ inputs) more (output.HandedBack astray ∷ outputs) others run rest =
    (run.0, run.1, run_and_run h g end inputs more outputs others run.2 rest)
run_and_run h g end (input.Reported report ∷ inputs) more (output.Changed message ∷ outputs) others run rest = run
run_and_run h g end (input.Reported report ∷ inputs) more (output.NoRoom refused ∷ outputs) others run rest = run
run_and_run h g end (input.Changed change ∷ inputs) more (output.Answered reply job ∷ outputs) others run rest = run
run_and_run h g end (input.Changed change ∷ inputs) more (output.Arrived arrival ∷ outputs) others run rest = run
run_and_run h g end (input.Changed change ∷ inputs) more (output.HandedBack astray ∷ outputs) others run rest = run
run_and_run h g end (input.Changed change ∷ inputs) more (output.Changed message ∷ outputs) others run rest =
    (run.0, run_and_run (then_event h (Changed change)) g end inputs more outputs others run.1 rest)
run_and_run h g end (input.Changed change ∷ inputs) more (output.NoRoom refused ∷ outputs) others run rest =
    (run.0, run.1, run_and_run h g end inputs more outputs others run.2 rest)

-- and what there is in both
pub both_runs : (h g end : History) (frames frames' : List (List ℕ)) (reports reports' : List Report) (jobs jobs' : List Job) (replies replies' : List ℕ) → IsRunOf h g frames reports jobs replies → IsRunOf g end frames' reports' jobs' replies' → IsRunOf h end (frames ++ frames') (reports ++ reports') (jobs ++ jobs') (replies ++ replies')
both_runs h g end frames frames' reports reports' jobs jobs' replies replies' r s = record {
  inputs = r.inputs ++ s.inputs;
  outputs = r.outputs ++ s.outputs;
  run = run_and_run h g end r.inputs s.inputs r.outputs s.outputs r.run s.run;
  all_heard = rw (filter_map-append heard r.inputs s.inputs, r.all_heard, s.all_heard) refl;
  all_reported = rw (filter_map-append reported r.inputs s.inputs, r.all_reported, s.all_reported) refl;
  all_started = rw (filter_map-append started r.outputs s.outputs, r.all_started, s.all_started) refl;
  all_replied = rw (flat_map-append reply_bytes r.outputs s.outputs, r.all_replied, s.all_replied) refl;
}

-- a replay, and a run behind it whose jobs are reported as its own
pub replay_and_run : (h g end : History) (reports : Reports) (before frames : List (List ℕ)) (jobs : List Job) (replies : List ℕ) (tally after : Tally) → IsReplay h reports before tally g → IsRunOf g end frames (reports_of reports jobs) jobs replies → ((bytes : List ℕ) → tally ≡ tally_of bytes → after ≡ tally_of (bytes ++ replies)) → IsReplay h reports (before ++ frames) after end
replay_and_run h g end reports before frames jobs replies tally after r s more = record {
  jobs = r.jobs ++ jobs;
  replies = r.replies ++ replies;
  run = rw (filter_map-append (report_of reports) r.jobs jobs) (both_runs h g end before frames (reports_of reports r.jobs) (reports_of reports jobs) r.jobs jobs r.replies replies r.run s);
  comes_to = more r.replies r.comes_to;
}

-- the frames of a loop, and one more
pub taken_more : (before : List (List ℕ)) (frames : List (Bor (List ℕ))) (i : ℕ) (d : Bor (List ℕ)) → i < length frames → (before ++ take i (map (λ frame. frame.now) frames)) ++ (get_or frames i d).now ∷ [] ≡ before ++ take (i + 1) (map (λ frame. frame.now) frames)
taken_more before frames i d lt =
    let all = map (λ (b : Bor (List ℕ)). b.now) frames in
    let within : i < length all = omega (arith, length-map frames (λ (b : Bor (List ℕ)). b.now)) in
    let next : take (i + 1) all ≡ take i all ++ (get_or frames i d).now ∷ [] =
    ap (λ (n : ℕ). take n all) (add-one i) ∙ take-suc all i [] within
    ∙ ap (λ (b : List ℕ). take i all ++ b ∷ []) (get_or-map (λ (b : Bor (List ℕ)). b.now) frames i d [] lt) in
    append_assoc before (take i all) ((get_or frames i d).now ∷ []) ∙ sym (ap (λ (fs : List (List ℕ)). before ++ fs) next)

-- the rounds of a loop, and one more
pub round_more : (before frames : List (List ℕ)) (rounds : ℕ) → (before ++ repeated rounds frames) ++ frames ≡ before ++ repeated (rounds + 1) frames
round_more before frames rounds = rw (add-one rounds) (append_assoc before (repeated rounds frames) frames)

-- nothing was heard yet
pub replay_first : (h : History) (reports : Reports) (tally : Tally) → tally ≡ tally_of [] → IsReplay h reports [] tally h
replay_first h reports tally none = record {
  jobs = [];
  replies = [];
  run = record { inputs = []; outputs = []; run = refl; all_heard = refl; all_reported = refl; all_started = refl; all_replied = refl };
  comes_to = none;
}

-- the bytes of the reply, if there is one
abbrev pub bytes_answered : Bool → List ℕ → List ℕ
bytes_answered replied wire = unwrap_or (answered replied wire) []

-- a frame that is heard
pub heard_run : (h : History) (frame : Bor (List ℕ)) (replied : Bool) (wire : List ℕ) (job : Option Job) → answered replied wire ≡ reply_of h frame.now → job ≡ job_of h frame.now → IsRunOf h (then_event h (Heard frame.now)) (frame.now ∷ []) [] (cons_option job []) (bytes_answered replied wire)
heard_run h frame replied wire job reply starts = record {
  inputs = input.Heard frame ∷ [];
  outputs = output.Answered (answered replied wire) job ∷ [];
  run = (reply, starts, refl);
  all_heard = refl;
  all_reported = refl;
  all_started = refl;
  all_replied = append-nil (bytes_answered replied wire);
}

-- a frame that is heard, and the report of the job that it starts, if it does
pub heard_and_reported : (h end : History) (frame : Bor (List ℕ)) (replied : Bool) (wire : List ℕ) (job : Option Job) (reports : List Report) → answered replied wire ≡ reply_of h frame.now → job ≡ job_of h frame.now → IsRunOf (then_event h (Heard frame.now)) end [] reports [] [] → IsRunOf h end (frame.now ∷ []) reports (cons_option job []) (bytes_answered replied wire)
heard_and_reported h end frame replied wire job reports reply starts run =
    let first = heard_run h frame replied wire job reply starts in
    subst (λ (bytes : List ℕ). IsRunOf h end (frame.now ∷ []) reports (cons_option job []) bytes) (append-nil (bytes_answered replied wire))
    (subst (λ (jobs : List Job). IsRunOf h end (frame.now ∷ []) reports jobs (bytes_answered replied wire ++ [])) (append-nil (cons_option job []))
    (both_runs h (then_event h (Heard frame.now)) end (frame.now ∷ []) [] [] reports (cons_option job []) [] (bytes_answered replied wire) [] first run))

-- a report that is handed in
pub reported_run : (state new : State) (report : Report) (result : Result Arrival Astray) → IfOk result (λ arrival. (h : History) → StandsFor state h → IsArrival h report arrival) → OnOk result ((h : History) → StandsFor state h → StandsFor new (then_event h (Arrived report))) → IfErr result (λ astray. (astray.report ≡ report) × ((h : History) → StandsFor state h → ¬ MayArrive (account_of h) report)) → OnErr result (new ≡ state) → (h : History) → StandsFor state h → (end : History) × StandsFor new end × IsRunOf h end [] (report ∷ []) [] []
reported_run state new report (Ok arrival) is stands astray same h from =
    (then_event h (Arrived report), stands h from, record { inputs = input.Reported report ∷ []; outputs = output.Arrived arrival ∷ []; run = (is h from, refl); all_heard = refl; all_reported = refl; all_started = refl; all_replied = refl })
reported_run state new report (Err astray) is stands back same h from =
    (h, rw same from, record { inputs = input.Reported report ∷ []; outputs = output.HandedBack astray ∷ []; run = (back.1 h from, back.0, refl); all_heard = refl; all_reported = refl; all_started = refl; all_replied = refl })

-- a report that is withheld
pub no_run : (h : History) → IsRunOf h h [] [] [] []
no_run h = record { inputs = []; outputs = []; run = refl; all_heard = refl; all_reported = refl; all_started = refl; all_replied = refl }

-- the reports of one job
pub reports_of_one : (reports : Reports) (job : Job) (outcome : Option Outcome) → outcome ≡ outcome_of reports job.work.verb → reports_of reports (job ∷ []) ≡ cons_option (option_map (λ end. record { job = job; outcome = end }) outcome) []
reports_of_one reports job outcome is = rw is refl

-- all frames of a loop
pub all_taken : (frames : List (Bor (List ℕ))) (i : ℕ) → length frames ≤ i → take i (map (λ frame. frame.now) frames) ≡ map (λ frame. frame.now) frames
all_taken frames i past = take_all i (map (λ (b : Bor (List ℕ)). b.now) frames) (omega (arith, length-map frames (λ (b : Bor (List ℕ)). b.now)))

-- the same replay, in other words
pub replay_as : (h end : History) (reports said : Reports) (frames heard : List (List ℕ)) (tally sum : Tally) → said ≡ reports → heard ≡ frames → sum ≡ tally → IsReplay h reports frames tally end → IsReplay h said heard sum end
replay_as h end reports said frames heard tally sum r f t replay = rw (r, f, t) replay
