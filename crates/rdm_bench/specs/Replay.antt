-- Frames that a responder hears, the jobs that they start, and the bytes of its replies.
use Rattle.std.specs.Prelude.{◌≡◌, ℕ, zero, suc, Bool, List, [], ◌++◌, Option, Some, None, filter_map, flat_map, unwrap_or}
use Rattle.rdm_outbox.specs.declared.job.Job.{Job}
use Rattle.rdm_outbox.specs.Settings.{most_entries}
use Rattle.rdm_responder.specs.declared.report.Report.{Report}
use Rattle.rdm_responder.specs.declared.run.Input.{Input}
use Rattle.rdm_responder.specs.declared.run.Input.TheVariants as input
use Rattle.rdm_responder.specs.declared.run.Output.{Output}
use Rattle.rdm_responder.specs.declared.run.Output.TheVariants as output
use Rattle.rdm_responder.specs.History.{Setup, History, empty_history}
use Rattle.rdm_responder.specs.Runs.{IsRun}
use Rattle.rdm_bench.specs.declared.reports.Reports.{Reports}
use Rattle.rdm_bench.specs.declared.tally.Tally.{Tally}
use Rattle.rdm_bench.specs.Device.{bench_profile}
use Rattle.rdm_bench.specs.Reports.{reports_with, reports_of}
use Rattle.rdm_bench.specs.Tally.{tally_of}

-- The device that hears them: its UID is 7FF0:00000001, and it has room for 1,024 results of slow commands and the most
-- status entries.
abbrev pub bench_setup : Bool → ℕ → Setup
bench_setup own subs =
    record { uid = record { maker = 0x7FF0; device = 1 }; profile = bench_profile own subs; queue_size = 1024; entries = most_entries; first_job = 0 }

-- these, that many times over
abbrev pub repeated : ℕ → List (List ℕ) → List (List ℕ)
repeated zero frames = []
repeated (suc rounds) frames = repeated rounds frames ++ frames

-- the bytes that are heard, where some are
abbrev pub heard : Input → Option (List ℕ)
heard (input.Heard bytes) = Some bytes.now
heard _ = None

-- the report that is handed in, where one is
abbrev pub reported : Input → Option Report
reported (input.Reported report) = Some report
reported _ = None

-- the job that started, where one did
abbrev pub started : Output → Option Job
started (output.Answered reply job) = job
started _ = None

-- the bytes of the reply, if there is one
abbrev pub reply_bytes : Output → List ℕ
reply_bytes (output.Answered reply job) = unwrap_or reply []
reply_bytes _ = []

-- What there is in a run: the byte strings that are heard, the reports that are handed in, the jobs that start, and the
-- bytes of all replies, each list in order of time. How frames and reports lie among one another isn't said.
pub record IsRunOf (start end : History) (frames : List (List ℕ)) (reports : List Report) (jobs : List Job) (replies : List ℕ) : Type 0 where
  pub inputs : List Input
  pub outputs : List Output
  pub run : IsRun start inputs outputs end
  pub all_heard : filter_map heard inputs ≡ frames
  pub all_reported : filter_map reported inputs ≡ reports
  pub all_started : filter_map started outputs ≡ jobs
  pub all_replied : flat_map reply_bytes outputs ≡ replies

-- A replay from a history to the one at its end: a run over these frames, in which each job that starts is reported so,
-- and the bytes of all replies come to this tally.
pub record IsReplay (start : History) (reports : Reports) (frames : List (List ℕ)) (tally : Tally) (end : History) : Type 0 where
  pub jobs : List Job
  pub replies : List ℕ
  pub run : IsRunOf start end frames (reports_of reports jobs) jobs replies
  pub comes_to : tally ≡ tally_of replies

-- It is the tally of a replay on the device with so many sub-devices, and with parameters of its maker's own or without, whose
-- jobs are reported as this code says.
abbrev pub AnswersReplay : Bool → ℕ → ℕ → List (List ℕ) → Tally → Type 0
AnswersReplay own subs code frames tally =
    (reports : Reports) × (end : History) × (reports_with code ≡ Some reports)
    × IsReplay (empty_history (bench_setup own subs)) reports frames tally end
