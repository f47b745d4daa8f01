use Rattle.std.proofs.Common.{List, [], ◌≡◌, Option, Some, sym, ◌∙◌, subst}
use Rattle.std.specs.List.{cons_option}
use Rattle.std.specs.Prelude.{option_map}
use Rattle.rdm_commands.specs.declared.jobs.outcome.Outcome.{Outcome}
use Rattle.rdm_outbox.specs.declared.job.Job.{Job}
use Rattle.rdm_responder.specs.declared.report.Report.{Report}
use Rattle.rdm_bench.specs.Replay.{IsRunOf}
use Rattle.rdm_bench.specs.declared.reports.Reports.{Reports}
use Rattle.rdm_bench.specs.Reports.{reports_of, outcome_of}
use Rattle.rdm_bench.proofs.Runs.{reported_run, no_run, reports_of_one}
use Rattle.rdm_bench.proofs.replay.report.Goals as goal

-- the reports of the job that started, if one did
reports_of_started : (reports : Reports) (started : Option Job) (job : Job) (outcome : Option Outcome) → started ≡ Some job → outcome ≡ outcome_of reports job.work.verb → reports_of reports (cons_option started []) ≡ cons_option (option_map (λ end. record { job = job; outcome = end }) outcome) []
reports_of_started reports started job outcome some is = rw some (reports_of_one reports job outcome is)

pub returns-in-Some-outcome : goal.returns-in-Some-outcome
returns-in-Some-outcome c start from =
    let done = reported_run c.args.responder.now c.arrive.new.self (record { job = c.in-Some.job; outcome = c.in-Some-outcome.outcome }) c.arrive.result c.arrive.ensures.arrival c.arrive.ensures.stands c.arrive.ensures.astray c.arrive.ensures.same start from in
    let one = reports_of_started c.args.reports c.args.started c.in-Some.job _ c.in-Some.is (sym c.in-Some-outcome.is ∙ c.outcome.ensures) in
    (done.0, done.1, subst (λ (rs : List Report). IsRunOf start done.0 [] rs [] []) (sym one) done.2)

pub returns-in_default-outcome : goal.returns-in_default-outcome
returns-in_default-outcome c start from =
    let none = reports_of_started c.args.reports c.args.started c.in-Some.job _ c.in-Some.is (sym c.in_default-outcome.is ∙ c.outcome.ensures) in
    (start, from, subst (λ (rs : List Report). IsRunOf start start [] rs [] []) (sym none) (no_run start))

pub returns-in_default : goal.returns-in_default
returns-in_default c start from =
    (start, from, subst (λ (job : Option Job). IsRunOf start start [] (reports_of c.args.reports (cons_option job [])) [] []) (sym c.in_default.is) (no_run start))
