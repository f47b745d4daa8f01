use Rattle.std.proofs.Common.{rules, ◌≡◌, ℕ, ap, sym, ◌∙◌}
use Rattle.rdm_profile.specs.declared.profile.estimates.Estimates.{Estimates}
use Rattle.rdm_table.specs.declared.way.Way.TheVariants.{ByJob}
use Rattle.rdm_table.specs.Table.Rows.{command_of}
use Rattle.rdm_commands.specs.Jobs.Work.{estimate_in, worker_in}
use Rattle.rdm_table.specs.Table.Kinds.{pid_of}
use Rattle.rdm_table.specs.Table.Uses.{way_of, way_here, estimate_for, worker_for}
use Rattle.rdm_commands.proofs.JobWays.{job_here, started_by}
use Rattle.rdm_commands.proofs.commands.answer.Goals as goal

pub started_by-requires : goal.started_by-requires
started_by-requires c =
    let at : way_here c.args.profile.now c.args.found.way c.args.verb c.unwrap_or-arg.result ≡ ByJob c.in-ByJob.slow = search rules in
    started_by c.args.profile.now (pid_of c.args.found.kind) c.args.verb c.args.found.way c.unwrap_or-arg.result c.in-ByJob.slow c.requires.way at

pub returns-in-ByJob-clause-job : goal.returns-in-ByJob-clause-job
returns-in-ByJob-clause-job c =
    let at : way_here c.args.profile.now c.args.found.way c.args.verb c.unwrap_or-arg.result ≡ ByJob c.in-ByJob.slow = search rules in
    let pid : c.pid.result ≡ pid_of c.args.found.kind = search rules in
    let way : way_of (command_of c.pid.result c.args.verb) ≡ ByJob c.in-ByJob.slow = ap (λ (n : ℕ). way_of (command_of n c.args.verb)) pid ∙ sym c.requires.way ∙ job_here c.args.profile.now c.args.found.way c.args.verb c.unwrap_or-arg.result c.in-ByJob.slow at in (
      c.terms-worker.ensures.worker ∙ ap (worker_for c.args.profile.now.workers) c.started_by.ensures ∙ ap (worker_in c.args.profile.now.workers) (sym way),
      c.terms-worker.ensures.estimate ∙ ap (λ (e : Estimates). estimate_for e c.started_by.result) c.estimates.ensures ∙ ap (estimate_for c.args.profile.now.particulars.estimates) c.started_by.ensures ∙ ap (estimate_in c.args.profile.now.particulars.estimates) (sym way),
    )
