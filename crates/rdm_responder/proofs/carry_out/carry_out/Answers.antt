use Rattle.std.proofs.Common.{ap, subst, ◌∙◌}
use Rattle.rdm_params.specs.Jobs.Work.{Choice, worker_at}
use Rattle.rdm_commands.specs.declared.verdict.Answer.{Answer}
use Rattle.rdm_params.specs.Views.Verdicts.{NamesItsJob}
use Rattle.rdm_responder.specs.Rules.{answer_with}
use Rattle.rdm_responder.proofs.carry_out.carry_out.Goals as goal

pub start-port-requires : goal.start-port-requires
start-port-requires c =
    (subst (λ (a : Answer). NamesItsJob c.requires.job.0 a) c.in-Starts.is c.requires.job.2).0
    ∙ ap (λ (ws : Choice). worker_at ws c.in-Starts.work) c.requires.job.1

pub returns-in-Starts-clause-table : goal.returns-in-Starts-clause-table
returns-in-Starts-clause-table c p names =
    let its = subst (λ (a : Answer). NamesItsJob p a) c.in-Starts.is names in
    c.start-port.ensures.table p its.0 its.1

pub returns-in-Starts-clause-reply : goal.returns-in-Starts-clause-reply
returns-in-Starts-clause-reply c p b names shows =
    rw (c.send-replied-in-Starts.ensures.reply, c.count-in-Starts.ensures _ (c.start-port.ensures.after b shows), c.as_slice-in-Starts.ensures.value, c.of_own-heading-in-Starts.ensures, c.in-Starts.is)
    (ap (answer_with c.args.own c.args.request.now _) (c.start-port.ensures.response p b (subst (λ (a : Answer). NamesItsJob p a) c.in-Starts.is names).1 shows c.args.request.now))
