use Rattle.std.proofs.Common.{◌≡◌, ◌<◌, arith}
use Rattle.std.proofs.lemmas.Grind.{common_steps}
use Rattle.rdm_params.specs.Jobs.Work.{worker_at}
use Rattle.rdm_commands.proofs.TwoWorkers.{there_are_two_workers}
use Rattle.rdm_outbox.proofs.outbox.Outbox.reserve_for.Goals as goal

pub returns-else-worker-eq0-clause-answer : goal.returns-else-worker-eq0-clause-answer
returns-else-worker-eq0-clause-answer c =
    let two : worker_at c.args.self.now.workers c.args.work < 2 = there_are_two_workers c.args.self.now.workers c.args.work in
    let second : worker_at c.args.self.now.workers c.args.work ≡ 1 = grind (arith, two, c.requires) in
    grind (arith, common_steps, second)

pub returns-else-worker-eq0-clause-shows : goal.returns-else-worker-eq0-clause-shows
returns-else-worker-eq0-clause-shows c =
    let two : worker_at c.args.self.now.workers c.args.work < 2 = there_are_two_workers c.args.self.now.workers c.args.work in
    let second : worker_at c.args.self.now.workers c.args.work ≡ 1 = grind (arith, two, c.requires) in
    grind (arith, common_steps, second)
