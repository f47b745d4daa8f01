use Rattle.rdm_bench.proofs.Runs.{replay_first}
use Rattle.rdm_bench.proofs.replay.Replay.new.Goals as goal

pub returns-clause-replayed : goal.returns-clause-replayed
returns-clause-replayed c start from = (start, from, replay_first start c.args.reports c.new-2.result c.new-2.ensures)
