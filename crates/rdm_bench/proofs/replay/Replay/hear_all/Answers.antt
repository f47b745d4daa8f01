use Rattle.std.proofs.Common.{◌++◌, List, ℕ, subst, arith}
use Rattle.rdm_bench.specs.Replayed.{HasReplayed}
use Rattle.rdm_bench.proofs.Runs.{taken_more, all_taken}
use Rattle.rdm_bench.proofs.replay.Replay.hear_all.Goals as goal

pub loop-frame-preserved : goal.loop-frame-preserved
loop-frame-preserved c = record {
  replayed = λ start before from.
      subst (λ (fs : List (List ℕ)). HasReplayed start fs c.hear.new.self)
      (taken_more before c.args.frames.now c.loop-frame.frame-index _ c.loop-frame-test.true)
      (c.hear.ensures.replayed start _ (c.loop-frame.invariant.replayed start before from));
  same = cc;
}

pub returns-clause-replayed : goal.returns-clause-replayed
returns-clause-replayed c start before from =
    subst (λ (fs : List (List ℕ)). HasReplayed start (before ++ fs) c.loop-frame.self)
    (all_taken c.args.frames.now c.loop-frame.frame-index (omega arith))
    (c.loop-frame.invariant.replayed start before from)
