use Rattle.std.proofs.Common.{◌≡◌, ◌++◌, List, ℕ, subst, map, arith}
use Rattle.rdm_bench.specs.Replay.{repeated}
use Rattle.rdm_bench.specs.Replayed.{HasReplayed}
use Rattle.rdm_bench.proofs.Runs.{round_more}
use Rattle.rdm_bench.proofs.replay.Replay.hear_rounds.Goals as goal

pub loop-round-preserved : goal.loop-round-preserved
loop-round-preserved c = record {
  replayed = λ start before from.
      subst (λ (fs : List (List ℕ)). HasReplayed start fs c.hear_all.new.self)
      (round_more before (map (λ frame. frame.now) c.args.frames.now) c.loop-round._round)
      (c.hear_all.ensures.replayed start _ (c.loop-round.invariant.replayed start before from));
  same = cc;
}

pub returns-clause-replayed : goal.returns-clause-replayed
returns-clause-replayed c start before from =
    let last : c.loop-round._round ≡ c.args.rounds = omega arith in
    subst (λ (n : ℕ). HasReplayed start (before ++ repeated n (map (λ frame. frame.now) c.args.frames.now)) c.loop-round.self) last
    (c.loop-round.invariant.replayed start before from)
