use Rattle.std.proofs.Common.{◌≡◌, ◌++◌, ℕ, List, map}
use Rattle.rdm_responder.specs.History.{History}
use Rattle.rdm_bench.specs.Replay.{repeated}
use Rattle.rdm_bench.specs.Replayed.{HasReplayed}
use Rattle.rdm_bench.proofs.replay.Replay.hear_rounds.Given as goal

-- the contract, of the rounds so far
abbrev pub invariant-loop-round : goal.invariant-loop-round
invariant-loop-round l = record {
  replayed : (start : History) (before : List (List ℕ)) → HasReplayed start before l.fn.self →
      HasReplayed start (before ++ repeated l._round (map (λ frame. frame.now) l.frames)) l.self;
  same : l.self.reports ≡ l.fn.self.reports;
}
