use Rattle.std.proofs.Common.{◌≡◌, ◌++◌, ℕ, List, map, take}
use Rattle.rdm_responder.specs.History.{History}
use Rattle.rdm_bench.specs.Replayed.{HasReplayed}
use Rattle.rdm_bench.proofs.replay.Replay.hear_all.Given as goal

-- the contract, of the frames that were heard so far
abbrev pub invariant-loop-frame : goal.invariant-loop-frame
invariant-loop-frame l = record {
  replayed : (start : History) (before : List (List ℕ)) → HasReplayed start before l.fn.self →
      HasReplayed start (before ++ take l.frame-index (map (λ frame. frame.now) l.frames)) l.self;
  same : l.self.reports ≡ l.fn.self.reports;
}
