-- What a responder has heard so far.
use Rattle.std.specs.Prelude.{ℕ, List}
use Rattle.rdm_responder.specs.History.{History}
use Rattle.rdm_responder.specs.StandsFor.{StandsFor}
use Rattle.rdm_bench.specs.declared.replay.Replay.{Replay}
use Rattle.rdm_bench.specs.Replay.{IsReplay}

-- From this history on it has replayed these frames, and stands for the history at their end.
abbrev pub HasReplayed : History → List (List ℕ) → Replay → Type 0
HasReplayed start frames r = (end : History) × StandsFor r.responder end × IsReplay start r.reports frames r.tally end
