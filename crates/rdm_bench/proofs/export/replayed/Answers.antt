use Rattle.std.proofs.Common.{◌≡◌, List, ℕ, [], ◌++◌, sym, ap, ◌∙◌}
use Rattle.rdm_bench.specs.Replay.{repeated}
use Rattle.rdm_bench.proofs.Frames.{bytes_of}
use Rattle.rdm_bench.proofs.Runs.{replay_as}
use Rattle.rdm_bench.proofs.export.replayed.Goals as goal

pub returns : goal.returns
returns c before frames packable packable' is is' =
    let first = c.new-replay.ensures.replayed _ c.in_ok-responder_with.ensures in
    let once = c.hear_rounds.ensures.replayed _ [] first in
    let all = c.hear_rounds-2.ensures.replayed _ _ once in
    let preface : bytes_of c.deref.result.now ≡ before = ap bytes_of c.deref.ensures.value ∙ c.in_ok-unpack.ensures before packable is in
    let round : bytes_of c.deref-2.result.now ≡ frames = ap bytes_of c.deref-2.ensures.value ∙ c.in_ok-unpack-2.ensures frames packable' is' in
    let heard : before ++ repeated c.args.rounds frames ≡ bytes_of c.deref.result.now ++ repeated c.args.rounds (bytes_of c.deref-2.result.now) =
    sym (ap (λ (fs : List (List ℕ)). fs ++ repeated c.args.rounds (bytes_of c.deref-2.result.now)) preface ∙ ap (λ (fs : List (List ℕ)). before ++ repeated c.args.rounds fs) round) in
    let same = sym c.new-replay.ensures.reports ∙ sym c.hear_rounds.ensures.same ∙ sym c.hear_rounds-2.ensures.same in
    (all.0, replay_as _ all.0 _ c.args.reports _ (before ++ repeated c.args.rounds frames) _ c.tally.result same heard c.tally.ensures all.2)
