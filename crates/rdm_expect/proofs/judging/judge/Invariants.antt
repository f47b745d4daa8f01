use Rattle.std.proofs.Common.{◌≡◌, map, take}
use Rattle.rdm_expect.specs.Verdicts.{parts_of, sends_of, verdict_of}
use Rattle.rdm_expect.proofs.judging.judge.Given as goal

abbrev pub invariant-loop-expectation : goal.invariant-loop-expectation
invariant-loop-expectation l = (map (λ line. line.now) l.sends.items ≡ sends_of l.lines) × (map (λ part. part.now) l.parts.items ≡ parts_of l.lines)
    × (l.verdicts.items ≡ map (verdict_of l.uid (sends_of l.lines) (parts_of l.lines)) (take l.expectation-index l.expectations))
