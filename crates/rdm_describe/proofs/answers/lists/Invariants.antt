use Rattle.std.proofs.Common.{◌≡◌}
use Rattle.rdm_describe.specs.Answers.{is_among}
use Rattle.rdm_describe.proofs.answers.lists.Given as goal

-- whether it was one so far
abbrev pub invariant-loop-place : goal.invariant-loop-place
invariant-loop-place l = l.is_among ≡ is_among l.slots l.word l.place
