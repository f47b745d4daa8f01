use Rattle.std.proofs.Common.{◌≡◌}
use Rattle.rdm_crew.proofs.threads.putting.put.Given as goal

-- the post is as it was
abbrev pub invariant-loop : goal.invariant-loop
invariant-loop g l =
    (goal.iterator-loop g).can_next l.iterator' × (goal.iterator-loop g).is_finite l.iterator'
    × (l.post ≡ l.initial.post)
