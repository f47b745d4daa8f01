use Rattle.std.proofs.Common.{◌≡◌, ℕ, ◌<◌, None, slice_index_or}
use Rattle.rdm_outcomes.specs.declared.rule.Rule.{Rule}
use Rattle.rdm_fixture.specs.Working.{idle_with}
use Rattle.rdm_fixture.proofs.working.first_idle.Given as goal

-- each rule before this one says something
abbrev pub invariant-loop-n : goal.invariant-loop-n
invariant-loop-n l =
    (i : ℕ) (d : Rule) → i < l.n → idle_with l.without l.profile.sensors.items l.profile.tests.items l.profile.status_texts.items (slice_index_or l.rules i d) ≡ None
