use Rattle.std.proofs.Common.{◌≡◌, ◌-◌}
use Rattle.rdm_widget.specs.LiveFixtures.{Situation, IsIn, after_several}
use Rattle.rdm_widget.proofs.live_fixture.LiveFixture.report_ended.Given as goal

abbrev pub invariant-loop-turn : goal.invariant-loop-turn
invariant-loop-turn l = (s : Situation) → IsIn l.fn.self s
    → (t : Situation) × (IsIn l.self t × (after_several (l.most - l._turn) l.now t ≡ after_several l.most l.now s))
