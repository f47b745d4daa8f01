use Rattle.std.proofs.Common.{◌≡◌, drop}
use Rattle.rdm_responder.specs.History.{History}
use Rattle.rdm_responder.specs.StandsFor.{StandsFor}
use Rattle.rdm_widget.specs.Measuring.{after_courses}
use Rattle.rdm_widget.proofs.live_fixture.measuring.follow_all.Given as goal

abbrev pub invariant-loop-followed : goal.invariant-loop-followed
invariant-loop-followed l = (h : History) → StandsFor l.fn.responder h
    → (g : History) × (StandsFor l.responder g × (after_courses l.looked l.now (drop l.followed-index l.courses) g ≡ after_courses l.looked l.now l.courses h))
