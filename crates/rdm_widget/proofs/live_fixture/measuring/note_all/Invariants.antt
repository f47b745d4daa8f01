use Rattle.std.proofs.Common.{◌≡◌, drop}
use Rattle.rdm_responder.specs.History.{History}
use Rattle.rdm_responder.specs.StandsFor.{StandsFor}
use Rattle.rdm_widget.specs.Measuring.{after_notices}
use Rattle.rdm_widget.proofs.live_fixture.measuring.note_all.Given as goal

abbrev pub invariant-loop-notice : goal.invariant-loop-notice
invariant-loop-notice l = (h : History) → StandsFor l.fn.responder h
    → (g : History) × (StandsFor l.responder g × (after_notices l.looked l.now (drop l.notice-index l.notices) g ≡ after_notices l.looked l.now l.notices h))
