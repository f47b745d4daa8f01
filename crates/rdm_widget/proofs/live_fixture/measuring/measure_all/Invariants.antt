use Rattle.std.proofs.Common.{◌≡◌, drop}
use Rattle.rdm_responder.specs.History.{History}
use Rattle.rdm_responder.specs.StandsFor.{StandsFor}
use Rattle.rdm_widget.specs.Measuring.{after_values}
use Rattle.rdm_widget.proofs.live_fixture.measuring.measure_all.Given as goal

abbrev pub invariant-loop-value : goal.invariant-loop-value
invariant-loop-value l = (h : History) → StandsFor l.fn.responder h
    → (g : History) × (StandsFor l.responder g × (after_values l.sensor (drop l.value-index l.values) g ≡ after_values l.sensor l.values h))
