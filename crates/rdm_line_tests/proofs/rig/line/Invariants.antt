use Rattle.rdm_line.specs.Searching.{HasHistories}
use Rattle.rdm_responder.specs.StandsFor.{StandsFor}
use Rattle.rdm_line_tests.proofs.rig.line.Given as goal

-- the devices that have joined so far have histories
abbrev pub invariant-loop-uid : goal.invariant-loop-uid
invariant-loop-uid l = HasHistories StandsFor l.line
