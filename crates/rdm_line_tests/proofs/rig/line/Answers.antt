use Rattle.rdm_responder.specs.StandsFor.{StandsFor}
use Rattle.rdm_line_tests.proofs.Joins.{lives_joined}
use Rattle.rdm_line_tests.proofs.rig.line.Goals as goal

pub loop-uid-preserved : goal.loop-uid-preserved
loop-uid-preserved c =
    lives_joined StandsFor c.join.result c.loop-uid.line c.join.new.self c.in_ok-device.field-0 c.loop-uid.invariant c.in_ok-device.ensures c.join.ensures.stands c.join.ensures.same
