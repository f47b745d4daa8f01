use Rattle.rdm_script_tests.proofs.tests.stops.stop_at.Goals as goal

pub play_script-requires-clause-fits : goal.play_script-requires-clause-fits
play_script-requires-clause-fits g c =
    λ live lives. ((c.ruled_parts_fit.ensures c.stage.result.first c.stage.result.profile.workers).0, (c.ruled_parts_fit.ensures c.stage.result.second c.stage.result.profile.workers).1)
