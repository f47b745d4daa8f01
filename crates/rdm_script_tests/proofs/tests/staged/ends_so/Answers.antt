use Rattle.rdm_script_tests.proofs.tests.staged.ends_so.Goals as goal

pub play_script-requires-clause-fits : goal.play_script-requires-clause-fits
play_script-requires-clause-fits g c =
    λ live lives. ((c.ruled_parts_fit.ensures c.args.stage.first c.args.stage.profile.workers).0, (c.ruled_parts_fit.ensures c.args.stage.second c.args.stage.profile.workers).1)
