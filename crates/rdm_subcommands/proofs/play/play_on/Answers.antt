use Rattle.rdm_script.proofs.DemoScene.{ruled_scene}
use Rattle.rdm_script.proofs.Widening.{line_wider, played_wider}
use Rattle.rdm_subcommands.specs.Scenes.{scene_on}
use Rattle.rdm_subcommands.proofs.Settings.{fixture_is_wider}
use Rattle.rdm_subcommands.proofs.play.play_on.Goals as goal

pub play_script-requires-clause-fits : goal.play_script-requires-clause-fits
play_script-requires-clause-fits g c = λ live lives. ((c.ruled_parts_fit.ensures c.stage_of.result.first c.stage_of.result.profile.workers).0, (c.ruled_parts_fit.ensures c.stage_of.result.second c.stage_of.result.profile.workers).1)

pub returns-clause-ok : goal.returns-clause-ok
returns-clause-ok g c =
    let wider = fixture_is_wider c.stage_of.result c.args.fixture c.stage_of.ensures.device c.stage_of.ensures.profile c.stage_of.ensures.spelling c.stage_of.ensures.first c.stage_of.ensures.second in
    played_wider (ruled_scene c.stage_of.result) (scene_on c.args.fixture) wider c.play_script.result c.args.script.now (λ lines. lines.items) c.play_script.ensures.ok

pub returns-clause-line : goal.returns-clause-line
returns-clause-line g c =
    let wider = fixture_is_wider c.stage_of.result c.args.fixture c.stage_of.ensures.device c.stage_of.ensures.profile c.stage_of.ensures.spelling c.stage_of.ensures.first c.stage_of.ensures.second in
    line_wider (ruled_scene c.stage_of.result) (scene_on c.args.fixture) wider c.play_script.result c.args.script.now c.play_script.ensures.line
