use Rattle.rdm_script.specs.DemoParts.{demo_scene_in}
use Rattle.rdm_script.proofs.DemoScene.{ruled_scene, demo_is_wider}
use Rattle.rdm_script.proofs.Widening.{played_wider, played_text_wider, unplayed_wider}
use Rattle.rdm_script.proofs.playing.play_demonstration.Goals as goal

pub play_script-requires-clause-fits : goal.play_script-requires-clause-fits
play_script-requires-clause-fits g c = λ live lives. ((c.ruled_parts_fit.ensures c.demo_stage.result.first c.demo_stage.result.profile.workers).0, (c.ruled_parts_fit.ensures c.demo_stage.result.second c.demo_stage.result.profile.workers).1)

pub returns-clause-ok : goal.returns-clause-ok
returns-clause-ok g c =
    let stage = c.demo_stage.result in
    let wider = demo_is_wider c.args.spelling stage c.demo_stage.ensures.device c.demo_stage.ensures.profile c.demo_stage.ensures.spelling c.demo_stage.ensures.first c.demo_stage.ensures.second c.demo_rules_end_jobs.ensures in
    played_wider (ruled_scene stage) (demo_scene_in c.args.spelling) wider c.play_script.result c.args.text.now (λ lines. lines.items) c.play_script.ensures.ok

pub returns-clause-trace : goal.returns-clause-trace
returns-clause-trace g c =
    let stage = c.demo_stage.result in
    let wider = demo_is_wider c.args.spelling stage c.demo_stage.ensures.device c.demo_stage.ensures.profile c.demo_stage.ensures.spelling c.demo_stage.ensures.first c.demo_stage.ensures.second c.demo_rules_end_jobs.ensures in
    played_text_wider (ruled_scene stage) (demo_scene_in c.args.spelling) wider c.play_script.result c.args.text.now (λ lines. lines.items) c.play_script.ensures.trace

pub returns-clause-err : goal.returns-clause-err
returns-clause-err g c =
    let stage = c.demo_stage.result in
    let wider = demo_is_wider c.args.spelling stage c.demo_stage.ensures.device c.demo_stage.ensures.profile c.demo_stage.ensures.spelling c.demo_stage.ensures.first c.demo_stage.ensures.second c.demo_rules_end_jobs.ensures in
    unplayed_wider (ruled_scene stage) (demo_scene_in c.args.spelling) wider c.play_script.result c.args.text.now c.play_script.ensures.err
