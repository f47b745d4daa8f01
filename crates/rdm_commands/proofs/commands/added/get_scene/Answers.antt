use Rattle.std.proofs.Common.{rules, ◌≡◌, Some, true, false, sym, ◌∙◌}
use Rattle.rdm_profile.specs.Forms.{word, value_of}
use Rattle.rdm_added.specs.Scenes.{a_scene}
use Rattle.rdm_commands.proofs.AddedReplies.{scene_refused, scene_replied}
use Rattle.rdm_commands.proofs.commands.added.get_scene.Goals as goal

pub returns-then-not-a_scene-clause-err : goal.returns-then-not-a_scene-clause-err
returns-then-not-a_scene-clause-err c =
    let value : value_of word c.args.data.now ≡ Some c.in-Some.number = search rules in
    let is_none : c.a_scene.result ≡ false = search rules in
    let outside : a_scene c.args.def.now word c.args.place.now c.in-Some.number ≡ false = sym (c.a_scene.ensures c.args.place.now) ∙ is_none in
    scene_refused c.args.def.now c.args.place.now c.args.data.now c.in-Some.number value outside

pub returns-clause-ok : goal.returns-clause-ok
returns-clause-ok c =
    let value : value_of word c.args.data.now ≡ Some c.in-Some.number = search rules in
    let is_one : c.a_scene.result ≡ true = search rules in
    let inside : a_scene c.args.def.now word c.args.place.now c.in-Some.number ≡ true = sym (c.a_scene.ensures c.args.place.now) ∙ is_one in
    scene_replied c.args.def.now c.args.place.now c.args.data.now c.scene_shown.new.body c.in-Some.number value inside c.scene_shown.ensures
