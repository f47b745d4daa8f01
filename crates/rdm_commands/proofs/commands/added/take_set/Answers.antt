use Rattle.std.proofs.Common.{rules, ◌≡◌, Some, true, false, sym}
use Rattle.rdm_added.specs.Added.{set_form, takes}
use Rattle.rdm_profile.specs.Forms.{value_of}
use Rattle.rdm_added.specs.Locking.{pin_kept}
use Rattle.rdm_profile.specs.OwnParameters.{has_set}
use Rattle.rdm_commands.proofs.AddedCommands.{set_refuses, set_hands}
use Rattle.rdm_commands.proofs.commands.added.take_set.Goals as goal

pub returns : goal.returns
returns c spot same =
    let set : has_set c.args.def.now.rights ≡ true = search rules in
    let value : value_of (set_form c.args.def.now) c.args.data.now ≡ Some c.in-Some.value = search rules in
    let inside : takes c.args.def.now (pin_kept spot.added) c.in-Some.value ≡ true = search rules in
    let free : c.args.protected ≡ false = search rules in
    let fit : c.args.no_pin ≡ false = search rules in
    sym (set_hands c.args.def.now c.args.protected c.args.no_pin spot c.args.data.now c.in-Some.value set free fit value inside)

pub returns-then-not-takes : goal.returns-then-not-takes
returns-then-not-takes c spot same =
    let set : has_set c.args.def.now.rights ≡ true = search rules in
    let value : value_of (set_form c.args.def.now) c.args.data.now ≡ Some c.in-Some.value = search rules in
    let outside : takes c.args.def.now (pin_kept spot.added) c.in-Some.value ≡ false = search rules in
    let free : c.args.protected ≡ false = search rules in
    let fit : c.args.no_pin ≡ false = search rules in
    sym (set_refuses c.args.def.now c.args.protected c.args.no_pin spot c.args.data.now c.in-Some.value set free fit value outside)
