use Rattle.std.proofs.Common.{rules, ◌≡◌, ◌∙◌, Some, Option, OnOk, ap, sym, subst, false}
use Rattle.std.specs.Option.{option_map_or}
use Rattle.rdm_frame.specs.declared.nack.Nack.TheVariants.{UnknownPid}
use Rattle.rdm_profile.specs.declared.profile.own.ParameterDef.{ParameterDef}
use Rattle.rdm_commands.specs.declared.placing.PlaceError.TheVariants.{NoValue}
use Rattle.rdm_commands.specs.Commands.Placing.{own_refusal, own_placed}
use Rattle.rdm_table.specs.Table.Rows.{is_left_out}
use Rattle.rdm_commands.proofs.PlacesOwn.{own_root}
use Rattle.rdm_commands.proofs.commands.Devices.place_own.Goals as goal

pub returns-clause-refused : goal.returns-clause-refused
returns-clause-refused c =
    let zero : c.args.sub ≡ 0 = search rules in
    let unknown : c.args.nack ≡ UnknownPid = search rules in
    let stays : is_left_out c.args.self.now.profile c.args.pid ≡ false = search rules in
    c.place_at_root.ensures.refused ∙ sym (ap (λ (o : Option ParameterDef). option_map_or (λ d. own_refusal d c.args.data.now) o (Some NoValue)) (own_root c.args.self.now c.args.sub c.args.pid c.args.nack zero unknown stays c.requires))

pub returns-clause-after : goal.returns-clause-after
returns-clause-after c =
    let zero : c.args.sub ≡ 0 = search rules in
    let unknown : c.args.nack ≡ UnknownPid = search rules in
    let stays : is_left_out c.args.self.now.profile c.args.pid ≡ false = search rules in
    subst (λ (o : Option ParameterDef). OnOk c.place_at_root.result (c.place_at_root.new.self ≡ option_map_or (λ d. own_placed c.args.self.now d c.args.data.now) o c.args.self.now)) (sym (own_root c.args.self.now c.args.sub c.args.pid c.args.nack zero unknown stays c.requires)) c.place_at_root.ensures.after
