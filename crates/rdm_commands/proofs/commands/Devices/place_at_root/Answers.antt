use Rattle.std.proofs.Common.{rules, ◌≡◌, ◌∙◌, Some, Option, OnOk, ap, ◌++◌, map, subst}
use Rattle.std.specs.Prelude.{find}
use Rattle.std.specs.Option.{option_map_or}
use Rattle.rdm_profile.specs.declared.profile.own.ParameterDef.{ParameterDef}
use Rattle.rdm_added.specs.Added.{is_pid_of}
use Rattle.rdm_added.specs.Parameters.{Parameters}
use Rattle.rdm_added.specs.Views.State.{common_entries, own_entries, added_entries}
use Rattle.rdm_commands.specs.declared.placing.PlaceError.TheVariants.{NoValue}
use Rattle.rdm_commands.specs.Commands.Placing.{own_refusal, own_placed}
use Rattle.rdm_commands.proofs.PlacesOwn.{ok_viewed}
use Rattle.rdm_commands.proofs.commands.Devices.place_at_root.Goals as goal

pub returns-in-Some-clause-refused : goal.returns-in-Some-clause-refused
returns-in-Some-clause-refused c =
    let here : Some c.in-Some.def.now ≡ find (is_pid_of c.args.pid) c.args.self.now.profile.particulars.own = search rules in
    c.place_parameter.ensures.refused ∙ ap (λ (o : Option ParameterDef). option_map_or (λ d. own_refusal d c.args.data.now) o (Some NoValue)) here

pub returns-in-Some-clause-after : goal.returns-in-Some-clause-after
returns-in-Some-clause-after c =
    let inside = c.self.inside in
    let here : Some c.in-Some.def.now ≡ find (is_pid_of c.args.pid) c.args.self.now.profile.particulars.own = search rules in
    let now : Parameters = record { profile = inside.profile.value; root = common_entries inside.root ++ own_entries inside.own; added = added_entries inside.own.added.items; subs = map common_entries inside.subs.items } in
    let new : Parameters = record now { root = common_entries inside.root ++ own_entries c.place_parameter.new.own; added = added_entries c.place_parameter.new.own.added.items } in
    let is : now ≡ c.args.self.now = c.self.view_is in
    subst (λ (q : Parameters). Some c.in-Some.def.now ≡ find (is_pid_of c.args.pid) q.profile.particulars.own → OnOk c.place_parameter.result (new ≡ option_map_or (λ d. own_placed q d c.args.data.now) (find (is_pid_of c.args.pid) q.profile.particulars.own) q)) is
    (λ e. ok_viewed c.place_parameter.result now (common_entries inside.root ++ own_entries c.place_parameter.new.own) (added_entries c.place_parameter.new.own.added.items) c.in-Some.def.now c.args.data.now (find (is_pid_of c.args.pid) now.profile.particulars.own) (search rules) c.place_parameter.ensures.after e) here
