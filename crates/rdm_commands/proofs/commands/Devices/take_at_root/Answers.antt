use Rattle.std.proofs.Common.{rules, ◌≡◌, Some, ◌++◌, map, ◌||◌, List, sym, ap, subst, ◌∙◌}
use Rattle.rdm_table.specs.declared.kind.Verb.TheVariants.{Set}
use Rattle.rdm_added.specs.declared.state.Kept.{Kept}
use Rattle.rdm_profile.specs.declared.profile.Profile.{Profile}
use Rattle.rdm_added.specs.Locking.{is_set_locked}
use Rattle.rdm_added.specs.Parameters.{Parameters}
use Rattle.rdm_added.specs.Views.State.{common_entries, own_entries, added_entries}
use Rattle.rdm_commands.specs.Commands.Added.{row_here, handed_here}
use Rattle.rdm_commands.specs.Commands.Commands.{root_spot, is_read_only}
use Rattle.rdm_table.specs.Table.Rows.{added_row}
use Rattle.rdm_commands.proofs.AddedCommands.{IsTestOf}
use Rattle.rdm_commands.proofs.AddedRows.{parameter_here}
use Rattle.rdm_commands.proofs.BlockCommands.{taken_here}
use Rattle.rdm_commands.proofs.commands.Devices.take_at_root.Goals as goal

pub returns-in-Some : goal.returns-in-Some
returns-in-Some c =
    let inside = c.self.inside in
    let here : row_here c.args.self.now.profile 0x0140 ≡ Some (added_row c.in-Some.def.now) = search (rules, parameter_here) in
    let now : Parameters = record { profile = inside.profile.value; root = common_entries inside.root ++ own_entries inside.own; added = added_entries inside.own.added.items; subs = map common_entries inside.subs.items } in
    let is : now ≡ c.args.self.now = c.self.view_is in
    let row : row_here now.profile 0x0140 ≡ Some (added_row c.in-Some.def.now) = subst (λ (q : Parameters). row_here q.profile 0x0140 ≡ Some (added_row c.in-Some.def.now)) (sym is) here in
    let test : IsTestOf now 0x0140 c.args.data.now c.in-Some.def.now c.is_protected-protected.result c.is_no_pin-no_pin.result = (
      c.is_protected-protected.ensures
          ∙ ap (λ (profile : Profile). is_read_only profile.particulars.own 0x0140 c.args.data.now || is_set_locked profile.particulars.locks (added_entries c.as_slice-values.result.now) 0x0140) c.deref-in-Some.ensures
          ∙ ap (λ (values : List Kept). is_read_only inside.profile.value.particulars.own 0x0140 c.args.data.now || is_set_locked inside.profile.value.particulars.locks (added_entries values) 0x0140) c.as_slice-values.ensures.value,
      c.is_no_pin-no_pin.ensures,
    ) in
    subst (λ (q : Parameters). c.take_set.result ≡ handed_here (root_spot q) 0x0140 (row_here q.profile 0x0140) Set c.args.data.now) is
    (taken_here now c.args.data.now c.in-Some.def.now c.is_protected-protected.result c.is_no_pin-no_pin.result c.take_set.result row test c.take_set.ensures)
