use Rattle.std.proofs.Common.{rules, ◌≡◌, Some, ◌++◌, map, ◌||◌, true, Err, IfOk, IfErr, List, refl, sym, ap, subst, ◌∙◌}
use Rattle.std.specs.Prelude.{is_ok}
use Rattle.rdm_table.specs.declared.kind.Verb.TheVariants.{Set}
use Rattle.rdm_added.specs.declared.state.Kept.{Kept}
use Rattle.rdm_profile.specs.declared.profile.Profile.{Profile}
use Rattle.rdm_added.specs.Locking.{is_set_locked}
use Rattle.rdm_added.specs.Parameters.{Parameters}
use Rattle.rdm_added.specs.Views.State.{common_entries, own_entries, added_entries}
use Rattle.rdm_commands.specs.Commands.Added.{row_here, handed_here, after_here}
use Rattle.rdm_commands.specs.Commands.Commands.{root_spot, is_read_only}
use Rattle.rdm_table.specs.Table.Rows.{added_row}
use Rattle.rdm_commands.proofs.AddedCommands.{IsTestOf, set_ok_at, set_err_at, set_viewed}
use Rattle.rdm_commands.proofs.AddedRows.{parameter_here}
use Rattle.rdm_commands.proofs.commands.Devices.set_at_root.Goals as goal

pub returns-in-Some-clause-ok : goal.returns-in-Some-clause-ok
returns-in-Some-clause-ok c =
    let inside = c.self.inside in
    let here : row_here c.args.self.now.profile c.args.pid ≡ Some (added_row c.in-Some.def.now) = search (rules, parameter_here) in
    let now : Parameters = record { profile = inside.profile.value; root = common_entries inside.root ++ own_entries inside.own; added = added_entries inside.own.added.items; subs = map common_entries inside.subs.items } in
    let is : now ≡ c.args.self.now = c.self.view_is in
    let row : row_here now.profile c.args.pid ≡ Some (added_row c.in-Some.def.now) = subst (λ (q : Parameters). row_here q.profile c.args.pid ≡ Some (added_row c.in-Some.def.now)) (sym is) here in
    let test : IsTestOf now c.args.pid c.args.data.now c.in-Some.def.now c.is_protected-protected.result c.is_no_pin-no_pin.result = (
      c.is_protected-protected.ensures
          ∙ ap (λ (profile : Profile). is_read_only profile.particulars.own c.args.pid c.args.data.now || is_set_locked profile.particulars.locks (added_entries c.as_slice-values.result.now) c.args.pid) c.deref-in-Some.ensures
          ∙ ap (λ (values : List Kept). is_read_only inside.profile.value.particulars.own c.args.pid c.args.data.now || is_set_locked inside.profile.value.particulars.locks (added_entries values) c.args.pid) c.as_slice-values.ensures.value,
      c.is_no_pin-no_pin.ensures,
    ) in
    subst (λ (q : Parameters). IfOk c.set_parameter.result (λ u. is_ok (handed_here (root_spot q) c.args.pid (row_here q.profile c.args.pid) Set c.args.data.now) ≡ true)) is
    (set_ok_at now c.args.pid c.args.data.now c.in-Some.def.now c.is_protected-protected.result c.is_no_pin-no_pin.result c.set_parameter.result row test c.set_parameter.ensures.ok)

pub returns-in-Some-clause-err : goal.returns-in-Some-clause-err
returns-in-Some-clause-err c =
    let inside = c.self.inside in
    let here : row_here c.args.self.now.profile c.args.pid ≡ Some (added_row c.in-Some.def.now) = search (rules, parameter_here) in
    let now : Parameters = record { profile = inside.profile.value; root = common_entries inside.root ++ own_entries inside.own; added = added_entries inside.own.added.items; subs = map common_entries inside.subs.items } in
    let is : now ≡ c.args.self.now = c.self.view_is in
    let row : row_here now.profile c.args.pid ≡ Some (added_row c.in-Some.def.now) = subst (λ (q : Parameters). row_here q.profile c.args.pid ≡ Some (added_row c.in-Some.def.now)) (sym is) here in
    let test : IsTestOf now c.args.pid c.args.data.now c.in-Some.def.now c.is_protected-protected.result c.is_no_pin-no_pin.result = (
      c.is_protected-protected.ensures
          ∙ ap (λ (profile : Profile). is_read_only profile.particulars.own c.args.pid c.args.data.now || is_set_locked profile.particulars.locks (added_entries c.as_slice-values.result.now) c.args.pid) c.deref-in-Some.ensures
          ∙ ap (λ (values : List Kept). is_read_only inside.profile.value.particulars.own c.args.pid c.args.data.now || is_set_locked inside.profile.value.particulars.locks (added_entries values) c.args.pid) c.as_slice-values.ensures.value,
      c.is_no_pin-no_pin.ensures,
    ) in
    subst (λ (q : Parameters). IfErr c.set_parameter.result (λ nack. handed_here (root_spot q) c.args.pid (row_here q.profile c.args.pid) Set c.args.data.now ≡ Err nack)) is
    (set_err_at now c.args.pid c.args.data.now c.in-Some.def.now c.is_protected-protected.result c.is_no_pin-no_pin.result c.set_parameter.result row test c.set_parameter.ensures.err)

pub returns-in-Some-clause-after : goal.returns-in-Some-clause-after
returns-in-Some-clause-after c =
    let inside = c.self.inside in
    let here : row_here c.args.self.now.profile c.args.pid ≡ Some (added_row c.in-Some.def.now) = search (rules, parameter_here) in
    let now : Parameters = record { profile = inside.profile.value; root = common_entries inside.root ++ own_entries inside.own; added = added_entries inside.own.added.items; subs = map common_entries inside.subs.items } in
    let new : Parameters = record now { root = common_entries inside.root ++ own_entries c.set_parameter.new.own; added = added_entries c.set_parameter.new.own.added.items } in
    let is : now ≡ c.args.self.now = c.self.view_is in
    let row : row_here now.profile c.args.pid ≡ Some (added_row c.in-Some.def.now) = subst (λ (q : Parameters). row_here q.profile c.args.pid ≡ Some (added_row c.in-Some.def.now)) (sym is) here in
    let test : IsTestOf now c.args.pid c.args.data.now c.in-Some.def.now c.is_protected-protected.result c.is_no_pin-no_pin.result = (
      c.is_protected-protected.ensures
          ∙ ap (λ (profile : Profile). is_read_only profile.particulars.own c.args.pid c.args.data.now || is_set_locked profile.particulars.locks (added_entries c.as_slice-values.result.now) c.args.pid) c.deref-in-Some.ensures
          ∙ ap (λ (values : List Kept). is_read_only inside.profile.value.particulars.own c.args.pid c.args.data.now || is_set_locked inside.profile.value.particulars.locks (added_entries values) c.args.pid) c.as_slice-values.ensures.value,
      c.is_no_pin-no_pin.ensures,
    ) in
    subst (λ (q : Parameters). new ≡ record q { added = after_here (root_spot q) c.args.pid (row_here q.profile c.args.pid) c.args.data.now }) is
    (set_viewed now (common_entries inside.root ++ own_entries c.set_parameter.new.own) (added_entries c.set_parameter.new.own.added.items) c.args.pid c.args.data.now c.in-Some.def.now c.is_protected-protected.result c.is_no_pin-no_pin.result (search rules) (c.set_parameter.ensures.added (root_spot now) refl) row test)
