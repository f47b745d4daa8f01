use Rattle.std.proofs.Common.{rules, ◌≡◌, ◌==◌, ◌∙◌, true, false, ap}
use Rattle.std.specs.Prelude.{is_ok}
use Rattle.std.specs.List.{list_all}
use Rattle.rdm_profile.specs.declared.value.Value.{Value}
use Rattle.rdm_commands.specs.Commands.Commands.{addressed, is_some_device}
use Rattle.rdm_table.specs.Table.Rows.{command_of, row_of, is_left_out}
use Rattle.rdm_table.specs.Table.Kinds.{pid_of}
use Rattle.rdm_table.specs.Table.Uses.{access, in_range_of}
use Rattle.rdm_commands.proofs.OtherForms.{in_range_by}
use Rattle.rdm_commands.proofs.commands.Devices.in_range.Goals as goal

pub returns-then-is_ok : goal.returns-then-is_ok
returns-then-is_ok c =
    let stays : is_left_out c.args.self.now.profile (pid_of c.args.kind) ≡ false = search rules in
    let some : is_some_device (addressed c.args.self.now c.args.sub c.args.verb) ≡ true = search rules in
    let known : is_ok (access (row_of (pid_of c.args.kind)) (c.args.sub == 0) c.args.verb) ≡ true = search rules in
    let same : c.in-Some.argument ≡ c.args.value.now = search rules in
    in_range_by c.args.self.now c.args.sub c.args.kind c.args.verb c.args.value.now c.is_in_range_at.result stays some known (c.is_in_range_at.ensures ∙ ap (λ (v : Value). list_all (λ spot. in_range_of (command_of (pid_of c.args.kind) c.args.verb) spot v) (addressed c.args.self.now c.args.sub c.args.verb)) same)
