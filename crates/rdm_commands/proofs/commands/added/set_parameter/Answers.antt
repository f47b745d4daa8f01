use Rattle.std.proofs.Common.{sym, ◌∙◌}
use Rattle.std.proofs.lemmas.Result.{IfOk-at_ok}
use Rattle.rdm_profile.specs.Forms.{value_in}
use Rattle.rdm_profile.specs.OwnParameters.{form_of}
use Rattle.rdm_added.specs.Views.State.{added_entries}
use Rattle.rdm_commands.specs.Commands.Commands.{open_to}
use Rattle.rdm_commands.proofs.AddedCommands.{set_keeps}
use Rattle.rdm_commands.proofs.commands.added.set_parameter.Goals as goal

pub returns-in-Ok-clause-added : goal.returns-in-Ok-clause-added
returns-in-Ok-clause-added c spot same =
    set_keeps c.args.def.now (open_to c.args.protected c.args.no_pin) spot c.args.data.now (value_in (form_of c.args.def.now.shape) c.args.data.now) (added_entries c.args.own.now.added.items) (added_entries c.store_number.new.own.added.items) (sym (IfOk-at_ok _ c.in-Ok.is c.take_number.ensures.ok spot)) same (c.store_number.ensures.after spot)

pub returns-in-Ok-take_set-clause-added : goal.returns-in-Ok-take_set-clause-added
returns-in-Ok-take_set-clause-added c spot same =
    set_keeps c.args.def.now (open_to c.args.protected c.args.no_pin) spot c.args.data.now c.in-Ok-take_set.value (added_entries c.args.own.now.added.items) (added_entries c.store_set.new.own.added.items) (sym c.in-Ok-take_set.is ∙ c.take_set.ensures spot same) same (c.store_set.ensures.after spot same)
