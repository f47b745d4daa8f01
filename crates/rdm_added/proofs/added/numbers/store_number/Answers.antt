use Rattle.std.proofs.Common.{rules}
use Rattle.rdm_added.specs.Views.State.{added_entries}
use Rattle.rdm_added.proofs.Numbers.{number_kept}
use Rattle.rdm_added.proofs.added.numbers.store_number.Goals as goal

pub returns-clause-after : goal.returns-clause-after
returns-clause-after c spot =
    number_kept c.args.def.now spot c.args.data.now (added_entries c.args.own.now.added.items) (added_entries c.store_slots.new.values.items) c.requires.number c.requires.long (search rules) c.store_slots.ensures.after
