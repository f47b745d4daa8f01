use Rattle.std.proofs.Common.{rules}
use Rattle.rdm_added.specs.Added.{counted}
use Rattle.rdm_added.specs.Map.{lookup}
use Rattle.rdm_added.specs.Views.State.{added_entries}
use Rattle.rdm_added.proofs.KeptValues.{two_same}
use Rattle.rdm_added.proofs.added.setting.store_counted.Goals as goal

pub returns-clause-same : goal.returns-clause-same
returns-clause-same c =
    two_same c.args.pid c.args.bytes.now (counted (lookup (added_entries c.args.values.now.items) c.args.pid 1)) c.store_in-differs.result c.store_in-more.result c.either.result
    (added_entries c.args.values.now.items) (added_entries c.store_in-differs.new.values.items) (added_entries c.store_in-more.new.values.items)
    c.store_in-differs.ensures.after (search rules) c.store_in-differs.ensures.same c.store_in-more.ensures.same c.either.ensures
