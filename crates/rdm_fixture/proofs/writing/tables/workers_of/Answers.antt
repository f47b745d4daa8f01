use Rattle.std.proofs.Common.{ap, refl}
use Rattle.toml.specs.View.{members_view}
use Rattle.toml.proofs.Views.{view-Table}
use Rattle.rdm_fixture.proofs.WrittenEntries.{workers_say, workers_plain}
use Rattle.rdm_fixture.proofs.writing.tables.workers_of.Goals as goal

pub returns-clause-says : goal.returns-clause-says
returns-clause-says c =
    rw (
      view-Table c.put_worker-4.new.table,
      c.in_ok-put_worker-4.ensures refl,
      c.in_ok-put_worker-3.ensures refl,
      c.in_ok-put_worker-2.ensures refl,
      c.in_ok-put_worker.ensures refl,
      ap members_view c.new-table.ensures.empty,
    )
    (workers_say c.args.workers.now)

pub returns-clause-plain : goal.returns-clause-plain
returns-clause-plain c =
    rw (
      view-Table c.put_worker-4.new.table,
      c.in_ok-put_worker-4.ensures refl,
      c.in_ok-put_worker-3.ensures refl,
      c.in_ok-put_worker-2.ensures refl,
      c.in_ok-put_worker.ensures refl,
      ap members_view c.new-table.ensures.empty,
    )
    (workers_plain c.args.workers.now)
