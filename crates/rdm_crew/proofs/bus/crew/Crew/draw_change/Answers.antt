use Rattle.std.proofs.Common.{refl}
use Rattle.rdm_crew.proofs.Changing.{one_taken}
use Rattle.rdm_crew.proofs.bus.crew.Crew.draw_change.Goals as goal

pub returns-in-Some-clause-changes : goal.returns-in-Some-clause-changes
returns-in-Some-clause-changes g c =
    one_taken c.args.self.now (record c.args.self.now { changes = c.next_change.new.changes }) c.change.new.self c.in_ok-change.field-0 c.in-Some.change c.change.result
    c.in-Some.is refl c.in_ok-change.ensures.taken c.next_change.ensures.same c.change.ensures.played c.change.ensures.changes c.requires.changes
