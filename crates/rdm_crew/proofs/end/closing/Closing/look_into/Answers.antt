use Rattle.rdm_crew.specs.Workers.{in_turn}
use Rattle.rdm_crew.proofs.Ending.{not_astray, still_has_jobs}
use Rattle.rdm_crew.proofs.Runs.{fits_at}
use Rattle.rdm_crew.proofs.end.closing.Closing.look_into.Goals as goal

pub unreachable-requires : goal.unreachable-requires
unreachable-requires g c =
    let g0 = g.P.Part.gives c.args.self.first_worker.part.value in
    let g1 = g.Q.Part.gives c.args.self.second_worker.part.value in
    let fits = fits_at c.args.self.desk c.drain-drained.new.self g0 g1 c.drain-drained.ensures.same.0 c.requires.fits in
    absurd (not_astray (in_turn g.P.Part.gives g.P.Part.gives_after c.args.self.first_worker.part.value) (in_turn g.Q.Part.gives g.Q.Part.gives_after c.args.self.second_worker.part.value)
    c.args.self.first_worker.jobs.value c.args.self.second_worker.jobs.value c.args.self.first_worker.reports.value c.args.self.second_worker.reports.value
    c.args.self.first c.args.self.second c.drain-drained.new.self c.join-a.result c.join-b.result c.join-a.ensures c.join-b.ensures c.settle.ensures.first c.settle.ensures.second
    (still_has_jobs c.args.self.desk c.drain-drained.new.self c.args.self.first c.args.self.second c.drain-drained.ensures.same.0 c.drain-drained.ensures.system c.requires.suspect.1)
    g0 g1 (λ before j o given. given.0) (λ before j o given. given.0)
    c.started_work_is_its_command.ensures.get c.started_work_is_its_command.ensures.set fits.0 fits.1 c.in-Ok.ensures.suspect.0)
