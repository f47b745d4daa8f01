use Rattle.std.proofs.Common.{sym, subst}
use Rattle.rdm_responder.specs.StandsFor.{StandsFor}
use Rattle.rdm_crew.specs.Desks.{stands_at}
use Rattle.rdm_crew.specs.Workers.{in_turn}
use Rattle.rdm_crew.proofs.Ending.{first_answered, second_answered, handed, none_outstanding, never_missing}
use Rattle.rdm_crew.proofs.Watching.{offered_in}
use Rattle.rdm_crew.proofs.end.closing.Closing.finish.Goals as goal

pub returns-clause-first : goal.returns-clause-first
returns-clause-first g c =
    first_answered (in_turn g.P.Part.gives g.P.Part.gives_after c.args.self.first_worker.part.value) (in_turn g.Q.Part.gives g.Q.Part.gives_after c.args.self.second_worker.part.value)
    c.args.self.first_worker.jobs.value c.args.self.second_worker.jobs.value c.args.self.first_worker.reports.value c.args.self.second_worker.reports.value
    c.args.self.first c.args.self.second c.args.self.desk c.join-a.result c.join-b.result c.join-a.ensures c.join-b.ensures c.settle-reports.ensures.first c.settle-reports.ensures.second c.requires.jobs
    c.requires.drawn.0 c.requires.drawn.1 c.requires.lanes.first.posts c.if-first_refused.false

pub returns-clause-handed : goal.returns-clause-handed
returns-clause-handed g c =
    handed (in_turn g.P.Part.gives g.P.Part.gives_after c.args.self.first_worker.part.value) (in_turn g.Q.Part.gives g.Q.Part.gives_after c.args.self.second_worker.part.value)
    c.args.self.first_worker.jobs.value c.args.self.second_worker.jobs.value c.args.self.first_worker.reports.value c.args.self.second_worker.reports.value
    c.args.self.first c.args.self.second c.args.self.desk c.join-a.result c.join-b.result c.join-a.ensures c.join-b.ensures c.settle-reports.ensures.first c.settle-reports.ensures.second c.requires.jobs
    c.requires.drawn.0 c.requires.drawn.1

pub returns-clause-second : goal.returns-clause-second
returns-clause-second g c =
    second_answered (in_turn g.P.Part.gives g.P.Part.gives_after c.args.self.first_worker.part.value) (in_turn g.Q.Part.gives g.Q.Part.gives_after c.args.self.second_worker.part.value)
    c.args.self.first_worker.jobs.value c.args.self.second_worker.jobs.value c.args.self.first_worker.reports.value c.args.self.second_worker.reports.value
    c.args.self.first c.args.self.second c.args.self.desk c.join-a.result c.join-b.result c.join-a.ensures c.join-b.ensures c.settle-reports.ensures.first c.settle-reports.ensures.second c.requires.jobs
    c.requires.drawn.0 c.requires.drawn.1 c.requires.lanes.second.posts c.if-second_refused.false

pub unreachable-requires : goal.unreachable-requires
unreachable-requires g c =
    let g0 = in_turn g.P.Part.gives g.P.Part.gives_after c.args.self.first_worker.part.value in
    let g1 = in_turn g.Q.Part.gives g.Q.Part.gives_after c.args.self.second_worker.part.value in
    let first = first_answered g0 g1
    c.args.self.first_worker.jobs.value c.args.self.second_worker.jobs.value c.args.self.first_worker.reports.value c.args.self.second_worker.reports.value
    c.args.self.first c.args.self.second c.args.self.desk c.join-a.result c.join-b.result c.join-a.ensures c.join-b.ensures c.settle-reports.ensures.first c.settle-reports.ensures.second c.requires.jobs
    c.requires.drawn.0 c.requires.drawn.1 c.requires.lanes.first.posts c.if-first_refused.false in
    let second = second_answered g0 g1
    c.args.self.first_worker.jobs.value c.args.self.second_worker.jobs.value c.args.self.first_worker.reports.value c.args.self.second_worker.reports.value
    c.args.self.first c.args.self.second c.args.self.desk c.join-a.result c.join-b.result c.join-a.ensures c.join-b.ensures c.settle-reports.ensures.first c.settle-reports.ensures.second c.requires.jobs
    c.requires.drawn.0 c.requires.drawn.1 c.requires.lanes.second.posts c.if-second_refused.false in
    let history = (stands_at c.args.self.desk).history in
    let stands = c.requires.drawn.0.run.1.stands.responder in
    absurd (never_missing c.outstanding.result _ (c.outstanding.ensures history (subst (λ r. StandsFor r history) (sym c.responder.ensures) stands)) (none_outstanding c.args.self.desk g0 g1 c.requires.drawn.0 first second) c.if-outstanding-gt0.true)

pub returns-clause-changes : goal.returns-clause-changes
returns-clause-changes g c =
    offered_in (g.N.Panel.offers c.args.self.watcher.panel.value) c.args.self.desk c.args.self.changes c.args.self.watcher.changes.value c.join-watched.result c.requires.changes.0 c.settle_one.ensures c.join-watched.ensures
