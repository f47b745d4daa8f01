use Rattle.rdm_crew.proofs.Watching.{keeps}
use Rattle.rdm_crew.proofs.threads.watcher.watch_all.Goals as goal

pub loop-number-preserved : goal.loop-number-preserved
loop-number-preserved g c =
    let before = c.loop-number.invariant in
    let kept = keeps (g.N.Panel.offers c.args.panel) c.args.changes c.loop-number.changes c.put.new.post c.loop-number.number c.in-Some.change c.in-Ok.ensures before.1 before.2 before.3
    (before.0 c.loop-number.number c.in-Some.change c.in-Some.ensures.offers) in
    (λ n d offered. before.0 n d ((c.next.ensures.same n d).0 offered), kept.0, kept.1, kept.2)
