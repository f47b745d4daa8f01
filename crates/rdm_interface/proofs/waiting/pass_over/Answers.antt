use Rattle.std.proofs.Common.{◌++◌, length-append, arith}
use Rattle.std.proofs.KnownBytes.{Consumes-trans}
use Rattle.rdm_interface.proofs.waiting.pass_over.Goals as goal

pub loop-turn-preserved : goal.loop-turn-preserved
loop-turn-preserved g c =
    let before = c.loop-turn.invariant in
    let came = c.in-Ok.ensures.bytes in (
      before.0 ++ came.0,
      Consumes-trans (g.R.Read.remaining c.args.reader.now) (g.R.Read.remaining c.loop-turn.reader) (g.R.Read.remaining c.take_more.new.reader) before.0 came.0 before.1 came.3,
    )

pub returns-then-passed-from-clause-some : goal.returns-then-passed-from-clause-some
returns-then-passed-from-clause-some g c = λ e.
    let before = c.loop-turn.invariant in
    let came = c.in-Ok.ensures.bytes in (
      before.0 ++ came.0,
      omega (arith, length-append before.0 came.0, came.2, c.if-count-eq0.false),
      Consumes-trans (g.R.Read.remaining c.args.reader.now) (g.R.Read.remaining c.loop-turn.reader) (g.R.Read.remaining c.take_more.new.reader) before.0 came.0 before.1 came.3,
    )
