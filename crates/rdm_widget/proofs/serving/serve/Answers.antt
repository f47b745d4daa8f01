use Rattle.std.proofs.Common.{ℕ, ap, sym, subst, arith, length, ◌<◌, List}
use Rattle.rdm_widget.specs.declared.serving.ServeError.{ServeError}
use Rattle.rdm_widget.specs.declared.serving.ServeError.TheVariants.{Read, Write}
use Rattle.rdm_widget.proofs.Turns.{nothing_so_far, served_on, fails_on, all_served, still_served, as_fault}
use Rattle.rdm_widget.proofs.serving.serve.Goals as goal

pub loop-turn-init : goal.loop-turn-init
loop-turn-init g c = record {
  room = subst (λ (l : List ℕ). length l < 605) (sym c.new-held.ensures) (omega arith);
  served = λ s is.
      nothing_so_far g.C.Clock.tells g.L.OnLine.hearing c.args.clock.now (g.R.Read.remaining c.args.reader.now) (g.W.Write.contents c.args.writer.now) c.new-held.result s c.args.line.now
      c.new-held.ensures is;
}

pub loop-turn-preserved : goal.loop-turn-preserved
loop-turn-preserved g c = record {
  room = c.in-Ok.ensures.room;
  served = λ s is.
      served_on g.C.Clock.tells g.L.OnLine.hearing c.args.clock.now c.loop-turn.clock c.serve_some.new.clock
      (g.R.Read.remaining c.args.reader.now) (g.R.Read.remaining c.loop-turn.reader) (g.R.Read.remaining c.serve_some.new.reader)
      (g.W.Write.contents c.args.writer.now) (g.W.Write.contents c.loop-turn.writer) (g.W.Write.contents c.serve_some.new.writer)
      c.loop-turn.held c.serve_some.new.held c.in-Ok.count s c.loop-turn.line c.serve_some.new.line (c.loop-turn.invariant.served s is) c.in-Ok.ensures.ok;
}

pub returns-then-count-eq0-clause-ok : goal.returns-then-count-eq0-clause-ok
returns-then-count-eq0-clause-ok g c = λ s is.
    all_served g.C.Clock.tells g.L.OnLine.hearing c.args.clock.now c.serve_some.new.clock (g.R.Read.remaining c.args.reader.now) (g.R.Read.remaining c.serve_some.new.reader)
    (g.W.Write.contents c.args.writer.now) (g.W.Write.contents c.serve_some.new.writer) c.serve_some.new.held s c.serve_some.new.line
    (served_on g.C.Clock.tells g.L.OnLine.hearing c.args.clock.now c.loop-turn.clock c.serve_some.new.clock
    (g.R.Read.remaining c.args.reader.now) (g.R.Read.remaining c.loop-turn.reader) (g.R.Read.remaining c.serve_some.new.reader)
    (g.W.Write.contents c.args.writer.now) (g.W.Write.contents c.loop-turn.writer) (g.W.Write.contents c.serve_some.new.writer)
    c.loop-turn.held c.serve_some.new.held c.in-Ok.count s c.loop-turn.line c.serve_some.new.line (c.loop-turn.invariant.served s is) c.in-Ok.ensures.ok)

pub returns-in-Err-clause-write : goal.returns-in-Err-clause-write
returns-in-Err-clause-write g c = λ failed s is.
    fails_on g.C.Clock.tells g.L.OnLine.hearing c.args.clock.now c.loop-turn.clock c.serve_some.new.clock
    (g.R.Read.remaining c.args.reader.now) (g.R.Read.remaining c.loop-turn.reader) (g.R.Read.remaining c.serve_some.new.reader)
    (g.W.Write.contents c.args.writer.now) (g.W.Write.contents c.loop-turn.writer) (g.W.Write.contents c.serve_some.new.writer)
    c.loop-turn.held c.serve_some.new.held s c.loop-turn.line c.serve_some.new.line (c.loop-turn.invariant.served s is)
    (c.in-Err.ensures.write (ap (as_fault {A = Unit {0}} {B = ℕ} {E = ServeError} Write) failed))

pub returns-in-Err-clause-read : goal.returns-in-Err-clause-read
returns-in-Err-clause-read g c = λ failed s is.
    let stays = c.in-Err.ensures.read (ap (as_fault {A = Unit {0}} {B = ℕ} {E = ServeError} Read) failed) in
    still_served g.C.Clock.tells g.L.OnLine.hearing c.args.clock.now c.loop-turn.clock c.serve_some.new.clock
    (g.R.Read.remaining c.args.reader.now) (g.R.Read.remaining c.loop-turn.reader) (g.R.Read.remaining c.serve_some.new.reader)
    (g.W.Write.contents c.args.writer.now) (g.W.Write.contents c.loop-turn.writer) (g.W.Write.contents c.serve_some.new.writer)
    c.loop-turn.held s c.loop-turn.line c.serve_some.new.line stays.2 (ap (λ w. g.W.Write.contents w) stays.1) stays.3 stays.0
    (c.loop-turn.invariant.served s is)
