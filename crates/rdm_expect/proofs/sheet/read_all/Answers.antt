use Rattle.std.proofs.Common.{map, arith}
use Rattle.std.proofs.lemmas.Result.{err_from_is_err_and}
use Rattle.rdm_expect.proofs.Steps.{first_flaw, read_next, there, whole_all}
use Rattle.rdm_expect.proofs.sheet.read_all.Goals as goal

pub returns-in_err-sent-clause-line : goal.returns-in_err-sent-clause-line
returns-in_err-sent-clause-line c = λ number flaw is.
    let p = err_from_is_err_and c.from_residual-in_err-sent.result c.from_residual-in_err-sent.ensures.1 in
    let cause = c.in_err-sent.ensures.flaw number flaw cc in
    first_flaw (map (λ piece. piece.now) c.args.pieces.now) c.loop-index.index c.loop-index.sent number c.loop-index.sheet.script.items c.loop-index.sheet.expectations.items _ flaw
    (there c.args.pieces.now c.loop-index.index _ c.loop-index-test.true) cause.0 cause.1 c.loop-index.invariant.read

pub loop-index-preserved : goal.loop-index-preserved
loop-index-preserved c =
    let told = c.in_ok-sent.ensures in
    record {
      within = omega (arith, c.loop-index-test.true);
      few = omega (arith, c.loop-index.invariant.few, told.sends.1);
      read = read_next (map (λ piece. piece.now) c.args.pieces.now) c.loop-index.index c.loop-index.sent c.in_ok-sent.field-0 c.loop-index.sheet.script.items c.separate.new.script.items c.read_line.new.sheet.script.items _ c.loop-index.sheet.expectations.items c.read_line.new.sheet.expectations.items
          (there c.args.pieces.now c.loop-index.index _ c.loop-index-test.true) told.flawless c.in_ok-separate.ensures told.script told.whole told.sends.0 c.loop-index.invariant.read;
    }

pub returns-clause-whole : goal.returns-clause-whole
returns-clause-whole c = whole_all c.args.pieces.now c.loop-index.index c.loop-index.sent c.loop-index.sheet.script.items c.loop-index.sheet.expectations.items c.loop-index.invariant.within c.loop-index-test.false c.loop-index.invariant.read
