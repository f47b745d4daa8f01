use Rattle.std.proofs.Common.{◌+◌, ◌-◌, length, drop, arith, refl, sym}
use Rattle.std.proofs.lemmas.List.{take_all, length-drop}
use Rattle.std.proofs.lemmas.Result.{err_from_is_err_and}
use Rattle.rdm_script.specs.Grammar.{said_by, lines_of}
use Rattle.rdm_script.proofs.Lines.{said_count, at_line, at_last, passes, fails, last_passes}
use Rattle.rdm_script.proofs.Rooms.{room_here, room_taken}
use Rattle.rdm_script.proofs.LinesRead.{steps_more, steps_last, set_more, set_last, finds_more, finds_last}
use Rattle.rdm_script.proofs.grammar.parsing.read_lines.Goals as goal

pub read_line-requires-clause-room : goal.read_line-requires-clause-room
read_line-requires-clause-room c =
    let text = c.args.text.now in
    let here = at_line c.args.dialect.now (said_by c.args.dialect.now (lines_of text)) c.loop-end.begun c.loop-end.rest.now c.loop-end.index c.in-Some.end c.without_return.result.now _ (sym c.in-Some.ensures.end) c.without_return.ensures.front refl c.loop-end.invariant.rest in
    room_here c.args.dialect.now.spelling _ _ _ _ (omega (arith, here.lt, said_count c.args.dialect.now text)) c.loop-end.invariant.len c.loop-end.invariant.room

pub read_line-requires-clause-lines_room : goal.read_line-requires-clause-lines_room
read_line-requires-clause-lines_room c =
    let text = c.args.text.now in
    let here = at_line c.args.dialect.now (said_by c.args.dialect.now (lines_of text)) c.loop-end.begun c.loop-end.rest.now c.loop-end.index c.in-Some.end c.without_return.result.now _ (sym c.in-Some.ensures.end) c.without_return.ensures.front refl c.loop-end.invariant.rest in
    room_here c.args.dialect.now.spelling _ _ _ _ (omega (arith, here.lt, said_count c.args.dialect.now text)) c.loop-end.invariant.lines_len c.loop-end.invariant.lines_room

pub returns-in_err-begun-clause-err : goal.returns-in_err-begun-clause-err
returns-in_err-begun-clause-err c =
    let text = c.args.text.now in
    let here = at_line c.args.dialect.now (said_by c.args.dialect.now (lines_of text)) c.loop-end.begun c.loop-end.rest.now c.loop-end.index c.in-Some.end c.without_return.result.now _ (sym c.in-Some.ensures.end) c.without_return.ensures.front refl c.loop-end.invariant.rest in
    let p = err_from_is_err_and c.from_residual.result c.from_residual.ensures.1 in
    rw (p.1, p.2, c.in_err-begun.ensures.err.0) (fails _ _ _ _ _ _ here c.in_err-begun.ensures.err.1 c.loop-end.invariant.said)

pub loop-end-preserved : goal.loop-end-preserved
loop-end-preserved c =
    let text = c.args.text.now in
    let rest = c.loop-end.rest.now in
    let behind = c.in-Some.end + 1 in
    let here = at_line c.args.dialect.now (said_by c.args.dialect.now (lines_of text)) c.loop-end.begun rest c.loop-end.index c.in-Some.end c.without_return.result.now (drop behind rest) (sym c.in-Some.ensures.end) c.without_return.ensures.front refl c.loop-end.invariant.rest in
    record {
      rest = rw (c.in_ok-begun.ensures.begun, take_all (length rest - behind) (drop behind rest) (omega (arith, length-drop behind rest))) here.rest;
      said = rw (c.in_ok-begun.ensures.setup, c.in_ok-begun.ensures.steps) (passes _ _ _ _ _ _ here c.in_ok-begun.ensures.sound c.loop-end.invariant.said);
      within = omega (arith, length-drop behind rest, c.in-Some.ensures.within, c.loop-end.invariant.within);
      len = room_taken c.args.dialect.now.spelling _ _ _ c.in_ok-begun.ensures.len c.loop-end.invariant.len;
      room = omega (arith, c.in_ok-begun.ensures.capacity, c.loop-end.invariant.room);
      lines = rw c.in_ok-begun.ensures.lines (steps_more _ _ _ _ _ _ here c.loop-end.invariant.lines);
      lines_len = room_taken c.args.dialect.now.spelling _ _ _ c.in_ok-begun.ensures.lines_len c.loop-end.invariant.lines_len;
      lines_room = omega (arith, c.in_ok-begun.ensures.lines_capacity, c.loop-end.invariant.lines_room);
      finds = rw c.in_ok-begun.ensures.finds (finds_more _ _ _ _ _ _ here c.loop-end.invariant.finds);
      setup_line = rw c.in_ok-begun.ensures.setup_line (set_more _ _ _ _ _ _ here c.loop-end.invariant.setup_line);
    }

pub read_line-requires-2-clause-room : goal.read_line-requires-2-clause-room
read_line-requires-2-clause-room c =
    let text = c.args.text.now in
    let here = at_last c.args.dialect.now (said_by c.args.dialect.now (lines_of text)) c.loop-end.begun c.loop-end.rest.now c.loop-end.index (sym c.in_default.ensures.end) c.loop-end.invariant.rest in
    room_here c.args.dialect.now.spelling _ _ _ _ (omega (arith, here.lt, said_count c.args.dialect.now text)) c.loop-end.invariant.len c.loop-end.invariant.room

pub read_line-requires-2-clause-lines_room : goal.read_line-requires-2-clause-lines_room
read_line-requires-2-clause-lines_room c =
    let text = c.args.text.now in
    let here = at_last c.args.dialect.now (said_by c.args.dialect.now (lines_of text)) c.loop-end.begun c.loop-end.rest.now c.loop-end.index (sym c.in_default.ensures.end) c.loop-end.invariant.rest in
    room_here c.args.dialect.now.spelling _ _ _ _ (omega (arith, here.lt, said_count c.args.dialect.now text)) c.loop-end.invariant.lines_len c.loop-end.invariant.lines_room

pub returns-in_err-read_line-clause-err : goal.returns-in_err-read_line-clause-err
returns-in_err-read_line-clause-err c =
    let text = c.args.text.now in
    let here = at_last c.args.dialect.now (said_by c.args.dialect.now (lines_of text)) c.loop-end.begun c.loop-end.rest.now c.loop-end.index (sym c.in_default.ensures.end) c.loop-end.invariant.rest in
    let p = err_from_is_err_and c.from_residual-in_err-read_line.result c.from_residual-in_err-read_line.ensures.1 in
    rw (p.1, p.2, c.in_err-read_line.ensures.err.0) (fails _ _ _ _ _ _ here c.in_err-read_line.ensures.err.1 c.loop-end.invariant.said)

pub returns-clause-ok : goal.returns-clause-ok
returns-clause-ok c =
    let text = c.args.text.now in
    let here = at_last c.args.dialect.now (said_by c.args.dialect.now (lines_of text)) c.loop-end.begun c.loop-end.rest.now c.loop-end.index (sym c.in_default.ensures.end) c.loop-end.invariant.rest in
    rw (c.in_ok-read_line.ensures.setup, c.in_ok-read_line.ensures.steps) (last_passes _ _ _ _ _ here c.in_ok-read_line.ensures.sound c.loop-end.invariant.said)

pub returns-clause-lines : goal.returns-clause-lines
returns-clause-lines c =
    let text = c.args.text.now in
    let here = at_last c.args.dialect.now (said_by c.args.dialect.now (lines_of text)) c.loop-end.begun c.loop-end.rest.now c.loop-end.index (sym c.in_default.ensures.end) c.loop-end.invariant.rest in
    rw c.in_ok-read_line.ensures.lines (steps_last _ _ _ _ _ here c.loop-end.invariant.lines)

pub returns-clause-setup_line : goal.returns-clause-setup_line
returns-clause-setup_line c =
    let text = c.args.text.now in
    let here = at_last c.args.dialect.now (said_by c.args.dialect.now (lines_of text)) c.loop-end.begun c.loop-end.rest.now c.loop-end.index (sym c.in_default.ensures.end) c.loop-end.invariant.rest in
    rw c.in_ok-read_line.ensures.setup_line (set_last _ _ _ _ _ here c.loop-end.invariant.setup_line)

pub returns-clause-finds : goal.returns-clause-finds
returns-clause-finds c =
    let text = c.args.text.now in
    let here = at_last c.args.dialect.now (said_by c.args.dialect.now (lines_of text)) c.loop-end.begun c.loop-end.rest.now c.loop-end.index (sym c.in_default.ensures.end) c.loop-end.invariant.rest in
    rw c.in_ok-read_line.ensures.finds (finds_last _ _ _ _ _ here c.loop-end.invariant.finds)
