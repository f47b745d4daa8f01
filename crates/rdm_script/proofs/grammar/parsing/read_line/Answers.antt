use Rattle.std.proofs.Common.{arith, sym, ◌∙◌}
use Rattle.rdm_script.specs.Grammar.{words_of}
use Rattle.rdm_script.proofs.Rooms.{search_fits}
use Rattle.rdm_script.proofs.grammar.parsing.read_line.Goals as goal

pub put_search-requires-clause-room : goal.put_search-requires-clause-room
put_search-requires-clause-room c =
    let four = search_fits c.args.dialect.now c.args.begun (words_of c.args.dialect.now.spelling c.args.line.now) c.in-Finds.device (sym c.line_of.ensures ∙ c.in-Finds.is) in
    omega (arith, four, c.requires.room)

pub put_search-requires-clause-lines_room : goal.put_search-requires-clause-lines_room
put_search-requires-clause-lines_room c =
    let four = search_fits c.args.dialect.now c.args.begun (words_of c.args.dialect.now.spelling c.args.line.now) c.in-Finds.device (sym c.line_of.ensures ∙ c.in-Finds.is) in
    omega (arith, four, c.requires.lines_room)

pub returns-in-Finds-clause-len : goal.returns-in-Finds-clause-len
returns-in-Finds-clause-len c =
    let four = search_fits c.args.dialect.now c.args.begun (words_of c.args.dialect.now.spelling c.args.line.now) c.in-Finds.device (sym c.line_of.ensures ∙ c.in-Finds.is) in
    omega (arith, four, c.put_search.ensures.len)

pub returns-in-Finds-clause-lines_len : goal.returns-in-Finds-clause-lines_len
returns-in-Finds-clause-lines_len c =
    let four = search_fits c.args.dialect.now c.args.begun (words_of c.args.dialect.now.spelling c.args.line.now) c.in-Finds.device (sym c.line_of.ensures ∙ c.in-Finds.is) in
    omega (arith, four, c.put_search.ensures.lines_len)
