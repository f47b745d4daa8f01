use Rattle.std.proofs.Common.{arith, sym, ◌+◌, drop}
use Rattle.std.proofs.lemmas.List.{take_all, length-drop}
use Rattle.rdm_script.proofs.Words.{words_go_on, words_end}
use Rattle.rdm_script.proofs.grammar.words.words_of.Goals as goal

pub loop-end-preserved : goal.loop-end-preserved
loop-end-preserved c =
    let rest = c.loop-end.rest.now in
    let behind = c.in-Some.end + 1 in
    record {
      front = words_go_on c.args.spelling c.loop-end.words.items c.keep_word.new.words.items c.args.line.now rest _ c.in-Some.end (sym c.in-Some.ensures.end) (take_all _ (drop behind rest) (omega (arith, length-drop behind rest))) c.keep_word.ensures.kept c.loop-end.invariant.front;
      within = c.keep_word.ensures.within;
      room = omega (arith, length-drop behind rest);
    }

pub returns : goal.returns
returns c = words_end c.args.spelling c.loop-end.words.items c.keep_word-2.new.words.items c.args.line.now c.loop-end.rest.now (sym c.in_default.ensures.end) c.keep_word-2.ensures.within c.keep_word-2.ensures.kept c.loop-end.invariant.front
