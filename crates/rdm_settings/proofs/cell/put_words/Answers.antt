use Rattle.std.proofs.Common.{arith, sym, ◌+◌, drop}
use Rattle.std.proofs.lemmas.List.{take_all, length-drop}
use Rattle.rdm_settings.proofs.Pieces.{words_go_on, words_end}
use Rattle.rdm_settings.proofs.cell.put_words.Goals as goal

pub loop-end-preserved : goal.loop-end-preserved
loop-end-preserved c =
    let rest = c.loop-end.rest.now in
    let behind = c.in-Some.end + 1 in
    record {
      told = words_go_on _ _ _ rest _ c.in-Some.end (sym c.in-Some.ensures.end) (take_all _ (drop behind rest) (omega (arith, length-drop behind rest))) c.in_ok-put_word.ensures c.loop-end.invariant.told;
      room = omega (arith, length-drop behind rest);
    }

pub returns : goal.returns
returns c = words_end _ _ _ c.loop-end.rest.now (sym c.in_default.ensures.end) c.in_ok-put_word-2.ensures c.loop-end.invariant.told
