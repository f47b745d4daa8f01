use Rattle.std.proofs.Common.{◌+◌, ◌-◌, length, drop, arith, sym}
use Rattle.std.proofs.lemmas.List.{take_all, length-drop}
use Rattle.std.proofs.lemmas.Bool.{eqb-true, eqb-false}
use Rattle.rdm_words.specs.Before.{before_all}
use Rattle.rdm_words.proofs.Lines.{said_more, said_last, said_whole}
use Rattle.rdm_words.proofs.line_words.words.Goals as goal

pub loop-end-preserved : goal.loop-end-preserved
loop-end-preserved c =
    let text = c.args.text.now in
    let rest = c.loop-end.rest.now in
    let behind = c.in-Some.end + 1 in
    let said = c.in_ok-put_text_line.ensures.said in
    rw (take_all (length rest - behind) (drop behind rest) (omega (arith, length-drop behind rest)), said.2)
    (said_more before_all c.loop-end.before c.put_text_line.new.before text rest c.without_return.result.now c.loop-end.out.items said.0 c.in-Some.end (sym c.in-Some.ensures.end) c.without_return.ensures.front said.1 c.in_ok-put_text_line.ensures.behind c.loop-end.invariant)

pub returns-then-is_empty : goal.returns-then-is_empty
returns-then-is_empty c =
    let rest = c.loop-end.rest.now in
    record { said = said_whole before_all c.loop-end.before c.args.text.now rest c.loop-end.out.items (eqb-true (length rest) 0 (sym c.if-is_empty.ensures)) c.loop-end.invariant }

pub returns : goal.returns
returns c =
    let rest = c.loop-end.rest.now in
    let said = c.in_ok-put_text_line-2.ensures.said in
    record { said = rw said.2 (said_last before_all c.loop-end.before c.args.text.now rest c.loop-end.out.items said.0 (sym c.in_default.ensures.end) (eqb-false (length rest) 0 (sym c.if-is_empty.ensures)) said.1 c.loop-end.invariant) }
