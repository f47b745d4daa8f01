use Rattle.std.proofs.Common.{drop, get_or, subst, sym, arith, ◌≡◌, ◌+◌, ◌++◌, ap, ◌∙◌}
use Rattle.std.proofs.lemmas.List.{length-drop}
use Rattle.rdm_trace.specs.declared.line.Line.{Line}
use Rattle.rdm_words.specs.declared.before.Before.{Before}
use Rattle.rdm_words.specs.Before.{before_all, after}
use Rattle.rdm_words.specs.Said.{TellsLine}
use Rattle.rdm_words.proofs.Telling.{ToldBefore, told_more, told_whole}
use Rattle.rdm_words.proofs.line_words.words_of_lines.Goals as goal

pub loop-line-preserved : goal.loop-line-preserved
loop-line-preserved c =
    let lines = c.args.lines.now in
    let before = c.loop-line.before in
    let told = c.in_ok-put_line_words.ensures.told in
    let next : c.then.new.self ≡ after (get_or lines c.loop-line.line-index c.line-item.result) before =
    c.then.ensures ∙ ap (λ (l : Line). after l before) c.line-item.is in
    rw told.2 (subst (λ (b : Before). ToldBefore before_all lines b (drop (c.loop-line.line-index + 1) lines) (c.loop-line.out.items ++ told.0)) (sym next)
    (told_more before_all before lines c.loop-line.line-index c.line-item.result c.loop-line-test.true c.loop-line.out.items told.0
    (subst (λ (l : Line). TellsLine before l told.0) c.line-item.is told.1) c.loop-line.invariant))

pub returns : goal.returns
returns c =
    let lines = c.args.lines.now in
    record { told = told_whole before_all c.loop-line.before lines (drop c.loop-line.line-index lines) c.loop-line.out.items (omega (arith, length-drop c.loop-line.line-index lines, c.loop-line-test.false)) c.loop-line.invariant }
