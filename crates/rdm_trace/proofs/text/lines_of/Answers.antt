use Rattle.std.proofs.Common.{◌≡◌, ℕ, ◌+◌, ◌-◌, List, ◌∷◌, [], length, take, drop, arith, refl, sym, ◌∙◌, add-one}
use Rattle.std.proofs.lemmas.List.{take_all, length-drop}
use Rattle.std.proofs.lemmas.Result.{err_from_is_err_and}
use Rattle.rdm_trace.specs.Traces.{pieces_of}
use Rattle.rdm_trace.proofs.Traces.{pieces_more, pieces_last, next, read_more, unread, all_said, all_whole}
use Rattle.rdm_trace.proofs.text.lines_of.Goals as goal

pub returns-in_err-put_whole-clause-line : goal.returns-in_err-put_whole-clause-line
returns-in_err-put_whole-clause-line c = λ number is.
    let rest = c.loop-end.rest.now in
    let end = c.in-Some.end in
    let p = err_from_is_err_and c.from_residual.result c.from_residual.ensures.1 in
    let cause = c.in_err-put_whole.ensures.unread number cc in
    let left : drop c.loop-end.index (pieces_of c.args.trace.now) ≡ take end rest ∷ pieces_of (drop (end + 1) rest) = sym c.loop-end.invariant.left ∙ pieces_more rest end (sym c.in-Some.ensures.end) in
    unread (pieces_of c.args.trace.now) c.loop-end.index number (take end rest) _ c.loop-end.lines.items (next _ _ _ _ left) cause.0 cause.1 cause.2 c.loop-end.invariant.read

pub loop-end-preserved : goal.loop-end-preserved
loop-end-preserved c =
    let rest = c.loop-end.rest.now in
    let end = c.in-Some.end in
    let behind = end + 1 in
    let left : drop c.loop-end.index (pieces_of c.args.trace.now) ≡ take end rest ∷ pieces_of (drop behind rest) = sym c.loop-end.invariant.left ∙ pieces_more rest end (sym c.in-Some.ensures.end) in
    let here = next (pieces_of c.args.trace.now) c.loop-end.index (take end rest) (pieces_of (drop behind rest)) left in
    let later : drop (c.loop-end.index + 1) (pieces_of c.args.trace.now) ≡ pieces_of (drop behind rest) = rw add-one here.behind in
    record {
      left = rw (take_all (length rest - behind) (drop behind rest) (omega (arith, length-drop behind rest))) (sym later);
      read = rw (c.in_ok-put_whole.ensures.said, add-one) (read_more _ _ _ _ _ here c.in_ok-put_whole.ensures.line c.loop-end.invariant.read);
      within = omega (arith, length-drop behind rest, c.in-Some.ensures.within, c.loop-end.invariant.within);
    }

pub returns-in_err-put_last-clause-line : goal.returns-in_err-put_last-clause-line
returns-in_err-put_last-clause-line c = λ number is.
    let rest = c.loop-end.rest.now in
    let p = err_from_is_err_and c.from_residual-in_err-put_last.result c.from_residual-in_err-put_last.ensures.1 in
    let cause = c.in_err-put_last.ensures.unread number cc in
    let left : drop c.loop-end.index (pieces_of c.args.trace.now) ≡ rest ∷ [] = sym c.loop-end.invariant.left ∙ pieces_last rest (sym c.in_default.ensures.end) in
    unread (pieces_of c.args.trace.now) c.loop-end.index number rest [] c.loop-end.lines.items (next _ _ _ _ left) cause.0 cause.1 cause.2 c.loop-end.invariant.read

pub returns : goal.returns
returns c =
    let rest = c.loop-end.rest.now in
    let left : drop c.loop-end.index (pieces_of c.args.trace.now) ≡ rest ∷ [] = sym c.loop-end.invariant.left ∙ pieces_last rest (sym c.in_default.ensures.end) in
    record {
      said = rw c.in_ok-put_last.ensures.said (all_said _ _ _ _ left c.loop-end.invariant.read);
      whole = all_whole _ _ _ c.loop-end.lines.items left c.loop-end.invariant.read;
      line = λ number is. absurd cc;
    }
