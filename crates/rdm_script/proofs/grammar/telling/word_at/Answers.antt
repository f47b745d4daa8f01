use Rattle.std.proofs.Common.{◌+◌, ◌-◌, length, drop, sym, arith, inl, inr}
use Rattle.std.proofs.lemmas.List.{take_all, length-drop}
use Rattle.rdm_script.proofs.Refused.{passes_word, passes_none, found_word, found_last, none_found}
use Rattle.rdm_script.proofs.grammar.telling.word_at.Goals as goal
use Rattle.rdm_script.proofs.grammar.telling.word_at.Goals.{then-end-gt0+else-left-eq0, else-end-gt0, then-is_empty-via-then-is_empty, then-is_empty-via-else-is_empty+then-left-gt0}

pub returns-then-left-eq0 : goal.returns-then-left-eq0
returns-then-left-eq0 c =
    let line = c.args.line.now in
    let rest = c.loop-end.rest.now in
    let begins = found_word c.args.spelling line rest c.args.index c.loop-end.left c.in-Some.end (sym c.in-Some.ensures.end) c.in-Some.ensures.within (grind arith) (grind arith) c.loop-end.invariant in
    (rw c.saturating_sub.ensures begins, grind arith)

pub loop-end-preserved : goal.loop-end-preserved
loop-end-preserved c =
    let line = c.args.line.now in
    let rest = c.loop-end.rest.now in
    let behind = c.in-Some.end + 1 in
    elim c.if-end-gt0.branch [
      | then-end-gt0+else-left-eq0 w ↦ rw (w.left-is, take_all (length rest - behind) (drop behind rest) (omega (arith, length-drop behind rest)))
          (passes_word c.args.spelling line rest c.args.index c.loop-end.left c.in-Some.end (sym c.in-Some.ensures.end) c.in-Some.ensures.within (grind arith) (grind arith) c.loop-end.invariant)
      | else-end-gt0 w ↦ rw (w.left-is, take_all (length rest - behind) (drop behind rest) (omega (arith, length-drop behind rest)))
          (passes_none c.args.spelling line rest c.args.index c.loop-end.left c.in-Some.end (sym c.in-Some.ensures.end) c.in-Some.ensures.within (grind arith) c.loop-end.invariant)
    ]

pub returns-then-is_empty : goal.returns-then-is_empty
returns-then-is_empty c =
    let line = c.args.line.now in
    let rest = c.loop-end.rest.now in
    elim c.then-is_empty.branch [
      | then-is_empty-via-then-is_empty w ↦ none_found c.args.spelling line rest c.args.index c.loop-end.left (sym c.in_default.ensures.end) (inl (grind arith)) c.loop-end.invariant
      | then-is_empty-via-else-is_empty+then-left-gt0 w ↦ none_found c.args.spelling line rest c.args.index c.loop-end.left (sym c.in_default.ensures.end) (inr (grind arith)) c.loop-end.invariant
    ]

pub returns : goal.returns
returns c =
    let line = c.args.line.now in
    let rest = c.loop-end.rest.now in
    (rw c.saturating_sub-2.ensures (found_last c.args.spelling line rest c.args.index c.loop-end.left (sym c.in_default.ensures.end) (grind arith) (grind arith) c.loop-end.invariant), grind arith)
