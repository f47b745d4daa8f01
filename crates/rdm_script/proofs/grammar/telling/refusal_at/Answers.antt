use Rattle.std.proofs.Common.{◌+◌, ◌-◌, ◌∙◌, ◌≡◌, ◌||◌, not, ap, length, drop, refl, sym, arith}
use Rattle.rdm_script.specs.Dialects.{Dialect}
use Rattle.rdm_script.specs.Grammar.{is_skipped, words_of}
use Rattle.std.proofs.lemmas.List.{take_all, length-drop}
use Rattle.rdm_script.proofs.Refused.{told_first, told_last, next_line}
use Rattle.rdm_script.proofs.grammar.telling.refusal_at.Goals as goal

pub loop-end-init : goal.loop-end-init
loop-end-init c =
    let none : c.args.number - c.args.number ≡ 0 = omega arith in
    record { within = omega arith; left = omega arith; some = λ h. h; rest = rw none refl; begun = rw none refl }

pub returns-then-left-le1-clause-told : goal.returns-then-left-le1-clause-told
returns-then-left-le1-clause-told c first =
    let d = c.args.dialect.now in
    told_first d c.args.text.now c.loop-end.rest.now c.args.number c.loop-end.left _ c.in-Some.end c.loop-end.begun c.without_return-line.result.now _ (sym c.in-Some.ensures.end) c.without_return-line.ensures.front (grind arith) c.loop-end.invariant.some c.loop-end.invariant.rest c.loop-end.invariant.begun c.refusal_of.ensures.told first

pub loop-end-preserved : goal.loop-end-preserved
loop-end-preserved c =
    let d = c.args.dialect.now in
    let rest = c.loop-end.rest.now in
    let behind = c.in-Some.end + 1 in
    let i = c.args.number - c.loop-end.left in
    let next = next_line d c.args.text.now rest i c.in-Some.end c.loop-end.begun c.without_return-line.result.now (drop behind rest) (sym c.in-Some.ensures.end) c.without_return-line.ensures.front refl c.loop-end.invariant.rest c.loop-end.invariant.begun in
    let at : c.args.number - (c.loop-end.left - 1) ≡ i + 1 = grind arith in
    let spelled = ap (λ (x : Dialect). c.loop-end.begun || not (is_skipped (words_of x.spelling c.without_return-line.result.now))) c.dialect.view_is in
    record {
      within = omega (arith, length-drop behind rest, c.loop-end.invariant.within);
      left = omega (arith, c.loop-end.invariant.left);
      some = λ _. grind arith;
      rest = rw (take_all (length rest - behind) (drop behind rest) (omega (arith, length-drop behind rest)), at) next.0;
      begun = rw at (c.begun_by-begun.ensures ∙ spelled ∙ next.1);
    }

pub returns-clause-told : goal.returns-clause-told
returns-clause-told c first =
    let d = c.args.dialect.now in
    told_last d c.args.text.now c.loop-end.rest.now c.args.number c.loop-end.left _ c.loop-end.begun _ (sym c.in_default.ensures.end) c.loop-end.invariant.left c.loop-end.invariant.some c.loop-end.invariant.rest c.loop-end.invariant.begun c.refusal_of-2.ensures.told first
