use Rattle.std.proofs.Common.{◌≡◌, ◌∙◌, ◌+◌, ◌-◌, suc, sym, ap, subst, arith}
use Rattle.rdm_widget.specs.LiveFixtures.{IsIn, after_next, after_several}
use Rattle.rdm_widget.proofs.live_fixture.LiveFixture.report_ended.Goals as goal

pub loop-turn-init : goal.loop-turn-init
loop-turn-init c = λ s is.
    let all : c.outstanding-most.result - 0 ≡ c.outstanding-most.result = omega arith in
    (s, (is, ap (λ n. after_several n c.args.now s) all))

pub loop-turn-preserved : goal.loop-turn-preserved
loop-turn-preserved c = λ s is.
    let so = c.loop-turn.invariant s is in
    let fewer : suc (c.outstanding-most.result - (c.loop-turn._turn + 1)) ≡ c.outstanding-most.result - c.loop-turn._turn = omega arith in
    (after_next c.args.now so.0, (c.report_next.ensures so.0 so.1.0, ap (λ n. after_several n c.args.now so.0) fewer ∙ so.1.1))

pub returns : goal.returns
returns c = λ s is.
    let so = c.loop-turn.invariant s is in
    let none : c.outstanding-most.result - c.loop-turn._turn ≡ 0 = omega arith in
    subst (IsIn c.loop-turn.self)
    (ap (λ n. after_several n c.args.now so.0) (sym none) ∙ so.1.1 ∙ ap (λ n. after_several n c.args.now s) (c.outstanding-most.ensures s.history is.responder))
    so.1.0
