use Rattle.std.proofs.Common.{◌≡◌, ◌+◌, ◌-◌, ℕ, List, length, take, drop, Some, ap, sym, ◌∙◌, arith, length-drop}
use Rattle.rdm_capture.specs.Numbers.{number}
use Rattle.rdm_capture.specs.Blocks.{option_in, padded}
use Rattle.rdm_capture.proofs.Finding.{option_cut, option_short, option_end, option_here, option_later}
use Rattle.rdm_capture.proofs.options.option_in.Goals as goal

pub returns-then-rest-size : goal.returns-then-rest-size
returns-then-rest-size c =
    sym (option_cut c.args.order c.args.code c.loop-rest.rest.now (omega (arith, c.if-rest-size.true, c.from-size.ensures, c.word_at.ensures))) ∙ c.loop-rest.invariant

pub returns-then-found-eq-END : goal.returns-then-found-eq-END
returns-then-found-eq-END c =
    sym (option_end c.args.order c.args.code c.loop-rest.rest.now (omega (arith, c.if-rest-size.false, c.from-size.ensures, c.word_at.ensures)) (omega (arith, c.word_at-found.ensures, c.if-found-eq-END.true)))
    ∙ c.loop-rest.invariant

pub returns-then-found-code : goal.returns-then-found-code
returns-then-found-code c =
    let t : List ℕ = c.loop-rest.rest.now in
    let size : c.from-size.result ≡ number c.args.order 2 (drop 2 t) = omega (arith, c.from-size.ensures, c.word_at.ensures) in
    let value : c.front.result.now ≡ take (number c.args.order 2 (drop 2 t)) (drop 4 t) =
    c.front.ensures ∙ ap (λ (l : List ℕ). take c.from-size.result l) c.behind.ensures ∙ ap (λ (n : ℕ). take n (drop 4 t)) size in
    ap (λ (l : List ℕ). Some l) value
    ∙ sym (option_here c.args.order c.args.code t (omega (arith, c.if-rest-size.false, size)) (λ e. omega (arith, e, c.word_at-found.ensures, c.if-found-eq-END.false)) (omega (arith, c.word_at-found.ensures, c.if-found-code.true)))
    ∙ c.loop-rest.invariant

pub loop-rest-smaller : goal.loop-rest-smaller
loop-rest-smaller c =
    let size : length c.behind-rest.result.now ≡ length c.loop-rest.rest.now - (4 + c.padded.result) =
    ap (λ (l : List ℕ). length l) c.behind-rest.ensures ∙ length-drop (4 + c.padded.result) c.loop-rest.rest.now in
    omega (arith, size, c.loop-rest-test.true)

pub loop-rest-preserved : goal.loop-rest-preserved
loop-rest-preserved c =
    let t : List ℕ = c.loop-rest.rest.now in
    let size : c.from-size.result ≡ number c.args.order 2 (drop 2 t) = omega (arith, c.from-size.ensures, c.word_at.ensures) in
    let rest : c.behind-rest.result.now ≡ drop (4 + padded (number c.args.order 2 (drop 2 t))) t =
    c.behind-rest.ensures ∙ ap (λ (n : ℕ). drop (4 + n) t) (c.padded.ensures ∙ ap (λ (n : ℕ). padded n) size) in
    ap (λ (l : List ℕ). option_in c.args.order c.args.code l) rest
    ∙ sym (option_later c.args.order c.args.code t (omega (arith, c.if-rest-size.false, size)) (λ e. omega (arith, e, c.word_at-found.ensures, c.if-found-eq-END.false)) (λ e. omega (arith, e, c.word_at-found.ensures, c.if-found-code.false)))
    ∙ c.loop-rest.invariant

pub returns : goal.returns
returns c = sym (option_short c.args.order c.args.code c.loop-rest.rest.now (omega (arith, c.loop-rest-test.false))) ∙ c.loop-rest.invariant
