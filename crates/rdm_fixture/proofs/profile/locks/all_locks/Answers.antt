use Rattle.std.proofs.Common.{◌≡◌, ℕ, ◌++◌, List, get_or, length, sym, ap, ◌∙◌, arith}
use Rattle.rdm_profile.specs.declared.profile.locks.Lock.{Lock}
use Rattle.rdm_fixture.specs.Format.{locks_of}
use Rattle.rdm_fixture.proofs.Locks.{length_both, locks_count, all_more, all_grow}
use Rattle.rdm_fixture.proofs.profile.locks.all_locks.Goals as goal

pub returns-then-len-gt64-clause-none : goal.returns-then-len-gt64-clause-none
returns-then-len-gt64-clause-none c = λ _.
    let l = c.locking-item.result in
    let here : get_or c.args.states.now c.loop-locking.locking-index l ≡ l = sym c.locking-item.is in
    let grow = all_grow c.args.states.now c.loop-locking.locking-index l l c.loop-locking-test.true here in
    let size = ap (λ (xs : List Lock). length xs) c.loop-locking.invariant.locked in
    omega (arith, grow, size, c.len.ensures.value, c.len-in-loop-locking.ensures.value, c.if-len-gt64.true)

pub loop-locking-preserved : goal.loop-locking-preserved
loop-locking-preserved c =
    let l = c.locking-item.result in
    let here : get_or c.args.states.now c.loop-locking.locking-index l ≡ l = sym c.locking-item.is in
    let locked : c.lock_all.new.locks.items ≡ c.loop-locking.locks.items ++ locks_of l.state l.pids.items =
    c.lock_all.ensures ∙ ap (λ (ps : List ℕ). c.loop-locking.locks.items ++ locks_of l.state ps) c.as_slice.ensures.value in
    let size = ap (λ (xs : List Lock). length xs) locked in
    let both = length_both c.loop-locking.locks.items (locks_of l.state l.pids.items) in
    let count = locks_count l.state l.pids.items in
    record {
      locked = locked
          ∙ all_more c.args.states.now c.loop-locking.locking-index l l c.loop-locking.locks.items c.loop-locking-test.true c.loop-locking.invariant.locked here;
      few = omega (arith, size, both, count, c.len.ensures.value, c.len-in-loop-locking.ensures.value, c.if-len-gt64.false);
    }
