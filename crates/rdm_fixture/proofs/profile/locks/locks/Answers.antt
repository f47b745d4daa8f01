use Rattle.std.proofs.Common.{◌≡◌, ◌<◌, List, length, inl, inr, sym, ap, ◌∙◌, subst, arith}
use Rattle.rdm_fixture.specs.declared.profile.locks.Locking.{Locking}
use Rattle.rdm_fixture.specs.Format.{IsLocking, AreLocks, all_locks}
use Rattle.rdm_fixture.proofs.OneFixture.{one_list, one_locking}
use Rattle.rdm_fixture_keys.proofs.Readings.{Reads-err}
use Rattle.rdm_fixture.proofs.profile.locks.locks.Goals as goal

-- A list that can't be read says no locks.
pub returns-in_err-states-clause-read : goal.returns-in_err-states-clause-read
returns-in_err-states-clause-read c =
    Reads-err (λ t xs. AreLocks t xs.items) _ _ c.from_residual.ensures.0 (λ xs h. c.in_err-states.ensures.read (record { items = h.states }) h.tables)

pub returns-in-None-clause-read : goal.returns-in-None-clause-read
returns-in-None-clause-read c = λ xs h.
    let same : h.states ≡ c.as_slice.result.now =
    one_list _ _ IsLocking 0 64 _ _ one_locking h.tables c.in_ok-states.ensures.read ∙ sym c.as_slice.ensures.value in
    let many : 64 < length (all_locks c.as_slice.result.now) = c.all_locks.ensures.none c.in-None.is in
    let few = h.few in
    let count = ap length (h.locked ∙ ap all_locks same) in
    absurd (omega (arith, many, few, count))

pub returns-in-None-clause-wrong : goal.returns-in-None-clause-wrong
returns-in-None-clause-wrong c =
    let read = c.in_ok-states.ensures.read in
    let Many : List Locking → Type 0 = λ ls. 64 < length (all_locks ls) in
    inr ((_, read), inl (c.in_ok-states.states.items, read, subst Many c.as_slice.ensures.value (c.all_locks.ensures.none c.in-None.is), c.at.ensures))

pub returns-in-Some-clause-read : goal.returns-in-Some-clause-read
returns-in-Some-clause-read c = record {
  states = c.in_ok-states.states.items;
  tables = c.in_ok-states.ensures.read;
  locked = c.in-Some.ensures.some ∙ ap all_locks c.as_slice.ensures.value;
  few = c.in-Some.ensures.few;
}
