use Rattle.std.proofs.Common.{◌≡◌, sym, ◌+◌, ◌-◌, arith}
use Rattle.rdm_c.proofs.ModeSteps.{few_are_own, few_are_there}
use Rattle.rdm_c.proofs.profile.modes.ModeNumbers.own_slots.Goals as goal

pub slice_bounds-result-end : goal.slice_bounds-result-end
slice_bounds-result-end c =
    let within = few_are_there c.args.slots.now c.args.self.now c.requires in
    omega (arith, within, c.from-first.ensures, c.from.ensures)

pub returns-clause-value : goal.returns-clause-value
returns-clause-value c =
    let first : c.from-first.result ≡ c.args.self.now.first_slot = c.from-first.ensures in
    let count : c.from-first.result + c.from.result - c.from-first.result ≡ c.args.self.now.slot_count = omega (arith, c.from.ensures) in
    rw (count, first) (sym (few_are_own c.args.slots.now c.args.self.now c.requires))
