use Rattle.std.proofs.Common.{rules, ◌≡◌, sym, ap, ◌∙◌, Bool, false, cond, length}
use Rattle.rdm_c.specs.Modes.{are_there}
use Rattle.rdm_c.proofs.ModeSteps.{length-own_slots}
use Rattle.rdm_c.proofs.profile.modes.ModeNumbers.own_count.Goals as goal

pub returns-else-are_there : goal.returns-else-are_there
returns-else-are_there c =
    let none : are_there c.args.self.now (length c.args.slots.now) ≡ false = search rules in
    sym (length-own_slots c.args.slots.now c.args.self.now ∙ ap (λ (b : Bool). cond b c.args.self.now.slot_count 47) none)
