use Rattle.std.proofs.Common.{IfSome, subst}
use Rattle.rdm_profile.specs.declared.profile.Profile.{Profile}
use Rattle.rdm_profile_rules.specs.Faults.{IsFirstBroken}
use Rattle.rdm_profile_rules.proofs.FirstFaults.{same_profile}
use Rattle.rdm_profile_rules.proofs.faults.profile_fault.Goals as goal

pub returns-clause-first : goal.returns-clause-first
returns-clause-first c =
    subst (λ (p : Profile). IfSome c.profile_fault_with.result (λ fault. IsFirstBroken fault p)) (same_profile c.args.profile.now _ _ _ _ c.more_slots.ensures c.without.ensures.value c.own.ensures.value c.choices.ensures.value) c.profile_fault_with.ensures.first
