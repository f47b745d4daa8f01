use Rattle.std.proofs.Common.{rules, ◌≡◌, sym, ◌∙◌, List, Some, None, map, subst}
use Rattle.rdm_profile.specs.declared.profile.own.ParameterDef.{ParameterDef}
use Rattle.rdm_profile_rules.specs.Faults.{KeepsOwn}
use Rattle.rdm_profile.specs.Profiles.{Agree, AreGoodLocks}
use Rattle.rdm_c.specs.Parameters.{choice_in, lock_in, parameter_in}
use Rattle.rdm_c.proofs.Many.{before_names, good_own, keeps_own}
use Rattle.rdm_c.proofs.profile.making.fault_of_few.Goals as goal

pub returns-in-Some-clause-good : goal.returns-in-Some-clause-good
returns-in-Some-clause-good c =
    let same : c.as_slice.result.now ≡ map parameter_in c.args.parameters.now = search rules in
    let is : c.own_fault.result ≡ Some c.in-Some.fault = search rules in (
      λ e. absurd (let never : Some c.in-Some.fault ≡ None = e in cc),
      λ good. sym is ∙ c.own_fault.ensures.good.1 (subst (λ (ds : List ParameterDef). KeepsOwn ds) (sym same) (keeps_own _ _ good.0)),
    )

pub returns-in-None-clause-good : goal.returns-in-None-clause-good
returns-in-None-clause-good c =
    let same : c.as_slice.result.now ≡ map parameter_in c.args.parameters.now = search rules in
    let again : c.as_slice-in-None.result.now ≡ map parameter_in c.args.parameters.now = search rules in
    let none : c.own_fault.result ≡ None = search rules in
    let names = map choice_in c.args.choices.now in
    let locks = map lock_in c.args.locks.now in
    let own = subst (λ (ds : List ParameterDef). KeepsOwn ds) same (c.own_fault.ensures.good.0 none) in (
      λ e.
          let beside = subst (λ (ds : List ParameterDef). Agree ds names × AreGoodLocks c.args.without.now ds locks) again (c.fault_beside.ensures.good.0 e) in
          (good_own _ names own beside.0, beside.1),
      λ good. c.fault_beside.ensures.good.1 (subst (λ (ds : List ParameterDef). Agree ds names × AreGoodLocks c.args.without.now ds locks) (sym again) (good.0.agree, good.1)),
    )

pub returns-in-None-clause-first : goal.returns-in-None-clause-first
returns-in-None-clause-first c p has left_out =
    let same : c.as_slice.result.now ≡ map parameter_in c.args.parameters.now = search rules in
    let again : c.as_slice-in-None.result.now ≡ map parameter_in c.args.parameters.now = search rules in
    let none : c.own_fault.result ≡ None = search rules in
    let own = subst (λ (ds : List ParameterDef). KeepsOwn ds) same (c.own_fault.ensures.good.0 none) in
    c.fault_beside.ensures.first p (has.0 ∙ sym again, has.1, has.2, has.3) (before_names p _ has.0 left_out own)
