use Rattle.std.proofs.Common.{rules, ◌≡◌, refl, sym, ◌∙◌, ℕ, ◌≤◌, Some, None, map, subst}
use Rattle.std.proofs.lemmas.List.{length-map}
use Rattle.rdm_profile.specs.Modes.{shape_of}
use Rattle.rdm_profile.specs.Profiles.{AreGoodModes}
use Rattle.rdm_c.specs.Modes.{mode_in}
use Rattle.rdm_c.specs.Parameters.{choice_in, parameter_in}
use Rattle.rdm_c.specs.Profiles.{profile_in}
use Rattle.rdm_c.proofs.Many.{keeps_each, made_with}
use Rattle.rdm_c.proofs.ModeSteps.{have_few_slots}
use Rattle.rdm_c.proofs.profile.making.fault_of.Goals as goal

pub returns-in-Some-clause-good : goal.returns-in-Some-clause-good
returns-in-Some-clause-good c =
    let p = profile_in c.args.numbers.now c.args.parameters.now c.args.without.now c.args.choices.now c.args.modes.now c.args.slots.now in
    let first = c.in-Some.ensures.first c.args.modes.now c.args.slots.now in (
      λ e. absurd (let never : Some c.in-Some.fault ≡ None = e in cc),
      λ can. absurd (first.1 (keeps_each c.in-Some.fault p can)),
    )

pub returns-in-Some-clause-first : goal.returns-in-Some-clause-first
returns-in-Some-clause-first c = c.in-Some.ensures.first c.args.modes.now c.args.slots.now

pub returns-in-None-clause-good : goal.returns-in-None-clause-good
returns-in-None-clause-good c =
    let p = profile_in c.args.numbers.now c.args.parameters.now c.args.without.now c.args.choices.now c.args.modes.now c.args.slots.now in
    let none : c.fault_but_modes.result ≡ None = search rules in
    let shapes = map shape_of (map (mode_in c.args.slots.now) c.args.modes.now) in (
      λ e. made_with p (c.fault_but_modes.ensures.none c.args.modes.now c.args.slots.now none) (subst (λ (n : ℕ). AreGoodModes n shapes) c.personality_total.ensures (c.fault_of_modes.ensures.good.0 e)),
      λ can. c.fault_of_modes.ensures.good.1 (subst (λ (n : ℕ). AreGoodModes n shapes) (sym c.personality_total.ensures) can.1.modes),
    )

pub returns-in-None-clause-first : goal.returns-in-None-clause-first
returns-in-None-clause-first c =
    let p = profile_in c.args.numbers.now c.args.parameters.now c.args.without.now c.args.choices.now c.args.modes.now c.args.slots.now in
    let none : c.fault_but_modes.result ≡ None = search rules in
    c.fault_of_modes.ensures.first p (sym c.personality_total.ensures) refl (c.fault_but_modes.ensures.none c.args.modes.now c.args.slots.now none)

pub returns-in-None-clause-own : goal.returns-in-None-clause-own
returns-in-None-clause-own c =
    let none : c.fault_but_modes.result ≡ None = search rules in
    let kept = c.fault_but_modes.ensures.none c.args.modes.now c.args.slots.now none in
    λ e. subst (λ (n : ℕ). n ≤ 32) (length-map c.args.parameters.now parameter_in) kept.0.0.0.1

pub returns-in-None-clause-without : goal.returns-in-None-clause-without
returns-in-None-clause-without c =
    let none : c.fault_but_modes.result ≡ None = search rules in
    let kept = c.fault_but_modes.ensures.none c.args.modes.now c.args.slots.now none in
    let left_out = kept.0.0.0.0 in
    λ e. left_out.1.0

pub returns-in-None-clause-choices : goal.returns-in-None-clause-choices
returns-in-None-clause-choices c =
    let none : c.fault_but_modes.result ≡ None = search rules in
    let kept = c.fault_but_modes.ensures.none c.args.modes.now c.args.slots.now none in
    λ e. subst (λ (n : ℕ). n ≤ 64) (length-map c.args.choices.now choice_in) kept.0.0.3.count

pub returns-in-None-clause-modes : goal.returns-in-None-clause-modes
returns-in-None-clause-modes c e =
    let modes = map (mode_in c.args.slots.now) c.args.modes.now in
    let few = (c.fault_of_modes.ensures.good.0 e).count in
    subst (λ (n : ℕ). n ≤ 247) (length-map modes shape_of ∙ length-map c.args.modes.now (mode_in c.args.slots.now)) few

pub returns-in-None-clause-slots : goal.returns-in-None-clause-slots
returns-in-None-clause-slots c e =
    have_few_slots c.personality_total.result c.args.slots.now c.args.modes.now (c.fault_of_modes.ensures.good.0 e)
