use Rattle.std.proofs.Common.{rules, ◌≡◌, refl, IsTrue, None}
use Rattle.rdm_profile_rules.specs.Faults.{KeepsOwn, with_parameters}
use Rattle.rdm_profile.specs.LeftOut.{leave_no_need}
use Rattle.rdm_profile.specs.Profiles.{Agree}
use Rattle.rdm_profile_rules.proofs.faults.parameter_fault.Goals as goal

pub returns-then-not-agree-clause-first : goal.returns-then-not-agree-clause-first
returns-then-not-agree-clause-first c p more_slots same others =
    let needs : IsTrue (leave_no_need c.args.without.now) = search rules in
    let none : c.own_fault.result ≡ None = search rules in
    let broken : ¬ Agree c.args.own.now c.args.choices.now = search rules in
    let own : KeepsOwn c.args.own.now = c.own_fault.ensures.good.0 none in
    ((((others, c.are_optional.ensures.0 c.if-not-are_optional.false, needs), own.0, own.1, own.2, own.3, own.4), own.5, own.6), broken)

pub returns-clause-good : goal.returns-clause-good
returns-clause-good c =
    let needs : IsTrue (leave_no_need c.args.without.now) = search rules in
    let none : c.own_fault.result ≡ None = search rules in
    let own : KeepsOwn c.args.own.now = c.own_fault.ensures.good.0 none in (
      λ e. (
        record { optional = c.are_optional.ensures.0 c.if-not-are_optional.false; needs = needs },
        record {
          count = own.0;
          pids = own.1;
          limits = own.2;
          starts = own.3;
          ascending = own.4;
          fields = own.5;
          standards = own.6;
          agree = c.agree.ensures.0 c.if-not-agree.false;
        },
        c.lock_fault.ensures.good.0 e,
      ),
      λ good. c.lock_fault.ensures.good.1 good.2,
    )

pub returns-clause-first : goal.returns-clause-first
returns-clause-first c p more_slots same others =
    let needs : IsTrue (leave_no_need c.args.without.now) = search rules in
    let none : c.own_fault.result ≡ None = search rules in
    let own : KeepsOwn c.args.own.now = c.own_fault.ensures.good.0 none in
    c.lock_fault.ensures.first (with_parameters p more_slots c.args.without.now c.args.own.now c.args.choices.now) refl refl same
    (((others, c.are_optional.ensures.0 c.if-not-are_optional.false, needs), own.0, own.1, own.2, own.3, own.4), own.5, own.6, c.agree.ensures.0 c.if-not-agree.false)
