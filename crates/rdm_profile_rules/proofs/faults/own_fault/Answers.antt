use Rattle.std.proofs.Common.{rules, sym, ◌≤◌, List, length, subst}
use Rattle.rdm_profile.specs.declared.profile.own.ParameterDef.{ParameterDef}
use Rattle.rdm_profile.specs.Profiles.{HaveFreePids, HaveLimits, HaveStarts, Ascend}
use Rattle.rdm_profile_rules.proofs.faults.own_fault.Goals as goal

pub returns-then-not-are_ascending-clause-first : goal.returns-then-not-are_ascending-clause-first
returns-then-not-are_ascending-clause-first c p same left_out =
    let broken : ¬ Ascend c.args.own.now = search rules in
    let kept = subst (λ (ds : List ParameterDef). (length ds ≤ 32) × HaveFreePids ds × HaveLimits ds × HaveStarts ds × (¬ Ascend ds)) (sym same) (c.are_few.ensures.0 c.if-not-are_few.false, c.have_free_pids.ensures.0 c.if-not-have_free_pids.false, c.have_limits.ensures.0 c.if-not-have_limits.false, c.have_starts.ensures.0 c.if-not-have_starts.false, broken) in
    ((left_out, kept.0, kept.1, kept.2, kept.3), kept.4)

pub returns-clause-good : goal.returns-clause-good
returns-clause-good c = (
  λ e. (c.are_few.ensures.0 c.if-not-are_few.false, c.have_free_pids.ensures.0 c.if-not-have_free_pids.false, c.have_limits.ensures.0 c.if-not-have_limits.false, c.have_starts.ensures.0 c.if-not-have_starts.false, c.are_ascending.ensures.0 c.if-not-are_ascending.false, (c.slots_fault.ensures.good.0 e).0, (c.slots_fault.ensures.good.0 e).1),
  λ own. c.slots_fault.ensures.good.1 (own.5, own.6),
)

pub returns-clause-first : goal.returns-clause-first
returns-clause-first c p same left_out =
    let kept = subst (λ (ds : List ParameterDef). (length ds ≤ 32) × HaveFreePids ds × HaveLimits ds × HaveStarts ds × Ascend ds) (sym same) (c.are_few.ensures.0 c.if-not-are_few.false, c.have_free_pids.ensures.0 c.if-not-have_free_pids.false, c.have_limits.ensures.0 c.if-not-have_limits.false, c.have_starts.ensures.0 c.if-not-have_starts.false, c.are_ascending.ensures.0 c.if-not-are_ascending.false) in
    c.slots_fault.ensures.first p same (left_out, kept.0, kept.1, kept.2, kept.3, kept.4)
