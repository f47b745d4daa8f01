use Rattle.std.proofs.Common.{rules, ◌≡◌, refl, sym, ap, List, None, IsTrue, map, subst}
use Rattle.rdm_profile.specs.MuteReply.{can_bind}
use Rattle.rdm_profile.specs.Profiles.{AreGoodLocks, AreGoodParameters}
use Rattle.rdm_profile.specs.declared.profile.mute_reply.MuteReply.{MuteReply}
use Rattle.rdm_c.specs.declared.profile.parameters.LockNumbers.{LockNumbers}
use Rattle.rdm_c.specs.Parameters.{choice_in, lock_in, parameter_in}
use Rattle.rdm_c.specs.Profiles.{profile_in}
use Rattle.rdm_c.proofs.Many.{before_binding}
use Rattle.rdm_c.proofs.profile.making.fault_but_modes.Goals as goal

pub returns-in-Some-clause-first : goal.returns-in-Some-clause-first
returns-in-Some-clause-first c modes slots = c.in-Some.ensures.first c.args.parameters.now c.args.choices.now modes slots

pub returns-in-Some-fault_of_own-clause-first : goal.returns-in-Some-fault_of_own-clause-first
returns-in-Some-fault_of_own-clause-first c modes slots =
    let p = profile_in c.args.numbers.now c.args.parameters.now c.args.without.now c.args.choices.now modes slots in
    let none : c.fault_but_own.result ≡ None = search rules in
    let left_out = c.fault_but_own.ensures.none c.args.parameters.now c.args.choices.now modes slots none in
    c.in-Some-fault_of_own.ensures.first p (refl, refl, ap (λ (ls : List LockNumbers). map lock_in ls) (sym c.lock_entries.ensures.value), refl) left_out

pub returns-in-None-fault_of_own-clause-first : goal.returns-in-None-fault_of_own-clause-first
returns-in-None-fault_of_own-clause-first c modes slots =
    let p = profile_in c.args.numbers.now c.args.parameters.now c.args.without.now c.args.choices.now modes slots in
    let none : c.fault_but_own.result ≡ None = search rules in
    let no_fault : c.fault_of_own.result ≡ None = search rules in
    let left_out = c.fault_but_own.ensures.none c.args.parameters.now c.args.choices.now modes slots none in
    let own = map parameter_in c.args.parameters.now in
    let names = map choice_in c.args.choices.now in
    let good = subst (λ (ls : List LockNumbers). AreGoodParameters own names × AreGoodLocks c.args.without.now own (map lock_in ls)) c.lock_entries.ensures.value (c.fault_of_own.ensures.good.0 no_fault) in
    c.mute_fault.ensures.first p (sym c.mute_reply.ensures) (before_binding p left_out good)

pub returns-in-None-fault_of_own-clause-none : goal.returns-in-None-fault_of_own-clause-none
returns-in-None-fault_of_own-clause-none c modes slots e =
    let p = profile_in c.args.numbers.now c.args.parameters.now c.args.without.now c.args.choices.now modes slots in
    let none : c.fault_but_own.result ≡ None = search rules in
    let no_fault : c.fault_of_own.result ≡ None = search rules in
    let left_out = c.fault_but_own.ensures.none c.args.parameters.now c.args.choices.now modes slots none in
    let own = map parameter_in c.args.parameters.now in
    let names = map choice_in c.args.choices.now in
    let good = subst (λ (ls : List LockNumbers). AreGoodParameters own names × AreGoodLocks c.args.without.now own (map lock_in ls)) c.lock_entries.ensures.value (c.fault_of_own.ensures.good.0 no_fault) in
    (before_binding p left_out good, subst (λ (r : MuteReply). IsTrue (can_bind r.binding)) c.mute_reply.ensures (c.mute_fault.ensures.good.0 e))
