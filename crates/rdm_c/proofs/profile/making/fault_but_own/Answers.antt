use Rattle.std.proofs.Common.{◌≡◌, refl, sym, ap, ◌∙◌, IfSome, IsTrue, subst}
use Rattle.rdm_profile.specs.declared.profile.Profile.{Profile}
use Rattle.rdm_profile.specs.declared.profile.particulars.Particular.{Particular}
use Rattle.rdm_profile.specs.MuteReply.{can_bind}
use Rattle.rdm_profile_rules.specs.Faults.{IsFirstBroken, KeepsLeftOut}
use Rattle.rdm_c.specs.Profiles.{particular_in, plain_profile_in}
use Rattle.rdm_c.proofs.Many.{keeps_left_out, still_first_if}
use Rattle.rdm_c.proofs.profile.making.fault_but_own.Goals as goal

pub returns-clause-first : goal.returns-clause-first
returns-clause-first c parameters choices modes slots =
    let plain = plain_profile_in c.args.numbers.now in
    let x = particular_in c.args.numbers.now parameters c.args.without.now choices modes slots in
    let same : c.write.new.profile ≡ plain = c.write.ensures ∙ ap (λ (u : Particular). record plain { particulars = u }) c.blank-others.ensures in
    let binds = subst (λ (q : Profile). IsTrue (can_bind q.particulars.mute_reply.binding)) (sym same) refl in
    subst (λ (q : Profile). IfSome c.profile_fault_with.result (λ f. IsFirstBroken f (record q { particulars = x }))) same (still_first_if c.profile_fault_with.result c.write.new.profile x (ap (λ (q : Profile). q.particulars.locks) same) binds (ap (λ (q : Profile). q.particulars.modes) same) c.profile_fault_with.ensures.first)

pub returns-clause-none : goal.returns-clause-none
returns-clause-none c parameters choices modes slots is_none =
    let plain = plain_profile_in c.args.numbers.now in
    let x = particular_in c.args.numbers.now parameters c.args.without.now choices modes slots in
    let same : c.write.new.profile ≡ plain = c.write.ensures ∙ ap (λ (u : Particular). record plain { particulars = u }) c.blank-others.ensures in
    subst (λ (q : Profile). KeepsLeftOut (record q { particulars = x })) same (keeps_left_out c.write.new.profile x (c.profile_fault_with.ensures.good.0 is_none))
