use Rattle.std.proofs.Common.{rules, ◌≡◌, ◌<◌, refl, sym, subst}
use Rattle.std.specs.Prelude.{slice_index_or}
use Rattle.std.proofs.lemmas.List.{get_or_read_under}
use Rattle.rdm_profile.specs.declared.profile.own.ParameterDef.{ParameterDef}
use Rattle.rdm_profile_rules.proofs.own_checks.are_ascending.Goals as goal

pub returns-then-not-comes_before : goal.returns-then-not-comes_before
returns-then-not-comes_before c =
    let d : ParameterDef = c.index-defs-i.result in
    let at_j : c.index-defs-j.result ≡ slice_index_or c.args.defs.now c.loop-j.j d = get_or_read_under c.args.defs.now c.loop-j.j _ c.index-defs-j.result d c.index-defs-j.is c.loop-j-test.true refl in
    let lt : c.loop-i.i < c.loop-j.j = search rules in (
      λ h. absurd cc,
      λ all. (c.if-not-comes_before.ensures).1 (subst (λ (x : ParameterDef). d.pid < x.pid) (sym at_j) (subst (λ (x : ParameterDef). x.pid < (slice_index_or c.args.defs.now c.loop-j.j d).pid) (sym c.index-defs-i.is) (all c.loop-i.i c.loop-j.j d lt c.loop-j-test.true))),
    )
