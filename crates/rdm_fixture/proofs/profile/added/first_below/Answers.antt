use Rattle.std.proofs.Common.{◌≡◌, refl, sym, ap, ◌∙◌, arith}
use Rattle.std.specs.Prelude.{slice_index_or}
use Rattle.std.proofs.lemmas.List.{get_or_read_under}
use Rattle.rdm_profile.specs.declared.profile.own.ParameterDef.{ParameterDef}
use Rattle.rdm_fixture.proofs.profile.added.first_below.Goals as goal

pub returns-then-defs-n-clause-none : goal.returns-then-defs-n-clause-none
returns-then-defs-n-clause-none c =
    let d : ParameterDef = c.index-defs-i.result in
    let at_n : c.index-defs-n.result ≡ slice_index_or c.args.defs.now c.loop-n.n d =
    get_or_read_under c.args.defs.now c.loop-n.n _ c.index-defs-n.result d c.index-defs-n.is c.loop-n-test.true refl in
    let same = ap (λ (x : ParameterDef). x.pid) (sym c.index-defs-n.is ∙ at_n) in (
      λ h. absurd (cc),
      λ all.
          let above = all c.loop-i.i c.loop-n.n d c.loop-i-test.true c.loop-n-test.true in
          absurd (omega (arith, above, same, c.if-defs-n.true)),
    )
