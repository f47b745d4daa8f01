use Rattle.std.proofs.Common.{rules, ◌≡◌, ◌<◌, true, false, IsTrue, refl, sym, subst, ◌∙◌}
use Rattle.std.specs.Prelude.{slice_index_or}
use Rattle.std.proofs.lemmas.List.{get_or_read_under}
use Rattle.rdm_profile.specs.declared.profile.choices.ChoiceName.{ChoiceName}
use Rattle.rdm_profile.specs.Choices.{comes_before}
use Rattle.rdm_profile_rules.proofs.choice_checks.are_ascending.Goals as goal

never : false ≡ true → ⊥
never e = cc

pub returns-then-not-comes_before : goal.returns-then-not-comes_before
returns-then-not-comes_before c =
    let d : ChoiceName = c.index-choices-i.result in
    let at_j : c.index-choices-j.result ≡ slice_index_or c.args.choices.now c.loop-j.j d = get_or_read_under c.args.choices.now c.loop-j.j _ c.index-choices-j.result d c.index-choices-j.is c.loop-j-test.true refl in
    let lt : c.loop-i.i < c.loop-j.j = search rules in
    let here : comes_before d c.index-choices-j.result ≡ false = search rules in (
      λ h. absurd cc,
      λ all. absurd (never (sym here ∙ subst (λ (x : ChoiceName). IsTrue (comes_before d x)) (sym at_j) (subst (λ (x : ChoiceName). IsTrue (comes_before x (slice_index_or c.args.choices.now c.loop-j.j d))) (sym c.index-choices-i.is) (all c.loop-i.i c.loop-j.j d lt c.loop-j-test.true)))),
    )
