use Rattle.std.proofs.Common.{◌≡◌, Some, sym, ap, ◌∙◌, get_or, arith}
use Rattle.toml.specs.View.{view}
use Rattle.rdm_fixture.specs.Format.{parameter_named}
use Rattle.rdm_fixture.proofs.ListEntries.{EachIs-at, EachIs-more}
use Rattle.rdm_fixture.proofs.profile.added.pids_of.Goals as goal

pub returns-in_default-clause-read : goal.returns-in_default-clause-read
returns-in_default-clause-read c = λ xs h.
    let names = c.args.names.now.items in
    let at = EachIs-at (λ d pid. parameter_named d ≡ Some pid) names xs.items c.loop-name.name-index c.name-item.result h (omega arith) in
    let here : get_or names c.loop-name.name-index c.name-item.result ≡ c.name-item.result =
    ap (λ vs. get_or vs c.loop-name.name-index c.name-item.result) (sym c.deref-name-items.ensures.value) ∙ sym c.name-item.is in
    let said : parameter_named (view c.name-item.result) ≡ Some at.0 = ap (λ v. parameter_named (view v)) (sym here) ∙ at.1 in
    c.in_default.not-Some at.0 (c.pid_of.ensures ∙ said)

pub loop-name-preserved : goal.loop-name-preserved
loop-name-preserved c =
    let names = c.args.names.now.items in
    let here : get_or names c.loop-name.name-index c.name-item.result ≡ c.name-item.result =
    ap (λ vs. get_or vs c.loop-name.name-index c.name-item.result) (sym c.deref-name-items.ensures.value) ∙ sym c.name-item.is in
    let said : parameter_named (view c.name-item.result) ≡ Some c.in-Some.pid = sym c.pid_of.ensures ∙ c.in-Some.is in
    record {
      read = rw c.push.ensures.items (EachIs-more (λ d pid. parameter_named d ≡ Some pid) names c.loop-name.name-index c.name-item.result _ _ (omega arith) c.loop-name.invariant.read (ap (λ v. parameter_named (view v)) here ∙ said));
      count = omega arith;
    }
