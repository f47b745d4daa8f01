use Rattle.std.proofs.Common.{◌≡◌, Some, sym, ap, ◌∙◌, get_or, arith}
use Rattle.toml.specs.View.{view}
use Rattle.rdm_fixture.specs.Format.{locked_pid}
use Rattle.rdm_fixture.proofs.ListEntries.{EachIs-at, EachIs-more}
use Rattle.rdm_fixture.proofs.profile.locks.pids_of.Goals as goal

pub returns-in_default-clause-read : goal.returns-in_default-clause-read
returns-in_default-clause-read c = λ xs h.
    let parameters = c.args.parameters.now.items in
    let at = EachIs-at (λ d pid. locked_pid d ≡ Some pid) parameters xs.items c.loop-parameter.parameter-index c.parameter-item.result h (omega arith) in
    let here : get_or parameters c.loop-parameter.parameter-index c.parameter-item.result ≡ c.parameter-item.result =
    ap (λ vs. get_or vs c.loop-parameter.parameter-index c.parameter-item.result) (sym c.deref-parameter-items.ensures.value) ∙ sym c.parameter-item.is in
    let said : locked_pid (view c.parameter-item.result) ≡ Some at.0 = ap (λ v. locked_pid (view v)) (sym here) ∙ at.1 in
    c.in_default.not-Some at.0 (c.pid_of.ensures ∙ said)

pub loop-parameter-preserved : goal.loop-parameter-preserved
loop-parameter-preserved c =
    let parameters = c.args.parameters.now.items in
    let here : get_or parameters c.loop-parameter.parameter-index c.parameter-item.result ≡ c.parameter-item.result =
    ap (λ vs. get_or vs c.loop-parameter.parameter-index c.parameter-item.result) (sym c.deref-parameter-items.ensures.value) ∙ sym c.parameter-item.is in
    let said : locked_pid (view c.parameter-item.result) ≡ Some c.in-Some.pid = sym c.pid_of.ensures ∙ c.in-Some.is in
    record {
      read = rw c.push.ensures.items (EachIs-more (λ d pid. locked_pid d ≡ Some pid) parameters c.loop-parameter.parameter-index c.parameter-item.result _ _ (omega arith) c.loop-parameter.invariant.read (ap (λ v. locked_pid (view v)) here ∙ said));
      count = omega arith;
    }
