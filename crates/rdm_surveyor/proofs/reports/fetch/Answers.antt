use Rattle.std.proofs.Common.{ℕ, ◌+◌, List, ◌++◌, sym, ap, ◌∙◌, subst, arith}
use Rattle.rdm_surveyor.specs.declared.reports.Report.{Report}
use Rattle.rdm_surveyor.specs.Asking.{ends}
use Rattle.rdm_surveyor.specs.Statuses.{Tale, counts_of, given_after, status_request}
use Rattle.rdm_surveyor.proofs.Fetching.{IsSoFar, last_asked, next_asked}
use Rattle.rdm_surveyor.proofs.Getting.{broken, exchanged, goes_trying}
use Rattle.rdm_surveyor.proofs.reports.fetch.Goals as goal

pub returns-in_err-reserve-clause-tried : goal.returns-in_err-reserve-clause-tried
returns-in_err-reserve-clause-tried g c =
    goes_trying g.P.Port.hears g.P.Port.fails c.args.port.now c.loop-number.port c.loop-number.invariant.2

pub returns-in_err-heard-clause-tried : goal.returns-in_err-heard-clause-tried
returns-in_err-heard-clause-tried g c =
    broken g.P.Port.hears g.P.Port.fails c.args.port.now c.loop-number.port c.exchange.new.self c.request.result _ c.loop-number.invariant.2 c.request.ensures.get
    c.in_err-heard.ensures.failed

pub returns-in_err-take-clause-tried : goal.returns-in_err-take-clause-tried
returns-in_err-take-clause-tried g c =
    goes_trying g.P.Port.hears g.P.Port.fails c.args.port.now c.exchange.new.self
    (exchanged g.P.Port.hears c.args.port.now c.loop-number.port c.exchange.new.self c.request.result _ c.loop-number.invariant.2 c.request.ensures.get c.in_ok-heard.ensures.heard)

pub returns-then-branch-clause-got : goal.returns-then-branch-clause-got
returns-then-branch-clause-got g c =
    exchanged g.P.Port.hears c.args.port.now c.loop-number.port c.exchange.new.self c.request.result _ c.loop-number.invariant.2 c.request.ensures.get c.in_ok-heard.ensures.heard

pub returns-then-branch-clause-tried : goal.returns-then-branch-clause-tried
returns-then-branch-clause-tried g c =
    goes_trying g.P.Port.hears g.P.Port.fails c.args.port.now c.exchange.new.self
    (exchanged g.P.Port.hears c.args.port.now c.loop-number.port c.exchange.new.self c.request.result _ c.loop-number.invariant.2 c.request.ensures.get c.in_ok-heard.ensures.heard)

pub loop-number-preserved : goal.loop-number-preserved
loop-number-preserved g c =
    let so_far =
    next_asked g.P.Port.hears (ends c.args.console c.args.uid) c.loop-number.number c.args.port.now c.loop-number.port c.exchange.new.self c.args.reports.now.items
    c.loop-number.reports.items c.take.new.reports.items c.loop-number.tally c.in_ok-heard.heard c.loop-number.invariant.0
    (subst (λ (text : List ℕ). g.P.Port.hears c.loop-number.port text c.in_ok-heard.heard c.exchange.new.self)
    (c.request.ensures.text ∙ ap (status_request (ends c.args.console c.args.uid) c.loop-number.number) c.is_again.ensures) c.in_ok-heard.ensures.heard)
    (c.in_ok-take.ensures.given
    ∙ ap (λ (x : List Report). x ++ given_after c.args.uid c.loop-number.tally c.in_ok-heard.heard) c.in_ok-reserve.ensures.items)
    (sym c.in_ok-take.ensures.over ∙ c.if-branch.false) in (
      subst (λ (t : Tale). IsSoFar g.P.Port.hears (ends c.args.console c.args.uid) (c.loop-number.number + 1) c.args.port.now c.args.reports.now.items t
          c.take.new.reports.items c.exchange.new.self) (sym c.in_ok-take.ensures.tally) so_far,
      c.in_ok-take.ensures.few c.if-branch.false,
      exchanged g.P.Port.hears c.args.port.now c.loop-number.port c.exchange.new.self c.request.result _ c.loop-number.invariant.2 c.request.ensures.get
          c.in_ok-heard.ensures.heard,
    )

pub returns-then-branch-clause-told : goal.returns-then-branch-clause-told
returns-then-branch-clause-told g c =
    last_asked g.P.Port.hears (ends c.args.console c.args.uid) c.loop-number.number c.args.port.now c.loop-number.port c.exchange.new.self c.args.reports.now.items
    c.loop-number.reports.items c.take.new.reports.items c.loop-number.tally c.in_ok-heard.heard c.counts.result c.loop-number.invariant.0
    (subst (λ (text : List ℕ). g.P.Port.hears c.loop-number.port text c.in_ok-heard.heard c.exchange.new.self)
    (c.request.ensures.text ∙ ap (status_request (ends c.args.console c.args.uid) c.loop-number.number) c.is_again.ensures) c.in_ok-heard.ensures.heard)
    (c.in_ok-take.ensures.given
    ∙ ap (λ (x : List Report). x ++ given_after c.args.uid c.loop-number.tally c.in_ok-heard.heard) c.in_ok-reserve.ensures.items)
    (sym c.in_ok-take.ensures.over ∙ c.if-branch.true) (omega (arith, c.loop-number-test.true))
    (c.counts.ensures ∙ ap counts_of c.in_ok-take.ensures.tally)

pub returns-clause-tried : goal.returns-clause-tried
returns-clause-tried g c =
    goes_trying g.P.Port.hears g.P.Port.fails c.args.port.now c.loop-number.port c.loop-number.invariant.2
