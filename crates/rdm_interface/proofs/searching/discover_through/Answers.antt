use Rattle.std.proofs.Common.{◌≡◌, ℕ, ◌+◌, ◌-◌, ◌*◌, ◌<◌, List, [], length, Err, refl, sym, ap, subst, arith}
use Rattle.rdm_search.specs.declared.error.SearchError.TheVariants.{Limit}
use Rattle.rdm_search.specs.declared.found.Found.{Found}
use Rattle.rdm_search.specs.Answers.{found_uids}
use Rattle.rdm_search.specs.Line.{IsFound}
use Rattle.rdm_search.specs.Stages.{IsReal, Stands}
use Rattle.rdm_search.proofs.Exchanges.{heard_as}
use Rattle.rdm_search.proofs.Reals.{begins_real}
use Rattle.rdm_search.proofs.Runs.{begins, price_of_all}
use Rattle.rdm_interface.specs.declared.searching.SearchFault.{SearchFault}
use Rattle.rdm_interface.specs.declared.searching.SearchFault.TheVariants.{Search, Port}
use Rattle.rdm_interface.specs.Askings.{Asking, AreDevices, AreHeardOf, FindsAll, FindsReal, Situation, TakesMore}
use Rattle.rdm_interface.specs.Lines.{IsExchange}
use Rattle.rdm_interface.proofs.Searches.{fails_as, has_asked_as, said_to_end}
use Rattle.rdm_interface.proofs.searching.discover_through.Goals as goal

pub returns-in-Ok-clause-found : goal.returns-in-Ok-clause-found
returns-in-Ok-clause-found g c =
    let new = c.new-search.ensures in let search' = c.new-search.result in
    let budget : (c.args.retries + 1) * search'.left ≡ (c.args.retries + 1) * c.args.limit = ap (λ (n : ℕ). (c.args.retries + 1) * n) new.left in
    has_asked_as g.P.Port.hears c.args.source search'.source ((c.args.retries + 1) * search'.left) ((c.args.retries + 1) * c.args.limit) c.args.port.now c.run_through.new.port c.run_through.new.port
    (FindsAll c.args.retries (Stands search'.stage (found_uids search'.found.items)) (found_uids c.run_through.new.search.found.items))
    (FindsAll c.args.retries AreDevices (found_uids c.into_found.result.items))
    c.in-Ok.ensures.found new.source refl (omega (arith, budget))
    (λ askings finds before after devices h.
    subst (λ (xs : List Found). IsFound (found_uids xs) after.fixtures) (sym c.into_found.ensures)
    (finds before after (begins search'.stage search'.found.items before.fixtures new.stage new.found devices) h))

pub returns-in-Ok-clause-real : goal.returns-in-Ok-clause-real
returns-in-Ok-clause-real g c =
    let new = c.new-search.ensures in let search' = c.new-search.result in let ran = c.in-Ok.ensures.real in
    let budget : (c.args.retries + 1) * search'.left ≡ (c.args.retries + 1) * c.args.limit = ap (λ (n : ℕ). (c.args.retries + 1) * n) new.left in
    has_asked_as g.P.Port.hears c.args.source search'.source ((c.args.retries + 1) * search'.left) ((c.args.retries + 1) * c.args.limit) c.args.port.now ran.0 c.run_through.new.port
    (FindsReal (IsReal (found_uids search'.found.items)) (found_uids c.run_through.new.search.found.items))
    (FindsReal AreDevices (found_uids c.into_found.result.items))
    ran.1 new.source (ran.2 (λ error e. absurd cc)) (omega (arith, budget))
    (λ askings finds most before after devices h.
    subst (λ (xs : List Found). IsReal (found_uids xs) after.fixtures) (sym c.into_found.ensures)
    (finds most before after (begins_real search'.found.items before.fixtures new.found devices) h))

pub returns-in-Err-clause-limit : goal.returns-in-Err-clause-limit
returns-in-Err-clause-limit g c = λ e.
    let same : c.in-Err.fault ≡ Search Limit = cc in
    let new = c.new-search.ensures in let search' = c.new-search.result in
    let budget : (c.args.retries + 1) * search'.left ≡ (c.args.retries + 1) * c.args.limit = ap (λ (n : ℕ). (c.args.retries + 1) * n) new.left in
    has_asked_as g.P.Port.hears c.args.source search'.source ((c.args.retries + 1) * search'.left) ((c.args.retries + 1) * c.args.limit) c.args.port.now c.run_through.new.port c.run_through.new.port
    (TakesMore c.args.retries search'.stage (found_uids search'.found.items) search'.left)
    (λ askings. (before after : Situation) → AreDevices before.fixtures → AreHeardOf c.args.retries before askings after → c.args.limit < 74 * length before.fixtures + 2 + 2 * (after.altered - before.altered))
    (c.in-Err.ensures.limit (ap (λ (f : SearchFault). Err f) same)) new.source refl (omega (arith, budget))
    (λ askings more before after devices h. (
    let short = more before after (begins search'.stage search'.found.items before.fixtures new.stage new.found devices) h in
    let cost = price_of_all search'.stage before.fixtures new.stage in
    omega (arith, short, cost, new.left)))

pub returns-in-Err-clause-sent : goal.returns-in-Err-clause-sent
returns-in-Err-clause-sent g c = λ error e.
    let same : c.in-Err.fault ≡ Search error = cc in
    let new = c.new-search.ensures in let search' = c.new-search.result in let ran = c.in-Err.ensures.real in
    let budget : (c.args.retries + 1) * search'.left ≡ (c.args.retries + 1) * c.args.limit = ap (λ (n : ℕ). (c.args.retries + 1) * n) new.left in
    has_asked_as g.P.Port.hears c.args.source search'.source ((c.args.retries + 1) * search'.left) ((c.args.retries + 1) * c.args.limit) c.args.port.now ran.0 c.run_through.new.port
    (FindsReal (IsReal (found_uids search'.found.items)) (found_uids c.run_through.new.search.found.items)) (λ (askings : List Asking). Unit {0})
    ran.1 new.source (ran.2 (λ fault f. absurd cc)) (omega (arith, budget)) (λ askings finds. tt)

pub returns-in-Ok-clause-said : goal.returns-in-Ok-clause-said
returns-in-Ok-clause-said g c =
    let new = c.new-search.ensures in
    heard_as (IsExchange g.P.Port.hears) c.args.source c.new-search.result.source c.args.port.now c.run_through.new.port [] c.new-search.result.found.items c.into_found.result.items c.run_through.new.search.found.items
    (said_to_end g.P.Port.hears c.new-search.result.source c.args.port.now c.run_through.new.port c.new-search.result.found.items c.run_through.new.search.found.items c.in-Ok.ensures.said)
    new.source new.found c.into_found.ensures

pub returns-in-Err-clause-failed : goal.returns-in-Err-clause-failed
returns-in-Err-clause-failed g c = λ error e.
    let same : c.in-Err.fault ≡ Port error = cc in
    let new = c.new-search.ensures in let search' = c.new-search.result in
    let budget : (c.args.retries + 1) * search'.left ≡ (c.args.retries + 1) * c.args.limit = ap (λ (n : ℕ). (c.args.retries + 1) * n) new.left in
    fails_as g.P.Port.hears g.P.Port.fails c.args.source search'.source ((c.args.retries + 1) * search'.left) ((c.args.retries + 1) * c.args.limit) c.args.port.now c.run_through.new.port error
    (c.in-Err.ensures.failed error (ap (λ (f : SearchFault). Err f) same)) new.source (omega (arith, budget))
