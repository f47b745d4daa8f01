use Rattle.std.proofs.Common.{◌≡◌, ◌+◌, ◌*◌, Bool, Result, Ok, Err, ◌∙◌, sym, refl, inl, inr, ap, arith, rules}
use Rattle.std.proofs.lemmas.Result.{err_from_is_err_and}
use Rattle.rdm_search.specs.declared.error.SearchError.TheVariants.{Limit}
use Rattle.rdm_search.specs.Answers.{found_uids}
use Rattle.rdm_search.specs.Stages.{IsReal, Stands}
use Rattle.rdm_search.proofs.Exchanges.{heard_then}
use Rattle.rdm_interface.specs.declared.searching.SearchFault.{SearchFault}
use Rattle.rdm_interface.specs.declared.searching.SearchFault.TheVariants.{Search, Port}
use Rattle.rdm_interface.specs.Askings.{FindsAll, FindsReal, TakesMore, askings_of}
use Rattle.rdm_interface.specs.Lines.{IsExchange}
use Rattle.rdm_interface.proofs.Searches.{Nears, fails_then, paid_by, has_asked_as, real_here, real_to_end, said_to_end, through_next, through_none}
use Rattle.rdm_interface.proofs.searching.run_through.Goals as goal

pub loop-init : goal.loop-init
loop-init g c = through_none g.P.Port.hears c.args.retries c.args.search.now.source c.args.search.now.stage c.args.search.now.left c.args.search.now.found.items c.args.port.now

pub loop-preserved : goal.loop-preserved
loop-preserved g c =
    let l = c.loop in let next = c.step_through.new in let made = c.in_ok-step_through.ensures in
    let went = ap (λ (b : Bool). Ok b) c.if-branch.true in
    through_next g.P.Port.hears c.args.retries c.args.search.now.source l.search.source next.search.source c.args.search.now.stage l.search.stage next.search.stage c.args.search.now.left l.search.left next.search.left
    c.args.search.now.found.items l.search.found.items next.search.found.items c.args.port.now l.port next.port l.invariant
    (made.stands went)
    (real_here g.P.Port.hears c.args.retries l.search.source l.search.left l.search.found.items next.search.found.items l.port next.port made.real.0 made.real.1 (made.real.2 (λ error e. absurd cc)))
    made.kept (made.left went)
    (said_to_end g.P.Port.hears l.search.source l.port next.port l.search.found.items next.search.found.items made.said) made.source

pub returns-clause-found : goal.returns-clause-found
returns-clause-found g c =
    let first = c.args.search.now in let l = c.loop in let next = c.step_through.new in let made = c.in_ok-step_through.ensures in
    let stopped = ap (λ (b : Bool). Ok b) c.if-branch.false in
    has_asked_as g.P.Port.hears first.source first.source l.invariant.took ((c.args.retries + 1) * first.left) c.args.port.now l.port next.port
    (Nears c.args.retries first.stage (found_uids first.found.items) first.left l.search.stage (found_uids l.search.found.items) l.search.left)
    (FindsAll c.args.retries (Stands first.stage (found_uids first.found.items)) (found_uids next.search.found.items))
    l.invariant.stands refl (made.silent (inl stopped)) (omega (arith, l.invariant.paid))
    (λ askings nears before after stands h. made.ended stopped after.fixtures (nears before after stands h).0)

-- the same fault, by one result or the other
abbrev Alike : {X : Type 0} → Result X SearchFault → Result X SearchFault → Type 0
Alike r s = r ≡ s

fault_is : {X : Type 0} (a b : SearchFault) → Alike {X = X} (Err a) (Err b) → a ≡ b
fault_is a b e = cc

pub returns-in_err-step_through-clause-limit : goal.returns-in_err-step_through-clause-limit
returns-in_err-step_through-clause-limit g c = λ e.
    let p = err_from_is_err_and c.from_residual.result c.from_residual.ensures.1 in
    let limit = ap (λ (f : SearchFault). Err f) (sym p.2 ∙ fault_is p.0 (Search Limit) (sym p.1 ∙ e)) in
    let first = c.args.search.now in let l = c.loop in let next = c.step_through.new in let made = c.in_err-step_through.ensures in
    has_asked_as g.P.Port.hears first.source first.source l.invariant.took ((c.args.retries + 1) * first.left) c.args.port.now l.port next.port
    (Nears c.args.retries first.stage (found_uids first.found.items) first.left l.search.stage (found_uids l.search.found.items) l.search.left)
    (TakesMore c.args.retries first.stage (found_uids first.found.items) first.left)
    l.invariant.stands refl (made.silent (inr limit)) (omega (arith, l.invariant.paid))
    (λ askings nears before after stands h. (
    let so = nears before after stands h in
    let short = made.limit limit after.fixtures so.0 in
    omega (arith, so.1, short)))

pub returns-in_err-step_through-clause-real : goal.returns-in_err-step_through-clause-real
returns-in_err-step_through-clause-real g c =
    let p = err_from_is_err_and c.from_residual.result c.from_residual.ensures.1 in
    let first = c.args.search.now in let l = c.loop in let next = c.step_through.new in let real = c.in_err-step_through.ensures.real in (
      real.0,
      real_to_end g.P.Port.hears c.args.retries first.source l.search.source first.stage l.search.stage first.left l.search.left first.found.items l.search.found.items next.search.found.items c.args.port.now l.port real.0 l.invariant real.1,
      λ other. real.2 (λ error e. other error (p.1 ∙ ap (λ (f : SearchFault). Err f) (p.2 ∙ fault_is _ (Port error) e))),
    )

pub returns-clause-real : goal.returns-clause-real
returns-clause-real g c =
    let first = c.args.search.now in let l = c.loop in let next = c.step_through.new in let real = c.in_ok-step_through.ensures.real in (
      real.0,
      real_to_end g.P.Port.hears c.args.retries first.source l.search.source first.stage l.search.stage first.left l.search.left first.found.items l.search.found.items next.search.found.items c.args.port.now l.port real.0 l.invariant real.1,
      λ other. real.2 (λ error e. absurd cc),
    )

pub returns-in_err-step_through-clause-said : goal.returns-in_err-step_through-clause-said
returns-in_err-step_through-clause-said g c =
    let said = c.in_err-step_through.ensures.said in (
      said.0,
      heard_then (IsExchange g.P.Port.hears) c.args.search.now.source c.loop.search.source c.args.port.now c.loop.port said.0 c.args.search.now.found.items c.loop.search.found.items c.step_through.new.search.found.items
          c.loop.invariant.said c.loop.invariant.same_source said.1,
      search rules,
    )

pub returns-clause-said : goal.returns-clause-said
returns-clause-said g c =
    let said = c.in_ok-step_through.ensures.said in (
      said.0,
      heard_then (IsExchange g.P.Port.hears) c.args.search.now.source c.loop.search.source c.args.port.now c.loop.port said.0 c.args.search.now.found.items c.loop.search.found.items c.step_through.new.search.found.items
          c.loop.invariant.said c.loop.invariant.same_source said.1,
      said.2,
    )

pub returns-in_err-step_through-clause-failed : goal.returns-in_err-step_through-clause-failed
returns-in_err-step_through-clause-failed g c = λ error e.
    let p = err_from_is_err_and c.from_residual.result c.from_residual.ensures.1 in
    let fault = ap (λ (f : SearchFault). Err f) (sym p.2 ∙ fault_is p.0 (Port error) (sym p.1 ∙ e)) in
    let first = c.args.search.now in let l = c.loop in let next = c.step_through.new in
    fails_then g.P.Port.hears g.P.Port.fails first.source l.search.source l.invariant.took (askings_of c.args.retries l.search.left) ((c.args.retries + 1) * first.left)
    c.args.port.now l.port next.port error (FindsReal (IsReal (found_uids first.found.items)) (found_uids l.search.found.items))
    l.invariant.real l.invariant.same_source (c.in_err-step_through.ensures.failed error fault)
    (paid_by c.args.retries l.invariant.took first.left l.search.left l.invariant.paid)
