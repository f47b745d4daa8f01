use Rattle.std.proofs.Common.{◌≡◌, false, List, ℕ, sym, ◌∙◌, subst}
use Rattle.rdm_search.specs.Losses.{is_answered}
use Rattle.rdm_interface.specs.Lines.{IsHeardOnce}
use Rattle.rdm_interface.proofs.Searches.{asked_next}
use Rattle.rdm_interface.proofs.searching.heard_of.Goals as goal

pub loop-turn-preserved : goal.loop-turn-preserved
loop-turn-preserved g c =
    asked_next g.P.Port.hears c.args.port.now c.loop-turn.port c.heard_once.new.port c.args.frame.now c.in-Ok.wire c.loop-turn._turn c.loop-turn.invariant
    (subst (λ (bytes : List ℕ). IsHeardOnce g.P.Port.hears c.loop-turn.port c.heard_once.new.port bytes c.in-Ok.wire) c.encode-request.ensures c.in-Ok.ensures.heard)
    (subst (λ (h : List ℕ). is_answered c.args.frame.now h ≡ false) c.as_slice.ensures.value (sym c.is_answered.ensures ∙ c.if-is_answered.false))
