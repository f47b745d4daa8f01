-- The exports that free: each hands what is lent to it on to `free_at`, so that one proof serves all of them. Assumes `Logic`.
use Rattle.std.proofs.Common.{[], ◌∷◌, refl, ap}
use base.Logic.{id⊢}
use base.Fml.{ftrue}
use seplogic.Ra.Ura.{Ura}
use mir.Syntax.{Callee, Fn, local, value_local, ty_unit, ty_ptr, place, copy, assign, rv_opd, opd_unit, call, seq, return}
use mir.Val.{vunit}
use prog.Model.{Model}
use prog.Wired.{Wired}
use prog.Wp.{Closed}
use contract.Running.{Running, tables}
use types.Logic.{Logic}
use types.Kit.{‵, raw, ◌⊛◌, some, later, ◌$◌, ◌∵◌, !, qed, done, drop, use1, split, join, feq_i, feq_l, pick, await, suffices, group}
use types.Run.{enter, of_opd, unit_lit, no_more, and_then, returns}
use types.ByLocal.{alloc_all, pass_all, free_all, look_at, get, sets, lands_as}
use denote.Builtin.{unit}
use denote.Memory.{lone}
use denote.RawPtr.{RawPtr, rawptr_vals, rawptr_Tells, rawptr_Lawful}
use denote.Signature.{plain}
use denote.Steps.{nothing, only}
use denote.Struct.Laws.{val, tells}
use denote.Struct.Loose.{loose_lawful}
use denote.Triple.Call.{calls_at}
use denote.Triple.Clauses.{lasts}
use denote.Triple.Spec.{Meets, triple_of}
use denote.Triple.Table.{framed}
use denote.Triple.Walked.{Stays, stay_dropped, Goes-dropped, ends_at}
use Rattle.core.proofs.alloc.Calls.{Goes-blank}
use Rattle.std.proofs.raw_atomic.Walks.{proved}
use Rattle.std_heap.specs.contracts.Global as heap
use Rattle.std_heap.proofs.Global.TheLaws as heap_laws
use Rattle.rdm_c.specs.Places.{handle_at, nobody}
use Rattle.rdm_c.specs.contracts.keeping.free_at as g
use Rattle.rdm_c.proofs.keeping.free_at.Met.{met}
use Rattle.rdm_c.proofs.keeping.free_at.Symbol as callee
use Rattle.rdm_c.specs.contracts.exports.responder.felosumay_responder_free as f

-- the code of each
abbrev handing : Fn
handing = record {
  lifetimes = 0;
  outlives = [];
  ty_params = [];
  givens = 0;
  params = 2;
  locals = local ty_unit value_local ∷ local (lone (heap.the_row).mir) value_local ∷ local ty_ptr value_local ∷ local ty_unit value_local ∷ [];
  body = seq (call callee.name (copy (place 1 []) ∷ copy (place 2 []) ∷ []) (place 3 [])) (seq (assign (place 0 []) (rv_opd opd_unit)) return);
}

abbrev stayed : Stays f.ended.signature.params f.ended.kept
stayed = (stay_dropped (plain (λ _. heap.the_row)) f.ended.kept.0, (stay_dropped (plain (λ _. RawPtr)) f.ended.kept.1.0, tt))

pub frees : {M : Type 1} (𝓤 : Ura M) (𝓛 : Logic 𝓤) (𝓜 : Model 𝓤 𝓛.H) (𝓡 : Running 𝓤 𝓛.H 𝓜) (k : Callee)
    → Closed 𝓤 𝓛.H (tables 𝓤 𝓛.H 𝓜 𝓡 𝓡.env).C (tables 𝓤 𝓛.H 𝓜 𝓡 𝓡.env).Λ k handing → Wired 𝓡.env callee.code
    → Meets 𝓛 f.signature ((tables 𝓤 𝓛.H 𝓜 𝓡 𝓡.env).C k) (f.spec 𝓛 𝓜.mem 𝓡.returns)
frees 𝓤 𝓛 𝓜 𝓡 k closed wired =
    let c = f.clauses 𝓛 𝓜.mem 𝓡.returns in
    proved 𝓛 f.ended stayed c 𝓜 𝓡
    (Goes-blank 𝓛 0 (plain (λ _. heap.the_row)) f.ended.kept.0 (λ κs x w. tt), (Goes-dropped 𝓛 0 (plain (λ _. RawPtr)) f.ended.kept.1.0 (λ κs x w. refl), tt))
    k handing closed
    (λ κs. ((λ d. val heap.the_type heap_laws.the_laws d ∷ []), (rawptr_vals, tt))) (λ κs. (tells heap.the_type heap_laws.the_laws, (rawptr_Tells, tt))) (λ κs qs bounds a x are.
    let G = triple_of 𝓛 g.signature (g.spec 𝓛 𝓜.mem 𝓡.returns) in
    let z : G.Ghost = ((κs, qs, bounds, a, (val heap.the_type heap_laws.the_laws a.0 ∷ [], (rawptr_vals a.1.0, tt))), x) in
    qed 𝓛 (raw (G.pre z) ∷ []) ∵ enter ! _ _ _ _ _ $
    alloc_all ! (λ l. pass_all ! refl (((loose_lawful heap.the_type heap_laws.the_loose 𝓛).typed a.0 _ are.0).0, (rawptr_Lawful 𝓛).typed a.1.0 _ refl) $
    calls_at ! (framed 𝓤 𝓛.H 𝓜 (tables 𝓤 𝓛.H 𝓜 𝓡 𝓡.env)) G (met 𝓤 𝓛 𝓜 𝓡 wired) z
    (and_then ! (get ! refl) (and_then ! (get ! refl) (no_more !))) (λ v.
    use1 𝓛 (later (some (λ (r : Unit {0}). (‵ ftrue ⊛ ‵ (unit.own_val r (v ∷ []))) ⊛
    some (λ (ws : Unit {0} × (Unit {0} × Unit {0})). ‵ (lasts g.ended κs a ws) ⊛ ‵ (handle_at a.1.0 nobody))))) (id⊢ 𝓤 _) $
    await ! tt $ pick ! (λ r. split ! $ split ! $ drop ! $ feq_l ! (λ is_unit. pick ! (λ ws. split ! $ drop ! $
    lands_as ! (ap only is_unit) refl (tt, tt) $
    sets ! (of_opd ! (unit_lit !)) refl (tt, tt) $
    returns ! (look_at ! 0 refl) $ free_all ! refl $
    suffices ! _ (ends_at 𝓛 f.ended stayed c z vunit tt (tt, (tt, tt)) (tt, (tt, tt))) $
    feq_i ! _ (vunit ∷ []) _ refl $ nothing ! $ nothing ! $ join ! $ nothing ! $ join ! $ nothing ! $ group ! 3 $ done !))))))
