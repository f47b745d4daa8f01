-- `open` hands what the pointer owns to a place.
use Rattle.std.proofs.Common.{◌≡◌, List, [], ◌∷◌, ◌++◌, refl, sym, ap, ◌∙◌, subst}
use mir.Val.{Val, vptr}
use mir.Syntax.{ty_ptr}
use mir.Raw.{raw as bare}
use base.Logic.{SProp, ent, emp, id⊢, never, fst∗}
use prog.Wp.{WpFn}
use types.Logic.{sem}
use types.Kit.{‵, raw, ◌⊛◌, ◌$◌, ◌∵◌, !, qed, by, move, keep, split, fsplit, fjoin, suffices, use0, use1, rewrite}
use types.Run.{stop, fld, of_opd, no_more, and_then, returns, enter}
use types.ByLocal.{alloc_all, pass_all, free_all, look_at, get, get_in, sets}
use types.Part.{agg, sub, whole}
use contract.Monad.{fact, fact_i}
use contract.Running.{tables}
use denote.Memory.{lone}
use denote.RattleType.{RattleType, owns}
use denote.Signature.{types_at, plain}
use denote.RawPtr.{Ptr, block_ptr, null_ptr, in_a_block}
use denote.Steps.{nothing, heard}
use denote.Triple.Entry.{alive}
use denote.Triple.Walked.{Stays, stay_dropped, walk_of}
use Rattle.std.specs.Prelude.{Option, Some, IsSome}
use Rattle.core.proofs.alloc.Calls.{Goes-blank, handle_tells, token, α}
use Rattle.std.proofs.raw_atomic.Walks.{proved_at, leaves}
use Rattle.std_alloc.specs.Box.Ownership.{box_owns}
use Rattle.std_alloc.proofs.Pairs.{pair_val, pair_Typed}
use Rattle.std_heap.specs.contracts.Global as heap
use Rattle.rdm_c.specs.Held.{held_at, may_free}
use Rattle.rdm_c.specs.contracts.endpoint.Endpoint as endpoint
use Rattle.rdm_c.specs.contracts.handle.Handle as handle
use Rattle.rdm_c.proofs.Values.{the_heap, word, raw_box_closes, handle_opens, by_some}
use Rattle.rdm_c.specs.contracts.handle.Handle.open.{ended, clauses}
use Rattle.rdm_c.specs.contracts.handle.Handle.open.Key.{name as #self}
use Rattle.rdm_c.proofs.handle.Handle.open.Statement.{statement}
use Rattle.rdm_c.proofs.handle.Handle.open.Code as code

pub open_spec : {M : Type 1} → statement M
open_spec 𝓤 𝓛 𝓜 𝓡 wired =
    let H = 𝓛.H in let 𝓣 = tables 𝓤 H 𝓜 𝓡 𝓡.env in let S : RattleType = endpoint.the_row in let Z : RattleType = heap.the_row in
    let En = ended in let c = clauses 𝓛 𝓜.mem 𝓡.returns in let fn = code.function in
    let hs : Stays En.signature.params En.kept = (stay_dropped (plain (λ _. handle.the_row)) En.kept.0, (stay_dropped (plain (λ _. Z)) En.kept.1.0, tt)) in
    proved_at 𝓛 En hs c 𝓜 𝓡 (Goes-blank 𝓛 0 (plain (λ _. handle.the_row)) En.kept.0 (λ κs x f. tt), (Goes-blank 𝓛 0 (plain (λ _. Z)) En.kept.1.0 (λ κs x f. tt), tt)) #self fn (code.unfolded 𝓤 H 𝓜 𝓡 wired) (λ z are.
    let v = z.0.3.0 in let a = z.0.3.1.0 in let Post : Val → SProp 𝓤 = (walk_of 𝓛 En hs c).post z in let Run : List Val → SProp 𝓤 = λ ws. WpFn 𝓤 H 𝓣.C 𝓣.Λ fn ws Post in
    qed 𝓛 ((raw (alive 𝓛 En.signature z.0.0 z.0.1) ⊛ ‵ (owns (types_at En.signature.params z.0.0) z.0.3 z.0.4)) ∷ raw (fact 𝓤 (IsSome v.held)) ∷ []) ∵ move ! (1 ∷ []) $ heard ! (IsSome v.held) (λ there. by_some v.held there (λ x is. split ! $ move ! (1 ∷ []) $ fsplit ! $
    handle_opens ! v z.0.4.0 (λ ws. rewrite ! 0 (λ (m : Option S.Denot). ‵ (held_at v.at m)) is refl $
    in_a_block ! v.at (λ p. box_owns may_free S p x) (fst∗ 𝓤 (never 𝓤) (sem 𝓛 (may_free (bare (lone S.mir)) null_ptr))) (λ b o e.
    move ! (1 ∷ []) $ fsplit ! $ handle_tells the_heap ! a z.0.4.1.0 (λ h eh fits.
    -- [the heap's handle; nothing; what the pointer owns; the tokens]
    keep ! (2 ∷ 0 ∷ 3 ∷ []) $ let w : Val = word (block_ptr b o) in let us : List Val = w ∷ h ∷ [] in
    suffices ! (Run us) (subst (λ (ys : List Val). ent 𝓤 (Run us) (Run ys)) (sym (λ i. (ws ∙ ap (λ (p : Ptr). word p ∷ []) e) i ++ (eh i ++ []))) (id⊢ 𝓤 (Run us))) $
    enter ! 𝓣.C 𝓣.Λ fn us Post $ alloc_all ! (λ l. pass_all ! refl ((tt, (tt, tt)), (fits, tt)) $
    sets ! (of_opd ! (get_in ! (fld ! refl (stop !)) (sub ! 0 refl (whole !)))) refl (tt, tt) $
    sets ! (of_opd ! (get ! refl)) refl (tt, tt) $
    sets ! (agg ! (and_then ! (get ! refl) (and_then ! (get ! refl) (no_more !)))) refl (pair_Typed ty_ptr (α the_heap) (vptr b o) h (tt, tt) fits) $
    returns ! (look_at ! 0 refl) $ free_all ! refl $ use1 𝓛 (‵ (box_owns (token the_heap a) S (block_ptr b o) x)) (id⊢ 𝓤 _) $ raw_box_closes S the_heap ! b o h a x $
    use0 𝓛 (raw (fact 𝓤 (v.held ≡ Some x))) (fact_i 𝓤 (v.held ≡ Some x) (emp 𝓤) is) $ nothing ! $ nothing ! $ fjoin ! $ nothing ! $ fjoin ! $ move ! (3 ∷ 0 ∷ 2 ∷ 1 ∷ []) $
    by ! (leaves 𝓛 En hs c z (pair_val (vptr b o) h) (record { place = block_ptr b o; heap = a; value = x }) (tt, (tt, tt)) (tt, (tt, tt))))))))))
