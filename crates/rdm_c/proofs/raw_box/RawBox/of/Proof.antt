-- `of`: the pointer and the handle that the box comes apart into are a `RawBox`, with what lies at the pointer.
use Rattle.std.proofs.Common.{◌≡◌, List, [], ◌∷◌, ◌++◌, refl, sym, ap, subst}
use mir.Syntax.{a_type, dcons, dnil}
use mir.Val.{Val, vptr}
use mir.MapTy.{inst_fn}
use base.Logic.{SProp, ent, emp, id⊢}
use base.Fml.{ftrue, fsep, flft}
use prog.Wp.{WpFn}
use types.Kit.{use2, ‵, raw, ◌⊛◌, some, later, ◌$◌, ◌∵◌, !, qed, by, move, keep, drop, split, split3, join, fsplit, fjoin, pick, suffices, use0, use1, await, rewrite}
use types.Run.{stop, fld, of_opd, no_more, and_then, returns, enter}
use types.ByLocal.{alloc_all, pass_all, free_all, look_at, get, get_in, sets, lands_as}
use types.Part.{agg, sub, whole}
use contract.Monad.{fact, fact_i}
use contract.Running.{tables}
use denote.Exit.{no}
use denote.RattleType.{RattleType, owns}
use denote.Signature.{types_at, plain}
use denote.Builtin.{RawPtr}
use denote.RawPtr.{Ptr, block_ptr}
use denote.Steps.{nothing, only, heard}
use denote.Param.{param, bounded}
use denote.Param.Laws.{param_laws}
use denote.Struct.Tuple.{Tuple}
use denote.Triple.Spec.{triple_of}
use denote.Triple.Call.{calls_at}
use denote.Triple.Walked.{Stays, stay_dropped, walk_of}
use Rattle.core.proofs.alloc.Calls.{Al, Goes-blank, token}
use Rattle.std_alloc.proofs.Pairs.{pair_val}
use Rattle.core.proofs.atomic.Steps.{fm}
use Rattle.std_alloc.specs.Box.Ownership.{box_owns}
use Rattle.std_alloc.proofs.BoxSteps.Form as box
use Rattle.std_alloc.proofs.BoxSteps.Steps.{box_out, box_in}
use Rattle.std.proofs.raw_atomic.Walks.{proved_at, leaves}
use Rattle.rdm_c.proofs.Values.{RawBox, spot_fits, raw_box_opens, raw_box_closes}
use Rattle.std_alloc.specs.contracts.boxed.Box.into_raw_with_allocator as callee
use Rattle.std_alloc.proofs.boxed.Box.into_raw_with_allocator.Met.{met}
use Rattle.rdm_c.specs.contracts.raw_box.RawBox.of.{ended, clauses}
use Rattle.rdm_c.specs.contracts.raw_box.RawBox.of.Key.{name as #self}
use Rattle.rdm_c.proofs.raw_box.RawBox.of.Statement.{statement}
use Rattle.rdm_c.proofs.raw_box.RawBox.of.Code as code

pub of_spec : {M : Type 1} → statement M
of_spec 𝓤 𝓛 𝓜 𝓡 wired T A L LA g d dx dd allocator glue glued =
    let H = 𝓛.H in let 𝓣 = tables 𝓤 H 𝓜 𝓡 𝓡.env in let R : RattleType = param 0 T in
    let Z : Al = record { row = param 1 A; laws = param_laws 1 A LA; g = g; d = d; drops = dd } in
    let En = ended T A g d dx dd in let c = clauses T A g d dx dd 𝓛 𝓜.mem 𝓡.returns in
    let E : box.Bx = record { row = T; laws = L; al = record { row = A; laws = LA; g = g; d = d; drops = dd } } in
    let inst = bounded (a_type ∷ a_type ∷ []) (T, (A, tt)) (dcons d (dcons dx (dcons dd dnil))) in let fn = inst_fn inst code.function in
    let hs : Stays En.signature.params En.kept = (stay_dropped (plain (λ _. box.B E)) no, tt) in
    proved_at 𝓛 En hs c 𝓜 𝓡 (Goes-blank 𝓛 2 (plain (λ _. box.B E)) no (λ κs x f. tt), tt) (#self inst) fn (code.unfolded 𝓤 H 𝓜 𝓡 wired (T, (A, tt)) d dx dd) (λ z are.
    let κs = z.0.0 in let qs = z.0.1 in let v = z.0.3.0 in let a = v.alloc in
    let Post : Val → SProp 𝓤 = (walk_of 𝓛 En hs c).post z in let Run : List Val → SProp 𝓤 = λ ws. WpFn 𝓤 H 𝓣.C 𝓣.Λ fn ws Post in
    let toks = ‵ (flft κs.0 qs.0) ⊛ ‵ (flft κs.1.0 qs.1.0) ⊛ ‵ ftrue in
    let Cut = triple_of 𝓛 (callee.signature T A g d dd dx) (callee.spec T A g d dd dx 𝓛 𝓜.mem 𝓡.returns) in
    qed 𝓛 ((toks ⊛ ‵ (owns (types_at En.signature.params κs) z.0.3 z.0.4)) ∷ raw ((c κs z.0.3).requires z.1) ∷ []) ∵ split ! $ move ! (1 ∷ []) $ fsplit !
    $ box_out E ! v z.0.4.0 (λ b o h e ws fits. box_in E ! v b o v.value e refl $
    let w : Val = box.word E h b o in let y : Cut.Ghost = ((κs, qs, tt, (v, tt), (w ∷ [], tt)), tt) in
    -- [the box; nothing; the tokens; what is asked]
    fjoin ! $ move ! (1 ∷ 0 ∷ []) $ join ! $ join ! $ use1 𝓛 (raw (Cut.pre y)) (id⊢ 𝓤 _) $
    suffices ! (Run (w ∷ [])) (subst (λ (us : List Val). ent 𝓤 (Run (w ∷ [])) (Run us)) (sym (λ i. ws i ++ [])) (id⊢ 𝓤 (Run (w ∷ [])))) $
    enter ! 𝓣.C 𝓣.Λ fn (w ∷ []) Post $ alloc_all ! (λ l. pass_all ! refl (spot_fits Z b o h fits, tt) $ sets ! (of_opd ! (get ! refl)) refl (spot_fits Z b o h fits) $
    calls_at ! (fm 𝓛 𝓜 𝓡) Cut (met 𝓤 𝓛 𝓜 𝓡 (code.calls-std_alloc::boxed::Box::into_raw_with_allocator 𝓡.env wired) T A L LA g d dd dx allocator glued glue) y (and_then ! (get ! refl) (no_more !)) (λ u.
    use1 𝓛 (later (some (λ (r : Ptr × A.Denot). (toks ⊛ ‵ ((Tuple (RawPtr ∷ Z.row ∷ [])).own_val r (u ∷ []))) ⊛ some (λ (_ : (Unit {0} × (Unit {0} × Unit {0})) × Unit {0}).
    ‵ (fsep (fsep ftrue (fsep ftrue ftrue)) ftrue) ⊛ (raw (fact 𝓤 (r.1 ≡ a)) ⊛ ‵ (box_owns (token Z a) R r.0 v.value)))))) (id⊢ 𝓤 _) $
    await ! tt $ pick ! (λ r. split ! $ move ! (1 ∷ []) $ pick ! (λ _. split3 ! $ drop ! $ heard ! (r.1 ≡ a) (λ same. let s : (RawBox R Z).Denot = record { place = r.0; heap = r.1; value = v.value } in
    -- [what lies at the place; the tokens and the pair]
    rewrite ! 0 (λ (t : A.Denot). ‵ (box_owns (token Z t) R r.0 v.value)) (sym same) refl $ move ! (1 ∷ []) $ split ! $ move ! (1 ∷ 2 ∷ 0 ∷ []) $
    use2 𝓛 (‵ ((RawBox R Z).own_val s (u ∷ []))) (id⊢ 𝓤 _) $ raw_box_opens R Z ! s (u ∷ []) (λ b' o' h' lies shape fits'. let good = spot_fits Z b' o' h' fits' in
    lands_as ! (ap only shape) refl good $
    sets ! (of_opd ! (get_in ! (fld ! refl (stop !)) (sub ! 0 refl (whole !)))) refl (tt, tt) $ sets ! (of_opd ! (get_in ! (fld ! refl (stop !)) (sub ! 1 refl (whole !)))) refl fits' $
    sets ! (of_opd ! (get ! refl)) refl fits' $ sets ! (agg ! (and_then ! (get ! refl) (and_then ! (get ! refl) (no_more !)))) refl good $ raw_box_closes R Z ! b' o' h' r.1 v.value $
    use0 𝓛 (raw (fact 𝓤 (v.value ≡ v.value))) (fact_i 𝓤 (v.value ≡ v.value) (emp 𝓤) refl) $ nothing ! $ nothing ! $ fjoin ! $
    returns ! (look_at ! 0 refl) $ free_all ! refl $ keep ! (3 ∷ 0 ∷ 2 ∷ 1 ∷ []) $
    by ! (leaves 𝓛 En hs c z (pair_val (vptr b' o') h') (record { place = block_ptr b' o'; heap = r.1; value = v.value }) ((tt, (tt, tt)), tt) (tt, tt))))))))))
