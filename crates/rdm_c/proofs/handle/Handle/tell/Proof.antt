-- `tell` compares the pointer with null, which what it owns allows.
use Rattle.std.proofs.Common.{◌≡◌, List, [], ◌∷◌, ◌++◌, refl, sym, subst}
use mir.Val.{Val, vbool}
use base.Logic.{SProp, ent, emp, id⊢, guard_i}
use base.Fml.{ftrue}
use prog.Wp.{WpFn}
use types.Logic.{sem}
use types.Kit.{‵, raw, ◌⊛◌, given, learn, ◌$◌, ◌∵◌, !, qed, by, move, keep, split, fsplit, fjoin, suffices, use0, use1, use2, feq_i}
use types.Run.{bin, un, lit, stop, fld, of_opd, no_more, and_then, returns, enter}
use types.ByLocal.{is, alloc_all, pass_all, free_all, look_at, get, get_in, sets}
use types.Part.{agg, sub, whole}
use contract.Monad.{fact, fact_i, fact_use}
use contract.Running.{tables}
use denote.Builtin.{bool}
use denote.RattleType.{RattleType, owns}
use denote.Signature.{types_at, plain}
use denote.RawPtr.{tests_null, Ptr}
use denote.Steps.{nothing}
use denote.Struct.Tuple.{Tuple}
use denote.Triple.Entry.{alive}
use denote.Triple.Walked.{Stays, stay_dropped, walk_of}
use Rattle.std.specs.Option.{is_some}
use Rattle.std_alloc.proofs.ResultValues.{and_tt}
use Rattle.std_alloc.proofs.Pairs.{pair_of, pair_val}
use Rattle.core.proofs.alloc.Calls.{Goes-blank}
use Rattle.std.proofs.raw_atomic.Walks.{proved_at, leaves}
use Rattle.rdm_c.specs.Held.{held_at}
use Rattle.rdm_c.specs.contracts.handle.Handle as handle
use Rattle.rdm_c.proofs.Values.{word, handle_closes, handle_opens, Tells, tells_held, ptr_fits, back}
use Rattle.rdm_c.specs.contracts.handle.Handle.tell.{ended, clauses}
use Rattle.rdm_c.specs.contracts.handle.Handle.tell.Key.{name as #self}
use Rattle.rdm_c.proofs.handle.Handle.tell.Statement.{statement}
use Rattle.rdm_c.proofs.handle.Handle.tell.Code as code

pub tell_spec : {M : Type 1} → statement M
tell_spec 𝓤 𝓛 𝓜 𝓡 wired =
    let H = 𝓛.H in let 𝓣 = tables 𝓤 H 𝓜 𝓡 𝓡.env in let R : RattleType = handle.the_row in
    let En = ended in let c = clauses 𝓛 𝓜.mem 𝓡.returns in let fn = code.function in
    let hs : Stays En.signature.params En.kept = (stay_dropped (plain (λ _. R)) En.kept.0, tt) in
    proved_at 𝓛 En hs c 𝓜 𝓡 (Goes-blank 𝓛 0 (plain (λ _. R)) En.kept.0 (λ κs x f. tt), tt) #self fn (code.unfolded 𝓤 H 𝓜 𝓡 wired) (λ z are.
    let v = z.0.3.0 in let p : Ptr = v.at in let there = is_some v.held in let Post : Val → SProp 𝓤 = (walk_of 𝓛 En hs c).post z in let Run : List Val → SProp 𝓤 = λ ws. WpFn 𝓤 H 𝓣.C 𝓣.Λ fn ws Post in
    qed 𝓛 ((raw (alive 𝓛 En.signature z.0.0 z.0.1) ⊛ ‵ (owns (types_at En.signature.params z.0.0) z.0.3 z.0.4)) ∷ ‵ ftrue ∷ []) ∵ split ! $ move ! (1 ∷ []) $ fsplit ! $ handle_opens ! v z.0.4.0 (λ ws.
    use1 𝓛 (given (Tells p there) (‵ (held_at p v.held))) (fact_use 𝓤 _ (tells_held 𝓛 p v.held) (guard_i 𝓤 (Tells p there) (sem 𝓛 (held_at p v.held)))) $ learn ! (λ told.
    -- [what the pointer owns; nothing; the tokens; nothing]
    let w : Val = word p in let good = ptr_fits p in
    suffices ! (Run (w ∷ [])) (subst (λ (us : List Val). ent 𝓤 (Run (w ∷ [])) (Run us)) (sym (λ i. ws i ++ [])) (id⊢ 𝓤 (Run (w ∷ [])))) $ keep ! (0 ∷ 2 ∷ []) $
    enter ! 𝓣.C 𝓣.Λ fn (w ∷ []) Post $ alloc_all ! (λ l. pass_all ! refl ((and_tt _ good.0, (good.1, tt)), tt) $
    sets ! (of_opd ! (get_in ! (fld ! refl (stop !)) (sub ! 0 refl (whole !)))) refl good $
    sets ! (is ! (bin ! (get ! refl) (lit ! tt) (tests_null p told.0)) told.1) refl (tt, tt) $
    sets ! (is ! (un ! (get ! refl) tt) (back there)) refl (tt, tt) $
    sets ! (agg ! (and_then ! (get ! refl) (no_more !))) refl (and_tt _ good.0, (good.1, tt)) $
    sets ! (agg ! (and_then ! (get ! refl) (and_then ! (get ! refl) (no_more !)))) refl (and_tt _ (and_tt _ good.0), (tt, ((good.1, tt), tt))) $
    returns ! (look_at ! 0 refl) $ free_all ! refl $ let d : R.Denot = record { at = p; held = v.held } in
    handle_closes ! p v.held $ feq_i ! (List Val) (vbool there ∷ []) (vbool there ∷ []) refl $
    use2 𝓛 (‵ ((Tuple (bool ∷ R ∷ [])).own_val (there, d) (pair_val (vbool there) w ∷ []))) (pair_of 𝓛 bool R there d (vbool there) w) $
    use0 𝓛 (raw (fact 𝓤 ((there ≡ there) × (v ≡ v)))) (fact_i 𝓤 ((there ≡ there) × (v ≡ v)) (emp 𝓤) (refl, refl)) $ nothing ! $ nothing ! $ fjoin ! $ move ! (3 ∷ 0 ∷ 2 ∷ 1 ∷ []) $
    by ! (leaves 𝓛 En hs c z (pair_val (vbool there) w) (there, d) (tt, tt) (tt, tt))))))
