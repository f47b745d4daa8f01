-- `free_at` lends the handle that lies at the place to `free`, unless the place is null.
use Rattle.std.proofs.Common.{◌≡◌, List, [], ◌∷◌, ◌++◌, refl, sym, ap, subst, lit<}
use base.Fraction.{full_share}
use base.Logic.{SProp, ent, sep, id⊢}
use base.Fml.{GName, ftrue, flft, flent}
use mir.Syntax.{named}
use mir.Val.{Val, vptr, vunit, vnull}
use prog.Wp.{WpFn}
use types.Logic.{sem}
use types.Kit.{‵, raw, ◌⊛◌, some, later, at_ret, ◌$◌, ◌∵◌, !, qed, by, move, keep, drop, split, join, fsplit, fjoin, suffices, use1, use2, use3, rewrite, feq_l, feq_i, pick, await}
use types.Tokens.{lft_new, lft_end}
use types.Run.{bin, lit, unit_lit, addr, stop, of_opd, no_more, and_then, first, branches, blocks, skips, exec, returns, returns_within, enter}
use types.ByLocal.{alloc_all, pass_all, free_all, look_at, get, through, sets, sets_last, lands_as, env}
use types.SemTy.{Body}
use contract.Monad.{fact}
use contract.Running.{tables}
use denote.Builtin.{unit}
use denote.Lend.{lends_ref, ref_back}
use denote.Memory.{mem, part_at}
use denote.RattleType.{RattleType, owns}
use denote.RawPtr.{Ptr, RawPtr, block_ptr, null_ptr, ptr_val, Testable, tests_null}
use denote.Ref.{MutRef, MutBor}
use denote.Signature.{types_at, plain}
use denote.Steps.{nothing, heard, only}
use denote.Triple.Call.{calls_at}
use denote.Triple.Clauses.{lasts}
use denote.Triple.Entry.{alive}
use denote.Triple.Spec.{triple_of}
use denote.Triple.Table.{framed}
use denote.Triple.Walked.{Stays, stay_dropped, Goes-dropped, walk_of}
use Rattle.std.specs.Prelude.{None}
use Rattle.core.proofs.alloc.Calls.{Goes-blank, handle_tells}
use Rattle.std.proofs.raw_atomic.Walks.{proved_at, leaves}
use Rattle.std_heap.specs.contracts.Global as heap
use Rattle.rdm_c.specs.Places.{handle_at, nobody}
use Rattle.rdm_c.specs.contracts.handle.Handle as handle
use Rattle.rdm_c.proofs.Emptied.{null_or_block, emptied}
use Rattle.rdm_c.proofs.Values.{the_heap}
use Rattle.rdm_c.specs.contracts.keeping.free as g
use Rattle.rdm_c.proofs.keeping.free.Met.{met}
use Rattle.rdm_c.specs.contracts.keeping.free_at.{ended, clauses}
use Rattle.rdm_c.specs.contracts.keeping.free_at.Key.{name as #self}
use Rattle.rdm_c.proofs.keeping.free_at.Statement.{statement}
use Rattle.rdm_c.proofs.keeping.free_at.Code as code

pub free_at_spec : {M : Type 1} → statement M
free_at_spec 𝓤 𝓛 𝓜 𝓡 wired =
    let H = 𝓛.H in let 𝓣 = tables 𝓤 H 𝓜 𝓡 𝓡.env in let R : RattleType = handle.the_row in let Z : RattleType = heap.the_row in
    let En = ended in let c = clauses 𝓛 𝓜.mem 𝓡.returns in let fn = code.function in
    let hs : Stays En.signature.params En.kept = (stay_dropped (plain (λ _. Z)) En.kept.0, (stay_dropped (plain (λ _. RawPtr)) En.kept.1.0, tt)) in
    proved_at 𝓛 En hs c 𝓜 𝓡 (Goes-blank 𝓛 0 (plain (λ _. Z)) En.kept.0 (λ κs x f. tt), (Goes-dropped 𝓛 0 (plain (λ _. RawPtr)) En.kept.1.0 (λ κs x f. refl), tt)) #self fn (code.unfolded 𝓤 H 𝓜 𝓡 wired) (λ z are.
    let a = z.0.3.0 in let p : Ptr = z.0.3.1.0 in let x = z.1 in let toks : SProp 𝓤 = alive 𝓛 En.signature z.0.0 z.0.1 in
    let Post : Val → SProp 𝓤 = (walk_of 𝓛 En hs c).post z in let Run : List Val → SProp 𝓤 = λ us. WpFn 𝓤 H 𝓣.C 𝓣.Λ fn us Post in
    qed 𝓛 ((raw toks ⊛ ‵ (owns (types_at En.signature.params z.0.0) z.0.3 z.0.4)) ∷ (raw (fact 𝓤 (Testable p)) ⊛ ‵ (handle_at p x)) ∷ []) ∵
    move ! (1 ∷ []) $ split ! $ heard ! (Testable p) (λ may. move ! (1 ∷ []) $ split ! $ move ! (1 ∷ []) $ fsplit ! $ handle_tells the_heap ! a z.0.4.0 (λ hv eh fits.
    -- [the heap's handle; the pointer; the tokens; what lies at the place]
    suffices ! (Run (hv ∷ ptr_val p ∷ [])) (subst (λ (us : List Val). ent 𝓤 (Run (hv ∷ ptr_val p ∷ [])) (Run us)) (sym (λ i. eh i ++ (are.1.0 i ++ []))) (id⊢ 𝓤 _)) $
    keep ! (0 ∷ 2 ∷ 3 ∷ []) $
    by ! (null_or_block (λ s. p ≡ s → Testable s → ent 𝓤 (sep 𝓤 (sem 𝓛 (Z.own_val a (hv ∷ []))) (sep 𝓤 toks (sem 𝓛 (handle_at s x)))) (Run (hv ∷ ptr_val s ∷ []))) p
    (λ e null. qed 𝓛 (‵ (Z.own_val a (hv ∷ [])) ∷ raw toks ∷ ‵ (handle_at null_ptr x) ∷ []) ∵
    enter ! 𝓣.C 𝓣.Λ fn (hv ∷ vnull ∷ []) Post $ alloc_all ! (λ l. pass_all ! refl (fits, ((tt, record { fits = lit< tt }), tt)) $
    sets ! (of_opd ! (get ! refl)) refl (tt, record { fits = lit< tt }) $
    sets ! (bin ! (get ! refl) (lit ! tt) (tests_null null_ptr null)) refl (tt, tt) $
    first ! $ branches ! (get ! refl)
    (λ t. sets ! (of_opd ! (unit_lit !)) refl (tt, tt) $ returns_within ! Post refl (look_at ! 0 refl) $ free_all ! refl $ drop ! $
    -- [the tokens; nothing]
    rewrite ! 1 (λ (q : Ptr). ‵ (handle_at q nobody)) (sym e) refl $ feq_i ! (List Val) (vunit ∷ []) (vunit ∷ []) refl $
    nothing ! $ nothing ! $ fjoin ! $ nothing ! $ fjoin ! $ move ! (2 ∷ 0 ∷ 1 ∷ 3 ∷ []) $ by ! (leaves 𝓛 En hs c z vunit tt (tt, (tt, tt)) (tt, (tt, tt))))
    (λ t. absurd t)))
    (λ b o e block. let v : Val = vptr b o in qed 𝓛 (‵ (Z.own_val a (hv ∷ [])) ∷ raw toks ∷ ‵ (part_at R full_share x b o) ∷ []) ∵
    enter ! 𝓣.C 𝓣.Λ fn (hv ∷ v ∷ []) Post $ alloc_all ! (λ l. pass_all ! refl (fits, ((tt, tt), tt)) $
    sets ! (of_opd ! (get ! refl)) refl (tt, tt) $
    sets ! (bin ! (get ! refl) (lit ! tt) (tests_null (block_ptr b o) block)) refl (tt, tt) $
    first ! $ branches ! (get ! refl) (λ t. absurd t)
    (λ t. skips ! $ exec ! 𝓣.C 𝓣.Λ (env code.Mir.locals l) code.Mir.t-4 (at_ret (env code.Mir.locals l) Post) $
    sets ! (of_opd ! (get ! refl)) refl fits $
    first ! $ blocks ! $ sets_last ! (addr ! (through ! refl (stop !))) refl (tt, tt) $
    exec ! 𝓣.C 𝓣.Λ (env code.Mir.locals l) code.Mir.t-6 (at_ret (env code.Mir.locals l) Post) $
    sets ! (of_opd ! (get ! refl)) refl (tt, tt) $
    -- the loan, for a lifetime of its own
    lft_new ! tt (λ α. let κ = α ∷ [] in move ! (3 ∷ []) $
    use1 𝓛 (later (some (λ (γ : GName). ‵ ((MutRef (named 0) κ R).own_val (record { ref_ptr = (b, o); ghost_name = γ; now = x }) (v ∷ [])) ⊛ ‵ (flent κ (Body (mem R) b o γ)))))
    (lends_ref 𝓛 R (named 0) κ x b o) $ await ! tt $ pick ! (λ γ. split ! $
    -- [the loan; what the lender keeps; the token of α; the heap's handle; the tokens]
    let G = triple_of 𝓛 g.signature (g.spec 𝓛 𝓜.mem 𝓡.returns) in let r : MutBor R.Denot = record { ref_ptr = (b, o); ghost_name = γ; now = x } in
    let y : G.Ghost = (((κ, tt), (full_share, tt), tt, (a, (r, tt)), (hv ∷ [], (v ∷ [], tt))), tt) in
    nothing ! $ move ! (1 ∷ 0 ∷ []) $ join ! $ move ! (3 ∷ 0 ∷ []) $ join ! $ nothing ! $ move ! (3 ∷ 0 ∷ []) $ join ! $ join ! $
    nothing ! $ move ! (1 ∷ 0 ∷ []) $ use2 𝓛 (raw (G.pre y)) (id⊢ 𝓤 _) $
    calls_at ! (framed 𝓤 H 𝓜 𝓣) G (met 𝓤 𝓛 𝓜 𝓡 (code.calls-rdm_c::keeping::free 𝓡.env wired)) y
    (and_then ! (get ! refl) (and_then ! (get ! refl) (no_more !))) (λ u.
    use1 𝓛 (later (some (λ (w : Unit {0}). ((‵ (flft κ full_share) ⊛ ‵ ftrue) ⊛ ‵ (unit.own_val w (u ∷ []))) ⊛
    some (λ (ws : Unit {0} × (R.Denot × Unit {0})). ‵ (lasts g.ended y.0.0 y.0.3 ws) ⊛ raw (fact 𝓤 (ws.1.0.held ≡ None)))))) (id⊢ 𝓤 _) $
    await ! tt $ pick ! (λ w. split ! $ split ! $ split ! $ lft_end ! tt $ move ! (2 ∷ []) $ feq_l ! (λ is_unit. lands_as ! (ap only is_unit) refl (tt, tt) $
    move ! (2 ∷ []) $ pick ! (λ ws. split ! $ move ! (1 ∷ []) $ heard ! (ws.1.0.held ≡ None) (λ empty. fsplit ! $ drop ! $ fsplit ! $ fsplit ! $
    -- [the loan's last value; its borrow; nothing; α is over; nothing; what the lender keeps; the tokens]
    move ! (3 ∷ 5 ∷ 0 ∷ []) $ use3 𝓛 (later (‵ (part_at R full_share ws.1.0 b o))) (ref_back 𝓛 R κ γ ws.1.0 b o) $ await ! tt $
    use1 𝓛 (‵ (handle_at (block_ptr b o) nobody)) (emptied 𝓛 ws.1.0 b o empty) $ rewrite ! 0 (λ (q : Ptr). ‵ (handle_at q nobody)) (sym e) refl $
    sets ! (of_opd ! (unit_lit !)) refl (tt, tt) $ returns ! (look_at ! 0 refl) $ free_all ! refl $ keep ! (4 ∷ 0 ∷ []) $
    -- [the tokens; what lies at the place]
    feq_i ! (List Val) (vunit ∷ []) (vunit ∷ []) refl $ nothing ! $ nothing ! $ fjoin ! $ nothing ! $ fjoin ! $ move ! (2 ∷ 0 ∷ 1 ∷ 3 ∷ []) $
    by ! (leaves 𝓛 En hs c z vunit tt (tt, (tt, tt)) (tt, (tt, tt))))))))))))) refl may))))
