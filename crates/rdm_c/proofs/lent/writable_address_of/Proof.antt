-- `writable_address_of` returns the address that it is passed, or that of a constant where no bytes lie.
use Rattle.std.proofs.Common.{◌≡◌, ℕ, suc, ◌<◌, ◌^◌, List, [], ◌∷◌, refl, sym, subst, w64, lit<, inl, inr}
use lib.Dec.{T, eqb-suc-zero}
use base.Logic.{SProp, ent, emp, id⊢}
use contract.Monad.{fact, fact_i}
use Rattle.std.specs.Prelude.{◌⊎◌}
use mir.Val.{Val, vint, vptr}
use contract.Running.{tables}
use prog.Wp.{WpFn}
use types.Logic.{sem}
use types.Kit.{‵, raw, prop, at_ret, ◌$◌, ◌∵◌, !, qed, by, move, drop, fjoin, feq_l, use0, feq_i, rewrite, regoal, join}
use types.Run.{enter, of_opd, bin, lit, addr, stop, first, branches, skips, exec, statics, returns, returns_within}
use types.ByLocal.{alloc_all, pass_all, free_all, look_at, get, through, sets, lands_as, env}
use denote.Builtin.{u8, usize}
use denote.Exit.{yes}
use denote.Plain.{uint_vals, uint_Tells}
use denote.RawPtr.{Ptr, RawPtr, block_ptr, ptr_val, rawptr_vals, rawptr_Tells, rawptr_Lawful, in_a_block}
use denote.Shadow.{pure_i}
use denote.Signature.{plain}
use denote.Slice.{room}
use denote.Steps.{nothing}
use denote.Triple.Entry.{on_entry}
use denote.Triple.Walked.{Stays, walk_of, stay_dropped, Goes-dropped}
use Rattle.std.proofs.raw_atomic.Walks.{proved, leaves}
use Rattle.rdm_c.specs.Places.{array_at, writable_at}
use Rattle.rdm_c.proofs.Emptied.{none_or_more}
use Rattle.rdm_c.specs.contracts.lent.writable_address_of as f
use Rattle.rdm_c.proofs.lent.writable_address_of.Statement.{statement}
use Rattle.rdm_c.proofs.lent.writable_address_of.Code as code

abbrev stayed : Stays f.ended.signature.params f.ended.kept
stayed = (stay_dropped _ yes, (stay_dropped _ yes, tt))

pub writable_address_of_spec : {M : Type 1} → statement M
writable_address_of_spec 𝓤 𝓛 𝓜 𝓡 wired =
    let c = f.clauses 𝓛 𝓜.mem 𝓡.returns in let W = walk_of 𝓛 f.ended stayed c in let 𝓣 = tables 𝓤 𝓛.H 𝓜 𝓡 𝓡.env in
    proved 𝓛 f.ended stayed c 𝓜 𝓡 (Goes-dropped 𝓛 0 (plain (λ _. RawPtr)) yes (λ κs x w. refl), (Goes-dropped 𝓛 0 (plain (λ _. usize)) yes (λ κs x w. refl), tt))
    f.Key.name code.function (code.unfolded 𝓤 𝓛.H 𝓜 𝓡 wired)
    (λ κs. (rawptr_vals, (uint_vals w64, tt))) (λ κs. (rawptr_Tells, (uint_Tells w64, tt))) (λ κs qs bounds a bs are.
    let p : Ptr = a.0 in let n : ℕ = a.1.0 in
    let y : W.Ghost = ((κs, qs, bounds, a, (rawptr_vals p, (uint_vals w64 n, tt))), bs) in
    let Run : List Val → SProp 𝓤 = λ us. WpFn 𝓤 𝓛.H 𝓣.C 𝓣.Λ code.function us (W.post y) in
    qed 𝓛 (raw (on_entry 𝓛 f.signature κs qs a y.0.4) ∷ ‵ (writable_at p n bs) ∷ []) ∵ drop ! $
    by ! (none_or_more (λ m. n ≡ m → m < 2 ^ 64 → ent 𝓤 (sem 𝓛 (writable_at p m bs)) (Run (ptr_val p ∷ vint w64 m ∷ []))) n
    (λ e fits. qed 𝓛 (‵ (writable_at p 0 bs) ∷ []) ∵ feq_l ! (λ none.
    enter ! _ _ _ _ _ $ alloc_all ! (λ l. pass_all ! refl (((rawptr_Lawful 𝓛).typed p _ refl).0, ((tt, record { fits = fits }), tt)) $
    sets ! (bin ! (get ! refl) (lit ! tt) tt) refl (tt, tt) $
    first ! $ branches ! (get ! refl)
    (λ t. statics ! (λ b. (tt, record { fits = lit< tt })) (λ b s. drop ! $ lands_as ! refl refl (tt, tt) $
    sets ! (addr ! (through ! refl (stop !))) refl (tt, tt) $ sets ! (of_opd ! (get ! refl)) refl (tt, tt) $
    returns_within ! (W.post y) refl (look_at ! 0 refl) $ free_all ! refl $
    -- nothing lies at each address
    use0 𝓛 (raw (fact 𝓤 ((n ≡ 0) ⊎ (block_ptr b 0 ≡ p)))) (fact_i 𝓤 ((n ≡ 0) ⊎ (block_ptr b 0 ≡ p)) (emp 𝓤) (inl e)) $
    nothing ! $ feq_i ! ℕ 0 0 refl $ fjoin ! $ pure_i ! (room u8 0) (tt, tt) (lit< tt, lit< tt) $ fjoin ! $
    rewrite ! 0 (λ (us : List ℕ). ‵ (array_at (block_ptr b 0) 0 us)) (sym none) refl $ rewrite ! 0 (λ (m : ℕ). ‵ (array_at (block_ptr b 0) m bs)) (sym e) refl $ join ! $
    feq_i ! (List Val) (vptr b 0 ∷ []) (vptr b 0 ∷ []) refl $ nothing ! $ nothing ! $ fjoin ! $ nothing ! $ fjoin ! $ nothing ! $
    by ! (leaves 𝓛 f.ended stayed c y (vptr b 0) (block_ptr b 0) (tt, (tt, tt)) (tt, (tt, tt)))))
    (λ t. absurd t))))
    (λ k e fits. qed 𝓛 (‵ (writable_at p (suc k) bs) ∷ []) ∵ in_a_block ! p (λ q. array_at q (suc k) bs) (id⊢ 𝓤 _) (λ b o at.
    regoal ! (λ q. prop (Run (ptr_val q ∷ vint w64 (suc k) ∷ []))) at refl $
    enter ! _ _ _ _ _ $ alloc_all ! (λ l. pass_all ! refl ((tt, tt), ((tt, record { fits = fits }), tt)) $
    sets ! (bin ! (get ! refl) (lit ! tt) tt) refl (tt, tt) $
    first ! $ branches ! (get ! refl) (λ t. absurd (subst T (eqb-suc-zero k) t))
    (λ t. skips ! $ exec ! 𝓣.C 𝓣.Λ (env code.Mir.locals l) code.Mir.t-3 (at_ret _ (W.post y)) $
    sets ! (of_opd ! (get ! refl)) refl (tt, tt) $ returns ! (look_at ! 0 refl) $ free_all ! refl $
    rewrite ! 0 (λ (m : ℕ). ‵ (array_at (block_ptr b o) m bs)) (sym e) refl $
    use0 𝓛 (raw (fact 𝓤 ((n ≡ 0) ⊎ (block_ptr b o ≡ p)))) (fact_i 𝓤 ((n ≡ 0) ⊎ (block_ptr b o ≡ p)) (emp 𝓤) (inr (sym at))) $ move ! (1 ∷ 0 ∷ []) $ join ! $
    feq_i ! (List Val) (vptr b o ∷ []) (vptr b o ∷ []) refl $ nothing ! $ nothing ! $ fjoin ! $ nothing ! $ fjoin ! $ nothing ! $
    by ! (leaves 𝓛 f.ended stayed c y (vptr b o) (block_ptr b o) (tt, (tt, tt)) (tt, (tt, tt))))))) refl are.1.0.1))
