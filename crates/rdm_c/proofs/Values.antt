-- The machine values of a `RawBox` and of a `Handle`. Assumes `Logic`.
--     raw_box_opens, raw_box_closes     a raw_box by value is [what lies at its place; the handle of the heap]
--     handle_opens, handle_closes     a handle by value is what its pointer owns
use Rattle.std.proofs.Common.{◌≡◌, ℕ, List, [], ◌∷◌, ◌++◌, refl, sym, ap, ◌∙◌, subst}
use mathlib.Core.Bool.{Bool, true, false, not, ◌&&◌}
use lib.Dec.{T, lit<}
use seplogic.Ra.Ura.{Ura}
use mir.Syntax.{ty_ptr, ptr_eq, bit_not, impl, tnil, dnil}
use mir.Raw.{raw as bare}
use mir.Val.{Val, vptr, vstruct, of_list, vnull, vbool, op1_val, op2_val, has_ty, WT}
use base.Logic.{ent, emp, id⊢, never, fst∗}
use base.Fml.{feq}
use types.Logic.{Logic, sem}
use types.Kit.{raw, ◌∵◌, !, qed, use0, use1, use2, done, Item, Goal, Seq, Step, step, ‵, ◌$◌, move, drop, fsplit, fjoin, fpick, fpack, feq_i, feq_l}
use contract.Monad.{fact, fact_i}
use denote.RattleType.{RattleType, Valss}
use denote.Builtin.{RawPtr}
use denote.Memory.{lone}
use denote.RawPtr.{Testable, Ptr, block_ptr, null_ptr, ptr_val, in_a_block}
use denote.Steps.{nothing, heard}
use denote.Struct.Struct.{within}
use denote.Struct.Owning.{shape}
use denote.Struct.Tuple.{Tuple}
use Rattle.std.specs.Prelude.{Option, Some, None, IsSome}
use Rattle.std.specs.Option.{is_some}
use Rattle.core.proofs.alloc.Calls.{Al, Fits, α, token, handle_tells}
use Rattle.std_alloc.proofs.ResultValues.{and_tt}
use Rattle.std_alloc.specs.Box.Ownership.{box_owns}
use Rattle.std_alloc.proofs.Pairs.{pair_val, pair_of}
use Rattle.std_heap.proofs.GlobalToken.{dealloc_token-Testable}
use Rattle.std_heap.specs.contracts.Global as heap
use Rattle.std_heap.proofs.Global.TheLaws as heap_laws
use Rattle.std_heap.specs.contracts.GlobalAllocator.TheImpl.{ghosts}
use Rattle.rdm_c.specs.Held.{held_at, may_free, any_handle}
use Rattle.rdm_c.specs.contracts.raw_box.RawBox as raw_box
use Rattle.rdm_c.specs.contracts.handle.Handle as handle
use Rattle.rdm_c.specs.contracts.endpoint.Endpoint as endpoint

-- the C library's heap, of which no method is called here
abbrev pub the_heap : Al
the_heap = record { row = heap.the_row; laws = heap_laws.the_row_laws; g = ghosts; d = impl [] tnil dnil; drops = impl [] tnil dnil }

-- a pointer into a block beside the handle of a heap
pub spot_fits : (Z : Al) (b o : ℕ) (h : Val) → Fits Z h → T (has_ty (α Z) h && true) × WT (pair_val (vptr b o) h)
spot_fits Z b o h fits = (and_tt (has_ty (α Z) h) fits.0, (tt, (fits.1, tt)))

module _ (R : RattleType) (Z : Al) where
  abbrev pub RawBox : RattleType
  RawBox = raw_box.the_row R Z.row Z.g

  module _ {M : Type 1} {𝓤 : Ura M} {𝓛 : Logic 𝓤} {K : Type 0} {Γ : List (Item 𝓤)} {G : Goal 𝓤 𝓛.H} where
    pub raw_box_opens : K → (s : RawBox.Denot) (vs : List Val)
        → ((b o : ℕ) (h : Val) → s.place ≡ block_ptr b o → vs ≡ pair_val (vptr b o) h ∷ [] → Fits Z h
        → Seq K 𝓛 (‵ (box_owns (token Z s.heap) R (block_ptr b o) s.value) ∷ ‵ (Z.row.own_val s.heap (h ∷ [])) ∷ Γ) G)
        → Seq K 𝓛 (‵ (RawBox.own_val s vs) ∷ Γ) G
    raw_box_opens t s vs k =
        fsplit t $ move t (1 ∷ []) $
        in_a_block t s.place (λ p. box_owns (token Z s.heap) R p s.value) (fst∗ 𝓤 (never 𝓤) (sem 𝓛 (token Z s.heap (bare (lone R.mir)) null_ptr))) (λ b o lies.
        -- [what lies there; the fields]
        move t (1 ∷ []) $ fpick t (λ parts. fsplit t $ feq_l t (λ whole. fsplit t $ feq_l t (λ word. fsplit t $ handle_tells Z t s.heap parts.1.0 (λ h one fits.
        move t (1 ∷ []) $ drop t $ move t (1 ∷ []) $
        k b o h lies (whole ∙ (λ i. vstruct (of_list ((word ∙ ap (λ (p : Ptr). ptr_val p ∷ []) lies) i ++ (one i ++ []))) ∷ [])) fits)))))

    pub raw_box_closes : K → (b o : ℕ) (h : Val) (a : Z.row.Denot) (x : R.Denot)
        → Step K 𝓛 (‵ (RawBox.own_val (record { place = block_ptr b o; heap = a; value = x }) (pair_val (vptr b o) h ∷ [])) ∷ Γ) G
        (‵ (box_owns (token Z a) R (block_ptr b o) x) ∷ ‵ (Z.row.own_val a (h ∷ [])) ∷ Γ) G
    raw_box_closes t b o h a x = step (λ s.
        move t (1 ∷ []) $ feq_i t (List Val) (vptr b o ∷ []) (vptr b o ∷ []) refl $
        use2 𝓛 (‵ ((Tuple (RawPtr ∷ Z.row ∷ [])).own_val (block_ptr b o, a) (pair_val (vptr b o) h ∷ []))) (pair_of 𝓛 RawPtr Z.row (block_ptr b o) a (vptr b o) h) $
        use2 𝓛 (‵ (RawBox.own_val (record { place = block_ptr b o; heap = a; value = x }) (pair_val (vptr b o) h ∷ []))) (id⊢ 𝓤 _) $ s)

-- ---- the pointer that C holds

abbrev pub word : Ptr → Val
word p = vstruct (of_list (ptr_val p ∷ []))

pub ptr_fits : (p : Ptr) → T (has_ty ty_ptr (ptr_val p)) × WT (ptr_val p)
ptr_fits (block_ptr b o) = (tt, tt)
ptr_fits null_ptr = (tt, record { fits = lit< tt })

module _ {M : Type 1} {𝓤 : Ura M} {𝓛 : Logic 𝓤} {K : Type 0} {Γ : List (Item 𝓤)} {G : Goal 𝓤 𝓛.H} where
  pub handle_opens : K → (d : (handle.the_row).Denot) (vs : List Val) → (vs ≡ word d.at ∷ [] → Seq K 𝓛 (‵ (held_at d.at d.held) ∷ Γ) G) → Seq K 𝓛 (‵ ((handle.the_row).own_val d vs) ∷ Γ) G
  handle_opens t d vs k =
      fsplit t $ fpick t (λ vss. fsplit t $ feq_l t (λ ev. fsplit t $ feq_l t (λ ep. drop t $
      k (ev ∙ (λ j. vstruct (of_list (ep j ++ [])) ∷ [])))))

  pub handle_closes : K → (p : Ptr) (x : Option (endpoint.the_row).Denot)
      → Step K 𝓛 (‵ ((handle.the_row).own_val (record { at = p; held = x }) (word p ∷ [])) ∷ Γ) G (‵ (held_at p x) ∷ Γ) G
  handle_closes t p x = step (λ s.
      nothing t $ feq_i t (List Val) (ptr_val p ∷ []) (ptr_val p ∷ []) refl $ fjoin t $ feq_i t (List Val) (word p ∷ []) (word p ∷ []) refl $ fjoin t $
      fpack t (Valss (RawPtr ∷ [])) (within (shape handle.the_type) (p, tt) (word p ∷ [])) (ptr_val p ∷ [], tt) $ fjoin t $ s)

pub by_some {ℓ} : {X : Type 0} {P : Type ℓ} (o : Option X) → IsSome o → ((x : X) → o ≡ Some x → P) → P
by_some None there k = absurd (subst T (sym there) tt)
by_some (Some x) there k = k x refl

-- what comparing the pointer with null says
abbrev pub Tells : Ptr → Bool → Type 0
Tells p there = Testable p × (op2_val ptr_eq (ptr_val p) vnull ≡ vbool (not there))

pub tells_held : {M : Type 1} {𝓤 : Ura M} (𝓛 : Logic 𝓤) (p : Ptr) (x : Option (endpoint.the_row).Denot) → ent 𝓤 (sem 𝓛 (held_at p x)) (fact 𝓤 (Tells p (is_some x)))
tells_held {𝓤 = 𝓤} 𝓛 p None =
    qed 𝓛 (‵ (feq Ptr p null_ptr) ∷ []) ∵ feq_l ! (λ e.
    use0 𝓛 (raw (fact 𝓤 (Tells p false))) (fact_i 𝓤 (Tells p false) (emp 𝓤) (subst (λ (q : Ptr). Tells q false) (sym e) (lit< tt, refl))) $ done !)
tells_held {𝓤 = 𝓤} 𝓛 p (Some x) =
    qed 𝓛 (‵ (box_owns may_free endpoint.the_row p x) ∷ []) ∵ in_a_block ! p (λ q. box_owns may_free endpoint.the_row q x) (fst∗ 𝓤 (never 𝓤) (sem 𝓛 (may_free (bare (lone (endpoint.the_row).mir)) null_ptr))) (λ b o e.
    fsplit ! $ drop ! $ use1 𝓛 (raw (fact 𝓤 (Testable (block_ptr b o)))) (dealloc_token-Testable 𝓛 any_handle _ (block_ptr b o)) $ heard ! (Testable (block_ptr b o)) (λ good.
    use0 𝓛 (raw (fact 𝓤 (Tells p true))) (fact_i 𝓤 (Tells p true) (emp 𝓤) (subst (λ (q : Ptr). Tells q true) (sym e) (good, refl))) $ done !))

pub back : (b : Bool) → op1_val bit_not (vbool (not b)) ≡ vbool b
back true = refl
back false = refl
