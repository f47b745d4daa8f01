-- A handle that holds nothing is {0}. Assumes `Logic`.
--     null_or_block     an address is null, or lies in a block
--     lent_again        what lies at the address that a slice was made of lies at the one that was passed
--     said_of_bytes     the last of five things that are said is said of what lies there
--     emptied           what lies at a place is {0}, if it is a handle that holds nothing
use Rattle.std.proofs.Common.{◌≡◌, ℕ, zero, suc, List, [], ◌∷◌, refl, ap, ◌∙◌, subst, inl, inr, arith}
use seplogic.Ra.Ura.{Ura}
use base.Fraction.{full_share}
use base.Logic.{SProp, ent, ex, ex_i, id⊢, never_e, sep}
use base.Fml.{fsep}
use types.Logic.{Logic, sem}
use mir.Val.{Val}
use types.Kit.{‵, raw, ◌⊛◌, ◌$◌, ◌∵◌, !, qed, move, drop, split, join, fsplit, fpick, fpack, fjoin, feq_l, feq_i, rewrite, use1, done}
use denote.Memory.{cell_at, part_at, part_of}
use denote.RattleType.{RattleType}
use denote.RawPtr.{Ptr, block_ptr, null_ptr}
use Rattle.std.specs.Prelude.{◌⊎◌, Option, None}
use Rattle.rdm_c.specs.Held.{held_at}
use Rattle.rdm_c.specs.Places.{array_at, nobody, writable_at}
use Rattle.rdm_c.specs.contracts.endpoint.Endpoint as endpoint
use Rattle.rdm_c.specs.contracts.handle.Handle as handle
use Rattle.rdm_c.proofs.Values.{word, handle_opens, handle_closes}

pub null_or_block {ℓ} : (P : Ptr → Type ℓ) (p : Ptr) → P null_ptr → ((b o : ℕ) → P (block_ptr b o)) → P p
null_or_block P (block_ptr b o) null block = block b o
null_or_block P null_ptr null block = null

pub none_or_more {ℓ} : (P : ℕ → Type ℓ) (n : ℕ) → P 0 → ((k : ℕ) → P (suc k)) → P n
none_or_more P zero none more = none
none_or_more P (suc k) none more = more k

pub emptied : {M : Type 1} {𝓤 : Ura M} (𝓛 : Logic 𝓤) (h : (handle.the_row).Denot) (b o : ℕ) → h.held ≡ None
    → ent 𝓤 (sem 𝓛 (part_at handle.the_row full_share h b o)) (sem 𝓛 (part_at handle.the_row full_share nobody b o))
unfolding part_of
emptied {𝓤 = 𝓤} 𝓛 h b o nothing_held =
    let R : RattleType = handle.the_row in
    qed 𝓛 (‵ (part_at R full_share h b o) ∷ []) ∵ fpick ! (λ vs. fsplit ! $ move ! (1 ∷ []) $ handle_opens ! h vs (λ ws.
    rewrite ! 0 (λ (m : Option (endpoint.the_row).Denot). ‵ (held_at h.at m)) nothing_held refl $ feq_l ! (λ null.
    rewrite ! 0 (λ (us : List Val). ‵ (cell_at full_share R.mir us b o)) (ws ∙ ap (λ (p : Ptr). word p ∷ []) null) refl $
    feq_i ! Ptr null_ptr null_ptr refl $ handle_closes ! null_ptr None $ move ! (1 ∷ []) $ fjoin ! $
    fpack ! (List Val) (λ us. fsep (cell_at full_share R.mir us b o) (R.own_val nobody us)) (word null_ptr ∷ []) $ done !)))

never_array : {M : Type 1} {𝓤 : Ura M} (𝓛 : Logic 𝓤) (at : Ptr) (n : ℕ) (bs : List ℕ) → ent 𝓤 (sem 𝓛 (array_at null_ptr n bs)) (sem 𝓛 (writable_at at n bs))
never_array {𝓤 = 𝓤} 𝓛 at n bs = never_e 𝓤 _

suc-not-zero : {k : ℕ} → suc k ≡ 0 → ⊥
suc-not-zero e = omega arith

pub lent_again : {M : Type 1} {𝓤 : Ura M} (𝓛 : Logic 𝓤) (at r : Ptr) (n : ℕ) (bs : List ℕ) → (n ≡ 0) ⊎ (r ≡ at)
    → ent 𝓤 (sem 𝓛 (array_at r n bs)) (sem 𝓛 (writable_at at n bs))
lent_again 𝓛 at null_ptr n bs place = never_array 𝓛 at n bs
lent_again 𝓛 at (block_ptr b o) zero [] place = qed 𝓛 (‵ (array_at (block_ptr b o) 0 []) ∷ []) ∵ drop ! $ feq_i ! (List ℕ) [] [] refl $ done !
lent_again 𝓛 at (block_ptr b o) zero (x ∷ xs) place =
    qed 𝓛 (‵ (array_at (block_ptr b o) 0 (x ∷ xs)) ∷ []) ∵ fsplit ! $ drop ! $ fsplit ! $ feq_l ! (λ e. absurd (suc-not-zero e))
lent_again 𝓛 at (block_ptr b o) (suc k) bs (inl e) = absurd (suc-not-zero e)
lent_again {𝓤 = 𝓤} 𝓛 at (block_ptr b o) (suc k) bs (inr e) = subst (λ (q : Ptr). ent 𝓤 (sem 𝓛 (array_at (block_ptr b o) (suc k) bs)) (sem 𝓛 (array_at q (suc k) bs))) e (id⊢ 𝓤 _)

pub said_of_bytes : {M : Type 1} {𝓤 : Ura M} (𝓛 : Logic 𝓤) (B S : List ℕ → SProp 𝓤) (bs : List ℕ) (P Q R T : SProp 𝓤)
    → ent 𝓤 (sep 𝓤 (B bs) (sep 𝓤 P (sep 𝓤 Q (sep 𝓤 R (sep 𝓤 T (S bs)))))) (sep 𝓤 P (sep 𝓤 Q (sep 𝓤 R (sep 𝓤 T (ex 𝓤 (λ cs. sep 𝓤 (B cs) (S cs)))))))
said_of_bytes {𝓤 = 𝓤} 𝓛 B S bs P Q R T =
    qed 𝓛 ((raw (B bs) ⊛ raw P ⊛ raw Q ⊛ raw R ⊛ raw T ⊛ raw (S bs)) ∷ []) ∵
    split ! $ move ! (1 ∷ []) $ split ! $ move ! (1 ∷ []) $ split ! $ move ! (1 ∷ []) $ split ! $ move ! (1 ∷ []) $ split ! $
    -- [T; what is said of the bytes; R; Q; P; the bytes]
    move ! (5 ∷ 1 ∷ []) $ join ! $ use1 𝓛 (raw (ex 𝓤 (λ cs. sep 𝓤 (B cs) (S cs)))) (ex_i 𝓤 (λ cs. sep 𝓤 (B cs) (S cs)) bs) $
    move ! (1 ∷ 0 ∷ []) $ join ! $ move ! (1 ∷ 0 ∷ []) $ join ! $ move ! (1 ∷ 0 ∷ []) $ join ! $ move ! (1 ∷ 0 ∷ []) $ join ! $ done !
