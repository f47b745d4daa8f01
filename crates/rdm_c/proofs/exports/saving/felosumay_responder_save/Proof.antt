-- `save` is lent bytes to write: they are lent on as a slice for a lifetime of its own, and come back as what was written.
use Rattle.std.proofs.Common.{[], ◌∷◌, ◌∙◌, List, ap, length, refl, w64, w8, ℕ, ◌≡◌, sym, subst, MutBor}
use base.Logic.{id⊢}
use base.Fml.{flft, ftrue, GName, flent}
use mir.Syntax.{named}
use mir.Val.{Val}
use contract.Running.{tables}
use types.Kit.{‵, ◌⊛◌, ◌$◌, ◌∵◌, !, await, by, drop, feq_i, feq_l, fjoin, fsplit, join, keep, later, move, pick, qed, raw, some, split, use1, use2, use3, rewrite}
use types.Run.{addr, and_then, enter, no_more, returns, stop}
use types.ByLocal.{alloc_all, free_all, get, lands_as, look_at, pass_all, sets, through}
use types.Part.{agg}
use denote.Builtin.{u8, usize}
use denote.Exit.{yes}
use denote.Laws.{Is, shows}
use denote.Plain.{uint_Lawful, uint_Makes, uint_Tells, uint_vals}
use denote.RawPtr.{Ptr, RawPtr, in_a_block, ptr_val, rawptr_Lawful, rawptr_Tells, rawptr_vals}
use denote.Ref.{MutRef, mut_Tells, mut_vals}
use denote.Signature.{plain}
use denote.Slice.{slice_val, MutSlice, Room, room}
use denote.Steps.{nothing, only, owned, peeks, heard}
use denote.Struct.Laws.{tells, val}
use denote.Struct.Loose.{loose_lawful}
use denote.Triple.Call.{calls_at}
use denote.Triple.Clauses.{at_exit, lasts}
use denote.Triple.Spec.{triple_of}
use denote.Triple.Table.{framed}
use denote.Triple.Walked.{Goes-dropped, Goes-gave_ref, Stays, gave_ref, stay_dropped, walk_of}
use Rattle.core.proofs.alloc.Calls.{Goes-blank}
use Rattle.std.proofs.raw_atomic.Walks.{leaves, proved}
use base.Fraction.{full_share}
use types.Logic.{sem}
use contract.Monad.{fact}
use types.SemTy.{Arr}
use types.Tokens.{lft_new, lft_end}
use denote.Lend.{Held, lends_slice, slice_back}
use denote.Memory.{mem}
use denote.Shadow.{pure_l, pure_i}
use Rattle.std.specs.Prelude.{◌⊎◌, ◌↔◌, false, if◌then◌else◌, nat_le}
use Rattle.std_heap.specs.contracts.Global as heap
use Rattle.std_heap.proofs.Global.TheLaws as heap_laws
use Rattle.rdm_c.specs.Places.{array_at, writable_at}
use Rattle.rdm_responder.specs.History.{History}
use Rattle.rdm_responder.specs.Laws.{values_of}
use Rattle.rdm_saved.specs.Restoring.{saved_len}
use Rattle.rdm_c.specs.Endpoints.{HeldFor, LeavesBytes, holds_responder}
use Rattle.rdm_c.specs.Statuses.{code_of}
use Rattle.rdm_c.specs.declared.status.Status.TheVariants as status
use Rattle.rdm_c.specs.contracts.handle.Handle as handle
use Rattle.rdm_c.proofs.Emptied.{lent_again, said_of_bytes}
use Rattle.rdm_c.specs.contracts.lent.writable_address_of as g₁
use Rattle.rdm_c.proofs.lent.writable_address_of.Met.{met as met₁}
use Rattle.rdm_c.specs.contracts.exports.saving.save_slice as g
use Rattle.rdm_c.proofs.exports.saving.save_slice.Met.{met}
use Rattle.rdm_c.specs.contracts.exports.saving.felosumay_responder_save as f
use Rattle.rdm_c.proofs.exports.saving.felosumay_responder_save.Statement.{statement}
use Rattle.rdm_c.proofs.exports.saving.felosumay_responder_save.Code as code

abbrev stayed : Stays f.ended.signature.params f.ended.kept
stayed = (stay_dropped _ yes, (gave_ref (0 ∷ []) tt (plain (λ _. handle.the_row)), (stay_dropped _ yes, (stay_dropped _ yes, (gave_ref (1 ∷ []) tt (plain (λ _. usize)), tt)))))

pub felosumay_responder_save_spec : {M : Type 1} → statement M
felosumay_responder_save_spec 𝓤 𝓛 𝓜 𝓡 wired =
    let c = f.clauses 𝓛 𝓜.mem 𝓡.returns in let W = walk_of 𝓛 f.ended stayed c in let 𝓣 = tables 𝓤 𝓛.H 𝓜 𝓡 𝓡.env in let fm = framed 𝓤 𝓛.H 𝓜 𝓣 in
    proved 𝓛 f.ended stayed c 𝓜 𝓡
    (Goes-blank 𝓛 2 (plain (λ _. heap.the_row)) yes (λ κs x w. tt), (Goes-gave_ref 𝓛 2 0 tt (plain (λ _. handle.the_row)), (Goes-dropped 𝓛 2 (plain (λ _. RawPtr)) yes (λ κs x w. refl), (Goes-dropped 𝓛 2 (plain (λ _. usize)) yes (λ κs x w. refl), (Goes-gave_ref 𝓛 2 1 tt (plain (λ _. usize)), tt)))))
    f.Key.name code.function (code.unfolded 𝓤 𝓛.H 𝓜 𝓡 wired)
    (λ κs. ((λ d. val heap.the_type heap_laws.the_laws d ∷ []), (mut_vals, (rawptr_vals, (uint_vals w64, (mut_vals, tt))))))
    (λ κs. (tells heap.the_type heap_laws.the_laws, (mut_Tells (named 0) κs.0 handle.the_row, (rawptr_Tells, (uint_Tells w64, (mut_Tells (named 1) κs.1.0 usize, tt))))))
    (λ κs qs bounds a bs are.
    let at : Ptr = a.1.1.0 in let n : ℕ = a.1.1.1.0 in
    let y : W.Ghost = ((κs, qs, bounds, a, (val heap.the_type heap_laws.the_laws a.0 ∷ [], (mut_vals a.1.0, (rawptr_vals a.1.1.0, (uint_vals w64 a.1.1.1.0, (mut_vals a.1.1.1.1.0, tt)))))), bs) in
    qed 𝓛 (((‵ (flft κs.0 qs.0) ⊛ ‵ (flft κs.1.0 qs.1.0) ⊛ ‵ ftrue) ⊛ (‵ ((heap.the_row).own_val a.0 (val heap.the_type heap_laws.the_laws a.0 ∷ [])) ⊛ ‵ ((MutRef (named 0) κs.0 handle.the_row).own_val a.1.0 (mut_vals a.1.0)) ⊛ ‵ (RawPtr.own_val a.1.1.0 (rawptr_vals a.1.1.0)) ⊛ ‵ (usize.own_val a.1.1.1.0 (uint_vals w64 a.1.1.1.0)) ⊛ ‵ ((MutRef (named 1) κs.1.0 usize).own_val a.1.1.1.1.0 (mut_vals a.1.1.1.1.0)) ⊛ ‵ ftrue)) ∷ ‵ (writable_at at n bs) ∷ []) ∵
    split ! $ split ! $ move ! (1 ∷ []) $ split ! $ move ! (1 ∷ []) $ drop ! $
    move ! (2 ∷ []) $ split ! $ move ! (1 ∷ []) $ split ! $ move ! (1 ∷ []) $ split ! $ move ! (1 ∷ []) $ split ! $ move ! (1 ∷ []) $ split ! $ move ! (1 ∷ []) $ drop ! $
    move ! (7 ∷ []) $ keep ! (0 ∷ 1 ∷ 4 ∷ 5 ∷ 6 ∷ 7 ∷ []) $
    -- [what lies at the address; what is owned of the others, and the tokens, the last first]
    enter ! _ _ _ _ _ $ alloc_all ! (λ l. pass_all ! refl (((loose_lawful heap.the_type heap_laws.the_loose 𝓛).typed a.0 _ are.0).0, ((tt, tt), (((rawptr_Lawful 𝓛).typed a.1.1.0 _ refl).0, ((tt, record { fits = are.1.1.1.0.1 }), ((tt, tt), tt))))) $
    sets ! (addr ! (through ! refl (stop !))) refl (tt, tt) $
    -- the address
    let G₁ = triple_of 𝓛 g₁.signature (g₁.spec 𝓛 𝓜.mem 𝓡.returns) in let z₁ : G₁.Ghost = ((tt, tt, tt, (at, (n, tt)), (rawptr_vals at, (uint_vals w64 n, tt))), bs) in
    nothing ! $ owned ! usize (Is usize) (uint_Makes 𝓛 w64) n _ are.1.1.1.0 $ join ! $ feq_i ! (List Val) (ptr_val at ∷ []) (ptr_val at ∷ []) refl $ join ! $
    nothing ! $ join ! $ use2 𝓛 (raw (G₁.pre z₁)) (id⊢ 𝓤 _) $
    calls_at ! fm G₁ (met₁ 𝓤 𝓛 𝓜 𝓡 (code.calls-rdm_c::lent::writable_address_of 𝓡.env wired)) z₁ (and_then ! (get ! refl) (and_then ! (get ! refl) (no_more !))) (λ v₁.
    use1 𝓛 (later (some (λ (r : Ptr). (‵ ftrue ⊛ ‵ (RawPtr.own_val r (v₁ ∷ []))) ⊛ some (λ (ws : Unit {0} × (Unit {0} × Unit {0})). ‵ (lasts g₁.ended tt (at, (n, tt)) ws) ⊛ (‵ (array_at r n bs) ⊛ raw (fact 𝓤 ((n ≡ 0) ⊎ (r ≡ at)))))))) (id⊢ 𝓤 _) $
    await ! tt $ pick ! (λ r₁. split ! $ split ! $ drop ! $ feq_l ! (λ is_r. pick ! (λ ws₁. split ! $ drop ! $ split ! $ move ! (1 ∷ []) $ heard ! ((n ≡ 0) ⊎ (r₁ ≡ at)) (λ place.
    in_a_block ! r₁ (λ p. array_at p n bs) (id⊢ 𝓤 _) (λ b o is_b.
    lands_as ! (ap only (is_r ∙ ap (λ (p : Ptr). ptr_val p ∷ []) is_b)) refl (tt, tt) $
    -- the slice, for a lifetime of its own
    fsplit ! $ pure_l ! (room u8 n) (λ fits. fsplit ! $ feq_l ! (λ counted. lft_new ! tt (λ α. let κ = α ∷ [] in move ! (1 ∷ []) $
    use1 𝓛 (later (some (λ (γ : GName). ‵ ((MutSlice (named 1) κ u8).own_val (record { ref_ptr = (b, o); ghost_name = γ; now = bs }) (slice_val (b, o) (length bs) ∷ [])) ⊛ ‵ (flent κ (Held u8 (length bs) b o γ)))))
    (lends_slice 𝓛 u8 (named 1) κ bs b o (subst (Room u8) (sym counted) fits)) $ await ! tt $ pick ! (λ γ. split ! $ let s : MutBor (List ℕ) = record { ref_ptr = (b, o); ghost_name = γ; now = bs } in
    rewrite ! 0 (λ (m : ℕ). ‵ ((MutSlice (named 1) κ u8).own_val s (slice_val (b, o) m ∷ []))) counted refl $
    sets ! (agg ! (and_then ! (get ! refl) (and_then ! (get ! refl) (no_more !)))) refl (tt, (tt, (record { fits = are.1.1.1.0.1 }, tt))) $
    sets ! (addr ! (through ! refl (stop !))) refl (tt, tt) $
    -- [the slice; what the lender keeps; the token of α; what is owned of the others, and the tokens, the last first]
    move ! (3 ∷ 0 ∷ 4 ∷ 5 ∷ []) $
    nothing ! $ move ! (1 ∷ 0 ∷ []) $ join ! $ move ! (1 ∷ 0 ∷ []) $ join ! $ move ! (1 ∷ 0 ∷ []) $ join ! $ move ! (1 ∷ 0 ∷ []) $ join ! $ move ! (3 ∷ 2 ∷ 4 ∷ 0 ∷ []) $
    nothing ! $ move ! (1 ∷ 0 ∷ []) $ join ! $ move ! (1 ∷ 0 ∷ []) $ join ! $ move ! (1 ∷ 0 ∷ []) $ join ! $ join ! $ nothing ! $ move ! (1 ∷ 0 ∷ []) $
    -- the call
    let G = triple_of 𝓛 g.signature (g.spec 𝓛 𝓜.mem 𝓡.returns) in
    let z : G.Ghost = (((κs.0, (κ, (κs.1.0, tt))), (qs.0, (full_share, (qs.1.0, tt))), tt, (a.0, (a.1.0, (s, (a.1.1.1.1.0, tt)))), (val heap.the_type heap_laws.the_laws a.0 ∷ [], (mut_vals a.1.0, (slice_val (b, o) n ∷ [], (mut_vals a.1.1.1.1.0, tt))))), tt) in
    use2 𝓛 (raw (G.pre z)) (id⊢ 𝓤 _) $
    calls_at ! fm G (met 𝓤 𝓛 𝓜 𝓡 (code.calls-rdm_c::exports::saving::save_slice 𝓡.env wired)) z (and_then ! (get ! refl) (and_then ! (get ! refl) (and_then ! (get ! refl) (and_then ! (get ! refl) (no_more !))))) (λ v.
    use1 𝓛 (later (some (λ (r : ℕ). ((‵ (flft κs.0 qs.0) ⊛ ‵ (flft κ full_share) ⊛ ‵ (flft κs.1.0 qs.1.0) ⊛ ‵ ftrue) ⊛ ‵ (u8.own_val r (v ∷ []))) ⊛
    some (λ (ws : Unit {0} × (handle.the_row.Denot × (List ℕ × (ℕ × (Unit {0}))))). ‵ (lasts g.ended z.0.0 z.0.3 ws) ⊛ raw ((g.clauses 𝓛 𝓜.mem 𝓡.returns z.0.0 z.0.3).ensures tt r (at_exit g.ended z.0.0 z.0.3 ws)))))) (id⊢ 𝓤 _) $
    await ! tt $ pick ! (λ r. split ! $ split ! $ split ! $ move ! (1 ∷ []) $ split ! $ move ! (1 ∷ []) $ split ! $ move ! (1 ∷ []) $ drop ! $ move ! (1 ∷ []) $ lft_end ! tt $
    -- [α is over; two tokens; the result; what was left; what the lender keeps]
    move ! (4 ∷ []) $ pick ! (λ ws. split ! $ fsplit ! $ move ! (1 ∷ []) $ fsplit ! $ move ! (1 ∷ []) $ fsplit ! $ move ! (1 ∷ []) $ fsplit ! $ move ! (1 ∷ []) $ drop ! $
    move ! (1 ∷ []) $ fsplit ! $ fsplit ! $ move ! (1 ∷ []) $ feq_l ! (λ as_long.
    -- [the slice's last bytes; its borrow; three that were left; what is ensured; α is over; two tokens; the result; what the lender keeps]
    move ! (6 ∷ 10 ∷ 0 ∷ []) $ use3 𝓛 (later (‵ ((Arr (mem u8) (length bs)).own_at ws.1.1.0 b o))) (slice_back 𝓛 u8 κ γ ws.1.1.0 (length bs) b o) $ await ! tt $
    rewrite ! 0 (λ (m : ℕ). ‵ ((Arr (mem u8) m).own_at ws.1.1.0 b o)) counted refl $ pure_i ! (room u8 n) (tt, tt) fits $ fjoin ! $
    rewrite ! 0 (λ (p : Ptr). ‵ (array_at p n ws.1.1.0)) (sym is_b) refl $ use1 𝓛 (‵ (writable_at at n ws.1.1.0)) (lent_again 𝓛 at r₁ n ws.1.1.0 place) $
    -- [the bytes; the slice's borrow; three that were left; what is ensured; two tokens; the result]
    move ! (8 ∷ []) $ peeks ! u8 (Is u8) (shows 𝓛 u8) r (v ∷ []) (λ is. lands_as ! refl refl ((uint_Lawful 𝓛 w8).typed r _ is).0 $
    returns ! (look_at ! 0 refl) $ free_all ! refl $
    nothing ! $ move ! (4 ∷ 0 ∷ []) $ fjoin ! $ nothing ! $ fjoin ! $ nothing ! $ fjoin ! $ move ! (4 ∷ 0 ∷ []) $ fjoin ! $ nothing ! $ fjoin ! $
    move ! (6 ∷ 7 ∷ []) $ nothing ! $ move ! (1 ∷ 0 ∷ []) $ join ! $ move ! (1 ∷ 0 ∷ []) $ join ! $
    -- [the tokens; what was left; the result; the bytes; the slice's borrow; one that was left; what is ensured]
    move ! (3 ∷ 6 ∷ []) $ join ! $
    let was = a.1.0.now.held in let count : ℕ = ws.1.1.1.0 in
    use1 𝓛 (raw ((c κs a).ensures bs r (at_exit f.ended κs a (tt, (ws.1.0, (tt, (tt, (count, tt))))))))
    (said_of_bytes 𝓛 (λ (after : List ℕ). sem 𝓛 (writable_at at n after)) (λ (after : List ℕ). fact 𝓤 (LeavesBytes was r count bs after)) ws.1.1.0
    (fact 𝓤 ((h : History) → HeldFor was h → r ≡ code_of (if nat_le (saved_len (values_of h)) (length bs) then status.Done else status.ShortImage)))
    (fact 𝓤 ((h : History) → HeldFor was h → r ≡ code_of status.Done → count ≡ saved_len (values_of h)))
    (fact 𝓤 ((r ≡ code_of status.Absent) ↔ (holds_responder was ≡ false)))
    (fact 𝓤 (ws.1.0.held ≡ was))) $
    keep ! (1 ∷ 2 ∷ 3 ∷ 0 ∷ []) $
    by ! (leaves 𝓛 f.ended stayed c y v r (tt, (ws.1.0, (tt, (tt, (ws.1.1.1.0, tt))))) (tt, (tt, (tt, (tt, (tt, tt)))))))))))))))))))))))
