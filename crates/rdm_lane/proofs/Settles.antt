-- The settling of a lane: the posts are taken in one by one, and then the taker learns how its list stands to theirs.
use Rattle.std.proofs.Common.{◌≡◌, ◌≢◌, ℕ, suc, ◌<◌, List, [], ◌∷◌, ◌++◌, length, refl, sym, ◌∙◌, ap, subst, arith, All, Contains, Option, Some, None, Vec, slice_index_or, slice_set, map}
use Rattle.std.proofs.Math.ListN.{get_or-map}
use Rattle.std.proofs.lemmas.List.{append-nil, get_or-set_same, get_or-set_other, length-map}
use Rattle.std.proofs.lemmas.List.Elements.{All-cons, All-push, All-contains, Contains-append_left, Contains-append_right}
use Rattle.rdm_lane.specs.declared.rule.Put.{Put}
use Rattle.rdm_lane.specs.declared.rule.View.{View}
use Rattle.rdm_lane.specs.declared.taken.Taken.{Taken}
use Rattle.rdm_lane.specs.Ends.{PostState, TakeState, post_state, AreDistinct, AreEnds}
use Rattle.rdm_lane.specs.Lane.{of, put_closed, IsPrefix, LaneLaw}
use Rattle.rdm_lane.specs.Rule.{put, taker, poster, with_list, AreTold, Told}
use Rattle.rdm_lane.specs.Settling.{posted_in, list_or_none, HasLists, HasNoOthers}
use Rattle.rdm_lane.proofs.Entries.{none_of}
use Rattle.rdm_lane.proofs.Moves.{all_next}

module _ {T : Type 0} where
  -- the posts are done where none is left
  pub all_done : (all done rest : List (PostState T)) (left : ℕ) → all ≡ done ++ rest → left ≡ length rest → left ≡ 0 → done ≡ all
  all_done all done [] left parts count none = sym (parts ∙ append-nil done)
  all_done all done (c ∷ cs) left parts count none = absurd (omega arith)

  abbrev pub list_of : PostState T → Put T
  list_of c = put c.producer (put_closed c.producer c.items)

  -- each post is of the taker's lane
  pub of_lane : (t : TakeState T) (all done rest : List (PostState T)) (c : PostState T) → AreEnds t all → all ≡ done ++ c ∷ rest → c.lane ≡ t.lane
  of_lane t all done rest c ends parts = all_next (λ d. d.lane ≡ t.lane) done c rest (subst (All (λ d. d.lane ≡ t.lane)) parts ends.0)

  -- the list of this post was taken in, and stands in its place
  abbrev pub IsKept : List (Put T) → List (List T) → PostState T → Type 0
  IsKept os posted c = Contains os (list_of c) × (slice_index_or posted c.producer [] ≡ c.items)

  -- the lists of these posts were taken in, and stand in their places, and there is no other
  abbrev pub Keeps : ℕ → List (Taken T) → List (PostState T) → View T → List (List T) → Type 0
  Keeps n ts done v posted =
      (os : List (Put T)) × (v ≡ taker n ts os) × All (IsKept os posted) done × ((p : ℕ) → All (λ c. c.producer ≢ p) done → slice_index_or posted p [] ≡ [])

  -- no post before this one has its number
  pub distinct_before : (done : List (PostState T)) (c : PostState T) (rest : List (PostState T)) → AreDistinct (done ++ c ∷ rest) → All (λ d. d.producer ≢ c.producer) done
  distinct_before [] c rest h = λ k d within. absurd (omega arith)
  distinct_before (d ∷ ds) c rest h =
      let unlike : c.producer ≢ d.producer = all_next (λ e. e.producer ≢ d.producer) ds c rest h.0 in
      All-cons (λ e. e.producer ≢ c.producer) d ds (λ same. unlike (sym same)) (distinct_before ds c rest h.1)

  all_of_push : (P : PostState T → Type 0) (done : List (PostState T)) (c : PostState T) → All P (done ++ c ∷ []) → All P done × P c
  all_of_push P [] c h = ((λ k d within. absurd (omega arith)), h 0 c (omega arith))
  all_of_push P (x ∷ xs) c h =
      let parts = all_of_push P xs c (λ k d within. h (suc k) d (omega arith)) in
      (All-cons P x xs (h 0 c (omega arith)) parts.0, parts.1)

module _ {T Z : Type 0} where
  posted-at : (lists : List (Option (Vec T Z))) (p : ℕ) → slice_index_or (posted_in lists) p [] ≡ list_or_none (slice_index_or lists p None)
  posted-at lists p = get_or-map list_or_none lists p None

  posted-here : (lists : List (Option (Vec T Z))) (p : ℕ) (v : Vec T Z) → p < length lists → slice_index_or (posted_in (slice_set lists p (Some v))) p [] ≡ v.items
  posted-here lists p v within = posted-at (slice_set lists p (Some v)) p ∙ ap list_or_none (get_or-set_same lists p (Some v) None within)

  posted-else : (lists : List (Option (Vec T Z))) (p q : ℕ) (v : Vec T Z) → q ≢ p → slice_index_or (posted_in (slice_set lists p (Some v))) q [] ≡ slice_index_or (posted_in lists) q []
  posted-else lists p q v other = posted-at (slice_set lists p (Some v)) q ∙ ap list_or_none (get_or-set_other lists p q (Some v) None other) ∙ sym (posted-at lists q)

  more_kept : (n : ℕ) (ts : List (Taken T)) (done : List (PostState T)) (c : PostState T) (v w theirs : View T) (lists : List (Option (Vec T Z))) (vec : Vec T Z) → Keeps n ts done v (posted_in lists) → theirs ≡ poster c.producer (put_closed c.producer c.items) → w ≡ with_list v theirs → All (λ d. d.producer ≢ c.producer) done → c.producer < length lists → vec.items ≡ c.items → Keeps n ts (done ++ c ∷ []) w (posted_in (slice_set lists c.producer (Some vec)))
  more_kept n ts done c v w theirs lists vec keeps known joined unlike within same =
      let os = keeps.0 in
      let more : List (Put T) = os ++ list_of c ∷ [] in
      let posted : List (List T) = posted_in (slice_set lists c.producer (Some vec)) in
      let new : IsKept more posted c = (Contains-append_right os (list_of c ∷ []) (list_of c) (0, omega arith, refl), posted-here lists c.producer vec within ∙ same) in
      let old : All (IsKept more posted) done = λ k d inside. let kept = keeps.2 k d inside in (Contains-append_left os (list_of c ∷ []) (list_of (slice_index_or done k d)) kept.0, posted-else lists c.producer (slice_index_or done k d).producer vec (unlike k d inside) ∙ kept.1) in (
        more,
        joined ∙ ap (with_list v) known ∙ ap (λ u. with_list u (poster c.producer (put_closed c.producer c.items))) keeps.1,
        All-push (IsKept more posted) done c old new,
        λ p none. let parts = all_of_push (λ d. d.producer ≢ p) done c none in posted-else lists c.producer p vec (λ q. parts.1 (sym q)) ∙ keeps.3 p parts.0,
      )

  -- one more post, of the posts of a lane
  pub keeps_more : (n : ℕ) (ts : List (Taken T)) (all done rest : List (PostState T)) (c : PostState T) (v w theirs : View T) (lists : List (Option (Vec T Z))) (k : ℕ) (vec : Vec T Z) → AreDistinct all → all ≡ done ++ c ∷ rest → Keeps n ts done v (posted_in lists) → theirs ≡ poster c.producer (put_closed c.producer c.items) → w ≡ with_list v theirs → k ≡ c.producer → k < length lists → vec.items ≡ c.items → Keeps n ts (done ++ c ∷ []) w (posted_in (slice_set lists k (Some vec)))
  keeps_more n ts all done rest c v w theirs lists k vec apart parts keeps known joined number within same =
      let unlike = distinct_before done c rest (subst AreDistinct parts apart) in
      subst (λ m. Keeps n ts (done ++ c ∷ []) w (posted_in (slice_set lists m (Some vec)))) (sym number) (more_kept n ts done c v w theirs lists vec keeps known joined unlike (subst (λ m. m < length lists) number within) same)

module _ {T : Type 0} where
  -- the list of a post, as the taker was told of it
  told_of : (n : ℕ) (ts : List (Taken T)) (os : List (Put T)) (posted : List (List T)) (c : PostState T) → AreTold n ts os → IsKept os posted c → (c.producer < n) × IsPrefix (of c.producer ts) (put_closed c.producer (slice_index_or posted c.producer []))
  told_of n ts os posted c told kept =
      let it = All-contains (λ o. (o.producer < n) × IsPrefix (of o.producer ts) o.entries) os (list_of c) told.1 kept.0 in
      (it.0, subst (λ xs. IsPrefix (of c.producer ts) (put_closed c.producer xs)) (sym kept.1) it.1)

  kept_told : (n : ℕ) (ts : List (Taken T)) (done : List (PostState T)) (v : View T) (posted : List (List T)) (keeps : Keeps n ts done v posted) → Told v → AreTold n ts keeps.0
  kept_told n ts done v posted keeps told = subst Told keeps.1 told

  -- the post with a number of the lane
  pub post_at : (t : TakeState T) (cs : List (PostState T)) (p : ℕ) → AreEnds t cs → p < t.posts → (k : ℕ) × (k < length cs) × ((slice_index_or cs k (post_state t.lane p 0 [])).producer ≡ p)
  post_at t cs p ends below =
      let there = ends.2 p below in
      let at : ℕ = there.0 in
      let inside : at < length (map (λ c. c.producer) cs) = there.1 in
      let same : length (map (λ c. c.producer) cs) ≡ length cs = length-map cs (λ (c : PostState T). c.producer) in
      (at, omega arith, sym (get_or-map (λ (c : PostState T). c.producer) cs at (post_state t.lane p 0 [])) ∙ there.2)

  pub settled_law : (t : TakeState T) (cs : List (PostState T)) (v : View T) (posted : List (List T)) → AreEnds t cs → Keeps t.posts t.taken cs v posted → Told v → LaneLaw t.posts t.taken posted
  settled_law t cs v posted ends keeps told p below =
      let place = post_at t cs p ends below in
      let c : PostState T = slice_index_or cs place.0 (post_state t.lane p 0 []) in
      let prefix = told_of t.posts t.taken keeps.0 posted c (kept_told t.posts t.taken cs v posted keeps told) (keeps.2 place.0 (post_state t.lane p 0 []) place.1) in
      subst (λ q. IsPrefix (of q t.taken) (put_closed q (slice_index_or posted q []))) place.2 prefix.1

  pub settled_others : (t : TakeState T) (cs : List (PostState T)) (v : View T) (posted : List (List T)) → Keeps t.posts t.taken cs v posted → Told v → HasNoOthers t.posts t.taken posted
  settled_others t cs v posted keeps told p above =
      let all = kept_told t.posts t.taken cs v posted keeps told in (
        none_of p t.posts t.taken all.0 above,
        keeps.3 p (λ k d inside same.
            let below : (slice_index_or cs k d).producer < t.posts = (told_of t.posts t.taken keeps.0 posted (slice_index_or cs k d) all (keeps.2 k d inside)).0 in
            let number : (slice_index_or cs k d).producer ≡ p = same in
            omega arith),
      )

  pub settled_lists : (t : TakeState T) (cs : List (PostState T)) (v : View T) (posted : List (List T)) → Keeps t.posts t.taken cs v posted → HasLists posted cs
  settled_lists t cs v posted keeps k d inside = (keeps.2 k d inside).1
