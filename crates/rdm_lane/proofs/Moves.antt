-- Each kind of step keeps the rule of the queue.
use Rattle.std.proofs.Common.{◌≡◌, ◌≢◌, ℕ, zero, suc, ◌+◌, ◌<◌, ◌==◌, ◌⊎◌, eq-eqb, true, false, cond, List, [], ◌∷◌, ◌++◌, length, length-append, set, refl, sym, ◌∙◌, ap, subst, append_assoc, arith, All, inl, inr, ⊎_elim, slice_index_or}
use Rattle.std.proofs.lemmas.Bool.Decides.{eqb_tells}
use Rattle.std.proofs.lemmas.List.{get_or_append_left}
use Rattle.std.proofs.lemmas.List.Elements.{filter-append, All-push, All-contains, Contains-append_right}
use mathlib.Core.Option.{some, some-injective, some-ne-none}
use lib.ListN.{get_elem?}
use Rattle.crossbeam_queue.specs.Fifo.{Pushes, Pops, Forks, Merges, Learns}
use Rattle.crossbeam_queue.proofs.Lists.{at_set}
use Rattle.rdm_lane.specs.declared.rule.Put.{Put}
use Rattle.rdm_lane.specs.declared.rule.View.{View}
use Rattle.rdm_lane.specs.declared.rule.View.TheVariants.{Taker, Poster, Spent}
use Rattle.rdm_lane.specs.declared.taken.Taken.{Taken}
use Rattle.rdm_lane.specs.Lane.{is_from, of, IsPrefix}
use Rattle.rdm_lane.specs.Rule.{put, taker, poster, spent, with_entry, taking, one_post_more, made_post, with_list, IsGiven, IsPut, Order, Knows, IsSound, Ordered, Follows, FollowsIn, AreTold, Told}
use Rattle.rdm_lane.proofs.Entries.{of_push-own, of_push-other, given_from, given_more, none_of, follows}

module _ {A : Type 0} where
  -- where one more stands, it is an old one or the new one
  at_new : (l : List A) (a b : A) (j : ℕ) → get_elem? (l ++ a ∷ []) j ≡ some b → (get_elem? l j ≡ some b) ⊎ ((j ≡ length l) × (a ≡ b))
  at_new [] a b zero e = inr (refl, some-injective a b e)
  at_new [] a b (suc j) e = absurd (some-ne-none b (sym e))
  at_new (x ∷ xs) a b zero e = inl e
  at_new (x ∷ xs) a b (suc j) e = ⊎_elim (λ (old : get_elem? xs j ≡ some b). inl old) (λ (new : (j ≡ length xs) × (a ≡ b)). inr (ap suc new.0, new.1)) (at_new xs a b j e)

  -- what holds of all holds of a front, and of the first behind it
  pub all_front : (P : A → Type 0) (xs ys : List A) → All P (xs ++ ys) → All P xs
  all_front P xs ys h k d within =
      let longer : length (xs ++ ys) ≡ length xs + length ys = length-append xs ys in
      subst P (get_or_append_left xs ys d k within) (h k d (omega arith))

  pub all_next : (P : A → Type 0) (xs : List A) (y : A) (ys : List A) → All P (xs ++ y ∷ ys) → P y
  all_next P xs y ys h = All-contains P (xs ++ y ∷ ys) y h (Contains-append_right xs (y ∷ ys) y (0, omega arith, refl))

module _ {T : Type 0} where
  -- an order, by its parts
  abbrev parts : ℕ → ℕ → (ℕ → ℕ) → List (Taken T) → Order T
  parts reader posts seat taken = record { reader = reader; posts = posts; seat = seat; taken = taken }

  -- where a list lies, whichever pass takes
  abbrev Lies : ℕ → (ℕ → ℕ) → List (Taken T) → ℕ → Put T → Type 0
  Lies posts seat all i list = (list.producer < posts) × (seat list.producer ≡ i) × (list.entries ≡ of list.producer all)

  abbrev Fits : ℕ → ℕ → (ℕ → ℕ) → List (Taken T) → List (Taken T) → ℕ → View T → Type 0
  Fits reader posts seat taken all = Knows (parts reader posts seat taken) all

  abbrev IsOrder : ℕ → ℕ → (ℕ → ℕ) → List (Taken T) → List (Taken T) → List (View T) → Type 0
  IsOrder reader posts seat taken all = IsSound (parts reader posts seat taken) all

  -- a post's list, and what a pass knows, stay as they are when another's list grows
  lies_stays : (posts i j p : ℕ) (seat : ℕ → ℕ) (all : List (Taken T)) (e : Taken T) → is_from p e ≡ true → seat p ≡ i → j ≢ i → (o : Put T) → Lies posts seat all j o → Lies posts seat (all ++ e ∷ []) j o
  lies_stays posts i j p seat all e own mine other o lies =
      (lies.0, lies.1, lies.2 ∙ sym (of_push-other p o.producer all e own (λ same. other (sym lies.1 ∙ ap seat same ∙ mine))))

  fits_stays : (reader posts i j p : ℕ) (seat : ℕ → ℕ) (taken all : List (Taken T)) (e : Taken T) → is_from p e ≡ true → seat p ≡ i → j ≢ i → (u : View T) → Fits reader posts seat taken all j u → Fits reader posts seat taken (all ++ e ∷ []) j u
  fits_stays reader posts i j p seat taken all e own mine other (Taker n ts os) fits =
      (fits.0, fits.1, fits.2, λ k d within. lies_stays posts i j p seat all e own mine other (slice_index_or os k d) (fits.3 k d within))
  fits_stays reader posts i j p seat taken all e own mine other (Poster o) fits = lies_stays posts i j p seat all e own mine other o fits
  fits_stays reader posts i j p seat taken all e own mine other Spent fits = tt

  put_order : (reader posts i p : ℕ) (seat : ℕ → ℕ) (taken all es : List (Taken T)) (views : List (View T)) (e : Taken T) → is_from p e ≡ true → IsPut p (es ++ e ∷ []) → get_elem? views i ≡ some (poster p es) → IsOrder reader posts seat taken all views → IsOrder reader posts seat taken (all ++ e ∷ []) (set views i (poster p (es ++ e ∷ [])))
  put_order reader posts i p seat taken all es views e own fit at h =
      let mine : Lies posts seat all i (put p es) = h.2 i (poster p es) at in
      let grown : es ++ e ∷ [] ≡ of p (all ++ e ∷ []) = ap (λ l. l ++ e ∷ []) mine.2 ∙ sym (of_push-own p all e own) in (
        All-push (IsGiven posts) all e h.0 (given_from p posts e own mine.0),
        (λ q. ⊎_elim
            (λ (y : _ × (q ≡ p)). subst (λ r. IsPut r (of r (all ++ e ∷ []))) (sym y.1) (subst (IsPut p) grown fit))
            (λ (n : _ × (q ≢ p)). subst (IsPut q) (sym (of_push-other p q all e own n.1)) (h.1 q))
            (eqb_tells q p)),
        (λ j u here. ⊎_elim
            (λ (y : (j ≡ i) × (poster p (es ++ e ∷ []) ≡ u)). subst (Fits reader posts seat taken (all ++ e ∷ []) j) y.1 (mine.0, mine.1 ∙ sym y.0, grown))
            (λ (n : (j ≢ i) × (get_elem? views j ≡ some u)). fits_stays reader posts i j p seat taken all e own mine.1 n.0 u (h.2 j u n.1))
            (at_set views i j (poster p (es ++ e ∷ [])) u here)),
      )

  -- A post puts an item or its mark.
  pub puts : (n i p : ℕ) (es : List (Taken T)) (e : Taken T) → is_from p e ≡ true → IsPut p (es ++ e ∷ []) → Pushes Ordered n i (poster p es) e (λ w. w ≡ with_entry (poster p es) e)
  puts n i p es e own fit waiting views room h at =
      let order = put_order h.0.reader h.0.posts i p h.0.seat h.0.taken (h.0.taken ++ waiting) es views e own fit at h.1 in (
        poster p (es ++ e ∷ []),
        (h.0, subst (λ all. IsOrder h.0.reader h.0.posts h.0.seat h.0.taken all (set views i (poster p (es ++ e ∷ [])))) (append_assoc h.0.taken waiting (e ∷ [])) order),
        refl,
      )

  -- no other pass takes
  fits_taken : (reader posts j : ℕ) (seat : ℕ → ℕ) (taken more all : List (Taken T)) → j ≢ reader → (u : View T) → Fits reader posts seat taken all j u → Fits reader posts seat more all j u
  fits_taken reader posts j seat taken more all other (Taker n ts os) fits = absurd (other fits.0)
  fits_taken reader posts j seat taken more all other (Poster o) fits = fits
  fits_taken reader posts j seat taken more all other Spent fits = fits

  take_order : (reader posts i n : ℕ) (seat : ℕ → ℕ) (taken all ts : List (Taken T)) (os : List (Put T)) (views : List (View T)) (e : Taken T) → get_elem? views i ≡ some (taker n ts os) → IsOrder reader posts seat taken all views → IsOrder reader posts seat (taken ++ e ∷ []) all (set views i (taker n (ts ++ e ∷ []) os))
  take_order reader posts i n seat taken all ts os views e at h =
      let mine : (i ≡ reader) × (n ≡ posts) × (ts ≡ taken) × All (Lies posts seat all i) os = h.2 i (taker n ts os) at in
      let now : Fits reader posts seat (taken ++ e ∷ []) all i (taker n (ts ++ e ∷ []) os) = (mine.0, mine.1, ap (λ l. l ++ e ∷ []) mine.2, mine.3) in (
        h.0,
        h.1,
        (λ j u here. ⊎_elim
            (λ (y : (j ≡ i) × (taker n (ts ++ e ∷ []) os ≡ u)). subst (λ k. Fits reader posts seat (taken ++ e ∷ []) all k u) (sym y.0) (subst (Fits reader posts seat (taken ++ e ∷ []) all i) y.1 now))
            (λ (o : (j ≢ i) × (get_elem? views j ≡ some u)). fits_taken reader posts j seat taken (taken ++ e ∷ []) all (λ same. o.0 (same ∙ sym mine.0)) u (h.2 j u o.1))
            (at_set views i j (taker n (ts ++ e ∷ []) os) u here)),
      )

  -- The taker takes the front.
  pub takes : (i n : ℕ) (ts : List (Taken T)) (os : List (Put T)) → Pops Ordered i (taker n ts os) (λ e w. (w ≡ taking (taker n ts os) e) × Follows (taker n ts os) e)
  takes i n ts os e waiting views h at =
      let mine : (i ≡ h.0.reader) × (n ≡ h.0.posts) × (ts ≡ h.0.taken) × All (Lies h.0.posts h.0.seat (h.0.taken ++ e ∷ waiting) i) os = h.1.2 i (taker n ts os) at in
      let order = take_order h.0.reader h.0.posts i n h.0.seat h.0.taken (h.0.taken ++ e ∷ waiting) ts os views e at h.1 in
      let told : FollowsIn h.0.posts h.0.taken e = follows h.0.posts h.0.taken waiting e (all_next (IsGiven h.0.posts) h.0.taken e waiting h.1.0) h.1.1 in (
        taker n (ts ++ e ∷ []) os,
        (parts h.0.reader h.0.posts h.0.seat (h.0.taken ++ e ∷ []), subst (λ all. IsOrder h.0.reader h.0.posts h.0.seat (h.0.taken ++ e ∷ []) all (set views i (taker n (ts ++ e ∷ []) os))) (sym (append_assoc h.0.taken (e ∷ []) waiting)) order),
        (refl, subst (λ k. FollowsIn k ts e) (sym mine.1) (subst (λ l. FollowsIn h.0.posts l e) (sym mine.2) told)),
      )

-- the pass of the new post has its list
abbrev seat_of : (posts i : ℕ) (seat : ℕ → ℕ) → ℕ → ℕ
seat_of posts i seat p = cond (p == posts) i (seat p)

seat_of-new : (posts i p : ℕ) (seat : ℕ → ℕ) → p ≡ posts → seat_of posts i seat p ≡ i
seat_of-new posts i p seat same = ap (λ b. cond b i (seat p)) (eq-eqb p posts same)

seat_of-old : (posts i p : ℕ) (seat : ℕ → ℕ) → p ≢ posts → seat_of posts i seat p ≡ seat p
seat_of-old posts i p seat other = ⊎_elim (λ (y : _ × (p ≡ posts)). absurd (other y.1)) (λ (n : ((p == posts) ≡ false) × (p ≢ posts)). ap (λ b. cond b i (seat p)) n.0) (eqb_tells p posts)

-- a pass that has a list already
seat_of-there : (posts i p : ℕ) (seat : ℕ → ℕ) → seat p ≡ i → seat_of posts i seat p ≡ i
seat_of-there posts i p seat there = elim (p == posts) as (λ b. cond b i (seat p) ≡ i) [ true ↦ refl | false ↦ there ]

module _ {T : Type 0} where
  lies_more : (posts i j : ℕ) (seat : ℕ → ℕ) (all : List (Taken T)) (o : Put T) → Lies posts seat all j o → Lies (posts + 1) (seat_of posts i seat) all j o
  lies_more posts i j seat all o lies =
      let below : o.producer < posts = lies.0 in
      (omega arith, seat_of-old posts i o.producer seat (λ same. absurd (omega arith)) ∙ lies.1, lies.2)

  fits_more : (reader posts i j : ℕ) (seat : ℕ → ℕ) (taken all : List (Taken T)) → j ≢ reader → (u : View T) → Fits reader posts seat taken all j u → Fits reader (posts + 1) (seat_of posts i seat) taken all j u
  fits_more reader posts i j seat taken all other (Taker n ts os) fits = absurd (other fits.0)
  fits_more reader posts i j seat taken all other (Poster o) fits = lies_more posts i j seat all o fits
  fits_more reader posts i j seat taken all other Spent fits = fits

  deal_order : (reader posts i n : ℕ) (seat : ℕ → ℕ) (taken all ts : List (Taken T)) (os : List (Put T)) (views : List (View T)) → get_elem? views i ≡ some (taker n ts os) → IsOrder reader posts seat taken all views → IsOrder reader (posts + 1) (seat_of posts (length (set views i (taker (n + 1) ts os))) seat) taken all (set views i (taker (n + 1) ts os) ++ poster n [] ∷ [])
  deal_order reader posts i n seat taken all ts os views at h =
      let mine : (i ≡ reader) × (n ≡ posts) × (ts ≡ taken) × All (Lies posts seat all i) os = h.2 i (taker n ts os) at in
      let left : List (View T) = set views i (taker (n + 1) ts os) in
      let new : ℕ = length left in
      let now : Fits reader (posts + 1) (seat_of posts new seat) taken all i (taker (n + 1) ts os) = (mine.0, ap (λ k. k + 1) mine.1, mine.2, λ k d within. lies_more posts new i seat all (slice_index_or os k d) (mine.3 k d within)) in
      let count : n ≡ posts = mine.1 in
      let dealt : Lies (posts + 1) (seat_of posts new seat) all new (put n []) = (omega arith, seat_of-new posts new n seat mine.1, sym (none_of n posts all h.0 (omega arith))) in (
        (λ k d within. given_more posts (slice_index_or all k d) (h.0 k d within)),
        h.1,
        (λ j u here. ⊎_elim
            (λ (old : get_elem? left j ≡ some u). ⊎_elim
            (λ (y : (j ≡ i) × (taker (n + 1) ts os ≡ u)). subst (λ k. Fits reader (posts + 1) (seat_of posts new seat) taken all k u) (sym y.0) (subst (Fits reader (posts + 1) (seat_of posts new seat) taken all i) y.1 now))
            (λ (o : (j ≢ i) × (get_elem? views j ≡ some u)). fits_more reader posts new j seat taken all (λ same. o.0 (same ∙ sym mine.0)) u (h.2 j u o.1))
            (at_set views i j (taker (n + 1) ts os) u old))
            (λ (y : (j ≡ new) × (poster n [] ≡ u)). subst (λ k. Fits reader (posts + 1) (seat_of posts new seat) taken all k u) (sym y.0) (subst (Fits reader (posts + 1) (seat_of posts new seat) taken all new) y.1 dealt))
            (at_new left (poster n []) u j here)),
      )

  -- A post is made of the taker's pass.
  pub deals : (i n : ℕ) (ts : List (Taken T)) (os : List (Put T)) → Forks Ordered i (taker n ts os) (one_post_more (taker n ts os)) (made_post (taker n ts os))
  deals i n ts os waiting views h at =
      (parts h.0.reader (h.0.posts + 1) (seat_of h.0.posts (length (set views i (taker (n + 1) ts os))) h.0.seat) h.0.taken, deal_order h.0.reader h.0.posts i n h.0.seat h.0.taken (h.0.taken ++ waiting) ts os views at h.1)

  -- a list at another pass than k stays there, when the list of p moves from k to i
  lies_apart : (posts i j k p : ℕ) (seat : ℕ → ℕ) (all : List (Taken T)) (o : Put T) → seat p ≡ k → j ≢ k → Lies posts seat all j o → Lies posts (seat_of p i seat) all j o
  lies_apart posts i j k p seat all o there other lies =
      (lies.0, seat_of-old p i o.producer seat (λ same. other (sym lies.1 ∙ ap seat same ∙ there)) ∙ lies.1, lies.2)

  fits_apart : (reader posts i j k p : ℕ) (seat : ℕ → ℕ) (taken all : List (Taken T)) → seat p ≡ k → j ≢ k → j ≢ reader → (u : View T) → Fits reader posts seat taken all j u → Fits reader posts (seat_of p i seat) taken all j u
  fits_apart reader posts i j k p seat taken all there apart other (Taker n ts os) fits = absurd (other fits.0)
  fits_apart reader posts i j k p seat taken all there apart other (Poster o) fits = lies_apart posts i j k p seat all o there apart fits
  fits_apart reader posts i j k p seat taken all there apart other Spent fits = fits

  gather_order : (reader posts i n k p : ℕ) (seat : ℕ → ℕ) (taken all ts es : List (Taken T)) (os : List (Put T)) (views : List (View T)) → get_elem? views i ≡ some (taker n ts os) → k ≢ i → get_elem? (set views i (taker n ts (os ++ put p es ∷ []))) k ≡ some (poster p es) → IsOrder reader posts seat taken all views → IsOrder reader posts (seat_of p i seat) taken all (set (set views i (taker n ts (os ++ put p es ∷ []))) k spent)
  gather_order reader posts i n k p seat taken all ts es os views at apart at' h =
      let both : View T = taker n ts (os ++ put p es ∷ []) in
      let mine : (i ≡ reader) × (n ≡ posts) × (ts ≡ taken) × All (Lies posts seat all i) os = h.2 i (taker n ts os) at in
      let was : get_elem? views k ≡ some (poster p es) = ⊎_elim (λ (y : (k ≡ i) × (both ≡ poster p es)). absurd (apart y.0)) (λ (n : (k ≢ i) × (get_elem? views k ≡ some (poster p es))). n.1) (at_set views i k both (poster p es) at') in
      let theirs : Lies posts seat all k (put p es) = h.2 k (poster p es) was in
      let kept : All (Lies posts (seat_of p i seat) all i) os = λ m d within. let lies = mine.3 m d within in (lies.0, seat_of-there p i (slice_index_or os m d).producer seat lies.1, lies.2) in
      let now : Fits reader posts (seat_of p i seat) taken all i both = (mine.0, mine.1, mine.2, All-push (Lies posts (seat_of p i seat) all i) os (put p es) kept (theirs.0, seat_of-new p i p seat refl, theirs.2)) in (
        h.0,
        h.1,
        (λ j u here. ⊎_elim
            (λ (y : (j ≡ k) × (spent ≡ u)). subst (Fits reader posts (seat_of p i seat) taken all j) y.1 tt)
            (λ (o : (j ≢ k) × (get_elem? (set views i both) j ≡ some u)). ⊎_elim
            (λ (y : (j ≡ i) × (both ≡ u)). subst (λ m. Fits reader posts (seat_of p i seat) taken all m u) (sym y.0) (subst (Fits reader posts (seat_of p i seat) taken all i) y.1 now))
            (λ (old : (j ≢ i) × (get_elem? views j ≡ some u)). fits_apart reader posts i j k p seat taken all theirs.1 o.0 (λ same. old.0 (same ∙ sym mine.0)) u (h.2 j u old.1))
            (at_set views i j both u o.1))
            (at_set (set views i both) k j spent u here)),
      )

  -- The taker takes in the list of a post.
  pub gathers : (i n k p : ℕ) (ts es : List (Taken T)) (os : List (Put T)) → Merges Ordered i (taker n ts os) k (poster p es) (with_list (taker n ts os) (poster p es)) spent
  gathers i n k p ts es os waiting views h at apart at' =
      (parts h.0.reader h.0.posts (seat_of p i h.0.seat) h.0.taken, gather_order h.0.reader h.0.posts i n k p h.0.seat h.0.taken (h.0.taken ++ waiting) ts es os views at apart at' h.1)

  -- what was taken of a list is a front of it
  told_of : (posts i : ℕ) (seat : ℕ → ℕ) (taken waiting : List (Taken T)) (o : Put T) → Lies posts seat (taken ++ waiting) i o → (o.producer < posts) × IsPrefix (of o.producer taken) o.entries
  told_of posts i seat taken waiting o lies = (lies.0, (of o.producer waiting, sym (filter-append (is_from o.producer) taken waiting) ∙ sym lies.2))

  -- The taker learns how what it took stands to the lists that it took in.
  pub tells : (i n : ℕ) (ts : List (Taken T)) (os : List (Put T)) → Learns Ordered i (taker n ts os) (λ waiting. Told (taker n ts os))
  tells i n ts os waiting views h at =
      let mine : (i ≡ h.0.reader) × (n ≡ h.0.posts) × (ts ≡ h.0.taken) × All (Lies h.0.posts h.0.seat (h.0.taken ++ waiting) i) os = h.1.2 i (taker n ts os) at in
      let told : AreTold h.0.posts h.0.taken os = (all_front (IsGiven h.0.posts) h.0.taken waiting h.1.0, λ k d within. told_of h.0.posts i h.0.seat h.0.taken waiting (slice_index_or os k d) (mine.3 k d within)) in
      subst (λ m. AreTold m ts os) (sym mine.1) (subst (λ l. AreTold h.0.posts l os) (sym mine.2) told)

  only : (v u : View T) (i : ℕ) → get_elem? (v ∷ []) i ≡ some u → (i ≡ 0) × (v ≡ u)
  only v u zero at = (refl, some-injective v u at)
  only v u (suc i) at = absurd (some-ne-none u (sym at))

  -- The first pass is that of a taker of no posts.
  pub begins : Ordered {T = T} [] (taker 0 [] [] ∷ [])
  begins = (
    parts 0 0 (λ p. 0) [],
    (
      (λ k d within. absurd (omega arith)),
      (λ p. ([], omega arith, inl refl)),
      (λ i v at.
          let first = only (taker 0 [] []) v i at in
          subst (Fits 0 0 (λ p. 0) [] [] i) first.1 (first.0, refl, refl, λ k d within. absurd (omega arith))),
    ),
  )
