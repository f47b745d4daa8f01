-- The steps of a lane's ends, at what each end knows.
use Rattle.std.proofs.Common.{◌≡◌, ℕ, ◌+◌, ◌<◌, ◌≤◌, ◌≢◌, eq-eqb, List, [], ◌∷◌, ◌++◌, length, refl, sym, ◌∙◌, ap, subst, arith, inl, inr, length-append}
use Rattle.crossbeam_queue.specs.Fifo.{Pushes, Pops, Forks, Merges, Learns}
use Rattle.rdm_lane.specs.declared.rule.Put.{Put}
use Rattle.rdm_lane.specs.declared.rule.View.{View}
use Rattle.rdm_lane.specs.declared.taken.Taken.{Taken}
use Rattle.rdm_lane.specs.declared.taken.Taken.TheVariants.{Item, Mark}
use Rattle.rdm_lane.specs.Lane.{put_open, put_closed}
use Rattle.rdm_lane.specs.Rule.{taker, poster, spent, with_entry, taking, one_post_more, made_post, with_list, Ordered, Follows, FollowsIn, Told}
use Rattle.rdm_lane.proofs.Entries.{numbered-push}
use Rattle.rdm_lane.proofs.Moves.{puts, takes, deals, gathers, tells}

-- a post that isn't spent has put less than a lane's numbers reach
pub room_left : (n limit : ℕ) → n ≤ limit → limit < 4294967296 → n ≢ limit → n < 4294967295
room_left n limit most bound unlike = omega arith

module _ {T : Type 0} where
  pub puts_item : (n i p m : ℕ) (xs : List T) (x : T) (v : View T) → v ≡ poster p (put_open p xs) → m ≡ length xs → length xs < 4294967295 → Pushes Ordered n i v (Item p m x) (λ w. w ≡ with_entry v (Item p m x))
  puts_item n i p m xs x v known number room =
      let more : length (xs ++ x ∷ []) ≡ length xs + length (x ∷ []) = length-append xs (x ∷ []) in
      let step = puts n i p (put_open p xs) (Item p m x) (eq-eqb p p refl) (xs ++ x ∷ [], omega arith, inl (sym (numbered-push p 0 m xs x (omega arith)))) in
      subst (λ u. Pushes Ordered n i u (Item p m x) (λ w. w ≡ with_entry u (Item p m x))) (sym known) step

  pub puts_mark : (n i p : ℕ) (xs : List T) (v : View T) → v ≡ poster p (put_open p xs) → length xs ≤ 4294967295 → Pushes Ordered n i v (Mark p) (λ w. w ≡ with_entry v (Mark p))
  puts_mark n i p xs v known most =
      let step = puts n i p (put_open p xs) (Mark p) (eq-eqb p p refl) (xs, most, inr refl) in
      subst (λ u. Pushes Ordered n i u (Mark p) (λ w. w ≡ with_entry u (Mark p))) (sym known) step

  -- what the post knows then
  pub knows_item : (p m : ℕ) (xs : List T) (x : T) (v w : View T) → v ≡ poster p (put_open p xs) → m ≡ length xs → w ≡ with_entry v (Item p m x) → w ≡ poster p (put_open p (xs ++ x ∷ []))
  knows_item p m xs x v w known number wrote =
      wrote ∙ ap (λ u. with_entry u (Item p m x)) known ∙ ap (poster p) (sym (numbered-push p 0 m xs x (omega arith)))

  pub knows_mark : (p : ℕ) (xs : List T) (v w : View T) → v ≡ poster p (put_open p xs) → w ≡ with_entry v (Mark p) → w ≡ poster p (put_closed p xs)
  knows_mark p xs v w known wrote = wrote ∙ ap (λ u. with_entry u (Mark p)) known

  pub takes_next : (i n : ℕ) (ts : List (Taken T)) (os : List (Put T)) (v : View T) → v ≡ taker n ts os → Pops Ordered i v (λ e w. (w ≡ taking v e) × Follows v e)
  takes_next i n ts os v known = subst (λ u. Pops Ordered i u (λ e w. (w ≡ taking u e) × Follows u e)) (sym known) (takes i n ts os)

  -- what the taker knows then
  pub knows_taken : (n : ℕ) (ts : List (Taken T)) (os : List (Put T)) (e : Taken T) (v w : View T) → v ≡ taker n ts os → w ≡ taking v e → w ≡ taker n (ts ++ e ∷ []) os
  knows_taken n ts os e v w known took = took ∙ ap (λ u. taking u e) known

  pub knows_next : (n : ℕ) (ts : List (Taken T)) (os : List (Put T)) (e : Taken T) (v : View T) → v ≡ taker n ts os → Follows v e → FollowsIn n ts e
  knows_next n ts os e v known follows = subst (λ u. Follows u e) known follows

  pub makes_post : (i n : ℕ) (ts : List (Taken T)) (os : List (Put T)) (v : View T) → v ≡ taker n ts os → Forks Ordered i v (one_post_more v) (made_post v)
  makes_post i n ts os v known = subst (λ u. Forks Ordered i u (one_post_more u) (made_post u)) (sym known) (deals i n ts os)

  pub takes_in : (i n k p : ℕ) (ts es : List (Taken T)) (os : List (Put T)) (v w : View T) → v ≡ taker n ts os → w ≡ poster p es → Merges Ordered i v k w (with_list v w) spent
  takes_in i n k p ts es os v w known theirs =
      subst (λ u. Merges Ordered i u k w (with_list u w) spent) (sym known) (subst (λ u. Merges Ordered i (taker n ts os) k u (with_list (taker n ts os) u) spent) (sym theirs) (gathers i n k p ts es os))

  pub learns : (i n : ℕ) (ts : List (Taken T)) (os : List (Put T)) (v : View T) → v ≡ taker n ts os → Learns Ordered i v (λ waiting. Told v)
  learns i n ts os v known = subst (λ u. Learns Ordered i u (λ waiting. Told u)) (sym known) (tells i n ts os)
