-- The rule of the queue under a lane: what waits in it, and what each end knows.
use Rattle.std.specs.Prelude.{◌≡◌, ℕ, ◌+◌, ◌<◌, ◌≤◌, ◌⊎◌, false, List, [], ◌∷◌, ◌++◌, All, length}
use mathlib.Core.Option.{some}
use lib.ListN.{get_elem?}
use Rattle.rdm_lane.specs.declared.rule.Put.{Put}
use Rattle.rdm_lane.specs.declared.rule.View.{View}
use Rattle.rdm_lane.specs.declared.rule.View.TheVariants.{Taker, Poster, Spent}
use Rattle.rdm_lane.specs.declared.taken.Taken.{Taken}
use Rattle.rdm_lane.specs.declared.taken.Taken.TheVariants.{Item, Mark, Empty, Closed}
use Rattle.rdm_lane.specs.Lane.{of, has_mark, put_open, put_closed, IsPrefix}

-- How the ends of a lane stand to what was put into it.
pub record Order (T : Type 0) : Type 0 where
  -- the pass that takes
  pub reader : ℕ
  -- how many posts were made
  pub posts : ℕ
  -- the pass that has the list of each producer
  pub seat : ℕ → ℕ
  -- what was taken, in order
  pub taken : List (Taken T)

module _ {T : Type 0} where
  abbrev pub put : ℕ → List (Taken T) → Put T
  put p es = record { producer = p; entries = es }

  -- the taker has made N posts, has taken these, and has taken in the lists of these closed posts
  abbrev pub taker : ℕ → List (Taken T) → List (Put T) → View T
  taker posts taken lists = Taker posts taken lists

  -- post p has put these
  abbrev pub poster : ℕ → List (Taken T) → View T
  poster p es = Poster (put p es)

  abbrev pub spent : View T
  spent = Spent

  -- a view after each kind of step: a push,
  abbrev pub with_entry : View T → Taken T → View T
  with_entry (Poster o) e = poster o.producer (o.entries ++ e ∷ [])
  with_entry (Taker n ts os) e = Taker n ts os
  with_entry Spent e = Spent

  -- a pop,
  abbrev pub taking : View T → Taken T → View T
  taking (Taker n ts os) e = Taker n (ts ++ e ∷ []) os
  taking (Poster o) e = Poster o
  taking Spent e = Spent

  -- the making of a post, for the taker
  abbrev pub one_post_more : View T → View T
  one_post_more (Taker n ts os) = Taker (n + 1) ts os
  one_post_more (Poster o) = Poster o
  one_post_more Spent = Spent

  -- and for the post,
  abbrev pub made_post : View T → View T
  made_post (Taker n ts os) = poster n []
  made_post (Poster o) = Spent
  made_post Spent = Spent

  -- and the taking in of a closed post's list
  abbrev pub with_list : View T → View T → View T
  with_list (Taker n ts os) (Poster o) = Taker n ts (os ++ o ∷ [])
  with_list (Taker n ts os) (Taker _ _ _) = Taker n ts os
  with_list (Taker n ts os) Spent = Taker n ts os
  with_list (Poster o) _ = Poster o
  with_list Spent _ = Spent

  -- an item or a mark of a producer whose number was given
  abbrev pub IsGiven : ℕ → Taken T → Type 0
  IsGiven posts (Item p n x) = p < posts
  IsGiven posts (Mark p) = p < posts
  IsGiven posts Empty = ⊥
  IsGiven posts Closed = ⊥

  -- at most 4,294,967,295 items of p, numbered from 0, and at most its mark, behind them
  abbrev pub IsPut : ℕ → List (Taken T) → Type 0
  IsPut p es = (xs : List T) × (length xs ≤ 4294967295) × ((es ≡ put_open p xs) ⊎ (es ≡ put_closed p xs))

  -- this list of a post lies at pass i, and is what was put of that producer
  abbrev pub LiesAt : Order T → List (Taken T) → ℕ → Put T → Type 0
  LiesAt order all i list = (list.producer < order.posts) × (order.seat list.producer ≡ i) × (list.entries ≡ of list.producer all)

  -- what pass i knows is so
  abbrev pub Knows : Order T → List (Taken T) → ℕ → View T → Type 0
  Knows order all i (Taker n ts os) = (i ≡ order.reader) × (n ≡ order.posts) × (ts ≡ order.taken) × All (LiesAt order all i) os
  Knows order all i (Poster o) = LiesAt order all i o
  Knows order all i Spent = Unit {0}

  -- over all that was put, in order: it has entries of given producers alone, of each a list as above, and what each pass
  -- knows is so
  abbrev pub IsSound : Order T → List (Taken T) → List (View T) → Type 0
  IsSound order all views =
      All (IsGiven order.posts) all
      × ((p : ℕ) → IsPut p (of p all))
      × ((i : ℕ) (v : View T) → get_elem? views i ≡ some v → Knows order all i v)

  -- The rule: there is such an order, in which all that was put is what was taken, with what waits behind that.
  abbrev pub Ordered : List (Taken T) → List (View T) → Type 0
  Ordered waiting views = (order : Order T) × IsSound order (order.taken ++ waiting) views

  -- what an entry that is taken tells the taker
  abbrev pub FollowsIn : ℕ → List (Taken T) → Taken T → Type 0
  FollowsIn posts taken (Item p n x) = (p < posts) × (n ≡ length (of p taken)) × (n < 4294967295) × (has_mark p taken ≡ false)
  FollowsIn posts taken (Mark p) = (p < posts) × (has_mark p taken ≡ false)
  FollowsIn posts taken Empty = ⊥
  FollowsIn posts taken Closed = ⊥

  abbrev pub Follows : View T → Taken T → Type 0
  Follows (Taker n ts os) e = FollowsIn n ts e
  Follows (Poster o) e = Unit {0}
  Follows Spent e = Unit {0}

  -- Each that was taken is of a given producer. Of each list that was taken in, the producer was given, and what was taken of
  -- it is a prefix.
  abbrev pub AreTold : ℕ → List (Taken T) → List (Put T) → Type 0
  AreTold posts taken lists =
      All (IsGiven posts) taken × All (λ o. (o.producer < posts) × IsPrefix (of o.producer taken) o.entries) lists

  -- what the taker learns
  abbrev pub Told : View T → Type 0
  Told (Taker n ts os) = AreTold n ts os
  Told (Poster o) = Unit {0}
  Told Spent = Unit {0}
