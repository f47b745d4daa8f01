-- What a caller sees of the ends of a lane.
use Rattle.std.specs.Prelude.{◌≡◌, ℕ, zero, suc, ◌<◌, ◌⊎◌, ◌≢◌, true, false, List, [], ◌∷◌, ◌++◌, All, Contains, length, map}
use Rattle.atomic_table.specs.Seated.{TableId}
use Rattle.rdm_lane.specs.declared.post.PutError.{PutError}
use Rattle.rdm_lane.specs.declared.post.PutError.TheVariants.{Full, OutOfMemory, Spent}
use Rattle.rdm_lane.specs.declared.taken.Taken.{Taken}
use Rattle.rdm_lane.specs.declared.taken.Taken.TheVariants.{Item, Mark, Empty, Closed}
use Rattle.rdm_lane.specs.Lane.{of, has_mark}

-- A post, open or closed: its lane, its producer number, how many items it may put, and those that it has put.
pub record PostState (T : Type 0) : Type 0 where
  pub lane : TableId
  pub producer : ℕ
  pub limit : ℕ
  pub items : List T

-- The taking end: its lane, how many posts there are, and the items and marks that it has taken.
pub record TakeState (T : Type 0) : Type 0 where
  pub lane : TableId
  pub posts : ℕ
  pub taken : List (Taken T)

module _ {T : Type 0} where
  abbrev pub post_state : TableId → ℕ → ℕ → List T → PostState T
  post_state lane producer limit items = record { lane = lane; producer = producer; limit = limit; items = items }

  abbrev pub take_state : TableId → ℕ → List (Taken T) → TakeState T
  take_state lane posts taken = record { lane = lane; posts = posts; taken = taken }

  -- a post that has put nothing
  abbrev pub new_post : TableId → ℕ → ℕ → PostState T
  new_post lane producer limit = post_state lane producer limit []

  -- the post after one more item
  abbrev pub with_item : PostState T → T → PostState T
  with_item s x = post_state s.lane s.producer s.limit (s.items ++ x ∷ [])

  -- the same post of the same lane, whatever it has put
  abbrev pub IsSamePost : PostState T → PostState T → Type 0
  IsSamePost old new = (new.lane ≡ old.lane) × (new.producer ≡ old.producer) × (new.limit ≡ old.limit)

  -- the taking end of the same lane, whatever it has taken
  abbrev pub IsSameTake : TakeState T → TakeState T → Type 0
  IsSameTake old new = (new.lane ≡ old.lane) × (new.posts ≡ old.posts)

  -- the item that a refused put hands back
  abbrev pub handed_back : PutError T → T
  handed_back (Full x) = x
  handed_back (OutOfMemory x) = x
  handed_back (Spent x) = x

  -- the marks of all posts were taken
  abbrev pub IsOver : TakeState T → Type 0
  IsOver s = (p : ℕ) → p < s.posts → has_mark p s.taken ≡ true

  -- what the end has taken after an answer
  abbrev pub with_taken : List (Taken T) → Taken T → List (Taken T)
  with_taken ts (Item p n x) = ts ++ Item p n x ∷ []
  with_taken ts (Mark p) = ts ++ Mark p ∷ []
  with_taken ts Empty = ts
  with_taken ts Closed = ts

  abbrev pub took : TakeState T → Taken T → TakeState T
  took s e = take_state s.lane s.posts (with_taken s.taken e)

  -- What an answer tells. An item and a mark are of a producer of the lane whose mark wasn't taken before; an item's number
  -- is how many items of that producer were. `Closed` says that all posts are closed, every other answer that not all are.
  abbrev pub IsNext : TakeState T → Taken T → Type 0
  IsNext s (Item p n x) = (p < s.posts) × (n ≡ length (of p s.taken)) × (n < 4294967295) × (has_mark p s.taken ≡ false)
  IsNext s (Mark p) = (p < s.posts) × (has_mark p s.taken ≡ false)
  IsNext s Empty = ¬ IsOver s
  IsNext s Closed = IsOver s

  -- posts 0, 1, .. that have put nothing
  abbrev pub new_posts : TableId → ℕ → ℕ → List (PostState T)
  new_posts lane limit zero = []
  new_posts lane limit (suc p) = new_posts lane limit p ++ new_post lane p limit ∷ []

  -- the ends of a lane that was just made
  abbrev pub IsNewLane : ℕ → ℕ → TakeState T → List (PostState T) → Type 0
  IsNewLane posts limit take ps = (take ≡ take_state take.lane posts []) × (ps ≡ new_posts take.lane limit posts)

  -- no two of these posts have one number
  abbrev pub AreDistinct : List (PostState T) → Type 0
  AreDistinct [] = Unit {0}
  AreDistinct (c ∷ cs) = All (λ d. d.producer ≢ c.producer) cs × AreDistinct cs

  -- these are the lane's ends, each once: all of one lane, no post twice, and none missing
  abbrev pub AreEnds : TakeState T → List (PostState T) → Type 0
  AreEnds t cs = All (λ c. c.lane ≡ t.lane) cs × AreDistinct cs × ((p : ℕ) → p < t.posts → Contains (map (λ c. c.producer) cs) p)

-- capacity not 1 to 2,048, posts not 1 to 3, or limit 0
abbrev pub IsBadSize : ℕ → ℕ → ℕ → Type 0
IsBadSize capacity posts limit = (capacity ≡ 0) ⊎ (2048 < capacity) ⊎ (posts ≡ 0) ⊎ (3 < posts) ⊎ (limit ≡ 0)
