-- The three sentences of the lane law.
use Rattle.std.proofs.Common.{◌≡◌, ℕ, ◌+◌, false, cond, List, [], ◌∷◌, ◌++◌, length, refl, sym, ◌∙◌, ap, append_assoc, filter, arith, length-append}
use Rattle.std.specs.List.{list_any}
use Rattle.std.proofs.lemmas.List.{append-nil}
use Rattle.std.proofs.lemmas.List.Elements.{filter-append}
use Rattle.rdm_lane.specs.declared.taken.Taken.{Taken}
use Rattle.rdm_lane.specs.declared.taken.Taken.TheVariants.{Item, Mark}
use Rattle.rdm_lane.specs.Lane.{is_from, of, is_item, items_of, numbered, put_closed, is_mark, IsPrefix}
use Rattle.rdm_lane.specs.Laws.{TakesAPrefix, EndsAtItsMark, IsWholeAtItsMark}

module _ {T : Type 0} where
  -- a front of what a closed post has put is a front of its items, or all of it
  data Front (p n : ℕ) (xs : List T) (front : List (Taken T)) : Type 0 where
    Items : (ys zs : List T) → ys ++ zs ≡ xs → front ≡ numbered p n ys → Front p n xs front
    Whole : front ≡ numbered p n xs ++ Mark p ∷ [] → Front p n xs front

  none-before : (es rest : List (Taken T)) → es ++ rest ≡ [] → es ≡ []
  none-before [] rest same = refl
  none-before (e ∷ es) rest same = cc

  one_more : (p n : ℕ) (x : T) (xs : List T) (e : Taken T) (es : List (Taken T)) → e ≡ Item p n x → Front p (n + 1) xs es → Front p n (x ∷ xs) (e ∷ es)
  one_more p n x xs e es head (Items ys zs parts same) = Items (x ∷ ys) zs (ap (λ l. x ∷ l) parts) cc
  one_more p n x xs e es head (Whole same) = Whole cc

  front_of : (p n : ℕ) (xs : List T) (front rest : List (Taken T)) → front ++ rest ≡ numbered p n xs ++ Mark p ∷ [] → Front p n xs front
  front_of p n xs [] rest same = Items [] xs refl refl
  front_of p n [] (e ∷ es) rest same =
      let tail : es ++ rest ≡ [] = cc in
      let none : es ≡ [] = none-before es rest tail in
      let head : e ≡ Mark p = cc in
      Whole cc
  front_of p n (x ∷ xs) (e ∷ es) rest same =
      let head : e ≡ Item p n x = cc in
      let tail : es ++ rest ≡ numbered p (n + 1) xs ++ Mark p ∷ [] = cc in
      one_more p n x xs e es head (front_of p (n + 1) xs es rest tail)

  -- items have no mark
  unmarked : (p n : ℕ) (xs : List T) → list_any is_mark (numbered p n xs) ≡ false
  unmarked p n [] = refl
  unmarked p n (x ∷ xs) = unmarked p (n + 1) xs

  -- what they say of the items
  values : (p n : ℕ) (xs : List T) → items_of (numbered p n xs) ≡ xs
  unfolding items_of
  values p n [] = refl
  values p n (x ∷ xs) = ap (λ l. x ∷ l) (values p (n + 1) xs)

  values-whole : (p n : ℕ) (xs : List T) → items_of (numbered p n xs ++ Mark p ∷ []) ≡ xs
  unfolding items_of
  values-whole p n [] = refl
  values-whole p n (x ∷ xs) = ap (λ l. x ∷ l) (values-whole p (n + 1) xs)

  items-numbered : (p n : ℕ) (xs : List T) → filter is_item (numbered p n xs) ≡ numbered p n xs
  items-numbered p n [] = refl
  items-numbered p n (x ∷ xs) = ap (λ l. Item p n x ∷ l) (items-numbered p (n + 1) xs)

  items-whole : (p n : ℕ) (xs : List T) → filter is_item (numbered p n xs ++ Mark p ∷ []) ≡ numbered p n xs
  items-whole p n xs = filter-append is_item (numbered p n xs) (Mark p ∷ []) ∙ append-nil (filter is_item (numbered p n xs)) ∙ items-numbered p n xs

  -- a front with these items is a prefix
  of_items : (p : ℕ) (front : List (Taken T)) (ys zs xs : List T) → ys ++ zs ≡ xs → items_of front ≡ ys → filter is_item front ≡ numbered p 0 ys → IsPrefix (items_of front) xs × (filter is_item front ≡ numbered p 0 (items_of front))
  of_items p front ys zs xs parts values items = ((zs, ap (λ l. l ++ zs) values ∙ parts), items ∙ ap (numbered p 0) (sym values))

  in_front : (p : ℕ) (taken : List (Taken T)) (xs : List T) → Front p 0 xs (of p taken) → TakesAPrefix p taken xs
  in_front p taken xs (Items ys zs parts same) = of_items p (of p taken) ys zs xs parts (ap items_of same ∙ values p 0 ys) (ap (filter is_item) same ∙ items-numbered p 0 ys)
  in_front p taken xs (Whole same) = of_items p (of p taken) xs [] xs (append-nil xs) (ap items_of same ∙ values-whole p 0 xs) (ap (filter is_item) same ∙ items-whole p 0 xs)

  pub takes_a_prefix : (p : ℕ) (taken : List (Taken T)) (xs : List T) → IsPrefix (of p taken) (put_closed p xs) → TakesAPrefix p taken xs
  takes_a_prefix p taken xs (rest, same) = in_front p taken xs (front_of p 0 xs (of p taken) rest same)

  at_mark : (p : ℕ) (taken : List (Taken T)) (xs : List T) → Front p 0 xs (of p taken) → IsWholeAtItsMark p taken xs
  at_mark p taken xs (Items ys zs parts same) marked = absurd (let unmarked_front = ap (list_any is_mark) same ∙ unmarked p 0 ys in cc)
  at_mark p taken xs (Whole same) marked = ap items_of same ∙ values-whole p 0 xs

  pub whole_at_its_mark : (p : ℕ) (taken : List (Taken T)) (xs : List T) → IsPrefix (of p taken) (put_closed p xs) → IsWholeAtItsMark p taken xs
  whole_at_its_mark p taken xs (rest, same) = at_mark p taken xs (front_of p 0 xs (of p taken) rest same)

  before_more : (p : ℕ) (xs : List T) (front after : List (Taken T)) (e : Taken T) → front ++ e ∷ after ≡ put_closed p xs → Front p 0 xs front → list_any is_mark front ≡ false
  before_more p xs front after e all (Items ys zs parts same) = ap (list_any is_mark) same ∙ unmarked p 0 ys
  before_more p xs front after e all (Whole same) =
      let more : length (front ++ e ∷ after) ≡ length front + length (e ∷ after) = length-append front (e ∷ after) in
      let as_many : length (front ++ e ∷ after) ≡ length front = ap length (all ∙ sym same) in
      absurd (omega arith)

  -- what stands before another of p is unmarked
  pub unfollowed : (p : ℕ) (xs : List T) (front after : List (Taken T)) (e : Taken T) → front ++ e ∷ after ≡ put_closed p xs → list_any is_mark front ≡ false
  unfollowed p xs front after e all = before_more p xs front after e all (front_of p 0 xs front (e ∷ after) all)

  pub ends_at_its_mark : (p : ℕ) (taken : List (Taken T)) (xs : List T) → IsPrefix (of p taken) (put_closed p xs) → EndsAtItsMark p taken
  ends_at_its_mark p taken xs (rest, same) before after e parts own =
      let split : of p taken ≡ of p before ++ e ∷ of p after = ap (of p) parts ∙ filter-append (is_from p) before (e ∷ after) ∙ ap (λ b. of p before ++ cond b (e ∷ of p after) (of p after)) own in
      let all : of p before ++ e ∷ (of p after ++ rest) ≡ put_closed p xs = sym (append_assoc (of p before) (e ∷ of p after) rest) ∙ ap (λ l. l ++ rest) (sym split) ∙ same in
      unfollowed p xs (of p before) (of p after ++ rest) e all
