-- Joining what a device says.
use Rattle.std.proofs.Common.{◌≡◌, true, false, List, [], ◌∷◌, ◌++◌, length, refl, sym, ap, ◌∙◌, arith, inl, inr}
use Rattle.std.proofs.lemmas.Bool.{cases_Bool, both_ways, and_from, eq-eqb, cond-true, cond-false}
use Rattle.std.proofs.lemmas.List.Sums.{fold-append}
use Rattle.rdm_collector.specs.AnyDevice.Items.{Item, same_item, type_code}
use Rattle.rdm_collector.specs.AnyDevice.Joining.{ends_with, and_then, join}
use Rattle.rdm_collector.specs.AnyDevice.Laws.{SkippingIsRefused, RecordingNothingIsRefused}
use Rattle.rdm_collector.proofs.Joining.{same-refl}

pub item-refl : (x : Item) → same_item x x ≡ true
unfolding same_item
item-refl x = and_from _ _ (eq-eqb (type_code x.response) (type_code x.response) refl) (same-refl x.message)

ends_with-push : (xs : List Item) (x : Item) → ends_with same_item (xs ++ x ∷ []) x ≡ true
ends_with-push [] x = item-refl x
ends_with-push (y ∷ []) x = item-refl x
ends_with-push (y ∷ z ∷ zs) x = ends_with-push (z ∷ zs) x

pub and_then_old : (xs : List Item) (x : Item) → ends_with same_item xs x ≡ true → and_then same_item xs x ≡ xs
unfolding and_then
and_then_old xs x e = cond-true _ _ _ e

pub and_then_new : (xs : List Item) (x : Item) → ends_with same_item xs x ≡ false → and_then same_item xs x ≡ xs ++ x ∷ []
unfolding and_then
and_then_new xs x e = cond-false _ _ _ e

ends_with-and_then : (xs : List Item) (x : Item) → ends_with same_item (and_then same_item xs x) x ≡ true
ends_with-and_then xs x =
    elim (cases_Bool (ends_with same_item xs x)) [
      | inl old ↦ rw (and_then_old xs x old) old
      | inr new ↦ rw (and_then_new xs x new) (ends_with-push xs x)
    ]

pub and_then-and_then : (xs : List Item) (x : Item) → and_then same_item (and_then same_item xs x) x ≡ and_then same_item xs x
and_then-and_then xs x = and_then_old (and_then same_item xs x) x (ends_with-and_then xs x)

pub join-push : (xs : List Item) (x : Item) → join same_item (xs ++ x ∷ []) ≡ and_then same_item (join same_item xs) x
unfolding join
join-push xs x = fold-append (and_then same_item) [] xs (x ∷ [])

-- ---- what the prefix law rules out

pub join-nil : join same_item [] ≡ []
unfolding join
join-nil = refl

pub join-one : (x : Item) → join same_item (x ∷ []) ≡ x ∷ []
unfolding join
join-one x = and_then_new [] x refl

-- two that don't say the same stay apart
pub join-two : (x y : Item) → same_item x y ≡ false → join same_item (x ∷ y ∷ []) ≡ x ∷ y ∷ []
unfolding join
join-two x y other = rw (and_then_new [] x refl) (and_then_new (x ∷ []) y other)

-- the first of a list, or else another
abbrev head : List Item → Item → Item
head [] x = x
head (y ∷ ys) x = y

pub skipping : SkippingIsRefused
skipping u lost next other law =
    let both : (next ∷ []) ++ law.rest ≡ lost ∷ next ∷ [] = ap (λ (js : List Item). js ++ law.rest) (sym (join-one next)) ∙ law.prefix ∙ join-two lost next other in
    let same : next ≡ lost = ap (λ (js : List Item). head js next) both in
    both_ways _ other (rw same (item-refl lost))

pub recording_nothing : RecordingNothingIsRefused
recording_nothing u first second other law =
    let both : [] ++ law.rest ≡ first ∷ second ∷ [] = ap (λ (js : List Item). js ++ law.rest) (sym join-nil) ∙ law.prefix ∙ join-two first second other in
    omega (arith, law.at_most_one, ap length both)
