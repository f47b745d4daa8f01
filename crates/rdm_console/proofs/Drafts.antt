-- A message as far as it came, when one more goes on with it.
use Rattle.std.proofs.Common.{◌≡◌, ℕ, ◌==◌, ◌&&◌, ◌||◌, not, Bool, true, false, cond, List, [], ◌∷◌, ◌++◌, Option, Some, None, refl, sym, ap, ◌∙◌, append_assoc}
use Rattle.std.specs.Option.{option_map, option_or}
use Rattle.std.proofs.lemmas.Bool.{eqb-true}
use Rattle.std.proofs.lemmas.List.{append-nil}
use Rattle.rdm_collector.specs.declared.any_device.collected.Collected.{Collected}
use Rattle.rdm_collector.specs.AnyDevice.Items.{item_of, same_item, type_code}
use Rattle.rdm_collector.specs.AnyDevice.Parts.{is_part, is_repeat, is_unsure, is_unsure_behind, data_behind}
use Rattle.rdm_console.specs.declared.parcel.End.{End}
use Rattle.rdm_console.specs.Mailboxes.{Draft, draft_of, end_in, end_of, last_or}
use Rattle.rdm_console.specs.Sorting.{draft_with, end_before}

-- ---- the end

end_alone : (b : Bool) (c : Collected) → option_map end_in (cond b None (Some c)) ≡ cond b None (Some (end_in c))
end_alone true c = refl
end_alone false c = refl

end_at : (b : Bool) (x : Collected) (o p : Option Collected) (e : Option End) → option_map end_in o ≡ option_or (option_map end_in p) e
    → option_map end_in (cond b o (Some x)) ≡ option_or (option_map end_in (cond b p (Some x))) e
end_at true x o p e h = h
end_at false x o p e h = refl

end_push : (m : List Collected) (c : Collected) → option_map end_in (end_of (m ++ c ∷ [])) ≡ option_or (option_map end_in (end_of m)) (end_before c)
end_push [] c = end_alone (is_part c.response) c
end_push (x ∷ xs) c = end_at (is_part x.response) x (end_of (xs ++ c ∷ [])) (end_of xs) (end_before c) (end_push xs c)

-- ---- the data

data_push : (x : Collected) (xs : List Collected) (c : Collected)
    → data_behind x (xs ++ c ∷ []) ≡ data_behind x xs ++ cond (is_repeat (last_or x xs) c) [] c.message.body
data_push x [] c = append-nil (cond (is_repeat x c) [] c.message.body)
data_push x (y ∷ ys) c =
    let here : List ℕ = cond (is_repeat x y) [] y.message.body in
    ap (λ (bs : List ℕ). here ++ bs) (data_push y ys c) ∙ sym (append_assoc here (data_behind y ys) (cond (is_repeat (last_or y ys) c) [] c.message.body))

-- ---- whether it is sure

unsure_alone : (a : Bool) → (a || false) ≡ a
unsure_alone true = refl
unsure_alone false = refl

unsure_more : (a b c d : Bool) → b ≡ (c || d) → (a || b) ≡ ((a || c) || d)
unsure_more true b c d e = refl
unsure_more false b c d e = e

unsure_push : (x : Collected) (xs : List Collected) (c : Collected) → is_unsure_behind x (xs ++ c ∷ []) ≡ (is_unsure_behind x xs || is_unsure (last_or x xs) c)
unsure_push x [] c = unsure_alone (is_unsure x c)
unsure_push x (y ∷ ys) c = unsure_more (is_unsure x y) (is_unsure_behind y (ys ++ c ∷ [])) (is_unsure_behind y ys) (is_unsure (last_or y ys) c) (unsure_push y ys c)

sure_both : (a b c : Bool) → a ≡ (b || c) → not a ≡ (not b && not c)
sure_both a true c e = ap not e
sure_both a false c e = ap not e

-- ---- all of it

abbrev made : Option End → List ℕ → Bool → Bool → Draft
made e x s p = record { end = e; body = x; sure = s; in_parts = p }

draft_is : (e f : Option End) (x y : List ℕ) (s t p : Bool) → e ≡ f → x ≡ y → s ≡ t → made e x s p ≡ made f y t p
draft_is e f x y s t p ee ex es = rw (ee, ex, es) refl

pub draft_push : (x : Collected) (xs : List Collected) (c : Collected) → draft_of ((x ∷ xs) ++ c ∷ []) ≡ draft_with (draft_of (x ∷ xs)) (last_or x xs) c
draft_push x xs c =
    draft_is _ _ _ _ _ _ (is_part x.response) (end_push (x ∷ xs) c)
    (ap (λ (bs : List ℕ). x.message.body ++ bs) (data_push x xs c) ∙ sym (append_assoc x.message.body (data_behind x xs) (cond (is_repeat (last_or x xs) c) [] c.message.body)))
    (sure_both (is_unsure_behind x (xs ++ c ∷ [])) (is_unsure_behind x xs) (is_unsure (last_or x xs) c) (unsure_push x xs c))

-- ---- a repeat

same_from : (again same : Bool) → (again && same) ≡ true → same ≡ true
same_from true same e = e
same_from false same e = absurd cc

first_from : (a b : Bool) → (a && b) ≡ true → a ≡ true
first_from true b e = refl
first_from false b e = absurd cc

same_code : (x y : Collected) → same_item (item_of x) (item_of y) ≡ true → is_part x.response ≡ is_part y.response
unfolding same_item
same_code x y e =
    let codes : type_code x.response ≡ type_code y.response = eqb-true (type_code x.response) (type_code y.response) (first_from _ _ e) in
    ap (λ (n : ℕ). n == 0x03) codes

-- what repeats a part is one, and what repeats an end is none
pub repeat_alike : (x y : Collected) → is_repeat x y ≡ true → is_part x.response ≡ is_part y.response
repeat_alike x y e = same_code x y (same_from y.again _ e)

sure_still : (s p l : Bool) → p ≡ false → (s && not (p && l)) ≡ s
sure_still true p l e = rw e refl
sure_still false p l e = refl

-- a repeat of the end leaves a message as it is
pub draft_repeated : (e : End) (x : List ℕ) (s p : Bool) (last c : Collected) → is_part last.response ≡ false → is_repeat last c ≡ true
    → draft_with (record { end = Some e; body = x; sure = s; in_parts = p }) last c ≡ record { end = Some e; body = x; sure = s; in_parts = p }
draft_repeated e x s p last c part repeat =
    draft_is (Some e) (Some e) _ _ _ _ p refl (ap (λ (b : Bool). x ++ cond b [] c.message.body) repeat ∙ append-nil x)
    (sure_still s (is_part last.response) c.after_loss part)
