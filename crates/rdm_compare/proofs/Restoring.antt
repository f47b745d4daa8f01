-- What is set back.
use Rattle.std.specs.Prelude.{◌&&◌, ◌||◌, not, is_some, option_and_then}
use Rattle.std.proofs.Common.{◌≡◌, ℕ, ◌==◌, Bool, true, false, true≢false, cond, List, [], ◌∷◌, ◌++◌, Option, Some, None, refl, sym, ap, ◌∙◌}
use Rattle.std.specs.List.{flat_map, AllByRecursion}
use Rattle.std.specs.Str.{bytes_eq}
use Rattle.std.proofs.lemmas.Bool.{eqb-true, eq-eqb}
use Rattle.std.proofs.lemmas.Option.{same_Some}
use Rattle.std.proofs.lemmas.Slice.Eq.{bytes_eq-Decides}
use Rattle.rdm_frame.specs.declared.uid.Uid.{Uid}
use Rattle.rdm_survey.specs.declared.row.SubDevice.{SubDevice}
use Rattle.rdm_compare.specs.declared.kept.Kept.{Kept}
use Rattle.rdm_compare.specs.declared.remedy.Remedy.{Remedy}
use Rattle.rdm_compare.specs.Laws.{Agree, NothingToSet, SettableAgree}
use Rattle.rdm_compare.specs.Remedies.{address_now, address_remedy, is_address, is_personality, label_remedy, moves, personality_back, personality_remedy, remedies_of, root_remedy, sub_remedy, to_set}

-- ---- each difference that can be set has a remedy

both_nil : {A : Type 0} → (xs ys : List A) → xs ++ ys ≡ [] → (xs ≡ []) × (ys ≡ [])
both_nil [] ys h = (refl, h)
both_nil (x ∷ xs) ys h = absurd cc

four_nil : {A : Type 0} → (xs ys zs ws : List A) → xs ++ ys ++ zs ++ ws ≡ [] → (xs ≡ []) × ((ys ≡ []) × ((zs ≡ []) × (ws ≡ [])))
four_nil [] [] zs ws h = (refl, (refl, both_nil zs ws h))
four_nil [] (y ∷ ys) zs ws h = absurd cc
four_nil (x ∷ xs) ys zs ws h = absurd cc

each_nil : {A B : Type 0} → (g : A → List B) (xs : List A) → flat_map g xs ≡ [] → AllByRecursion (λ x. g x ≡ []) xs
each_nil g [] h = tt
each_nil g (x ∷ xs) h = let two = both_nil (g x) (flat_map g xs) h in (two.0, each_nil g xs two.1)

all_of : {A : Type 0} {P Q : A → Type 0} → ((x : A) → P x → Q x) → (xs : List A) → AllByRecursion P xs → AllByRecursion Q xs
all_of f [] h = tt
all_of f (x ∷ xs) h = (f x h.0, all_of f xs h.1)

no_personality : (uid : Uid) (o : Option ℕ) → personality_remedy uid o ≡ [] → o ≡ None
no_personality uid None h = refl
no_personality uid (Some n) h = absurd cc

no_address : (uid : Uid) (sub : ℕ) (o : Option ℕ) → address_remedy uid sub o ≡ [] → o ≡ None
no_address uid sub None h = refl
no_address uid sub (Some n) h = absurd cc

settled : (c a d : Bool) (n : ℕ) → cond (c && (a || not d)) (Some n) None ≡ None → c ≡ true → d ≡ true
settled false a d n h g = absurd cc
settled true true d n h g = absurd cc
settled true false true n h g = refl
settled true false false n h g = absurd cc

set_agree : (can : ℕ → Bool) (anyway : Bool) (x y : Option ℕ) → to_set can anyway x y ≡ None → SettableAgree can x y
set_agree can anyway None y h n m p q c = absurd cc
set_agree can anyway (Some x) None h n m p q c = absurd cc
set_agree can anyway (Some x) (Some y) h n m p q c =
    let able : can x ≡ true = ap can (same_Some x n p) ∙ c in
    sym (same_Some x n p) ∙ eqb-true x y (settled (can x) anyway (x == y) x h able) ∙ same_Some y m q

quiet : (t : Bool) (r : Remedy) → cond t [] (r ∷ []) ≡ [] → t ≡ true
quiet true r h = refl
quiet false r h = absurd cc

labels_agree : (uid : Uid) (x y : Option (List ℕ)) → label_remedy uid x y ≡ [] → Agree x y
labels_agree uid None y h a b p q = absurd cc
labels_agree uid (Some x) None h a b p q = absurd cc
labels_agree uid (Some x) (Some y) h a b p q = sym (same_Some x a p) ∙ (bytes_eq-Decides x y).0 (quiet _ _ h) ∙ same_Some y b q

sub_agrees : (uid : Uid) (moved : Bool) (now : List SubDevice) (s : SubDevice) → sub_remedy uid moved now s ≡ [] → SettableAgree is_address s.address (address_now s.number now)
unfolding sub_remedy
sub_agrees uid moved now s h = set_agree is_address moved s.address (address_now s.number now) (no_address uid s.number _ h)

pub nothing_to_set : (was is : Kept) → remedies_of was is ≡ [] → NothingToSet was is
nothing_to_set was is h =
    let subs = flat_map (sub_remedy was.uid (moves was is) is.sub_devices) was.sub_devices in
    let label = label_remedy was.uid was.label is.label in
    let four = four_nil (personality_remedy was.uid (personality_back was is)) (root_remedy was is) subs label h in
    record {
      personality = set_agree is_personality false was.personality is.personality (no_personality was.uid (personality_back was is) four.0);
      address = set_agree is_address (moves was is) was.address is.address (no_address was.uid 0 _ four.1.0);
      sub_devices = all_of (sub_agrees was.uid (moves was is) is.sub_devices) was.sub_devices (each_nil (sub_remedy was.uid (moves was is) is.sub_devices) was.sub_devices four.1.1.0);
      label = labels_agree was.uid was.label is.label four.1.1.1;
    }

-- ---- where nothing that can be set differs, there is no remedy

unset : (c : Bool) (n : ℕ) → cond (c && (false || false)) (Some n) None ≡ None
unset true n = refl
unset false n = refl

unset_same : (c d : Bool) (n : ℕ) → (c ≡ true → d ≡ true) → cond (c && (false || not d)) (Some n) None ≡ None
unset_same false d n h = refl
unset_same true true n h = refl
unset_same true false n h = absurd (true≢false (sym (h refl)))

none_to_set : (can : ℕ → Bool) (x y : Option ℕ) → SettableAgree can x y → to_set can false x y ≡ None
none_to_set can None y h = refl
none_to_set can (Some x) None h = unset (can x) x
none_to_set can (Some x) (Some y) h = unset_same (can x) (x == y) x (λ c. eq-eqb x y (h x y refl refl c))

none_in : {A B : Type 0} → (g : A → List B) (xs : List A) → AllByRecursion (λ x. g x ≡ []) xs → flat_map g xs ≡ []
none_in g [] h = refl
none_in g (x ∷ xs) h = rw (h.0, none_in g xs h.1) refl

same_label : (uid : Uid) (x y : Option (List ℕ)) → Agree x y → label_remedy uid x y ≡ []
same_label uid None y h = refl
same_label uid (Some x) None h = refl
same_label uid (Some x) (Some y) h = rw ((bytes_eq-Decides x y).1 (h x y refl refl)) refl

same_sub : (uid : Uid) (now : List SubDevice) (s : SubDevice) → SettableAgree is_address s.address (address_now s.number now) → sub_remedy uid false now s ≡ []
unfolding sub_remedy
same_sub uid now s h = ap (λ (o : Option ℕ). address_remedy uid s.number o) (none_to_set is_address s.address (address_now s.number now) h)

pub no_remedies : (was is : Kept) → NothingToSet was is → remedies_of was is ≡ []
no_remedies was is h =
    let stays : personality_back was is ≡ None = none_to_set is_personality was.personality is.personality h.personality in
    rw (stays, none_to_set is_address was.address is.address h.address, none_in (sub_remedy was.uid false is.sub_devices) was.sub_devices (all_of (same_sub was.uid is.sub_devices) was.sub_devices h.sub_devices), same_label was.uid was.label is.label h.label) refl
