-- Lists that grow by what comes of one more number, and what is at the front of a list and behind it.
use Rattle.std.proofs.Common.{◌≡◌, ◌≤◌, ◌<◌, ◌-◌, ◌+◌, ◌*◌, ℕ, zero, suc, false, Bool, ◌||◌, ◌&&◌, ◌==◌, if◌then◌else◌, List, [], ◌∷◌, ◌++◌, length, take, drop, map, max, slice_index, get_or, refl, sym, ap, ◌∙◌, arith, add-one}
use Rattle.std.proofs.lemmas.List.{append-nil, append_assoc, drop_all, length-append, length-drop, length-take, map-append, take-append-le, take_all, take_more}
use Rattle.rdm_describe.specs.Answers.{each, is_among, word_at}
use Rattle.rdm_describe.specs.Parts.{default_at, in_order, most_slots}
use Rattle.rdm_describe.specs.Scenes.{fixed_of, is_fixed}
use Rattle.rdm_describe.specs.declared.answers.Answer.{Answer}
use Rattle.rdm_profile.specs.declared.profile.Personality.{Personality}

pub each_none : {A : Type 0} (f : ℕ → List A) (first : ℕ) → each f first 0 ≡ []
unfolding each
each_none f first = refl

pub each_more : {A : Type 0} (f : ℕ → List A) (first n : ℕ) → each f first (n + 1) ≡ each f first n ++ f (first + n)
unfolding each
each_more f first n = rw add-one refl

pub none_among : (slots : List ℕ) (word : ℕ) → is_among slots word 0 ≡ false
unfolding is_among
none_among slots word = refl

pub more_among : (slots : List ℕ) (word n : ℕ) → is_among slots word (n + 1) ≡ (is_among slots word n || (word_at slots (2 * n) == word))
unfolding is_among
more_among slots word n = rw add-one refl

pub none_in_order : (slots : List ℕ) → in_order slots 0 ≡ 0
unfolding in_order
none_in_order slots = refl

pub more_in_order : (slots : List ℕ) (n : ℕ)
    → in_order slots (n + 1) ≡ (if (in_order slots n == n) && (word_at slots (5 * n) == n) then n + 1 else in_order slots n)
unfolding in_order
more_in_order slots n = rw add-one refl

pub none_fixed : (answers : List Answer) → fixed_of answers 0 ≡ 0
unfolding fixed_of
none_fixed answers = refl

pub more_fixed : (answers : List Answer) (n : ℕ)
    → fixed_of answers (n + 1) ≡ (if (fixed_of answers n == n) && is_fixed answers (n + 1) then n + 1 else fixed_of answers n)
unfolding fixed_of
more_fixed answers n = rw add-one refl

pub no_default : (slots : List ℕ) (slot : ℕ) → default_at slots slot 0 ≡ 0
unfolding default_at
no_default slots slot = refl

pub more_defaults : (slots : List ℕ) (slot n : ℕ)
    → default_at slots slot (n + 1) ≡ (if word_at slots (3 * n) == slot then slice_index slots (3 * n + 2) else default_at slots slot n)
unfolding default_at
more_defaults slots slot n = rw add-one refl

pub rest_of : (n : ℕ) (list : List ℕ) → take (length list - n) (drop n list) ≡ drop n list
rest_of n list = take_all (length list - n) (drop n list) (omega (arith, length-drop n list))

pub none_behind : (n : ℕ) (list : List ℕ) → length list ≤ n → drop n list ≡ []
none_behind n list few = drop_all n list few

pub whole_taken : (list : List ℕ) (n : ℕ) → length list ≤ n → take n list ≡ list
whole_taken list n few = take_all n list few

pub map_more : (f : ℕ → ℕ) (list : List ℕ) (n : ℕ) → n < length list → map f (take (n + 1) list) ≡ map f (take n list) ++ f (slice_index list n) ∷ []
map_more f list n here = ap (λ (l : List ℕ). map f l) (take_more list n 0 here) ∙ map-append f (take n list) (get_or list n 0 ∷ [])

-- one more is taken while there is room, and none then
pub cut_more : {A : Type 0} (n : ℕ) (list : List A) (x : A) → length (take n list) < n → take n (list ++ x ∷ []) ≡ take n list ++ x ∷ []
cut_more n list x room =
    let few : length list < n = omega (arith, length-take n list) in
    take_all n (list ++ x ∷ []) (omega (arith, length-append list (x ∷ []))) ∙ ap (λ l. l ++ x ∷ []) (sym (take_all n list (omega arith)))

pub cut_full : {A : Type 0} (n : ℕ) (list : List A) (x : A) → length (take n list) ≡ n → take n (list ++ x ∷ []) ≡ take n list
cut_full n list x full = take-append-le n list (x ∷ []) (omega (arith, length-take n list))

-- the same behind what was there
pub started : {A : Type 0} (old : List A) (f : ℕ → List A) (first : ℕ) → old ++ each f first 0 ≡ old
started old f first = ap (λ list. old ++ list) (each_none f first) ∙ append-nil old

pub grown : {A : Type 0} (old : List A) (f : ℕ → List A) (first n : ℕ) → old ++ each f first (n + 1) ≡ (old ++ each f first n) ++ f (first + n)
grown old f first n = ap (λ list. old ++ list) (each_more f first n) ∙ sym (append_assoc old (each f first n) (f (first + n)))

pub most_behind : (most : ℕ) (p : Personality) (more : List Personality) → max (max most p.footprint) (most_slots more) ≡ max most (most_slots (p ∷ more))
most_behind most p more = omega arith

pub most_alone : (most : ℕ) → max most (most_slots []) ≡ most
most_alone most = omega arith
