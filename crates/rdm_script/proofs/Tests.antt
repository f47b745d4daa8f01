-- What a test of a word came to, and where the words of a line have to end.
use Rattle.std.proofs.Common.{◌≡◌, ◌≢◌, ℕ, ◌<◌, ◌≤◌, ◌==◌, eqb, arith, Bool, true, false, ◌||◌, List, [], ◌∷◌, length, take, drop, zero, suc, min, ◌-◌, Option, Some, None, is_some, not, ◌⊎◌, inl, inr, Bor, refl, sym, ap, ◌∙◌}
use Rattle.std.specs.Prelude.{codes, MatchOption}
use Rattle.std.specs.Str.{bytes_eq}
use Rattle.std.proofs.lemmas.Bool.Decides.{nat_tests}
use Rattle.std.proofs.lemmas.List.{length-map, length-take, length-drop, take_all, drop_all}
use Rattle.std.proofs.lemmas.Slice.Eq.{bytes_eq-Decides}
use Rattle.rdm_script.specs.declared.grammar.wrong.WrongWord.{WrongWord}
use Rattle.rdm_script.proofs.Words.{bytes_of}
use Rattle.rdm_script.proofs.LineParts.{IsAltered}

none_of : {A : Type 0} (o : Option A) → is_some o ≡ false → o ≡ None
none_of None h = refl
none_of (Some x) h = absurd cc

some_of : {A : Type 0} (o : Option A) → is_some o ≡ true → o ≢ None
some_of None h = absurd cc
some_of (Some x) h = λ e. cc

is_there : {A : Type 0} (o : Option A) → true ≡ is_some o → o ≢ None
is_there None h = absurd cc
is_there (Some x) h = λ e. cc

isnt_there : {A : Type 0} (o : Option A) → false ≡ is_some o → o ≡ None
isnt_there None h = refl
isnt_there (Some x) h = absurd cc

-- a word isn't what it has to be, and it is
pub none_at : {A : Type 0} (b : Bool) (o p : Option A) → is_some o ≡ not b → b ≡ true → o ≡ p → p ≡ None
none_at b o p test holds same = sym same ∙ none_of o (test ∙ ap not holds)

pub some_at : {A : Type 0} (b : Bool) (o p : Option A) → is_some o ≡ not b → b ≡ false → o ≡ p → p ≢ None
some_at b o p test fails same = λ e. some_of o (test ∙ ap not fails) (same ∙ e)

pub there_at : {A : Type 0} (b : Bool) (o p : Option A) → b ≡ is_some o → b ≡ true → o ≡ p → p ≢ None
there_at b o p test holds same = λ e. is_there o (sym holds ∙ test) (same ∙ e)

pub nothing_at : {A : Type 0} (b : Bool) (o p : Option A) → b ≡ is_some o → b ≡ false → o ≡ p → p ≡ None
nothing_at b o p test fails same = sym same ∙ isnt_there o (sym fails ∙ test)

-- the words end where they have to, or go on
pub ended : (words : List (Bor (List ℕ))) (o : Option WrongWord) (index : ℕ) (P : Type 0) (Q : ℕ → Type 0) → MatchOption o (length words ≤ index) (λ w. (w.index ≡ index) × (index < length words))
    → (length (bytes_of words) ≤ index → P) → (index < length (bytes_of words) → Q index) → MatchOption o P (λ w. Q w.index)
ended words None index P Q h ends goes_on = ends (rw length-map h)
ended words (Some w) index P Q h ends goes_on = rw h.0 (goes_on (rw length-map h.1))

either : (a b : Bool) → true ≡ (a || b) → (a ≡ true) ⊎ (b ≡ true)
either true b h = inl refl
either false b h = inr (sym h)

neither : (a b : Bool) → false ≡ (a || b) → (a ≡ false) × (b ≡ false)
neither true b h = absurd cc
neither false b h = (refl, sym h)

pub altered_name : (name : List ℕ) → true ≡ (bytes_eq name (codes "bad-request") || bytes_eq name (codes "bad-reply")) → IsAltered name
altered_name name h =
    elim (either (bytes_eq name (codes "bad-request")) (bytes_eq name (codes "bad-reply")) h) [
      | inl e ↦ inl ((bytes_eq-Decides name (codes "bad-request")).0 e)
      | inr e ↦ inr ((bytes_eq-Decides name (codes "bad-reply")).0 e)
    ]

same_bytes : (name other : List ℕ) → name ≡ other → bytes_eq name other ≡ true
same_bytes name other e = (bytes_eq-Decides name other).1 e

pub other_name : (name : List ℕ) → false ≡ (bytes_eq name (codes "bad-request") || bytes_eq name (codes "bad-reply")) → IsAltered name → ⊥
other_name name h (inl e) = let n = neither (bytes_eq name (codes "bad-request")) (bytes_eq name (codes "bad-reply")) h in let never : false ≡ true = sym n.0 ∙ same_bytes name (codes "bad-request") e in cc
other_name name h (inr e) = let n = neither (bytes_eq name (codes "bad-request")) (bytes_eq name (codes "bad-reply")) h in let never : false ≡ true = sym n.1 ∙ same_bytes name (codes "bad-reply") e in cc

pub few_words : (words : List (Bor (List ℕ))) (n : ℕ) → length words ≤ n → length (bytes_of words) ≤ n
few_words words n h = rw length-map h

-- a slice is empty, or it isn't
pub no_words : (words : List (Bor (List ℕ))) (b : Bool) → b ≡ (length words == 0) → b ≡ true → bytes_of words ≡ []
no_words [] b test holds = refl
no_words (word ∷ words) b test holds = absurd (let never : eqb (length (word ∷ words)) 0 ≡ false = grind (arith, nat_tests) in let clash : true ≡ false = sym holds ∙ test ∙ never in cc)

pub some_words : (words : List (Bor (List ℕ))) (b : Bool) → b ≡ (length words == 0) → b ≡ false → 0 < length (bytes_of words)
some_words [] b test fails = absurd (let clash : true ≡ false = sym test ∙ fails in cc)
some_words (word ∷ words) b test fails = rw length-map (omega arith)

pub many_words : (words : List (Bor (List ℕ))) (n : ℕ) → n < length words → n < length (bytes_of words)
many_words words n h = rw length-map h

-- the words from an index on
map_drop : (words : List (Bor (List ℕ))) (n : ℕ) → bytes_of (drop n words) ≡ drop n (bytes_of words)
map_drop words zero = refl
map_drop [] (suc n) = refl
map_drop (word ∷ words) (suc n) = map_drop words n

pub words_behind : (words : List (Bor (List ℕ))) (n : ℕ) → bytes_of (take (length words - n) (drop n words)) ≡ drop n (bytes_of words)
words_behind words n = ap bytes_of (take_all (length words - n) (drop n words) (omega (arith, length-drop n words))) ∙ map_drop words n

pub words_past : (words : List (Bor (List ℕ))) (n : ℕ) → length words < n → [] ≡ drop n (bytes_of words)
words_past words n h = sym (drop_all n (bytes_of words) (rw length-map (omega (arith, h))))

-- as much of a word as is shown
pub take_min : (xs : List ℕ) (n : ℕ) → take (min (length xs) n) xs ≡ take n xs
take_min [] zero = refl
take_min [] (suc n) = let none : min 0 (suc n) ≡ 0 = omega arith in rw none refl
take_min (x ∷ xs) zero = let none : min (length (x ∷ xs)) 0 ≡ 0 = omega arith in rw none refl
take_min (x ∷ xs) (suc n) =
    let more : min (length (x ∷ xs)) (suc n) ≡ suc (min (length xs) n) = omega arith in
    rw more (ap (λ (ys : List ℕ). x ∷ ys) (take_min xs n))

pub take_fits : (xs : List ℕ) (n : ℕ) → length (take (min (length xs) n) xs) ≤ n
take_fits xs n = omega (arith, length-take (min (length xs) n) xs)
