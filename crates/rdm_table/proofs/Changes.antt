-- What is the same if a part of the values is.
use Rattle.std.proofs.Common.{◌≡◌, ◌↔◌, ℕ, zero, suc, ◌<◌, ◌||◌, Bool, true, false, List, [], ◌∷◌, ◌++◌, length, take, drop, map, set, get_or, refl, sym, ap, ◌∙◌, arith}
use Rattle.std.proofs.lemmas.List.{map-set, get_or-map, get_or-set_same, length-map}
use Rattle.rdm_added.specs.declared.state.CommonValues.{CommonValues}
use Rattle.rdm_added.specs.Map.{Entry}
use Rattle.rdm_added.specs.Views.State.{common_entries}
use Rattle.rdm_table.proofs.Bools.{not_either}

-- the values of the root are the same only if those of both parts are
pub root_parts : (a b : CommonValues) (x y : List Entry) → common_entries a ++ x ≡ common_entries b ++ y → (common_entries a ≡ common_entries b) × (x ≡ y)
unfolding common_entries
root_parts a b x y e = (ap (take 10) e, ap (drop 10) e)

pub joined_true : (a b c : Bool) → a ≡ true → c ≡ a → c ≡ (a || b)
joined_true true b c t e = e
joined_true false b c t e = absurd cc

pub joined_false : (a b c : Bool) → a ≡ false → c ≡ b → c ≡ (a || b)
joined_false true b c f e = absurd cc
joined_false false b c f e = e

-- a list in which an element was replaced by itself
set_own : (xs : List (List Entry)) (i : ℕ) (x : List Entry) → i < length xs → x ≡ get_or xs i [] → set xs i x ≡ xs
set_own [] i x lt e = absurd (omega arith)
set_own (y ∷ ys) zero x lt e = ap (λ (z : List Entry). z ∷ ys) e
set_own (y ∷ ys) (suc i) x lt e = ap (λ (zs : List (List Entry)). y ∷ zs) (set_own ys i x (omega arith) e)

set_is_own : (xs : List (List Entry)) (i : ℕ) (x : List Entry) → i < length xs → set xs i x ≡ xs → x ≡ get_or xs i []
set_is_own xs i x lt e = sym (get_or-set_same xs i x [] lt) ∙ ap (λ (ys : List (List Entry)). get_or ys i []) e

-- the sub-devices are the same exactly if the one that is written is
pub one_same : (changed : Bool) (subs : List CommonValues) (i : ℕ) (old new : CommonValues) → i < length subs → old ≡ get_or subs i old → ((changed ≡ false) ↔ (common_entries new ≡ common_entries old)) → ((changed ≡ false) ↔ (map common_entries (set subs i new) ≡ map common_entries subs))
one_same changed subs i old new lt here same =
    let there : i < length (map common_entries subs) = simp length-map lt in
    let was : common_entries old ≡ get_or (map common_entries subs) i [] = ap common_entries here ∙ sym (get_or-map common_entries subs i old [] lt) in (
      λ e. map-set common_entries subs i new ∙ set_own (map common_entries subs) i (common_entries new) there (same.0 e ∙ was),
      λ e. same.1 (set_is_own (map common_entries subs) i (common_entries new) there (sym (map-set common_entries subs i new) ∙ e) ∙ sym was),
    )

at_here : (f : List Entry → List Entry) (xs : List (List Entry)) (i : ℕ) → i < length xs → get_or (map f (take i xs) ++ drop i xs) i [] ≡ get_or xs i []
at_here f [] i lt = absurd (omega arith)
at_here f (x ∷ xs) zero lt = refl
at_here f (x ∷ xs) (suc i) lt = at_here f xs i (omega arith)

-- a write of one more leaves all as they were exactly if those before it did, and this one does
pub each_same : (f : List Entry → List Entry) (before here after : Bool) (xs now next : List (List Entry)) (i : ℕ) → i < length xs → length now ≡ length xs → now ≡ map f (take i xs) ++ drop i xs → next ≡ set now i (f (get_or now i [])) → ((here ≡ false) ↔ (next ≡ now)) → ((before ≡ false) ↔ (now ≡ xs)) → after ≡ (before || here) → ((after ≡ false) ↔ (next ≡ xs))
each_same f before here after xs now next i lt len so_far e one all joined = (
  λ e. let both = not_either before here (sym joined ∙ e) in one.0 both.1 ∙ all.0 both.0,
  λ same.
      let own : get_or now i [] ≡ get_or xs i [] = ap (λ (ys : List (List Entry)). get_or ys i []) so_far ∙ at_here f xs i lt in
      let fits : i < length now = omega (arith, len, lt) in
      let written : get_or next i [] ≡ f (get_or now i []) = ap (λ (ys : List (List Entry)). get_or ys i []) e ∙ get_or-set_same now i (f (get_or now i [])) [] fits in
      let kept : f (get_or now i []) ≡ get_or now i [] = sym written ∙ ap (λ (ys : List (List Entry)). get_or ys i []) same ∙ sym own in
      let still : next ≡ now = e ∙ set_own now i (f (get_or now i [])) fits kept in
      let first : before ≡ false = all.1 (sym still ∙ same) in
      joined ∙ rw first (one.1 still),
)
