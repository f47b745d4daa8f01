-- Lists that say values one by one.
use Rattle.std.proofs.Common.{◌≡◌, ℕ, zero, suc, ◌+◌, ◌<◌, List, [], ◌∷◌, ◌++◌, length, get_or, take, Option, Some, None, option_map, Bor, Vec, BTreeMap, String, Global, refl, sym, ap, ◌∙◌, arith}
use Rattle.std.proofs.lemmas.List.{take_more}
use Rattle.toml.specs.Data.{Data, string, integer, float, boolean, datetime, array, table, Items, no_items, item}
use Rattle.toml.specs.View.{view, items_view, array_view, table_view}
use Rattle.toml.proofs.Views.{view-Array, view-Table}
use Rattle.toml.specs.declared.value.Value.{Value, Array, Table}
use Rattle.rdm_fixture.specs.Lists.{EachIs, ListAt, items_count}
use Rattle.rdm_fixture.specs.Format.{slot_count}

-- one more at the end
pub EachIs-last : {A : Type 0} (P : Data → A → Type 0) (vs : List Value) (xs : List A) (v : Value) (x : A)
    → EachIs P (items_view vs) xs → P (view v) x → EachIs P (items_view (vs ++ v ∷ [])) (xs ++ x ∷ [])
EachIs-last P [] [] v x h here = (here, tt)
EachIs-last P [] (y ∷ ys) v x h here = absurd h
EachIs-last P (w ∷ vs) [] v x h here = absurd h
EachIs-last P (w ∷ vs) (y ∷ ys) v x h here = (h.0, EachIs-last P vs ys v x h.1 here)

-- each of them says something
pub EachIs-at : {A : Type 0} (P : Data → A → Type 0) (vs : List Value) (xs : List A) (i : ℕ) (d : Value)
    → EachIs P (items_view vs) xs → i < length vs → (x : A) × P (view (get_or vs i d)) x
EachIs-at P [] xs i d h less = absurd (omega arith)
EachIs-at P (w ∷ vs) [] i d h less = absurd h
EachIs-at P (w ∷ vs) (y ∷ ys) zero d h less = (y, h.0)
EachIs-at P (w ∷ vs) (y ∷ ys) (suc i) d h less = EachIs-at P vs ys i d h.1 (omega arith)

-- there are as many
pub EachIs-length : {A : Type 0} (P : Data → A → Type 0) (vs : List Value) (xs : List A)
    → EachIs P (items_view vs) xs → length xs ≡ length vs
EachIs-length P [] [] h = refl
EachIs-length P [] (y ∷ ys) h = absurd h
EachIs-length P (w ∷ vs) [] h = absurd h
EachIs-length P (w ∷ vs) (y ∷ ys) h = ap suc (EachIs-length P vs ys h.1)

-- and as many as are counted
pub EachIs-count : {A : Type 0} (P : Data → A → Type 0) (ds : Items) (xs : List A) → EachIs P ds xs → length xs ≡ items_count ds
EachIs-count P no_items [] h = refl
EachIs-count P no_items (x ∷ xs) h = absurd h
EachIs-count P (item d ds) [] h = absurd h
EachIs-count P (item d ds) (x ∷ xs) h = let more = EachIs-count P ds xs h.1 in omega arith

-- what a key holds where an array was found
pub found_array : (r : Option (Bor Value)) (d : Option Data) (b : Bor Value) (vs : Vec Value Global)
    → option_map (λ v. view v.now) r ≡ d → r ≡ Some b → b.now ≡ Array vs → d ≡ Some (array (array_view vs))
found_array r d b vs finds is case =
    sym finds ∙ ap (option_map (λ v. view v.now)) is ∙ ap (λ v. Some (view v)) case ∙ ap Some (view-Array vs)

-- a step of the loop that reads them
pub EachIs-more : {A : Type 0} (P : Data → A → Type 0) (vs : List Value) (i : ℕ) (d : Value) (xs : List A) (x : A)
    → i < length vs → EachIs P (items_view (take i vs)) xs → P (view (get_or vs i d)) x → EachIs P (items_view (take (i + 1) vs)) (xs ++ x ∷ [])
EachIs-more P vs i d xs x less h here = rw (take_more vs i d less) (EachIs-last P (take i vs) xs (get_or vs i d) x h here)

-- and where a table was found
pub found_table : (r : Option (Bor Value)) (d : Option Data) (b : Bor Value) (m : BTreeMap (String Global) Value)
    → option_map (λ v. view v.now) r ≡ d → r ≡ Some b → b.now ≡ Table m → d ≡ Some (table (table_view m))
found_table r d b m finds is case =
    sym finds ∙ ap (option_map (λ v. view v.now)) is ∙ ap (λ v. Some (view v)) case ∙ ap Some (view-Table m)

-- the slots that a key says are as many as it has
pub slot_count-of : {A : Type 0} (P : Data → A → Type 0) (found : Option Data) (xs : List A) → ListAt P found xs → length xs ≡ slot_count found
slot_count-of P None xs h = ap length h
slot_count-of P (Some (array ds)) xs h = EachIs-count P ds xs h
slot_count-of P (Some (table t)) xs h = absurd h
slot_count-of P (Some (string s)) xs h = absurd h
slot_count-of P (Some (integer z)) xs h = absurd h
slot_count-of P (Some (float f)) xs h = absurd h
slot_count-of P (Some (boolean b)) xs h = absurd h
slot_count-of P (Some (datetime dt)) xs h = absurd h
