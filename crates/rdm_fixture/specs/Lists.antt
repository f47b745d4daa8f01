-- What the lists of a table say, and which of their entries is the first that says nothing.
use Rattle.std.specs.Prelude.{◌≡◌, ℕ, ◌+◌, ◌<◌, ◌≤◌, false, ◌⊎◌, List, [], ◌∷◌, length, Option, Some, None}
use Rattle.toml.specs.Data.{Data, table, array, Items, no_items, item, Members, get_member}
use Rattle.rdm_fixture_keys.specs.declared.refusal.Wanted.TheVariants.{Key, List as ListOf, Table}
use Rattle.rdm_fixture_keys.specs.Faults.{Fault, fault, in_entry}
use Rattle.rdm_fixture_keys.specs.Values.{within}
use Rattle.rdm_fixture_keys.specs.Wrong.{Part, says_one}

-- ---- what a list says

-- the data are a table, of which P says x
abbrev pub OfTable : {A : Type 0} → (Members → A → Type 0) → Data → A → Type 0
OfTable P (table t) x = P t x
OfTable P _ x = ⊥

-- the data say the values one by one
abbrev pub EachIs : {A : Type 0} → (Data → A → Type 0) → Items → List A → Type 0
EachIs P no_items [] = Unit {0}
EachIs P (item d ds) (x ∷ xs) = P d x × EachIs P ds xs
EachIs P _ _ = ⊥

-- what a key says that holds a list: absent, it is a list of nothing
abbrev pub ListAt : {A : Type 0} → (Data → A → Type 0) → Option Data → List A → Type 0
ListAt P None xs = xs ≡ []
ListAt P (Some (array ds)) xs = EachIs P ds xs
ListAt P (Some _) xs = ⊥

-- the key says the list, whose length is in a range
pub record Lists {A : Type 0} (t : Members) (key : List ℕ) (P : Data → A → Type 0) (least most : ℕ) (xs : List A) : Type 0 where
  pub items : ListAt P (get_member key t) xs
  pub enough : least ≤ length xs
  pub fit : length xs ≤ most

-- how many values stand in the list at the key
abbrev pub items_count : Items → ℕ
items_count no_items = 0
items_count (item d ds) = 1 + items_count ds

-- ---- what is wrong in a list of tables

-- in an entry, which is to be a table, something is wrong
abbrev pub InEntry : List ℕ → (Members → Fault → Type 0) → Data → Fault → Type 0
InEntry list W (table t) f = W t f
InEntry list W _ f = f ≡ fault list Table

-- It is the first of the entries that says nothing. The first of them has this number.
abbrev pub FirstEntry : {A : Type 0} → List ℕ → (Members → A → Type 0) → (Members → Fault → Type 0) → ℕ → Items → Fault → Type 0
FirstEntry list P W n no_items f = ⊥
FirstEntry {A = A} list P W n (item d ds) f =
    ((g : Fault) × InEntry list W d g × (f ≡ in_entry list n g)) ⊎ (((x : A) × OfTable P d x) × FirstEntry list P W (n + 1) ds f)

abbrev pub WrongList : {A : Type 0} → List ℕ → (Members → A → Type 0) → (Members → Fault → Type 0) → ℕ → ℕ → Option Data → Fault → Type 0
WrongList list P W least most None f = (0 < least) × (f ≡ fault list Key)
WrongList list P W least most (Some (array ds)) f =
    ((within least most (items_count ds) ≡ false) × (f ≡ fault list (ListOf least most))) ⊎ FirstEntry list P W 1 ds f
WrongList list P W least most (Some _) f = f ≡ fault list (ListOf least most)

-- a list of tables, of which P says when one is right, and W what is wrong in one
abbrev pub entries : {A : Type 0} → List ℕ → (Members → A → Type 0) → (Members → Fault → Type 0) → ℕ → ℕ → Part
entries {A = A} list P W least most =
    says_one (λ t (xs : List A). Lists t list (OfTable P) least most xs) (λ t f. WrongList list P W least most (get_member list t) f)
