-- Lists that are written entry by entry.
use Rattle.std.proofs.Common.{◌≡◌, ℕ, zero, suc, ◌+◌, ◌<◌, ◌≤◌, true, List, [], ◌∷◌, ◌++◌, length, get_or, take, Option, Some, None, IfSome, option_map, subst, BTreeMap, String, Global, refl, arith}
use Rattle.std.proofs.lemmas.List.{take_more}
use Rattle.std.proofs.lemmas.Option.{same_Some}
use Rattle.toml.specs.Data.{Data, array, table, Members, depth, items_depth, has_valid_dates, items_have_valid_dates}
use Rattle.toml.specs.View.{view, items_view, table_view}
use Rattle.toml.proofs.Views.{view-Table}
use Rattle.toml.specs.declared.value.Value.{Value, Table}
use Rattle.rdm_fixture.specs.Lists.{EachIs, OfTable}
use Rattle.rdm_fixture.specs.Writing.{IsPlain}
use Rattle.rdm_fixture.proofs.Fields.{and_two, first_true, second_true}
use Rattle.rdm_fixture.proofs.ListEntries.{EachIs-last}

-- one entry more
pub entry_more : {A : Type 0} (P : Members → A → Type 0) (vs : List Value) (m : BTreeMap (String Global) Value) (xs : List A) (i : ℕ) (x : A)
    → i < length xs → get_or xs i x ≡ x → EachIs (OfTable P) (items_view vs) (take i xs) → P (table_view m) x
    → EachIs (OfTable P) (items_view (vs ++ Table m ∷ [])) (take (i + 1) xs)
entry_more P vs m xs i x less here before says =
    rw (take_more xs i x less, here) (EachIs-last (OfTable P) vs (take i xs) (Table m) x before (rw (view-Table m) says))

-- and how deep it is
deep_last : (n : ℕ) (vs : List Value) (v : Value) → items_depth (items_view vs) ≤ n → depth (view v) ≤ n → items_depth (items_view (vs ++ v ∷ [])) ≤ n
deep_last n [] v less here = omega (arith, here)
deep_last n (w ∷ vs) v less here = let more = deep_last n vs v (omega (arith, less)) here in omega (arith, less, more)

dates_last : (vs : List Value) (v : Value) → items_have_valid_dates (items_view vs) ≡ true → has_valid_dates (view v) ≡ true
    → items_have_valid_dates (items_view (vs ++ v ∷ [])) ≡ true
dates_last [] v are is = and_two _ _ is refl
dates_last (w ∷ vs) v are is = and_two _ _ (first_true _ _ are) (dates_last vs v (second_true _ _ are) is)

pub plain_last : (n : ℕ) (vs : List Value) (v : Value) → 1 ≤ n → IsPlain n (array (items_view vs)) → depth (view v) + 1 ≤ n → has_valid_dates (view v) ≡ true
    → IsPlain n (array (items_view (vs ++ v ∷ [])))
plain_last zero vs v some are deep dates = absurd (omega (arith, some))
plain_last (suc n) vs v some are deep dates = record {
  shallow = let less = deep_last n vs v (omega (arith, are.shallow)) (omega (arith, deep)) in omega (arith, less);
  dates = dates_last vs v are.dates dates;
}

pub plain_more : (n : ℕ) (vs : List Value) (m : BTreeMap (String Global) Value) → IsPlain (n + 1) (array (items_view vs)) → IsPlain n (table (table_view m))
    → IsPlain (n + 1) (array (items_view (vs ++ Table m ∷ [])))
plain_more n vs m are is =
    plain_last (n + 1) vs (Table m) (omega arith) are (rw (view-Table m) (omega (arith, is.shallow))) (rw (view-Table m) is.dates)

-- a value, if there is one
pub some_plain : (n : ℕ) (o : Option Value) → IfSome o (λ v. IsPlain n (view v)) → (d : Data) → option_map view o ≡ Some d → IsPlain n d
some_plain n None is d e = absurd (cc)
some_plain n (Some v) is d e = subst (IsPlain n) (same_Some _ _ e) is
