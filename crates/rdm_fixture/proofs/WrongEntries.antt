-- The first entry of a list that says nothing.
use Rattle.std.proofs.Common.{◌≡◌, ℕ, zero, suc, ◌+◌, ◌<◌, ◌≤◌, Bool, true, false, List, [], ◌∷◌, length, get_or, take, inl, inr, Some, Result, Ok, Err, IfErr, codes, refl, ap, ◌∙◌, arith}
use Rattle.std.proofs.lemmas.Bool.{and_parts, leb-true}
use Rattle.toml.specs.Data.{array, Items, Members}
use Rattle.toml.specs.View.{view, items_view}
use Rattle.toml.specs.declared.value.Value.{Value}
use Rattle.arrayvec.specs.declared.array_vec.ArrayVec.{ArrayVec}
use Rattle.rdm_fixture_keys.specs.declared.refusal.Refusal.{Refusal}
use Rattle.rdm_fixture_keys.specs.declared.refusal.Agreement.TheVariants as agreements
use Rattle.rdm_fixture_keys.specs.declared.refusal.Wanted.TheVariants as wanted
use Rattle.rdm_fixture_keys.specs.Faults.{Fault, fault, in_entry, told}
use Rattle.rdm_fixture.specs.FirstWrong.{WrongLanguages, WrongLocked, WrongNames}
use Rattle.rdm_fixture.specs.Format.{parameter_named, locked_pid}
use Rattle.rdm_fixture_keys.specs.Keys.{Reads}
use Rattle.rdm_fixture.specs.Lists.{OfTable, EachIs, items_count, InEntry, FirstEntry}
use Rattle.rdm_fixture_keys.specs.Values.{within, language}

pub first_at : {A : Type 0} (list : List ℕ) (P : Members → A → Type 0) (W : Members → Fault → Type 0) (vs : List Value) (xs : List A) (i : ℕ) (d : Value) (n : ℕ) (g f : Fault)
    → EachIs (OfTable P) (items_view (take i vs)) xs → i < length vs → InEntry list W (view (get_or vs i d)) g → f ≡ in_entry list (n + i) g
    → FirstEntry list P W n (items_view vs) f
first_at list P W [] xs i d n g f h less here e = absurd (omega arith)
first_at list P W (v ∷ vs) xs zero d n g f h less here e =
    let same : n + 0 ≡ n = omega arith in inl (g, here, e ∙ ap (λ m. in_entry list m g) same)
first_at list P W (v ∷ vs) [] (suc i) d n g f h less here e = absurd h
first_at list P W (v ∷ vs) (x ∷ xs) (suc i) d n g f h less here e =
    let same : n + suc i ≡ n + 1 + i = omega arith in
    inr ((x, h.0), first_at list P W vs xs i d (n + 1) g f h.1 (omega arith) here (e ∙ ap (λ m. in_entry list m g) same))

pub count_items : (vs : List Value) → items_count (items_view vs) ≡ length vs
count_items [] = refl
count_items (v ∷ vs) = let more = count_items vs in omega arith

outside_at : (least most n : ℕ) (b : Bool) → within least most n ≡ b → (least ≤ n → n ≤ most → ⊥) → b ≡ false
outside_at least most n false e none = refl
outside_at least most n true e none =
    let (low, high) = and_parts _ _ e in absurd (none (leb-true least n low) (leb-true n most high))

pub outside : (least most n : ℕ) → (least ≤ n → n ≤ most → ⊥) → within least most n ≡ false
outside least most n none = outside_at least most n (within least most n) refl none

-- a list of languages in which one is none
pub language_wrong : (r : Result (ArrayVec ℕ 8 (Unit {0})) Refusal) (ds : Items)
    → Reads (λ ds xs. EachIs (λ d x. language d ≡ Some x) ds xs.items) ds r → IfErr r (λ e. told e ≡ fault (codes "languages") wanted.Language)
    → IfErr r (λ e. WrongLanguages (Some (array ds)) (told e))
language_wrong (Ok xs) ds h w = tt
language_wrong (Err e) ds h w = inr (λ xs said. h (record { items = xs }) said, w)

-- a list of names of parameters in which one is none
pub name_wrong : (r : Result (ArrayVec ℕ 36 (Unit {0})) Refusal) (ds : Items)
    → Reads (λ ds xs. EachIs (λ d pid. parameter_named d ≡ Some pid) ds xs.items) ds r → IfErr r (λ e. told e ≡ fault (codes "without") wanted.Parameter)
    → IfErr r (λ e. WrongNames (Some (array ds)) (told e))
name_wrong (Ok xs) ds h w = tt
name_wrong (Err e) ds h w = inr (λ xs said. h (record { items = xs }) said, w)

-- a list of PIDs and of names of parameters in which one is neither
pub pid_wrong : (r : Result (ArrayVec ℕ 64 (Unit {0})) Refusal) (ds : Items)
    → Reads (λ ds xs. EachIs (λ d pid. locked_pid d ≡ Some pid) ds xs.items) ds r
    → IfErr r (λ e. told e ≡ fault (codes "parameters") (wanted.Agreement agreements.Pids)) → IfErr r (λ e. WrongLocked (Some (array ds)) (told e))
pid_wrong (Ok xs) ds h w = tt
pid_wrong (Err e) ds h w = inr (λ xs said. h (record { items = xs }) said, w)
