-- Which keys the entries of a map have.
use Rattle.std.proofs.Common.{◌≡◌, ℕ, Bool, true, false, ◌&&◌, ◌||◌, List, [], ◌∷◌, ◌++◌, map, IsTrue, string_bytes, inl, inr, Bor, refl, sym, ap, ◌∙◌}
use Rattle.std.proofs.lemmas.Bool.{and_parts}
use Rattle.std.specs.List.{list_any}
use Rattle.std.specs.Str.{bytes_eq}
use Rattle.toml.specs.View.{members_view}
use Rattle.toml.proofs.Views.{Entry}
use Rattle.rdm_fixture_keys.specs.Keys.{has_only}
use Rattle.rdm_fixture_keys.specs.Wrong.{FirstOther}

and_assoc : (a b c : Bool) → (a && (b && c)) ≡ ((a && b) && c)
and_assoc true b c = refl
and_assoc false b c = refl

-- the test of a list of keys is that of those before one, of that one and of those after it
pub has_only-middle : (keys : List (List ℕ)) (done : List Entry) (e : Entry) (left : List Entry)
    → has_only keys (members_view (done ++ e ∷ left))
    ≡ (has_only keys (members_view done) && (list_any (bytes_eq (string_bytes e.0)) keys && has_only keys (members_view left)))
has_only-middle keys [] e left = refl
has_only-middle keys (d ∷ done) e left =
    rw (has_only-middle keys done e left) (and_assoc (list_any (bytes_eq (string_bytes d.0)) keys) _ _)

pub list_any-map : {X Y : Type 0} (p : Y → Bool) (f : X → Y) (xs : List X) → list_any p (map f xs) ≡ list_any (λ x. p (f x)) xs
list_any-map p f [] = refl
list_any-map p f (x ∷ xs) = ap (λ b. p (f x) || b) (list_any-map p f xs)

pub and_false : (a b c : Bool) → b ≡ false → (a && (b && c)) ≡ false
and_false true b c e = rw e
and_false false b c e = refl

-- what the search for a key has told
pub told : (k key : List ℕ) (keys : List (Bor (List ℕ))) (r b : Bool) → key ≡ k → r ≡ list_any (λ x. bytes_eq key x.now) keys → r ≡ b
    → list_any (bytes_eq k) (map (λ x. x.now) keys) ≡ b
told k key keys r b same found answer = list_any-map (bytes_eq k) (λ x. x.now) keys ∙ rw (← same) (sym found ∙ answer)

-- the first key that is another
pub other_at : (keys : List (List ℕ)) (done : List Entry) (e : Entry) (left : List Entry) → IsTrue (has_only keys (members_view done))
    → list_any (bytes_eq (string_bytes e.0)) keys ≡ false → FirstOther keys (members_view (done ++ e ∷ left)) (string_bytes e.0)
other_at keys [] e left h missed = inl (missed, refl)
other_at keys (d ∷ done) e left h missed =
    let (here, rest) = and_parts _ _ h in inr (here, other_at keys done e left rest missed)
