-- What is on the wire, one answer after another.
use Rattle.std.proofs.Common.{◌≡◌, ℕ, List, [], ◌∷◌, ◌++◌, refl, sym, ap, subst, ◌∙◌}
use Rattle.std.specs.Int.{w64, to_be_bytes}
use Rattle.std.proofs.lemmas.List.Sums.{fold_push}
use Rattle.rdm_line.specs.declared.on_wire.OnWire.{OnWire}
use Rattle.rdm_line.specs.declared.on_wire.OnWire.TheVariants.{Nothing, Reply, Collision as Collided}
use Rattle.rdm_line.specs.declared.collision.Collision.{Collision}
use Rattle.rdm_line.specs.declared.collision.Collision.TheVariants.{AllBits, First, Rubbish}
use Rattle.rdm_line.specs.Collisions.{all_bits, collided, next_number, on_wire, rubbish}

abbrev is_nothing : OnWire → Type 0
is_nothing Nothing = Unit {0}
is_nothing Reply = ⊥
is_nothing Collided = ⊥

collided_more : (rule : Collision) (first : List ℕ) (others : List (List ℕ)) (x : List ℕ) → collided rule (collided rule first others) (x ∷ []) ≡ collided rule first (others ++ x ∷ [])
collided_more AllBits first others x = sym (fold_push all_bits first others x)
collided_more First first others x = refl
collided_more (Rubbish seed) first others x = refl

pub wave_first : (rule : Collision) (before wire x : List ℕ) (xs : List (List ℕ)) → (Nothing, wire) ≡ on_wire rule before xs → (Reply, x) ≡ on_wire rule before (xs ++ x ∷ [])
wave_first rule before wire x [] e = refl
wave_first rule before wire x (y ∷ []) e = absurd (subst is_nothing (ap (λ (p : OnWire × List ℕ). p.0) e) tt)
wave_first rule before wire x (y ∷ (z ∷ ys)) e = absurd (subst is_nothing (ap (λ (p : OnWire × List ℕ). p.0) e) tt)

pub wave_more : (rule : Collision) (before wire next x : List ℕ) (xs : List (List ℕ)) (what : OnWire) → (is_nothing what → ⊥) → (what, wire) ≡ on_wire rule before xs → next ≡ collided rule wire (x ∷ []) → (Collided, next) ≡ on_wire rule before (xs ++ x ∷ [])
wave_more rule before wire next x [] what some e n = absurd (some (subst is_nothing (sym (ap (λ (p : OnWire × List ℕ). p.0) e)) tt))
wave_more rule before wire next x (y ∷ []) what some e n =
    let w : wire ≡ y = ap (λ (p : OnWire × List ℕ). p.1) e in
    ap (λ (b : List ℕ). (Collided, b)) (n ∙ ap (λ (b : List ℕ). collided rule b (x ∷ [])) w)
wave_more rule before wire next x (y ∷ (z ∷ ys)) what some e n =
    let w : wire ≡ collided rule y (z ∷ ys) = ap (λ (p : OnWire × List ℕ). p.1) e in
    ap (λ (b : List ℕ). (Collided, b)) (n ∙ ap (λ (b : List ℕ). collided rule b (x ∷ [])) w ∙ collided_more rule y (z ∷ ys) x)

pub wave_of_reply : (rule : Collision) (before wire next x : List ℕ) (xs : List (List ℕ)) → (Reply, wire) ≡ on_wire rule before xs → next ≡ collided rule wire (x ∷ []) → (Collided, next) ≡ on_wire rule before (xs ++ x ∷ [])
wave_of_reply rule before wire next x xs = wave_more rule before wire next x xs Reply (λ h. h)

pub wave_of_collision : (rule : Collision) (before wire next x : List ℕ) (xs : List (List ℕ)) → (Collided, wire) ≡ on_wire rule before xs → next ≡ collided rule wire (x ∷ []) → (Collided, next) ≡ on_wire rule before (xs ++ x ∷ [])
wave_of_collision rule before wire next x xs = wave_more rule before wire next x xs Collided (λ h. h)

-- the bytes of three numbers, one behind the other
pub three_numbers : (seed n m k : ℕ) (a b c w x y z : List ℕ) → n ≡ next_number seed → m ≡ next_number n → k ≡ next_number m → a ≡ to_be_bytes w64 n → b ≡ to_be_bytes w64 m → c ≡ to_be_bytes w64 k → w ≡ [] → x ≡ w ++ a → y ≡ x ++ b → z ≡ y ++ c → z ≡ rubbish seed
three_numbers seed n m k a b c w x y z e1 e2 e3 e4 e5 e6 e7 e8 e9 e10 =
    e10 ∙ rw (e9, e8, e7, e6, e5, e4, e3, e2, e1) refl
