-- That nothing which is put for a text is part of a tag.
use Rattle.std.proofs.Common.{◌≡◌, ℕ, ◌+◌, ◌/◌, ◌%◌, ◌≤◌, Bool, true, false, cond, ◌==◌, List, [], ◌∷◌, codes, flat_map, All, refl, arith, ltb}
use Rattle.std.proofs.Math.Utf8.{encode}
use Rattle.std.proofs.lemmas.Bool.{eqb-false}
use Rattle.std.proofs.lemmas.List.Elements.{All-nil, All-cons, All-append}
use Rattle.rdm_markup.specs.declared.escaping.Place.{Place}
use Rattle.rdm_markup.specs.declared.escaping.Place.TheVariants as place
use Rattle.rdm_markup.specs.Markup.{in_markup, is_unfit, space_in, IsPlain}

high : (byte : ℕ) → 63 ≤ byte → IsPlain byte
high byte least = (λ e. omega (arith, least, e), λ e. omega (arith, least, e), λ e. omega (arith, least, e))

low : (byte : ℕ) → 35 ≤ byte → byte ≤ 59 → IsPlain byte
low byte least most = (λ e. omega (arith, most, e), λ e. omega (arith, most, e), λ e. omega (arith, least, e))

one : (a : ℕ) → IsPlain a → All IsPlain (a ∷ [])
one a p = All-cons IsPlain a [] p (All-nil IsPlain)

two : (a b : ℕ) → IsPlain a → IsPlain b → All IsPlain (a ∷ b ∷ [])
two a b p q = All-cons IsPlain a (b ∷ []) p (one b q)

three : (a b c : ℕ) → IsPlain a → IsPlain b → IsPlain c → All IsPlain (a ∷ b ∷ c ∷ [])
three a b c p q r = All-cons IsPlain a (b ∷ c ∷ []) p (two b c q r)

four : (a b c d : ℕ) → IsPlain a → IsPlain b → IsPlain c → IsPlain d → All IsPlain (a ∷ b ∷ c ∷ d ∷ [])
four a b c d p q r s = All-cons IsPlain a (b ∷ c ∷ d ∷ []) p (three b c d q r s)

-- a character that is no markup, in UTF-8
plain_encoded : (c : ℕ) → IsPlain c → All IsPlain (encode c)
unfolding encode
plain_encoded c plain = by (ltb c 128) (ltb c 2048) (ltb c 65536)
  where
    next : (n : ℕ) → IsPlain (128 + n % 64)
    next n = high (128 + n % 64) (omega arith)

    by : (x y z : Bool) → All IsPlain (cond x (c ∷ []) (cond y ((192 + c / 64) ∷ (128 + c % 64) ∷ []) (cond z ((224 + c / 4096) ∷ (128 + (c / 64) % 64) ∷ (128 + c % 64) ∷ []) ((240 + c / 262144) ∷ (128 + (c / 4096) % 64) ∷ (128 + (c / 64) % 64) ∷ (128 + c % 64) ∷ []))))
    by true y z = one c plain
    by false true z = two (192 + c / 64) (128 + c % 64) (high (192 + c / 64) (omega arith)) (next c)
    by false false true = three (224 + c / 4096) (128 + (c / 64) % 64) (128 + c % 64) (high (224 + c / 4096) (omega arith)) (next (c / 64)) (next c)
    by false false false =
        four (240 + c / 262144) (128 + (c / 4096) % 64) (128 + (c / 64) % 64) (128 + c % 64)
        (high (240 + c / 262144) (omega arith)) (next (c / 4096)) (next (c / 64)) (next c)

-- a reference by two letters
reference : (a b : ℕ) → 63 ≤ a → 63 ≤ b → All IsPlain (38 ∷ a ∷ b ∷ 59 ∷ [])
reference a b m n = four 38 a b 59 (low 38 (omega arith) (omega arith)) (high a m) (high b n) (low 59 (omega arith) (omega arith))

amp : All IsPlain (codes "&amp;")
amp = All-cons IsPlain 38 (97 ∷ 109 ∷ 112 ∷ 59 ∷ []) (low 38 (omega arith) (omega arith))
    (four 97 109 112 59 (high 97 (omega arith)) (high 109 (omega arith)) (high 112 (omega arith)) (low 59 (omega arith) (omega arith)))

quot : All IsPlain (codes "&quot;")
quot = All-cons IsPlain 38 (113 ∷ 117 ∷ 111 ∷ 116 ∷ 59 ∷ []) (low 38 (omega arith) (omega arith))
    (All-cons IsPlain 113 (117 ∷ 111 ∷ 116 ∷ 59 ∷ []) (high 113 (omega arith))
    (four 117 111 116 59 (high 117 (omega arith)) (high 111 (omega arith)) (high 116 (omega arith)) (low 59 (omega arith) (omega arith))))

-- a reference by a number of one digit, or of two
digit : (a : ℕ) → 48 ≤ a → a ≤ 57 → All IsPlain (38 ∷ 35 ∷ a ∷ 59 ∷ [])
digit a m n = four 38 35 a 59 (low 38 (omega arith) (omega arith)) (low 35 (omega arith) (omega arith))
    (low a (omega (arith, m)) (omega (arith, n))) (low 59 (omega arith) (omega arith))

digits : (a b : ℕ) → 48 ≤ a → a ≤ 57 → 48 ≤ b → b ≤ 57 → All IsPlain (38 ∷ 35 ∷ a ∷ b ∷ 59 ∷ [])
digits a b m n k l = All-cons IsPlain 38 (35 ∷ a ∷ b ∷ 59 ∷ []) (low 38 (omega arith) (omega arith))
    (four 35 a b 59 (low 35 (omega arith) (omega arith)) (low a (omega (arith, m)) (omega (arith, n)))
    (low b (omega (arith, k)) (omega (arith, l))) (low 59 (omega arith) (omega arith)))

-- a tab or an LF, or its reference
plain_space : (p : Place) (c : ℕ) (reference : List ℕ) → IsPlain c → All IsPlain reference → All IsPlain (space_in p c reference)
plain_space place.Content c reference plain other = plain_encoded c plain
plain_space place.Attribute c reference plain other = other

control : (c : ℕ) → c ≤ 31 → IsPlain c
control c most = (λ e. omega (arith, most, e), λ e. omega (arith, most, e), λ e. omega (arith, most, e))

-- what is put for a character
plain_character : (p : Place) (c : ℕ) → All IsPlain (in_markup p c)
unfolding in_markup
plain_character p c = by (c == 38) (c == 60) (c == 62) (c == 34) (c == 13) (c == 9) (c == 10) (is_unfit c) refl refl refl
  where
    tab : All IsPlain (space_in p 9 (codes "&#9;"))
    tab = plain_space p 9 (codes "&#9;") (control 9 (omega arith)) (digit 57 (omega arith) (omega arith))

    line_end : All IsPlain (space_in p 10 (codes "&#10;"))
    line_end = plain_space p 10 (codes "&#10;") (control 10 (omega arith)) (digits 49 48 (omega arith) (omega arith) (omega arith) (omega arith))

    by : (a b x d r t n u : Bool) → (c == 60) ≡ b → (c == 62) ≡ x → (c == 34) ≡ d
        → All IsPlain (cond a (codes "&amp;") (cond b (codes "&lt;") (cond x (codes "&gt;") (cond d (codes "&quot;") (cond r (codes "&#13;")
        (cond t (space_in p 9 (codes "&#9;")) (cond n (space_in p 10 (codes "&#10;")) (cond u (encode 0xFFFD) (encode c)))))))))
    by true b x d r t n u e f g = amp
    by false true x d r t n u e f g = reference 108 116 (omega arith) (omega arith)
    by false false true d r t n u e f g = reference 103 116 (omega arith) (omega arith)
    by false false false true r t n u e f g = quot
    by false false false false true t n u e f g = digits 49 51 (omega arith) (omega arith) (omega arith) (omega arith)
    by false false false false false true n u e f g = tab
    by false false false false false false true u e f g = line_end
    by false false false false false false false true e f g = plain_encoded 0xFFFD (high 0xFFFD (omega arith))
    by false false false false false false false false e f g = plain_encoded c (eqb-false c 60 e, eqb-false c 62 f, eqb-false c 34 g)

pub plain_in_markup : (p : Place) (cs : List ℕ) → All IsPlain (flat_map (in_markup p) cs)
plain_in_markup p [] = All-nil IsPlain
plain_in_markup p (c ∷ cs) = All-append IsPlain (in_markup p c) (flat_map (in_markup p) cs) (plain_character p c) (plain_in_markup p cs)
