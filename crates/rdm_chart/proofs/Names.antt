-- Names stand in markup as they are.
use Rattle.std.proofs.Common.{◌≡◌, ℕ, zero, suc, ◌<◌, true, false, ◌==◌, ◌||◌, List, [], ◌∷◌, ◌++◌, flat_map, refl, ap, ◌∙◌, arith}
use Rattle.std.specs.Str.{IsAscii}
use Rattle.std.proofs.Math.Utf8.{encode}
use Rattle.std.proofs.lemmas.Bool.Decides.{nat_tests}
use Rattle.std.proofs.lemmas.Str.{chars-IsAscii}
use Rattle.rdm_markup.specs.declared.escaping.Place.TheVariants.{Attribute}
use Rattle.rdm_markup.specs.Markup.{in_markup, is_unfit}
use Rattle.rdm_chart.specs.Elements.{is_letter, IsName, escaped_value}

small : (b : ℕ) → is_letter b ≡ true → b < 128
small b h = grind (arith, nat_tests)

ascii : (name : List ℕ) → IsName name → IsAscii name
ascii [] h i = omega arith
ascii (b ∷ name) h zero = small b h.0
ascii (b ∷ name) h (suc i) = ascii name h.1 i

-- no letter is a mark, or can't be read
no_mark : (b : ℕ) → is_letter b ≡ true → ((b == 0x26) || (b == 0x3C) || (b == 0x3E) || (b == 0x22) || is_unfit b) ≡ false
no_mark b h = grind (arith, nat_tests)

letter : (b : ℕ) → is_letter b ≡ true → in_markup Attribute b ≡ b ∷ []
unfolding in_markup encode
letter b h = grind (arith, nat_tests)

letters : (name : List ℕ) → IsName name → flat_map (in_markup Attribute) name ≡ name
letters [] h = refl
letters (b ∷ name) h = ap (λ (front : List ℕ). front ++ flat_map (in_markup Attribute) name) (letter b h.0) ∙ ap (λ (rest : List ℕ). b ∷ rest) (letters name h.1)

pub name_escaped : (name : List ℕ) → IsName name → escaped_value name ≡ name
name_escaped name h = ap (flat_map (in_markup Attribute)) (chars-IsAscii name (ascii name h)) ∙ letters name h
