-- The front of a name that so many bytes have room for.
use Rattle.std.proofs.Common.{◌≡◌, ℕ, ◌+◌, ◌-◌, ◌<◌, ◌≤◌, Bool, true, false, nat_le, List, [], ◌∷◌, ◌++◌, length, map, chars, encode_utf8, IsUtf8, refl, sym, ap, ◌∙◌, append_assoc, append-nil, arith}
use Rattle.std.proofs.lemmas.Bool.{le-leb, leb-true}
use Rattle.std.proofs.lemmas.List.{length-append, nil_from_length}
use Rattle.std.proofs.lemmas.Str.{chars_past_char, chars-nil}
use Rattle.rdm_fixture_keys.specs.Faults.{shown_character, kept}

abbrev pub shown_characters : List ℕ → List ℕ
shown_characters text = map shown_character (chars text)

pub shown_none : (text : List ℕ) → length text ≡ 0 → shown_characters text ≡ []
shown_none text none = ap shown_characters (nil_from_length text none) ∙ ap (map shown_character) chars-nil

pub shown_step : (text rest : List ℕ) (c : ℕ) → IsUtf8 text → text ≡ encode_utf8 c ++ rest
    → shown_characters text ≡ shown_character c ∷ shown_characters rest
shown_step text rest c utf8 parts = ap (map shown_character) (chars_past_char text rest c utf8 parts)

kept_fits : (room : ℕ) (s : ℕ) (cs : List ℕ) → length (encode_utf8 s) ≤ room
    → kept room (s ∷ cs) ≡ encode_utf8 s ++ kept (room - length (encode_utf8 s)) cs
kept_fits room s cs fits = rw (le-leb _ _ fits) refl

not_fits : (a b : ℕ) (t : Bool) → nat_le a b ≡ t → b < a → t ≡ false
not_fits a b false e less = refl
not_fits a b true e less = let fits : a ≤ b = leb-true a b e in absurd (omega (arith, fits, less))

kept_stops : (room : ℕ) (s : ℕ) (cs : List ℕ) → room < length (encode_utf8 s) → kept room (s ∷ cs) ≡ []
kept_stops room s cs less = rw (not_fits (length (encode_utf8 s)) room _ refl less) refl

pub front_step : (name all : List ℕ) (room s : ℕ) (cs : List ℕ) → length name + length (encode_utf8 s) ≤ room
    → name ++ kept (room - length name) (s ∷ cs) ≡ all
    → (name ++ encode_utf8 s) ++ kept (room - length (name ++ encode_utf8 s)) cs ≡ all
front_step name all room s cs fits e =
    let less : room - length name - length (encode_utf8 s) ≡ room - (length name + length (encode_utf8 s)) = omega arith in
    append_assoc name (encode_utf8 s) _
    ∙ ap (λ n. name ++ (encode_utf8 s ++ kept n cs)) (ap (λ n. room - n) (length-append name (encode_utf8 s)) ∙ sym less)
    ∙ ap (λ t. name ++ t) (sym (kept_fits (room - length name) s cs (omega (arith, fits)))) ∙ e

pub front_stops : (name all : List ℕ) (room s : ℕ) (cs : List ℕ) → length name ≤ room → room < length name + length (encode_utf8 s)
    → name ++ kept (room - length name) (s ∷ cs) ≡ all → name ≡ all
front_stops name all room s cs fits less e =
    sym (append-nil name) ∙ ap (λ t. name ++ t) (sym (kept_stops (room - length name) s cs (omega (arith, fits, less)))) ∙ e
