-- A text in markup, character by character.
use Rattle.std.proofs.Common.{◌≡◌, ℕ, List, [], ◌++◌, length, flat_map, chars, encode_utf8, IsUtf8, ap, ◌∙◌}
use Rattle.std.proofs.lemmas.Str.{chars_past_char, chars-nil}
use Rattle.std.proofs.lemmas.List.{nil_from_length}
use Rattle.rdm_markup.specs.declared.escaping.Place.{Place}
use Rattle.rdm_markup.specs.Markup.{in_markup}

pub escaped_empty : (p : Place) (text : List ℕ) → length text ≡ 0 → flat_map (in_markup p) (chars text) ≡ []
escaped_empty p text none = ap (λ t. flat_map (in_markup p) (chars t)) (nil_from_length text none) ∙ ap (flat_map (in_markup p)) chars-nil

pub escaped_step : (p : Place) (text rest : List ℕ) (c : ℕ) → IsUtf8 text → text ≡ encode_utf8 c ++ rest
    → flat_map (in_markup p) (chars text) ≡ in_markup p c ++ flat_map (in_markup p) (chars rest)
escaped_step p text rest c utf8 parts = ap (flat_map (in_markup p)) (chars_past_char text rest c utf8 parts)
