-- The pieces that have a byte are the words.
use Rattle.std.proofs.Common.{◌≡◌, ℕ, Bool, true, false, cond, List, [], ◌∷◌, ◌++◌, map, filter, flat_map, Bor, refl, ap, ◌∙◌}
use Rattle.std.specs.List.{slice_split}
use Rattle.rdm_expect.specs.Lines.{capitals, is_blank, is_word, kept_word, words_of}

one_more : (is : Bool) (piece : Bor (List ℕ)) (later : List (Bor (List ℕ))) (words : List (List ℕ)) → map (λ word. word.now) later ≡ words → map (λ word. word.now) (cond is (piece ∷ []) [] ++ later) ≡ cond is (piece.now ∷ words) words
one_more true piece later words e = ap (λ (ws : List (List ℕ)). piece.now ∷ ws) e
one_more false piece later words e = e

pub are_words : (pieces : List (Bor (List ℕ))) → map (λ word. word.now) (flat_map kept_word pieces) ≡ filter is_word (map (λ piece. piece.now) pieces)
unfolding kept_word
are_words [] = refl
are_words (piece ∷ pieces) = one_more (is_word piece.now) piece (flat_map kept_word pieces) (filter is_word (map (λ other. other.now) pieces)) (are_words pieces)

pub words_are : (text line : List ℕ) (words pieces : List (Bor (List ℕ))) → words ≡ flat_map kept_word pieces → map (λ piece. piece.now) pieces ≡ slice_split is_blank text → text ≡ capitals line → map (λ word. word.now) words ≡ words_of line
unfolding words_of
words_are text line words pieces e split is =
    ap (λ (ws : List (Bor (List ℕ))). map (λ word. word.now) ws) e ∙ are_words pieces ∙ ap (filter is_word) split ∙ ap (λ (t : List ℕ). filter is_word (slice_split is_blank t)) is
