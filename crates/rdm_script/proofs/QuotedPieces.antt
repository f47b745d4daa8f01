-- The pieces of a line, one after the other, where blanks in double quotes end none.
use Rattle.std.proofs.Common.{◌≡◌, ℕ, zero, suc, ◌+◌, ◌<◌, ◌≤◌, Bool, List, [], ◌∷◌, length, take, drop, position, Option, Some, None, refl, sym, ap, subst, ◌∙◌, arith}
use Rattle.std.specs.List.{position_or_len}
use Rattle.std.specs.Option.{option_map, option_map_or}
use Rattle.std.proofs.lemmas.Bool.{ltb-true}
use Rattle.std.proofs.lemmas.Option.{cond_some, same_Some}
use Rattle.std.proofs.lemmas.List.{length-drop}
use Rattle.rdm_script.specs.declared.dialect.Spelling.{Spelling}
use Rattle.rdm_script.specs.declared.dialect.Spelling.TheVariants.{Strict, Friendly}
use Rattle.rdm_script.specs.Grammar.{is_blank, quoted_front, piece_end, pieces_within, pieces_of}
use Rattle.rdm_script.proofs.Pieces.{pieces_more, pieces_last}

-- a byte that is found is within the line
found : (ends : ℕ → Bool) (line : List ℕ) (at : ℕ) → position ends line ≡ Some at → at < length line
found ends line at h =
    let g = cond_some _ (position_or_len ends line) at h in
    subst (λ (n : ℕ). n < length line) g.1 (ltb-true _ _ g.0)

mapped : (k : ℕ) (o : Option ℕ) (end : ℕ) → option_map (λ n. k + n) o ≡ Some end → (n : ℕ) × (o ≡ Some n) × (k + n ≡ end)
mapped k None end h = absurd cc
mapped k (Some n) end h = (n, refl, same_Some (k + n) end h)

-- a blank ends the first piece within the line
end_within : (line : List ℕ) (end : ℕ) → piece_end Friendly line ≡ Some end → end < length line
unfolding piece_end
end_within line end h =
    let p = mapped (quoted_front line) (position is_blank (drop (quoted_front line) line)) end h in
    let lt = found is_blank (drop (quoted_front line) line) p.0 p.1 in
    omega (arith, lt, length-drop (quoted_front line) line, p.2)

nothing : (line : List ℕ) (o : Option ℕ) → piece_end Friendly line ≡ o → length line ≡ 0 → o ≡ None
nothing line None e h = refl
nothing line (Some end) e h = absurd (let lt = end_within line end e in omega (arith, lt, h))

-- the pieces behind the first
abbrev behind : ℕ → List ℕ → Option ℕ → List (List ℕ)
behind n line o = option_map_or (λ end. take end line ∷ pieces_within n (drop (end + 1) line)) o (line ∷ [])

behind_same : (n m : ℕ) (line : List ℕ) (o : Option ℕ) → ((end : ℕ) → o ≡ Some end → pieces_within n (drop (end + 1) line) ≡ pieces_within m (drop (end + 1) line)) → behind n line o ≡ behind m line o
behind_same n m line None same = refl
behind_same n m line (Some end) same = ap (λ (more : List (List ℕ)). take end line ∷ more) (same end refl)

-- what is left behind the first piece is shorter
shorter : (n : ℕ) (line : List ℕ) (end : ℕ) → length line ≤ suc n → piece_end Friendly line ≡ Some end → length (drop (end + 1) line) ≤ n
shorter n line end h e =
    let lt = end_within line end e in
    omega (arith, lt, length-drop (end + 1) line, h)

-- a line has no more pieces than it has bytes, and one
enough : (n m : ℕ) (line : List ℕ) → length line ≤ n → length line ≤ m → pieces_within n line ≡ pieces_within m line
enough zero zero line h k = refl
enough zero (suc m) line h k = sym (ap (behind m line) (nothing line (piece_end Friendly line) refl (omega (arith, h))))
enough (suc n) zero line h k = ap (behind n line) (nothing line (piece_end Friendly line) refl (omega (arith, k)))
enough (suc n) (suc m) line h k = behind_same n m line (piece_end Friendly line) (λ end e. enough n m (drop (end + 1) line) (shorter n line end h e) (shorter m line end k e))

within_first : (n : ℕ) (line : List ℕ) (end : ℕ) → length line ≤ n → piece_end Friendly line ≡ Some end → pieces_within n line ≡ take end line ∷ pieces_within (length (drop (end + 1) line)) (drop (end + 1) line)
within_first zero line end h e = absurd (let lt = end_within line end e in omega (arith, lt, h))
within_first (suc n) line end h e =
    ap (behind n line) e ∙ ap (λ (more : List (List ℕ)). take end line ∷ more) (enough n (length (drop (end + 1) line)) (drop (end + 1) line) (shorter n line end h e) (omega arith))

within_last : (n : ℕ) (line : List ℕ) → piece_end Friendly line ≡ None → pieces_within n line ≡ line ∷ []
within_last zero line e = refl
within_last (suc n) line e = ap (behind n line) e

-- the first piece of a line that a blank ends, and the pieces behind it
pub piece_first : (spelling : Spelling) (line : List ℕ) (end : ℕ) → piece_end spelling line ≡ Some end → pieces_of spelling line ≡ take end line ∷ pieces_of spelling (drop (end + 1) line)
unfolding piece_end pieces_of
piece_first Strict line end h = pieces_more is_blank line end h
piece_first Friendly line end h = within_first (length line) line end (omega arith) h

-- a line of one piece
pub piece_last : (spelling : Spelling) (line : List ℕ) → piece_end spelling line ≡ None → pieces_of spelling line ≡ line ∷ []
unfolding piece_end pieces_of
piece_last Strict line h = pieces_last is_blank line h
piece_last Friendly line h = within_last (length line) line h
