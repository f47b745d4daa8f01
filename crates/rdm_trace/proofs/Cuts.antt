-- A line is cut at its first space.
use Rattle.std.proofs.Common.{◌≡◌, ℕ, suc, ◌+◌, ◌<◌, ◌≤◌, ◌==◌, Bool, true, false, not, ◌&&◌, cond, eqb, List, [], ◌∷◌, ◌++◌, length, take, drop, position, Some, None, refl, sym, ap, ◌∙◌, arith}
use Rattle.std.specs.List.{position_or_len, before_first, after_first}
use Rattle.std.proofs.Math.Seq.{drop-append-add}
use Rattle.std.proofs.lemmas.List.{take_at, take_all, drop_all}
use Rattle.std.proofs.lemmas.List.Sums.{prefix_len-le-length}
use Rattle.std.proofs.lemmas.Bool.{ltb-true, ltb-false}
use Rattle.std.proofs.lemmas.Option.{cond_some}
use Rattle.rdm_trace.specs.Reading.{first_word, behind_word}

abbrev pub is_space : ℕ → Bool
is_space b = b == 32

-- no byte of the word is a space
abbrev pub no_space : List ℕ → Bool
no_space [] = true
no_space (b ∷ bs) = not (b == 32) && no_space bs

pub both : (x y : Bool) → (x && y) ≡ true → (x ≡ true) × (y ≡ true)
both true y h = (refl, h)
both false y h = absurd cc

at_space : (word rest : List ℕ) → no_space word ≡ true → position_or_len is_space (word ++ 32 ∷ rest) ≡ length word
at_space [] rest h = refl
at_space (b ∷ bs) rest h =
    let parts = both (not (b == 32)) (no_space bs) h in
    rw parts.0 (omega (arith, at_space bs rest parts.1))

at_end : (word : List ℕ) → no_space word ≡ true → position_or_len is_space word ≡ length word
at_end [] h = refl
at_end (b ∷ bs) h =
    let parts = both (not (b == 32)) (no_space bs) h in
    rw parts.0 (omega (arith, at_end bs parts.1))

-- a word, a space, and what stands behind it
pub first_is : (word rest : List ℕ) → no_space word ≡ true → first_word (word ++ 32 ∷ rest) ≡ word
unfolding first_word
first_is word rest h = rw (at_space word rest h) (take_at word (32 ∷ rest) (length word) refl)

pub behind_is : (word rest : List ℕ) → no_space word ≡ true → behind_word (word ++ 32 ∷ rest) ≡ rest
unfolding behind_word
behind_is word rest h = rw (at_space word rest h) (drop-append-add word (32 ∷ rest) 1)

-- a word alone
pub first_alone : (word : List ℕ) → no_space word ≡ true → first_word word ≡ word
unfolding first_word
first_alone word h = rw (at_end word h) (take_all (length word) word (omega arith))

pub behind_alone : (word : List ℕ) → no_space word ≡ true → behind_word word ≡ []
unfolding behind_word
behind_alone word h = rw (at_end word h) (drop_all (length word + 1) word (omega arith))

-- ---- where the code finds the space

no_position : (b : Bool) (n : ℕ) → cond b (Some n) None ≡ None → b ≡ false
no_position true n h = absurd cc
no_position false n h = refl

found : (line : List ℕ) (end : ℕ) → position is_space line ≡ Some end → position_or_len is_space line ≡ end
found line end h = (cond_some _ (position_or_len is_space line) end h).1

past : (line : List ℕ) → position is_space line ≡ None → length line ≤ position_or_len is_space line
past line h = ltb-false _ _ (no_position _ (position_or_len is_space line) h)

pub word_found : (line : List ℕ) (end : ℕ) → position is_space line ≡ Some end → take end line ≡ first_word line
unfolding first_word
word_found line end h = rw (found line end h) refl

pub behind_found : (line : List ℕ) (end : ℕ) → position is_space line ≡ Some end → drop (end + 1) line ≡ behind_word line
unfolding behind_word
behind_found line end h = rw (found line end h) refl

pub word_whole : (line : List ℕ) → position is_space line ≡ None → line ≡ first_word line
unfolding first_word
word_whole line h = sym (take_all (position_or_len is_space line) line (past line h))

pub behind_nothing : (line : List ℕ) → position is_space line ≡ None → [] ≡ behind_word line
unfolding behind_word
behind_nothing line h = sym (drop_all (position_or_len is_space line + 1) line (omega (arith, past line h)))
