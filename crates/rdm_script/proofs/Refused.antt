-- At which byte of a line a word begins, and which line of a text is told.
use Rattle.std.proofs.Common.{◌≡◌, ℕ, zero, suc, ◌+◌, ◌-◌, ◌^◌, ◌<◌, ◌≤◌, Bool, true, false, not, cond, ◌&&◌, ◌||◌, ◌==◌, List, [], ◌∷◌, ◌++◌, length, take, drop, filter, slice_get, position, Some, None, ◌⊎◌, inl, inr, refl, sym, ap, subst, ◌∙◌, arith}
use Rattle.std.specs.Str.Lines.{strip_carriage_return as without_return}
use Rattle.std.proofs.lemmas.Bool.Decides.{nat_tests}
use Rattle.std.proofs.lemmas.List.{take_all, length-take-le, length-drop, drop-drop}
use Rattle.std.proofs.lemmas.Option.{slice_get_within}
use Rattle.rdm_script.specs.Dialects.{Dialect}
use Rattle.rdm_script.specs.declared.dialect.Spelling.{Spelling}
use Rattle.rdm_script.specs.declared.grammar.line.Line.{Line}
use Rattle.rdm_script.specs.declared.grammar.line.Line.TheVariants.{Faulty}
use Rattle.rdm_script.specs.Grammar.{is_word, piece_end, words_of, is_skipped, line_in, line_at, said_later, said_by, lines_of, IsFirstFaulty}
use Rattle.rdm_script.specs.WrongWords.{AreLine, CanBegin, BeginsAt, IsFirstWrong, IsRefusedAt, IsRefused, is_begun}
use Rattle.rdm_script.proofs.LineParts.{length_suc}
use Rattle.rdm_script.proofs.Words.{words_more, words_last, word_is, no_word, line_in_front}
use Rattle.rdm_script.proofs.Lines.{lines_of_more, lines_of_last, said_count}
use Rattle.rdm_script.proofs.WrongSteps.{first_of_nine}

-- ---- elements by index

get_first : {A : Type 0} (xs : List A) (i : ℕ) (x : A) (more : List A) → x ∷ more ≡ drop i xs → slice_get xs i ≡ Some x
get_first [] zero x more e = absurd cc
get_first [] (suc i) x more e = absurd cc
get_first (y ∷ xs) zero x more e = let same : y ≡ x = cc in rw same refl
get_first (y ∷ xs) (suc i) x more e = get_first xs i x more e

drop_next : {A : Type 0} (xs : List A) (i : ℕ) (x : A) (more : List A) → x ∷ more ≡ drop i xs → more ≡ drop (i + 1) xs
drop_next xs i x more e = ap (drop 1) e ∙ drop-drop 1 i xs

take_next : (xs : List (List ℕ)) (i : ℕ) (x : List ℕ) (more : List (List ℕ)) → x ∷ more ≡ drop i xs → take (i + 1) xs ≡ take i xs ++ x ∷ []
take_next [] zero x more e = absurd cc
take_next [] (suc i) x more e = absurd cc
take_next (y ∷ xs) zero x more e = let same : y ≡ x = cc in rw same refl
take_next (y ∷ xs) (suc i) x more e =
    let further : suc i + 1 ≡ suc (i + 1) = omega arith in
    rw further (ap (λ (zs : List (List ℕ)). y ∷ zs) (take_next xs i x more e))

-- ---- a word of a line

not_zero : (n : ℕ) → 0 < n → (n == 0) ≡ false
not_zero n h = grind (arith, nat_tests)

-- the rest of a line begins with a word, the one at this index
pub begins_at : (spelling : Spelling) (line rest : List ℕ) (index end : ℕ) → piece_end spelling rest ≡ Some end → 0 < end → end ≤ length rest → length rest ≤ length line → rest ≡ drop (length line - length rest) line
    → words_of spelling rest ≡ drop index (words_of spelling line) → BeginsAt spelling line index (length line - length rest) (take end rest)
begins_at spelling line rest index end h some few within is words =
    let size : length (take end rest) ≡ end = length-take-le end rest few in
    let one : (length (take end rest) == 0) ≡ false = rw size (not_zero end some) in
    let first : words_of spelling rest ≡ take end rest ∷ words_of spelling (drop (end + 1) rest) = words_more spelling rest end h ∙ ap (λ (ws : List (List ℕ)). ws ++ words_of spelling (drop (end + 1) rest)) (word_is (take end rest) one) in
    record {
      at_index = get_first (words_of spelling line) index _ _ (sym first ∙ words);
      behind = ap (words_of spelling) (sym is) ∙ words;
      begins = rw (← is, size) refl;
    }

pub last_at : (spelling : Spelling) (line rest : List ℕ) (index : ℕ) → piece_end spelling rest ≡ None → 0 < length rest → rest ≡ drop (length line - length rest) line
    → words_of spelling rest ≡ drop index (words_of spelling line) → BeginsAt spelling line index (length line - length rest) rest
last_at spelling line rest index h some is words =
    let one : (length rest == 0) ≡ false = not_zero (length rest) some in
    let first : words_of spelling rest ≡ rest ∷ [] = words_last spelling rest h ∙ word_is rest one in
    record {
      at_index = get_first (words_of spelling line) index _ _ (sym first ∙ words);
      behind = ap (words_of spelling) (sym is) ∙ words;
      begins = rw (← is) (take_all (length rest) rest (omega arith));
    }

-- behind a word, and behind a piece that is none
pub words_behind : (spelling : Spelling) (line rest : List ℕ) (index end : ℕ) → piece_end spelling rest ≡ Some end → 0 < end → end ≤ length rest
    → words_of spelling rest ≡ drop index (words_of spelling line) → words_of spelling (drop (end + 1) rest) ≡ drop (index + 1) (words_of spelling line)
words_behind spelling line rest index end h some few words =
    let size : length (take end rest) ≡ end = length-take-le end rest few in
    let one : (length (take end rest) == 0) ≡ false = rw size (not_zero end some) in
    let first : words_of spelling rest ≡ take end rest ∷ words_of spelling (drop (end + 1) rest) = words_more spelling rest end h ∙ ap (λ (ws : List (List ℕ)). ws ++ words_of spelling (drop (end + 1) rest)) (word_is (take end rest) one) in
    drop_next (words_of spelling line) index (take end rest) _ (sym first ∙ words)

pub words_stay : (spelling : Spelling) (line rest : List ℕ) (index end : ℕ) → piece_end spelling rest ≡ Some end → end ≡ 0
    → words_of spelling rest ≡ drop index (words_of spelling line) → words_of spelling (drop (end + 1) rest) ≡ drop index (words_of spelling line)
words_stay spelling line rest index end h none words =
    let empty : (length (take end rest) == 0) ≡ true = rw none refl in
    sym (words_more spelling rest end h ∙ ap (λ (ws : List (List ℕ)). ws ++ words_of spelling (drop (end + 1) rest)) (no_word (take end rest) empty)) ∙ words

pub rest_behind : (line rest : List ℕ) (end : ℕ) → end < length rest → length rest ≤ length line → rest ≡ drop (length line - length rest) line
    → drop (end + 1) rest ≡ drop (length line - length (drop (end + 1) rest)) line
rest_behind line rest end lt within is =
    let at : length line - length rest + (end + 1) ≡ length line - length (drop (end + 1) rest) = omega (arith, lt, within, length-drop (end + 1) rest) in
    ap (drop (end + 1)) is ∙ drop-drop (end + 1) (length line - length rest) line ∙ ap (λ (n : ℕ). drop n line) at

-- no word is left
pub no_more : (spelling : Spelling) (line rest : List ℕ) (index : ℕ) → piece_end spelling rest ≡ None → length rest ≡ 0
    → words_of spelling rest ≡ drop index (words_of spelling line) → length (words_of spelling line) ≤ index
no_more spelling line rest index h none words =
    let empty : words_of spelling rest ≡ [] = words_last spelling rest h ∙ no_word rest (rw none refl) in
    let size : length (words_of spelling line) - index ≡ 0 = sym (length-drop index (words_of spelling line)) ∙ ap length (sym words ∙ empty) in
    omega (arith, size)

few_if : (b : Bool) (rest : List ℕ) → length (cond b (rest ∷ []) []) ≤ 1
few_if true rest = omega arith
few_if false rest = omega arith

few_words : (rest : List ℕ) → length (filter is_word (rest ∷ [])) ≤ 1
few_words rest = few_if (is_word rest) rest

pub one_more : (spelling : Spelling) (line rest : List ℕ) (index : ℕ) → piece_end spelling rest ≡ None
    → words_of spelling rest ≡ drop index (words_of spelling line) → length (words_of spelling line) ≤ index + 1
one_more spelling line rest index h words =
    let size : length (words_of spelling line) - index ≡ length (filter is_word (rest ∷ [])) = sym (length-drop index (words_of spelling line)) ∙ ap length (sym words ∙ words_last spelling rest h) in
    omega (arith, size, few_words rest)

-- ---- a line of a text

not_and : (a b : Bool) → not (a && b) ≡ (not a || not b)
not_and true b = refl
not_and false b = refl

begun_by : (d : Dialect) (line : List ℕ) (lines : List (List ℕ)) → is_begun d (line ∷ lines) ≡ (not (is_skipped (words_of d.spelling line)) || is_begun d lines)
begun_by d line lines = not_and (is_skipped (words_of d.spelling line)) _

begun_one : (b : Bool) → not (b && true) ≡ not b
begun_one true = refl
begun_one false = refl

or_assoc : (a b c : Bool) → (a || (b || c)) ≡ ((a || b) || c)
or_assoc true b c = refl
or_assoc false b c = refl

-- one line more
pub begun_next : (d : Dialect) (lines : List (List ℕ)) (line : List ℕ) → is_begun d (lines ++ line ∷ []) ≡ (is_begun d lines || not (is_skipped (words_of d.spelling line)))
begun_next d [] line = begun_one (is_skipped (words_of d.spelling line))
begun_next d (first ∷ lines) line =
    begun_by d first (lines ++ line ∷ []) ∙ ap (λ (b : Bool). not (is_skipped (words_of d.spelling first)) || b) (begun_next d lines line) ∙ or_assoc _ (is_begun d lines) _ ∙ ap (λ (b : Bool). b || not (is_skipped (words_of d.spelling line))) (sym (begun_by d first lines))

-- what a line says in its text
later_at : (d : Dialect) (lines : List (List ℕ)) (i : ℕ) (line : List ℕ) → slice_get lines i ≡ Some line → slice_get (said_later d lines) i ≡ Some (line_in d (words_of d.spelling line))
later_at d [] i line h = absurd cc
later_at d (first ∷ lines) zero line h = let same : first ≡ line = cc in rw same refl
later_at d (first ∷ lines) (suc i) line h = later_at d lines i line h

said_if : (d : Dialect) (b : Bool) (lines : List (List ℕ)) (i : ℕ) (line : List ℕ) → slice_get lines i ≡ Some line
    → slice_get (said_by d lines) i ≡ Some (line_at d (is_begun d (take i lines)) (words_of d.spelling line))
    → slice_get (cond b (said_by d lines) (said_later d lines)) i ≡ Some (line_at d (not b || is_begun d (take i lines)) (words_of d.spelling line))
said_if d true lines i line at h = h
said_if d false lines i line at h = later_at d lines i line at

pub said_at : (d : Dialect) (lines : List (List ℕ)) (i : ℕ) (line : List ℕ) → slice_get lines i ≡ Some line → slice_get (said_by d lines) i ≡ Some (line_at d (is_begun d (take i lines)) (words_of d.spelling line))
said_at d [] i line h = absurd cc
said_at d (first ∷ lines) zero line h = let same : first ≡ line = cc in rw same refl
said_at d (first ∷ lines) (suc i) line h =
    said_if d (is_skipped (words_of d.spelling first)) lines i line h (said_at d lines i line h) ∙ ap (λ (b : Bool). Some (line_at d b (words_of d.spelling line))) (sym (begun_by d first (take i lines)))

same_line : (a b : Line) → Some a ≡ Some b → a ≡ b
same_line a b e = cc

-- the line that is told
pub told_at : (d : Dialect) (text : List ℕ) (number i column : ℕ) (begun : Bool) (line : List ℕ) (more : List (List ℕ)) (shown : List ℕ) → IsFirstFaulty (said_by d (lines_of text)) number → i ≡ number - 1 → line ∷ more ≡ drop i (lines_of text)
    → begun ≡ is_begun d (take i (lines_of text)) → (line_at d begun (words_of d.spelling line) ≡ Faulty → IsRefusedAt d begun line column shown) → IsRefused d text number column shown
told_at d text number i column begun line more shown first at rest is told =
    let here : slice_get (lines_of text) i ≡ Some line = get_first (lines_of text) i line more rest in
    let said : Some (line_at d (is_begun d (take i (lines_of text))) (words_of d.spelling line)) ≡ Some Faulty = sym (said_at d (lines_of text) i line here) ∙ rw at first.faulty in
    let faulty : line_at d begun (words_of d.spelling line) ≡ Faulty = rw is (same_line _ _ said) in
    (line, rw (← at) here, rw (← at, ← is) (told faulty))

-- nine words tell whether a line is skipped
pub skipped_of_nine : (words : List (List ℕ)) → is_skipped (take 9 words) ≡ is_skipped words
skipped_of_nine [] = refl
skipped_of_nine (name ∷ words) = rw (length_suc name words, length_suc name (take 8 words)) refl

-- the line at hand, where it is the one of this number
pub told_first : (d : Dialect) (text rest : List ℕ) (number left column end : ℕ) (begun : Bool) (line shown : List ℕ) → position (λ b. b == 10) rest ≡ Some end → line ≡ without_return (take end rest) → left ≤ 1 → (1 ≤ number → 1 ≤ left)
    → lines_of rest ≡ drop (number - left) (lines_of text) → begun ≡ is_begun d (take (number - left) (lines_of text)) → (line_at d begun (words_of d.spelling line) ≡ Faulty → IsRefusedAt d begun line column shown)
    → IsFirstFaulty (said_by d (lines_of text)) number → IsRefused d text number column shown
told_first d text rest number left column end begun line shown h is_line few some so_far is told first =
    let one : 1 ≤ left = some first.counted in
    let at : number - left ≡ number - 1 = omega (arith, one, few) in
    let parts : line ∷ lines_of (drop (end + 1) rest) ≡ drop (number - left) (lines_of text) = rw is_line (sym (lines_of_more rest end h) ∙ so_far) in
    told_at d text number (number - left) column begun line (lines_of (drop (end + 1) rest)) shown first at parts is told

pub told_last : (d : Dialect) (text rest : List ℕ) (number left column : ℕ) (begun : Bool) (shown : List ℕ) → position (λ b. b == 10) rest ≡ None → left ≤ number → (1 ≤ number → 1 ≤ left)
    → lines_of rest ≡ drop (number - left) (lines_of text) → begun ≡ is_begun d (take (number - left) (lines_of text)) → (line_at d begun (words_of d.spelling rest) ≡ Faulty → IsRefusedAt d begun rest column shown)
    → IsFirstFaulty (said_by d (lines_of text)) number → IsRefused d text number column shown
told_last d text rest number left column begun shown h within some so_far is told first =
    let one : 1 ≤ left = some first.counted in
    let parts : rest ∷ [] ≡ drop (number - left) (lines_of text) = sym (lines_of_last rest h) ∙ so_far in
    let size : 1 ≡ length (lines_of text) - (number - left) = ap length parts ∙ length-drop (number - left) (lines_of text) in
    let lt : number - 1 < length (lines_of text) = rw (← said_count d text) (slice_get_within (said_by d (lines_of text)) (number - 1) Faulty first.faulty) in
    let at : number - left ≡ number - 1 = omega (arith, one, within, size, lt, first.counted) in
    told_at d text number (number - left) column begun rest [] shown first at parts is told

-- a line further
pub next_line : (d : Dialect) (text rest : List ℕ) (i end : ℕ) (begun : Bool) (line after : List ℕ) → position (λ b. b == 10) rest ≡ Some end → line ≡ without_return (take end rest) → after ≡ drop (end + 1) rest
    → lines_of rest ≡ drop i (lines_of text) → begun ≡ is_begun d (take i (lines_of text))
    → (lines_of after ≡ drop (i + 1) (lines_of text)) × ((begun || not (is_skipped (words_of d.spelling line))) ≡ is_begun d (take (i + 1) (lines_of text)))
next_line d text rest i end begun line after h is_line is_after so_far is =
    let parts : line ∷ lines_of after ≡ drop i (lines_of text) = rw (is_line, is_after) (sym (lines_of_more rest end h) ∙ so_far) in
    (drop_next (lines_of text) i line (lines_of after) parts, rw (take_next (lines_of text) i line (lines_of after) parts, is) (sym (begun_next d (take i (lines_of text)) line)))

-- ---- what is told of a line

-- the first wrong word is missing, where there aren't as many
missing : (P : List (List ℕ) → Type 0) (words : List (List ℕ)) (i : ℕ) → length words ≤ i → IsFirstWrong P words i → i ≡ length words
missing P words i few h =
    let same : take i words ≡ take (i + 1) words = take_all i words few ∙ sym (take_all (i + 1) words (omega (arith, few))) in
    elim h.wrong [
      | inl e ↦ e
      | inr never ↦ absurd (never (subst (λ (ws : List (List ℕ)). CanBegin P ws) same h.front))
    ]

-- nine words of a line are enough to tell
pub told_word : (d : Dialect) (begun : Bool) (line : List ℕ) (nine : List (List ℕ)) (i : ℕ) → nine ≡ take 9 (words_of d.spelling line) → (line_at d begun nine ≡ Faulty → IsFirstWrong (AreLine d begun) nine i) → i < 9
    → line_at d begun (words_of d.spelling line) ≡ Faulty → IsFirstWrong (AreLine d begun) (words_of d.spelling line) i
told_word d begun line nine i is told few faulty =
    let words = words_of d.spelling line in
    first_of_nine (AreLine d begun) words i few (subst (λ (ws : List (List ℕ)). IsFirstWrong (AreLine d begun) ws i) is (told (ap (line_at d begun) is ∙ line_in_front d begun words ∙ faulty)))

pub told_some : (d : Dialect) (begun : Bool) (line : List ℕ) (i at column : ℕ) (word shown : List ℕ) → IsFirstWrong (AreLine d begun) (words_of d.spelling line) i → BeginsAt d.spelling line i at word → at ≤ length line → length line < 2 ^ 63
    → (at < 2 ^ 63 → column ≡ at + 1) → shown ≡ take 40 word → IsRefusedAt d begun line column shown
told_some d begun line i at column word shown first begins within few is_column is_shown = (i, first, inl (at, word, begins, is_column (omega (arith, within, few)), is_shown))

pub told_none : (d : Dialect) (begun : Bool) (line : List ℕ) (i column : ℕ) (shown : List ℕ) → IsFirstWrong (AreLine d begun) (words_of d.spelling line) i → length (words_of d.spelling line) ≤ i → length line < 2 ^ 63
    → (length line < 2 ^ 63 → column ≡ length line + 1) → shown ≡ [] → IsRefusedAt d begun line column shown
told_none d begun line i column shown first past few is_column is_shown = (i, first, inr (missing (AreLine d begun) (words_of d.spelling line) i past first, is_column few, is_shown))

-- the loop over the pieces of a line, at a piece that is a word, and at one that is none
pub record IsLeft (spelling : Spelling) (line : List ℕ) (index left : ℕ) (rest : List ℕ) : Type 0 where
  pub fits : length rest ≤ length line
  pub passed : left ≤ index
  pub place : rest ≡ drop (length line - length rest) line
  pub behind : words_of spelling rest ≡ drop (index - left) (words_of spelling line)

pub passes_word : (spelling : Spelling) (line rest : List ℕ) (index left end : ℕ) → piece_end spelling rest ≡ Some end → end < length rest → 0 < end → 0 < left → IsLeft spelling line index left rest → IsLeft spelling line index (left - 1) (drop (end + 1) rest)
passes_word spelling line rest index left end h lt some more here =
    let at : index - left + 1 ≡ index - (left - 1) = omega (arith, more, here.passed) in
    record {
      fits = omega (arith, length-drop (end + 1) rest, here.fits);
      passed = omega (arith, here.passed);
      place = rest_behind line rest end lt here.fits here.place;
      behind = words_behind spelling line rest (index - left) end h some (omega (arith, lt)) here.behind ∙ ap (λ (n : ℕ). drop n (words_of spelling line)) at;
    }

pub passes_none : (spelling : Spelling) (line rest : List ℕ) (index left end : ℕ) → piece_end spelling rest ≡ Some end → end < length rest → end ≡ 0 → IsLeft spelling line index left rest → IsLeft spelling line index left (drop (end + 1) rest)
passes_none spelling line rest index left end h lt none here =
    record {
      fits = omega (arith, length-drop (end + 1) rest, here.fits);
      passed = here.passed;
      place = rest_behind line rest end lt here.fits here.place;
      behind = words_stay spelling line rest (index - left) end h none here.behind;
    }

index_at : (index left : ℕ) → left ≡ 0 → index - left ≡ index
index_at index left none = omega (arith, none)

pub found_word : (spelling : Spelling) (line rest : List ℕ) (index left end : ℕ) → piece_end spelling rest ≡ Some end → end < length rest → 0 < end → left ≡ 0 → IsLeft spelling line index left rest → BeginsAt spelling line index (length line - length rest) (take end rest)
found_word spelling line rest index left end h lt some none here =
    begins_at spelling line rest index end h some (omega (arith, lt)) here.fits here.place (here.behind ∙ ap (λ (n : ℕ). drop n (words_of spelling line)) (index_at index left none))

pub found_last : (spelling : Spelling) (line rest : List ℕ) (index left : ℕ) → piece_end spelling rest ≡ None → 0 < length rest → left ≡ 0 → IsLeft spelling line index left rest → BeginsAt spelling line index (length line - length rest) rest
found_last spelling line rest index left h some none here =
    last_at spelling line rest index h some here.place (here.behind ∙ ap (λ (n : ℕ). drop n (words_of spelling line)) (index_at index left none))

pub none_found : (spelling : Spelling) (line rest : List ℕ) (index left : ℕ) → piece_end spelling rest ≡ None → (length rest ≡ 0) ⊎ (0 < left) → IsLeft spelling line index left rest → length (words_of spelling line) ≤ index
none_found spelling line rest index left h (inl none) here = let few = no_more spelling line rest (index - left) h none here.behind in omega (arith, few)
none_found spelling line rest index left h (inr more) here = let few = one_more spelling line rest (index - left) h here.behind in omega (arith, few, more, here.passed)
