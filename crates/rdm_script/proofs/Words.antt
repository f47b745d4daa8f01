-- Words of a line, one after the other.
use Rattle.std.proofs.Common.{false, Bool, eqb, leb, ◌≡◌, ℕ, ◌+◌, ◌≤◌, ◌==◌, true, false, List, [], ◌∷◌, ◌++◌, length, take, drop, map, filter, Some, None, refl, sym, ap, ◌∙◌, arith, append_assoc, Bor}
use Rattle.std.proofs.lemmas.List.{map_push, length-map, take-append-le, take_all, append-nil}
use Rattle.std.proofs.lemmas.Bool.{le-leb}
use Rattle.std.proofs.lemmas.Bool.Decides.{nat_tests}
use Rattle.std.proofs.lemmas.List.Elements.{filter-append}
use Rattle.rdm_script.specs.Dialects.{Dialect}
use Rattle.rdm_script.specs.declared.dialect.Spelling.{Spelling}
use Rattle.rdm_script.specs.declared.dialect.Spelling.TheVariants.{Strict, Friendly}
use Rattle.rdm_script.proofs.QuotedPieces.{piece_first, piece_last}
use Rattle.rdm_script.specs.Grammar.{is_word, piece_end, pieces_of, words_of, fault_in, setup_in, command_step_in, step_in, is_find, line_in, first_line_in, line_at}

-- the bytes of borrowed words
abbrev pub bytes_of : List (Bor (List ℕ)) → List (List ℕ)
bytes_of words = map (λ word. word.now) words

-- the first piece of a line, where it is a word, and the words behind it
pub words_more : (spelling : Spelling) (line : List ℕ) (end : ℕ) → piece_end spelling line ≡ Some end → words_of spelling line ≡ filter is_word (take end line ∷ []) ++ words_of spelling (drop (end + 1) line)
words_more spelling line end h = ap (filter is_word) (piece_first spelling line end h) ∙ filter-append is_word (take end line ∷ []) (pieces_of spelling (drop (end + 1) line))

pub words_last : (spelling : Spelling) (line : List ℕ) → piece_end spelling line ≡ None → words_of spelling line ≡ filter is_word (line ∷ [])
words_last spelling line h = ap (filter is_word) (piece_last spelling line h)

pub word_is : (piece : List ℕ) → (length piece == 0) ≡ false → filter is_word (piece ∷ []) ≡ piece ∷ []
word_is piece h = rw h refl

pub no_word : (piece : List ℕ) → (length piece == 0) ≡ true → filter is_word (piece ∷ []) ≡ []
no_word piece h = rw h refl

full : (front xs ys : List (List ℕ)) → 9 ≤ length front → take 9 (front ++ xs) ≡ take 9 (front ++ ys)
full front xs ys h = take-append-le 9 front xs h ∙ sym (take-append-le 9 front ys h)

-- a piece that is kept, and one that isn't
pub kept : (words : List (Bor (List ℕ))) (piece : Bor (List ℕ)) → (length piece.now == 0) ≡ false → (rest : List (List ℕ))
    → take 9 (bytes_of (words ++ piece ∷ []) ++ rest) ≡ take 9 (bytes_of words ++ (filter is_word (piece.now ∷ []) ++ rest))
kept words piece some rest =
    rw (map_push, word_is piece.now some) (ap (take 9) (append_assoc (bytes_of words) (piece.now ∷ []) rest))

pub left_empty : (words : List (Bor (List ℕ))) (piece : List ℕ) → (length piece == 0) ≡ true → (rest : List (List ℕ))
    → take 9 (bytes_of words ++ rest) ≡ take 9 (bytes_of words ++ (filter is_word (piece ∷ []) ++ rest))
left_empty words piece none rest = rw (no_word piece none) refl

pub left_full : (words : List (Bor (List ℕ))) (piece : List ℕ) → 9 ≤ length words → (rest : List (List ℕ))
    → take 9 (bytes_of words ++ rest) ≡ take 9 (bytes_of words ++ (filter is_word (piece ∷ []) ++ rest))
left_full words piece past rest = full (bytes_of words) rest (filter is_word (piece ∷ []) ++ rest) (rw length-map past)

-- the words of a line that were read so far, and those of the rest
pub words_go_on : (spelling : Spelling) (before after : List (Bor (List ℕ))) (line rest more : List ℕ) (end : ℕ) → piece_end spelling rest ≡ Some end → more ≡ drop (end + 1) rest
    → ((xs : List (List ℕ)) → take 9 (bytes_of after ++ xs) ≡ take 9 (bytes_of before ++ (filter is_word (take end rest ∷ []) ++ xs)))
    → take 9 (bytes_of before ++ words_of spelling rest) ≡ take 9 (words_of spelling line) → take 9 (bytes_of after ++ words_of spelling more) ≡ take 9 (words_of spelling line)
words_go_on spelling before after line rest more end h is_more keeps so_far =
    rw is_more (keeps (words_of spelling (drop (end + 1) rest)) ∙ ap (λ (ws : List (List ℕ)). take 9 (bytes_of before ++ ws)) (sym (words_more spelling rest end h)) ∙ so_far)

pub words_end : (spelling : Spelling) (before after : List (Bor (List ℕ))) (line rest : List ℕ) → piece_end spelling rest ≡ None → length after ≤ 9
    → ((xs : List (List ℕ)) → take 9 (bytes_of after ++ xs) ≡ take 9 (bytes_of before ++ (filter is_word (rest ∷ []) ++ xs)))
    → take 9 (bytes_of before ++ words_of spelling rest) ≡ take 9 (words_of spelling line) → bytes_of after ≡ take 9 (words_of spelling line)
words_end spelling before after line rest h small keeps so_far =
    let whole : take 9 (bytes_of after ++ []) ≡ bytes_of after = rw append-nil (take_all 9 (bytes_of after) (rw length-map small)) in
    let last : filter is_word (rest ∷ []) ++ [] ≡ words_of spelling rest = append-nil (filter is_word (rest ∷ [])) ∙ sym (words_last spelling rest h) in
    sym whole ∙ keeps [] ∙ ap (λ (ws : List (List ℕ)). take 9 (bytes_of before ++ ws)) last ∙ so_far

-- ---- nine words tell what the whole line says

-- no fault has more than three words
pub fault_long : (words : List (List ℕ)) → 4 ≤ length words → fault_in words ≡ None
unfolding fault_in
fault_long words long =
    let some : eqb (length words) 0 ≡ false = grind (arith, nat_tests) in
    let many : eqb (length words) 1 ≡ false = grind (arith, nat_tests) in
    let more : eqb (length words) 3 ≡ false = grind (arith, nat_tests) in
    rw (some, many, more) refl

command_front : (dev : Dialect) (a b c d e : List ℕ) (xs ys : List (List ℕ)) → fault_in xs ≡ fault_in ys → command_step_in dev (a ∷ b ∷ c ∷ d ∷ e ∷ xs) ≡ command_step_in dev (a ∷ b ∷ c ∷ d ∷ e ∷ ys)
unfolding command_step_in
command_front dev a b c d e xs ys same =
    let long : leb 5 (length (a ∷ b ∷ c ∷ d ∷ e ∷ xs)) ≡ true = le-leb 5 _ (omega arith) in
    let long' : leb 5 (length (a ∷ b ∷ c ∷ d ∷ e ∷ ys)) ≡ true = le-leb 5 _ (omega arith) in
    rw (long, long', same) refl

step_front : (dev : Dialect) (a b c d e : List ℕ) (xs ys : List (List ℕ)) → 4 ≤ length xs → 4 ≤ length ys → step_in dev (a ∷ b ∷ c ∷ d ∷ e ∷ xs) ≡ step_in dev (a ∷ b ∷ c ∷ d ∷ e ∷ ys)
unfolding step_in
step_front dev a b c d e xs ys long long' =
    let not_one : eqb (length (a ∷ b ∷ c ∷ d ∷ e ∷ xs)) 1 ≡ false = grind (arith, nat_tests) in
    let not_one' : eqb (length (a ∷ b ∷ c ∷ d ∷ e ∷ ys)) 1 ≡ false = grind (arith, nat_tests) in
    let not_two : eqb (length (a ∷ b ∷ c ∷ d ∷ e ∷ xs)) 2 ≡ false = grind (arith, nat_tests) in
    let not_two' : eqb (length (a ∷ b ∷ c ∷ d ∷ e ∷ ys)) 2 ≡ false = grind (arith, nat_tests) in
    rw (not_one, not_one', not_two, not_two', fault_long (b ∷ c ∷ d ∷ e ∷ xs) (omega arith), fault_long (b ∷ c ∷ d ∷ e ∷ ys) (omega arith), command_front dev a b c d e xs ys (fault_long xs long ∙ sym (fault_long ys long'))) refl

setup_long : (words : List (List ℕ)) → 5 ≤ length words → setup_in words ≡ None
unfolding setup_in
setup_long words long = let many : eqb (length words) 4 ≡ false = grind (arith, nat_tests) in rw many refl

find_long : (spelling : Spelling) (words : List (List ℕ)) → 5 ≤ length words → is_find spelling words ≡ false
find_long Strict words long = refl
find_long Friendly words long = let many : eqb (length words) 1 ≡ false = grind (arith, nat_tests) in rw many refl

line_long : (dev : Dialect) (a b c d e : List ℕ) (xs ys : List (List ℕ)) → 4 ≤ length xs → 4 ≤ length ys → line_in dev (a ∷ b ∷ c ∷ d ∷ e ∷ xs) ≡ line_in dev (a ∷ b ∷ c ∷ d ∷ e ∷ ys)
unfolding line_in
line_long dev a b c d e xs ys long long' =
    let some : eqb (length (a ∷ b ∷ c ∷ d ∷ e ∷ xs)) 0 ≡ false = grind (arith, nat_tests) in
    let some' : eqb (length (a ∷ b ∷ c ∷ d ∷ e ∷ ys)) 0 ≡ false = grind (arith, nat_tests) in
    let step = find_long dev.spelling (a ∷ b ∷ c ∷ d ∷ e ∷ xs) (omega arith) in
    let step' = find_long dev.spelling (a ∷ b ∷ c ∷ d ∷ e ∷ ys) (omega arith) in
    rw (some, some', step, step', step_front dev a b c d e xs ys long long') refl

first_long : (dev : Dialect) (a b c d e : List ℕ) (xs ys : List (List ℕ)) → 4 ≤ length xs → 4 ≤ length ys → first_line_in dev (a ∷ b ∷ c ∷ d ∷ e ∷ xs) ≡ first_line_in dev (a ∷ b ∷ c ∷ d ∷ e ∷ ys)
unfolding first_line_in
first_long dev a b c d e xs ys long long' =
    rw (setup_long (a ∷ b ∷ c ∷ d ∷ e ∷ xs) (omega arith), setup_long (a ∷ b ∷ c ∷ d ∷ e ∷ ys) (omega arith), line_long dev a b c d e xs ys long long') refl

at_long : (dev : Dialect) (begun : Bool) (a b c d e : List ℕ) (xs ys : List (List ℕ)) → 4 ≤ length xs → 4 ≤ length ys → line_at dev begun (a ∷ b ∷ c ∷ d ∷ e ∷ xs) ≡ line_at dev begun (a ∷ b ∷ c ∷ d ∷ e ∷ ys)
at_long dev true a b c d e xs ys long long' = line_long dev a b c d e xs ys long long'
at_long dev false a b c d e xs ys long long' = first_long dev a b c d e xs ys long long'

pub line_in_front : (dev : Dialect) (begun : Bool) (words : List (List ℕ)) → line_at dev begun (take 9 words) ≡ line_at dev begun words
line_in_front dev begun [] = refl
line_in_front dev begun (a ∷ []) = refl
line_in_front dev begun (a ∷ b ∷ []) = refl
line_in_front dev begun (a ∷ b ∷ c ∷ []) = refl
line_in_front dev begun (a ∷ b ∷ c ∷ d ∷ []) = refl
line_in_front dev begun (a ∷ b ∷ c ∷ d ∷ e ∷ []) = refl
line_in_front dev begun (a ∷ b ∷ c ∷ d ∷ e ∷ f ∷ []) = refl
line_in_front dev begun (a ∷ b ∷ c ∷ d ∷ e ∷ f ∷ g ∷ []) = refl
line_in_front dev begun (a ∷ b ∷ c ∷ d ∷ e ∷ f ∷ g ∷ h ∷ []) = refl
line_in_front dev begun (a ∷ b ∷ c ∷ d ∷ e ∷ f ∷ g ∷ h ∷ i ∷ more) = at_long dev begun a b c d e (f ∷ g ∷ h ∷ i ∷ []) (f ∷ g ∷ h ∷ i ∷ more) (omega arith) (omega arith)

pub find_two : (spelling : Spelling) (a b : List ℕ) (more : List (List ℕ)) → is_find spelling (a ∷ b ∷ more) ≡ false
find_two Strict a b more = refl
find_two Friendly a b more = let many : eqb (length (a ∷ b ∷ more)) 1 ≡ false = grind (arith, nat_tests) in rw many refl

pub find_front : (spelling : Spelling) (words : List (List ℕ)) → is_find spelling (take 9 words) ≡ is_find spelling words
find_front spelling [] = refl
find_front spelling (a ∷ []) = refl
find_front spelling (a ∷ b ∷ more) = find_two spelling a b (take 7 more) ∙ sym (find_two spelling a b more)
