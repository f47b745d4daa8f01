-- The words of data are read back as these data.
use Rattle.std.proofs.Common.{◌≡◌, ℕ, ◌+◌, ◌-◌, ◌≤◌, Bool, true, false, cond, ltb, List, [], ◌∷◌, ◌++◌, length, take, drop, Option, Some, None, refl, sym, ap, subst, ◌∙◌, arith}
use Rattle.std.specs.Prelude.{Result, Ok, Err}
use Rattle.std.proofs.lemmas.Bool.Decides.{nat_tests}
use Rattle.std.proofs.lemmas.List.{append_assoc, length-append, take-append-drop}
use Rattle.std.proofs.lemmas.Slice.Eq.{bytes_eq-Decides}
use Rattle.rdm_entry.specs.declared.field.Field.{Field}
use Rattle.rdm_entry.specs.declared.error.EntryError.{EntryError}
use Rattle.rdm_entry.specs.declared.error.Wrong.{Wrong}
use Rattle.rdm_entry.specs.Entries.{behind, with_word, entered, data_in}
use Rattle.rdm_entry.specs.Plain.{says, behind_words, word_of, words_of}
use Rattle.rdm_entry.specs.Slots.{most_of}
use Rattle.rdm_entry.specs.Words.{said}

-- one word more behind those that there are
grown : (words : List (List ℕ)) (word : List ℕ) (others : Option (List (List ℕ)))
    → behind_words (words ++ (word ∷ [])) others ≡ behind_words words (behind_words (word ∷ []) others)
grown words word None = refl
grown words word (Some more) = ap Some (append_assoc words (word ∷ []) more)

-- The words of a field and of those behind it, where there is a word of the field.
first : (b : Bool) (words : List (List ℕ)) (word : List ℕ) (others : Option (List (List ℕ))) → b ≡ true
    → behind_words (words ++ (word ∷ [])) others ≡ behind_words words (cond b (behind_words (word ∷ []) others) None)
first false words word others e = absurd cc
first true words word others e = grown words word others

pub next : (words : List (List ℕ)) (field : Field) (fs : List Field) (slots : List ℕ)
    → says (said field (word_of field (take (most_of field) slots))) (take (most_of field) slots) ≡ true
    → behind_words (words ++ (word_of field (take (most_of field) slots) ∷ [])) (words_of fs (drop (most_of field) slots))
    ≡ behind_words words (words_of (field ∷ fs) slots)
next words field fs slots e =
    first (says (said field (word_of field (take (most_of field) slots))) (take (most_of field) slots)) words (word_of field (take (most_of field) slots))
    (words_of fs (drop (most_of field) slots)) e

-- what says exactly these slots
says_these : (r : Result (List ℕ) Wrong) (slots : List ℕ) → says r slots ≡ true → r ≡ Ok slots
says_these (Ok own) slots e = ap Ok ((bytes_eq-Decides own slots).0 e)
says_these (Err w) slots e = absurd cc

-- the word in front of the others, where there are words
parts : (b : Bool) (word : List ℕ) (others : Option (List (List ℕ))) (words : List (List ℕ)) → cond b (behind_words (word ∷ []) others) None ≡ Some words
    → (b ≡ true) × ((more : List (List ℕ)) × ((others ≡ Some more) × (words ≡ word ∷ more)))
parts false word others words e = absurd cc
parts true word None words e = absurd cc
parts true word (Some more) words e = (refl, (more, (refl, cc)))

front : (index room : ℕ) (r : Result (List ℕ) Wrong) (own others : List ℕ) (rest : ℕ → Result (List ℕ) EntryError) → r ≡ Ok own
    → length own ≤ room → rest (room - length own) ≡ Ok others → with_word index room r rest ≡ Ok (own ++ others)
front index room r own others rest said-own small more =
    let fits : ltb room (length own) ≡ false = grind (arith, nat_tests) in
    rw (said-own, fits, more) refl

both : (n : ℕ) (slots : List ℕ) (room : ℕ) → length slots ≤ room
    → (length (take n slots) ≤ room) × (length (drop n slots) ≤ room - length (take n slots))
both n slots room small = (omega (arith, ap length (take-append-drop n slots), length-append (take n slots) (drop n slots), small), omega (arith, ap length (take-append-drop n slots), length-append (take n slots) (drop n slots), small))

read : (index room : ℕ) (fs : List Field) (slots : List ℕ) (words : List (List ℕ)) → length slots ≤ room → words_of fs slots ≡ Some words
    → entered index room fs words ≡ Ok slots
read index room [] [] [] small e = refl
read index room [] [] (word ∷ words) small e = absurd cc
read index room [] (slot ∷ slots) words small e = absurd cc
read index room (field ∷ fs) slots [] small e =
    absurd (cc ((parts (says (said field (word_of field (take (most_of field) slots))) (take (most_of field) slots)) (word_of field (take (most_of field) slots)) (words_of fs (drop (most_of field) slots)) [] e).1.1.1))
read index room (field ∷ fs) slots (word ∷ words) small e =
    let own = take (most_of field) slots in
    let p = parts (says (said field (word_of field own)) own) (word_of field own) (words_of fs (drop (most_of field) slots)) (word ∷ words) e in
    let sizes = both (most_of field) slots room small in
    let same : (word ≡ word_of field own) × (words ≡ p.1.0) = (cc (p.1.1.1), cc (p.1.1.1)) in
    let others : words_of fs (drop (most_of field) slots) ≡ Some words = p.1.1.0 ∙ ap Some (sym same.1) in
    let mine : said field word ≡ Ok own = ap (said field) same.0 ∙ says_these (said field (word_of field own)) own p.0 in
    front index room (said field word) own (drop (most_of field) slots) (λ left. entered (index + 1) left fs words) mine sizes.0
    (read (index + 1) (room - length own) fs (drop (most_of field) slots) words sizes.1 others)
    ∙ ap Ok (take-append-drop (most_of field) slots)

pub read_back : (fs : List Field) → (slots : List ℕ) → (words : List (List ℕ)) → length slots ≤ 231 → words_of fs slots ≡ Some words → data_in fs words ≡ Ok slots
unfolding data_in
read_back fs slots words small e = read 0 231 fs slots words small e
