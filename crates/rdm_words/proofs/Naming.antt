-- Words that name facts, put one after the other.
use Rattle.std.proofs.Common.{◌≡◌, ◌≢◌, ℕ, Bool, true, false, ◌==◌, List, [], ◌∷◌, ◌++◌, map, length, cond, codes, Result, Ok, Err, OnOk, refl, sym, ap, subst, ◌∙◌, arith, append_assoc, append-nil}
use Rattle.std.proofs.lemmas.Bool.Decides.{nat_tests}
use Rattle.std.proofs.lemmas.Grind.{flat_map-append}
use Rattle.rdm_words.specs.DataFacts.{put_off_facts}
use Rattle.rdm_words.specs.FieldFacts.{as_data}
use Rattle.rdm_words.specs.HeaderWords.{line_below}
use Rattle.rdm_words.specs.Naming.{is_apart, BeginsApart, Names, NamesInLine, AddsNames, PutsFacts}
use Rattle.rdm_words.specs.Unread.{data_line, plain_line, put_off_line}
use Rattle.rdm_frame.specs.Digits.{digits}
use Rattle.rdm_words.specs.Plain.{is_plain, shown_byte, shown}

-- words in front change nothing
pub in_front : (facts : List (List ℕ)) (front words : List ℕ) → Names facts words → Names facts (front ++ words)
in_front [] front words n = tt
in_front (fact ∷ facts) front words (before, at, rest, whole, apart, begins, more) = (
  front ++ before,
  at,
  rest,
  ap (λ (w : List ℕ). front ++ w) whole ∙ sym (append_assoc front before (at ∷ (fact ++ rest))),
  apart,
  begins,
  more,
)

pub begins_both : (words more : List ℕ) → BeginsApart words → BeginsApart more → BeginsApart (words ++ more)
begins_both [] more b c = c
begins_both (x ∷ words) more b c = b

pub begins_below : (words : List ℕ) → BeginsApart (line_below words)
begins_below words = by (length words == 0)
  where
    by : (x : Bool) → BeginsApart (cond x [] (codes "\n  " ++ words))
    by true = tt
    by false = refl

-- words that name some facts, and behind them words that name others
pub named_both : (facts others : List (List ℕ)) (words more : List ℕ) → Names facts words → BeginsApart more → Names others more
    → Names (facts ++ others) (words ++ more)
named_both [] others words more n b m = in_front others words more m
named_both (fact ∷ facts) others words more (before, at, rest, whole, apart, begins, n) b m = (
  before,
  at,
  rest ++ more,
  ap (λ (w : List ℕ). w ++ more) whole ∙ append_assoc before (at ∷ (fact ++ rest)) more
      ∙ ap (λ (w : List ℕ). before ++ (at ∷ w)) (append_assoc fact rest more),
  apart,
  begins_both rest more begins b,
  named_both facts others rest more n b m,
)

-- words behind them change nothing
pub in_back : (facts : List (List ℕ)) (words more : List ℕ) → Names facts words → BeginsApart more → Names facts (words ++ more)
in_back [] words more n b = tt
in_back (fact ∷ facts) words more (before, at, rest, whole, apart, begins, n) b = (
  before,
  at,
  rest ++ more,
  ap (λ (w : List ℕ). w ++ more) whole ∙ append_assoc before (at ∷ (fact ++ rest)) more
      ∙ ap (λ (w : List ℕ). before ++ (at ∷ w)) (append_assoc fact rest more),
  apart,
  begins_both rest more begins b,
  in_back facts rest more n b,
)

-- ---- written

apart_plain : (b : ℕ) → is_apart b ≡ true → is_plain b ≡ true
apart_plain b h = grind (arith, nat_tests)

apart_shown : (b : ℕ) → is_apart b ≡ true → shown_byte b ≡ b ∷ []
unfolding shown_byte
apart_shown b h = rw (apart_plain b h) refl

begins_shown : (words : List ℕ) → BeginsApart words → BeginsApart (shown words)
begins_shown [] b = tt
begins_shown (x ∷ words) b = subst (λ (w : List ℕ). BeginsApart (w ++ shown words)) (sym (apart_shown x b)) b

-- words as they are written name the facts as they are written
pub named_shown : (facts : List (List ℕ)) (words : List ℕ) → Names facts words → Names (map shown facts) (shown words)
named_shown [] words n = tt
named_shown (fact ∷ facts) words (front, at, rest, whole, apart, begins, more) = (
  shown front,
  at,
  shown rest,
  ap (λ (w : List ℕ). shown w) whole ∙ flat_map-append shown_byte front (at ∷ (fact ++ rest))
      ∙ ap (λ (w : List ℕ). shown front ++ (w ++ shown (fact ++ rest))) (apart_shown at apart)
      ∙ ap (λ (w : List ℕ). shown front ++ (at ∷ w)) (flat_map-append shown_byte fact rest),
  apart,
  begins_shown rest begins,
  named_shown facts rest more,
)

-- a line of words as it is written, with its end
pub line_named : (facts : List (List ℕ)) (words : List ℕ) → NamesInLine facts words → NamesInLine (map shown facts) (shown words ++ 10 ∷ [])
line_named facts words n =
    in_back (map shown facts) (10 ∷ shown words) (10 ∷ [])
    (subst (λ (w : List ℕ). Names (map shown facts) (w ++ shown words)) (apart_shown 10 refl) (named_shown facts (10 ∷ words) n)) refl

-- ---- put behind others

pub some_front : (words more : List ℕ) → words ≢ [] → words ++ more ≢ []
some_front [] more some e = absurd (some refl)
some_front (x ∷ words) more some e = absurd cc

begins_plain : (bytes : List ℕ) → BeginsApart (plain_line bytes)
begins_plain bytes = by (length bytes == 0)
  where
    by : (x : Bool) → BeginsApart (cond x [] (data_line bytes))
    by true = tt
    by false = refl

begins_put_off : (bytes : List ℕ) → BeginsApart (put_off_line bytes)
begins_put_off bytes = by (length bytes == 2)
  where
    by : (x : Bool) → BeginsApart (cond x [] (plain_line bytes))
    by true = tt
    by false = begins_plain bytes

plain_named : (bytes : List ℕ) → Names (as_data bytes) (plain_line bytes)
plain_named bytes = by (length bytes == 0)
  where
    by : (x : Bool) → Names (cond x [] (digits bytes ∷ [])) (cond x [] (data_line bytes))
    by true = tt
    by false = (10 ∷ codes "  data", 32, [], ap (λ (w : List ℕ). 10 ∷ (codes "  data " ++ w)) (sym (append-nil (digits bytes))), refl, tt, tt)

pub adds_plain : {T E : Type 0} (r : Result T E) (bytes old new : List ℕ) → OnOk r (new ≡ old ++ plain_line bytes) → OnOk r (AddsNames (as_data bytes) old new)
adds_plain (Err e) bytes old new put = tt
adds_plain (Ok t) bytes old new put = record { words = plain_line bytes; whole = put; begins = begins_plain bytes; named = plain_named bytes }

put_off_named : (bytes : List ℕ) → Names (put_off_facts bytes) (put_off_line bytes)
put_off_named bytes = by (length bytes == 2)
  where
    by : (x : Bool) → Names (cond x [] (as_data bytes)) (cond x [] (plain_line bytes))
    by true = tt
    by false = plain_named bytes

pub adds_put_off : {T E : Type 0} (r : Result T E) (bytes old new : List ℕ) → OnOk r (new ≡ old ++ put_off_line bytes)
    → OnOk r (AddsNames (put_off_facts bytes) old new)
adds_put_off (Err e) bytes old new put = tt
adds_put_off (Ok t) bytes old new put = record { words = put_off_line bytes; whole = put; begins = begins_put_off bytes; named = put_off_named bytes }

-- a line below, and lines that follow
pub adds_below : {T E : Type 0} (r : Result T E) (facts : List (List ℕ)) (said old mid new : List ℕ) → mid ≡ old ++ line_below said
    → OnOk r (AddsNames facts mid new) → OnOk r (AddsNames facts old new)
adds_below (Err e) facts said old mid new one more = tt
adds_below (Ok t) facts said old mid new one more = record {
  words = line_below said ++ more.words;
  whole = more.whole ∙ ap (λ (w : List ℕ). w ++ more.words) one ∙ append_assoc old (line_below said) more.words;
  begins = begins_both (line_below said) more.words (begins_below said) more.begins;
  named = in_front facts (line_below said) more.words more.named;
}

abbrev rest_of : List ℕ → List ℕ
rest_of [] = []
rest_of (x ∷ xs) = xs

-- words at the beginning of a line stand behind another byte that ends a word
pub behind_apart : (b : ℕ) → is_apart b ≡ true → (facts : List (List ℕ)) (words : List ℕ) → NamesInLine facts words → Names facts (b ∷ words)
behind_apart b a [] words n = tt
behind_apart b a (fact ∷ facts) words ([], at, rest, whole, apart, begins, more) =
    ([], b, rest, ap (λ (w : List ℕ). b ∷ rest_of w) whole, a, begins, more)
behind_apart b a (fact ∷ facts) words (x ∷ front, at, rest, whole, apart, begins, more) =
    (b ∷ front, at, rest, ap (λ (w : List ℕ). b ∷ rest_of w) whole, apart, begins, more)

-- one fact that is the words
pub one : (fact : List ℕ) → NamesInLine (fact ∷ []) fact
one fact = ([], 10, [], ap (λ (w : List ℕ). 10 ∷ w) (sym (append-nil fact)), refl, tt, tt)

-- words on a line of their own
pub adds_line : {T E : Type 0} (r : Result T E) (facts : List (List ℕ)) (old mid new : List ℕ) → mid ≡ old ++ codes "\n  " → OnOk r (PutsFacts facts mid new)
    → OnOk r (AddsNames facts old new)
adds_line (Err e) facts old mid new one put = tt
adds_line (Ok t) facts old mid new one put = record {
  words = codes "\n  " ++ put.words;
  whole = put.whole ∙ ap (λ (w : List ℕ). w ++ put.words) one ∙ append_assoc old (codes "\n  ") put.words;
  begins = refl;
  named = in_front facts (codes "\n ") (32 ∷ put.words) (behind_apart 32 refl facts put.words put.named);
}

-- ---- one behind the other

-- words in a line of their own, and words behind them
pub puts_both : (facts others : List (List ℕ)) (old mid new : List ℕ) → PutsFacts facts old mid → AddsNames others mid new → PutsFacts (facts ++ others) old new
puts_both facts others old mid new one more = record {
  words = one.words ++ more.words;
  whole = more.whole ∙ ap (λ (w : List ℕ). w ++ more.words) one.whole ∙ append_assoc old one.words more.words;
  named = named_both facts others (10 ∷ one.words) more.words one.named more.begins more.named;
}

-- words behind them that name nothing
pub puts_more : (facts : List (List ℕ)) (old mid new : List ℕ) → PutsFacts facts old mid → AddsNames [] mid new → PutsFacts facts old new
puts_more facts old mid new one more = record {
  words = one.words ++ more.words;
  whole = more.whole ∙ ap (λ (w : List ℕ). w ++ more.words) one.whole ∙ append_assoc old one.words more.words;
  named = in_back facts (10 ∷ one.words) more.words one.named more.begins;
}

pub adds_both : (facts others : List (List ℕ)) (old mid new : List ℕ) → AddsNames facts old mid → AddsNames others mid new → AddsNames (facts ++ others) old new
adds_both facts others old mid new one more = record {
  words = one.words ++ more.words;
  whole = more.whole ∙ ap (λ (w : List ℕ). w ++ more.words) one.whole ∙ append_assoc old one.words more.words;
  begins = begins_both one.words more.words one.begins more.begins;
  named = named_both facts others one.words more.words one.named more.begins more.named;
}

pub adds_nothing : (old : List ℕ) → AddsNames [] old old
adds_nothing old = record { words = []; whole = sym (append-nil old); begins = tt; named = tt }

pub adds_words : {T E : Type 0} (r : Result T E) (words old new : List ℕ) → BeginsApart words → OnOk r (new ≡ old ++ words) → OnOk r (AddsNames [] old new)
adds_words (Err e) words old new begins put = tt
adds_words (Ok t) words old new begins put = record { words = words; whole = put; begins = begins; named = tt }
