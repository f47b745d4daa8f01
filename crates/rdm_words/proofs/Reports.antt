-- What only some parameters have, reports among them, names its facts.
use Rattle.std.proofs.Common.{◌≡◌, ◌≢◌, ℕ, ◌==◌, Bool, true, false, cond, ℤ, List, [], ◌∷◌, ◌++◌, length, slice_index, Option, Some, None, Result, Ok, Err, OnOk, codes, decimal, refl, sym, ap, subst, append-nil}
use Rattle.std.proofs.lemmas.Bool.{ne_eqb}
use Rattle.std.specs.Fmt.{signed_decimal}
use Rattle.std.specs.Int.{w16, cast_signed, from_be_bytes}
use Rattle.rdm_frame.specs.Digits.{digits}
use Rattle.rdm_words.specs.FieldFacts.{number_in, as_data, as_failure, as_parameter, as_place, as_range, as_slot_use, failure_facts, has_highest, has_lowest, range_facts, slot_use, word_at}
use Rattle.rdm_words.specs.HeaderFacts.{name_and, place_fact}
use Rattle.rdm_words.specs.HeaderWords.{named_words, place_words, quoted}
use Rattle.rdm_words.specs.LaidOut.{data_words, listed_words}
use Rattle.rdm_words.specs.Naming.{AddsNames, Names, NamesInLine, PutsFacts}
use Rattle.rdm_words.specs.Tables.{standard_name}
use Rattle.rdm_words.proofs.Appends.{two}
use Rattle.rdm_words.proofs.Naming.{adds_both, adds_words, one, puts_both, puts_more}
use Rattle.rdm_words.proofs.LaidOut.{adds_behind, adds_fact, coded_named, coded_put, ended_in_line, fact_put, other_length}

-- a status type and its status ID, and the values behind them
pub failure_put : {T E : Type 0} (r : Result T E) (name : Option (List ℕ)) (severity id : List ℕ) (values : List (List ℕ)) (old first second third new : List ℕ)
    → first ≡ old ++ named_words name severity → second ≡ first ++ codes ", " → PutsFacts (id ∷ []) second third → OnOk r (AddsNames values third new)
    → OnOk r (PutsFacts (severity ∷ id ∷ values) old new)
failure_put (Err e) name severity id values old first second third new one two what more = tt
failure_put (Ok t) name severity id values old first second third new one two what more =
    puts_both (severity ∷ id ∷ []) values old third new
    (puts_both (severity ∷ []) (id ∷ []) old first third (record { words = named_words name severity; whole = one; named = coded_named name severity })
    (adds_behind (id ∷ []) (codes ", ") first second third refl two what)) more

-- two values behind their noun
pub values_put : {T E : Type 0} (r : Result T E) (first second old noun one_said behind new : List ℕ) → noun ≡ old ++ codes ", values " → one_said ≡ noun ++ first
    → behind ≡ one_said ++ codes " and " → OnOk r (new ≡ behind ++ second) → OnOk r (AddsNames (first ∷ second ∷ []) old new)
values_put (Err e) first second old noun one_said behind new a b d put = tt
values_put (Ok t) first second old noun one_said behind new a b d put =
    adds_both (first ∷ []) (second ∷ []) old one_said new
    (adds_behind (first ∷ []) (codes ", values ") old noun one_said refl a (fact_put first noun one_said b))
    (adds_behind (second ∷ []) (codes " and ") one_said behind new refl d (fact_put second behind new put))

-- digits, and words behind them
pub digits_put : {T E : Type 0} (r : Result T E) (d old mid new : List ℕ) → mid ≡ old ++ digits d → OnOk r (AddsNames [] mid new) → OnOk r (PutsFacts (digits d ∷ []) old new)
digits_put (Err e) d old mid new put more = tt
digits_put (Ok t) d old mid new put more =
    puts_more (digits d ∷ []) old mid new (record { words = digits d; whole = put; named = one (digits d) }) more

-- a comma, and what a status ID means
pub meaning_put : {T E : Type 0} (r : Result T E) (words old mid new : List ℕ) → mid ≡ old ++ codes ", " → OnOk r (new ≡ mid ++ words) → OnOk r (AddsNames [] old new)
meaning_put r words old mid new comma put = adds_words r (codes ", " ++ words) old new refl (two r old (codes ", ") mid words new comma put)

-- a status ID behind its text
pub described_put : {T E : Type 0} (r : Result T E) (front id old mid new : List ℕ) → mid ≡ old ++ front
    → OnOk r (new ≡ mid ++ (codes " (" ++ (id ++ codes ")"))) → OnOk r (PutsFacts (id ∷ []) old new)
described_put r front id old mid new one put = coded_put r (Some front) id old new (two r old front mid (codes " (" ++ (id ++ codes ")")) new one put)

-- the facts of seven slots
abbrev failure_of : List ℕ → List (List ℕ)
failure_of d = failure_facts (slice_index d 0) (word_at 1 d) (word_at 3 d) (word_at 5 d)

pub other_failure : {T E : Type 0} (r : Result T E) (d old new : List ℕ) → length d ≢ 7 → OnOk r (new ≡ old ++ data_words d) → OnOk r (PutsFacts (as_failure d) old new)
other_failure r d old new h put = other_length r 7 (failure_of d) d old new h put

pub failure_in_put : {T E : Type 0} (r : Result T E) (d old new : List ℕ) → length d ≡ 7 → OnOk r (PutsFacts (failure_of d) old new)
    → OnOk r (PutsFacts (as_failure d) old new)
failure_in_put r d old new is put = subst (λ (n : ℕ). OnOk r (PutsFacts (cond (n == 7) (failure_of d) (as_data d)) old new)) (sym is) put

-- ---- a range

-- the facts of four slots
abbrev range_of : List ℕ → List (List ℕ)
range_of d = range_facts (cast_signed w16 (word_at 0 d)) (cast_signed w16 (word_at 2 d))

pub other_range : {T E : Type 0} (r : Result T E) (d old new : List ℕ) → length d ≢ 4 → OnOk r (new ≡ old ++ data_words d) → OnOk r (PutsFacts (as_range d) old new)
other_range r d old new h put = other_length r 4 (range_of d) d old new h put

pub range_in_put : {T E : Type 0} (r : Result T E) (d old new : List ℕ) → length d ≡ 4 → OnOk r (PutsFacts (range_of d) old new) → OnOk r (PutsFacts (as_range d) old new)
range_in_put r d old new is put = subst (λ (n : ℕ). OnOk r (PutsFacts (cond (n == 4) (range_of d) (as_data d)) old new)) (sym is) put

-- the words between two ends
ends_named : (low high : List ℕ) → NamesInLine (low ∷ high ∷ []) (low ++ (codes " to " ++ high))
ends_named low high = ([], 10, codes " to " ++ high, refl, refl, refl, (codes " to", 32, [], ap (λ (w : List ℕ). codes " to " ++ w) (sym (append-nil high)), refl, tt, tt))

-- what a range says, by whether it has its ends
abbrev range_words : Bool → Bool → List ℕ → List ℕ → List ℕ
range_words false false low high = codes "not defined"
range_words false true low high = codes "up to " ++ high
range_words true false low high = codes "from " ++ low
range_words true true low high = low ++ (codes " to " ++ high)

range_named : (x y : Bool) (low high : List ℕ) → NamesInLine (cond x (low ∷ []) [] ++ cond y (high ∷ []) []) (range_words x y low high)
range_named false false low high = tt
range_named false true low high = ended_in_line (codes "up to ") refl (high ∷ []) high (one high)
range_named true false low high = ended_in_line (codes "from ") refl (low ∷ []) low (one low)
range_named true true low high = ends_named low high

pub range_put : {T E : Type 0} (r : Result T E) (x y : Bool) (low high l h : ℤ) (old new : List ℕ) → l ≡ low → h ≡ high → x ≡ has_lowest l → y ≡ has_highest h
    → OnOk r (new ≡ old ++ range_words x y (signed_decimal l) (signed_decimal h)) → OnOk r (PutsFacts (range_facts low high) old new)
range_put (Err e) x y low high l h old new is same a b put = tt
range_put (Ok t) x y low high l h old new is same a b put =
    subst (λ (n : ℤ). PutsFacts (range_facts n high) old new) is
    (subst (λ (n : ℤ). PutsFacts (range_facts l n) old new) same
    (record {
      words = range_words x y (signed_decimal l) (signed_decimal h);
      whole = put;
      named = subst (λ (p : Bool). NamesInLine (cond p (signed_decimal l ∷ []) [] ++ cond (has_highest h) (signed_decimal h ∷ []) []) (range_words x y (signed_decimal l) (signed_decimal h))) a
          (subst (λ (q : Bool). NamesInLine (cond x (signed_decimal l ∷ []) [] ++ cond q (signed_decimal h ∷ []) []) (range_words x y (signed_decimal l) (signed_decimal h))) b
          (range_named x y (signed_decimal l) (signed_decimal h)));
    }))

-- ---- a parameter of a list

listed_named : (name own : Option (List ℕ)) (pid : List ℕ) → NamesInLine (name_and name pid) (listed_words name own pid)
listed_named (Some name) own pid = ([], 10, codes " (" ++ (pid ++ codes ")"), refl, refl, refl, (32 ∷ [], 40, 41 ∷ [], refl, refl, refl, tt))
listed_named None (Some own) pid = coded_named (Some (quoted own)) pid
listed_named None None pid = one pid

pub other_listed : {T E : Type 0} (r : Result T E) (d old new : List ℕ) → length d ≢ 2 → OnOk r (new ≡ old ++ data_words d) → OnOk r (PutsFacts (as_parameter d) old new)
other_listed r d old new h put = other_length r 2 (name_and (standard_name (from_be_bytes w16 d)) (digits d)) d old new h put

listed : (name own : Option (List ℕ)) (d old new : List ℕ) → name ≡ standard_name (from_be_bytes w16 d) → new ≡ old ++ listed_words name own (digits d)
    → PutsFacts (name_and (standard_name (from_be_bytes w16 d)) (digits d)) old new
listed name own d old new same put = record {
  words = listed_words name own (digits d);
  whole = put;
  named = subst (λ (n : Option (List ℕ)). NamesInLine (name_and n (digits d)) (listed_words name own (digits d))) same (listed_named name own (digits d));
}

pub listed_put : {T E : Type 0} (r : Result T E) (name own : Option (List ℕ)) (d old new : List ℕ) → length d ≡ 2 → name ≡ standard_name (from_be_bytes w16 d)
    → OnOk r (new ≡ old ++ listed_words name own (digits d)) → OnOk r (PutsFacts (as_parameter d) old new)
listed_put (Err e) name own d old new is same put = tt
listed_put (Ok t) name own d old new is same put =
    subst (λ (n : ℕ). PutsFacts (cond (n == 2) (name_and (standard_name (from_be_bytes w16 d)) (digits d)) (as_data d)) old new) (sym is)
    (listed name own d old new same put)

-- ---- where in a device

place_named : (sub : ℕ) → NamesInLine (place_fact sub ∷ []) (place_words sub)
unfolding place_words
place_named sub = by (sub == 0) (sub == 0xFFFF)
  where
    by : (x y : Bool) → NamesInLine (cond x (codes "root") (cond y (codes "all sub-devices") (decimal sub)) ∷ [])
        (cond x (codes "root") (cond y (codes "all sub-devices") (codes "sub-device " ++ decimal sub)))
    by true y = one (codes "root")
    by false true = one (codes "all sub-devices")
    by false false = (codes "\nsub-device", 32, [], ap (λ (w : List ℕ). codes "\nsub-device " ++ w) (sym (append-nil (decimal sub))), refl, tt, tt)

pub other_place : {T E : Type 0} (r : Result T E) (d old new : List ℕ) → length d ≢ 2 → OnOk r (new ≡ old ++ data_words d) → OnOk r (PutsFacts (as_place d) old new)
other_place r d old new h put = other_length r 2 (place_fact (from_be_bytes w16 d) ∷ []) d old new h put

placed : (sub : ℕ) (d old new : List ℕ) → sub ≡ from_be_bytes w16 d → new ≡ old ++ place_words sub → PutsFacts (place_fact (from_be_bytes w16 d) ∷ []) old new
placed sub d old new same put = record {
  words = place_words sub;
  whole = put;
  named = subst (λ (n : ℕ). NamesInLine (place_fact n ∷ []) (place_words sub)) same (place_named sub);
}

pub place_put : {T E : Type 0} (r : Result T E) (sub : ℕ) (d old new : List ℕ) → length d ≡ 2 → sub ≡ from_be_bytes w16 d → OnOk r (new ≡ old ++ place_words sub)
    → OnOk r (PutsFacts (as_place d) old new)
place_put (Err e) sub d old new is same put = tt
place_put (Ok t) sub d old new is same put =
    subst (λ (n : ℕ). PutsFacts (cond (n == 2) (place_fact (from_be_bytes w16 d) ∷ []) (as_data d)) old new) (sym is) (placed sub d old new same put)

-- ---- what a slot is for

pub primary_put : {T E : Type 0} (r : Result T E) (kind : ℕ) (label old first second new : List ℕ) → kind ≡ 0
    → PutsFacts (digits (kind ∷ []) ∷ []) old first → second ≡ first ++ codes ", " → OnOk r (PutsFacts (digits label ∷ []) second new)
    → OnOk r (PutsFacts (slot_use kind label) old new)
primary_put (Err e) kind label old first second new is a b put = tt
primary_put (Ok t) kind label old first second new is a b put =
    subst (λ (n : ℕ). PutsFacts (digits (kind ∷ []) ∷ cond (n == 0) (digits label) (decimal (number_in label)) ∷ []) old new) (sym is)
    (puts_both (digits (kind ∷ []) ∷ []) (digits label ∷ []) old first new a (adds_behind (digits label ∷ []) (codes ", ") first second new refl b put))

pub secondary_put : {T E : Type 0} (r : Result T E) (kind : ℕ) (label : List ℕ) (primary : ℕ) (old first new : List ℕ) → kind ≢ 0
    → PutsFacts (digits (kind ∷ []) ∷ []) old first → primary ≡ number_in label → OnOk r (new ≡ first ++ (codes " of slot " ++ decimal primary))
    → OnOk r (PutsFacts (slot_use kind label) old new)
secondary_put (Err e) kind label primary old first new h a same put = tt
secondary_put {T = T} {E = E} (Ok t) kind label primary old first new h a same put =
    subst (λ (x : Bool). PutsFacts (digits (kind ∷ []) ∷ cond x (digits label) (decimal (number_in label)) ∷ []) old new) (sym (ne_eqb kind 0 h))
    (subst (λ (n : ℕ). PutsFacts (digits (kind ∷ []) ∷ decimal n ∷ []) old new) same
    (puts_both (digits (kind ∷ []) ∷ []) (decimal primary ∷ []) old first new a
    (adds_fact {T = T} {E = E} (Ok t) (codes " of slot ") (decimal primary) first new refl put)))

pub other_use : {T E : Type 0} (r : Result T E) (d old new : List ℕ) → length d ≢ 3 → OnOk r (new ≡ old ++ data_words d) → OnOk r (PutsFacts (as_slot_use d) old new)
other_use r d old new h put = other_length r 3 (slot_use (slice_index d 0) (slice_index d 1 ∷ slice_index d 2 ∷ [])) d old new h put

pub use_in_put : {T E : Type 0} (r : Result T E) (d old new : List ℕ) → length d ≡ 3
    → OnOk r (PutsFacts (slot_use (slice_index d 0) (slice_index d 1 ∷ slice_index d 2 ∷ [])) old new) → OnOk r (PutsFacts (as_slot_use d) old new)
use_in_put r d old new is put =
    subst (λ (n : ℕ). OnOk r (PutsFacts (cond (n == 3) (slot_use (slice_index d 0) (slice_index d 1 ∷ slice_index d 2 ∷ [])) (as_data d)) old new)) (sym is) put
