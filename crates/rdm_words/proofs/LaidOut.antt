-- Fields that are said one after the other name their facts, and so do data without fields.
use Rattle.std.proofs.Common.{◌≡◌, ◌≢◌, ℕ, ◌+◌, ◌<◌, ◌==◌, Bool, true, false, cond, ◌&&◌, List, [], ◌∷◌, ◌++◌, length, drop, get_or, codes, Option, Some, None, Result, Ok, Err, OnOk, refl, sym, ap, subst, ◌∙◌, arith, append_assoc, append-nil, add-one}
use Rattle.std.proofs.Math.Seq.{drop-cons}
use Rattle.std.proofs.lemmas.Bool.{ne_eqb}
use Rattle.std.specs.Fmt.{signed_decimal}
use Rattle.std.specs.List.{flat_map, list_all}
use Rattle.rdm_device.specs.Device.Measuring.{signed_in}
use Rattle.rdm_frame.specs.Digits.{digits}
use Rattle.rdm_frame.specs.Reading.{uid_at}
use Rattle.rdm_frame.specs.UidText.{uid_text}
use Rattle.rdm_frame.specs.declared.uid.Uid.{Uid}
use Rattle.rdm_words.specs.declared.data.form.Field.{Field}
use Rattle.rdm_words.specs.FieldFacts.{slots_at, as_data, as_signed, as_measured, as_uid}
use Rattle.rdm_words.specs.HeaderWords.{named_words}
use Rattle.rdm_words.specs.LaidOut.{ends_apart, begins_apart, is_separated, are_separated, field_facts, fields_facts, noun_words, data_words, AreSaid, SaysField}
use Rattle.rdm_words.specs.Naming.{is_apart, BeginsApart, Names, NamesInLine, AddsNames, PutsFacts}
use Rattle.rdm_words.proofs.Appends.{two}
use Rattle.rdm_words.proofs.Naming.{in_front, begins_both, named_both, behind_apart, one, adds_words, puts_more}

-- ---- the words before a field

ended : (b : ℕ) (before : List ℕ) → ends_apart (b ∷ before) ≡ true → (facts : List (List ℕ)) (words : List ℕ) → NamesInLine facts words → Names facts (b ∷ (before ++ words))
ended b [] e facts words n = behind_apart b e facts words n
ended b (c ∷ before) e facts words n = in_front facts (b ∷ []) (c ∷ (before ++ words)) (ended c before e facts words n)

-- at the beginning of a line
pub ended_in_line : (before : List ℕ) → ends_apart before ≡ true → (facts : List (List ℕ)) (words : List ℕ) → NamesInLine facts words → NamesInLine facts (before ++ words)
ended_in_line [] e facts words n = n
ended_in_line (b ∷ before) e facts words n = in_front facts (10 ∷ []) (b ∷ (before ++ words)) (ended b before e facts words n)

both : (x y : Bool) → (x && y) ≡ true → (x ≡ true) × (y ≡ true)
both true true e = (refl, refl)
both true false e = absurd cc
both false y e = absurd cc

separated : (before words : List ℕ) → (begins_apart before && ends_apart before) ≡ true → (facts : List (List ℕ)) → NamesInLine facts words
    → BeginsApart (before ++ words) × Names facts (before ++ words)
separated [] words e facts n = absurd cc
separated (b ∷ before) words e facts n =
    let s = both (is_apart b) (ends_apart (b ∷ before)) e in (s.0, ended b before s.1 facts words n)

-- what is put behind such words
pub adds_behind : (facts : List (List ℕ)) (before old mid new : List ℕ) → (begins_apart before && ends_apart before) ≡ true → mid ≡ old ++ before
    → PutsFacts facts mid new → AddsNames facts old new
adds_behind facts before old mid new e one put =
    let at = separated before put.words e facts put.named in
    record {
      words = before ++ put.words;
      whole = put.whole ∙ ap (λ (w : List ℕ). w ++ put.words) one ∙ append_assoc old before put.words;
      begins = at.0;
      named = at.1;
    }

pub adds_separated : {T E : Type 0} (r : Result T E) (facts : List (List ℕ)) (before old mid new : List ℕ) → (begins_apart before && ends_apart before) ≡ true
    → mid ≡ old ++ before → OnOk r (PutsFacts facts mid new) → OnOk r (AddsNames facts old new)
adds_separated (Err e) facts before old mid new apart one put = tt
adds_separated (Ok t) facts before old mid new apart one put = adds_behind facts before old mid new apart one put

-- a fact behind such words
pub adds_fact : {T E : Type 0} (r : Result T E) (before fact old new : List ℕ) → (begins_apart before && ends_apart before) ≡ true
    → OnOk r (new ≡ old ++ (before ++ fact)) → OnOk r (AddsNames (fact ∷ []) old new)
adds_fact (Err e) before fact old new apart put = tt
adds_fact (Ok t) before fact old new apart put =
    let at = separated before fact apart (fact ∷ []) (one fact) in
    record { words = before ++ fact; whole = put; begins = at.0; named = at.1 }

-- what was measured
pub measured_fact : {T E : Type 0} (r : Result T E) (fact old new : List ℕ) → OnOk r (new ≡ old ++ (codes " has measured " ++ fact)) → OnOk r (AddsNames (fact ∷ []) old new)
measured_fact r fact old new put = adds_fact r (codes " has measured ") fact old new refl put

-- a fact behind words of its line
pub puts_fact : {T E : Type 0} (r : Result T E) (before fact old mid new : List ℕ) → ends_apart before ≡ true → mid ≡ old ++ before
    → OnOk r (new ≡ mid ++ fact) → OnOk r (PutsFacts (fact ∷ []) old new)
puts_fact (Err e) before fact old mid new apart put more = tt
puts_fact (Ok t) before fact old mid new apart put more = record {
  words = before ++ fact;
  whole = more ∙ ap (λ (w : List ℕ). w ++ fact) put ∙ append_assoc old before fact;
  named = ended_in_line before apart (fact ∷ []) fact (one fact);
}

-- ---- fields

pub fields_named : (d : List ℕ) (fields : List Field) → list_all is_separated fields ≡ true → (old new : List ℕ) → AreSaid d fields old new
    → AddsNames (flat_map (field_facts d) fields) old new
fields_named d [] e old new is = record { words = []; whole = is ∙ sym (append-nil old); begins = tt; named = tt }
fields_named d (field ∷ fields) e old new (mid, said, more) =
    let s = both (is_separated field) (list_all is_separated fields) e in
    let at = separated field.0.now said.words s.0 (field_facts d field) said.named in
    let next = fields_named d fields s.1 mid new more in
    record {
      words = (field.0.now ++ said.words) ++ next.words;
      whole = next.whole ∙ ap (λ (w : List ℕ). w ++ next.words) said.whole ∙ append_assoc old (field.0.now ++ said.words) next.words;
      begins = begins_both (field.0.now ++ said.words) next.words at.0 next.begins;
      named = named_both (field_facts d field) (flat_map (field_facts d) fields) (field.0.now ++ said.words) next.words at.1 next.begins next.named;
    }

-- what is put, whatever it names
pub put_at_all : (d : List ℕ) (fields : List Field) (old new : List ℕ) → AreSaid d fields old new → (words : List ℕ) × (new ≡ old ++ words)
put_at_all d [] old new is = ([], is ∙ sym (append-nil old))
put_at_all d (field ∷ fields) old new (mid, said, more) =
    let next = put_at_all d fields mid new more in (
      (field.0.now ++ said.words) ++ next.0,
      next.1 ∙ ap (λ (w : List ℕ). w ++ next.0) said.whole ∙ append_assoc old (field.0.now ++ said.words) next.0,
    )

-- fields in a line of their own
pub fields_in_line : (d : List ℕ) (fields : List Field) (old new : List ℕ) → AreSaid d fields old new
    → PutsFacts (fields_facts fields d) old new
fields_in_line d [] old new is = record { words = []; whole = is ∙ sym (append-nil old); named = tt }
fields_in_line d (field ∷ fields) old new (mid, said, more) = by (are_separated (field ∷ fields)) refl
  where
    by : (x : Bool) → are_separated (field ∷ fields) ≡ x → PutsFacts (cond x (flat_map (field_facts d) (field ∷ fields)) []) old new
    by false e =
        let all = put_at_all d (field ∷ fields) old new (mid, said, more) in record { words = all.0; whole = all.1; named = tt }
    by true e =
        let s = both (ends_apart field.0.now) (list_all is_separated fields) e in
        let next = fields_named d fields s.1 mid new more in
        record {
          words = (field.0.now ++ said.words) ++ next.words;
          whole = next.whole ∙ ap (λ (w : List ℕ). w ++ next.words) said.whole ∙ append_assoc old (field.0.now ++ said.words) next.words;
          named = named_both (field_facts d field) (flat_map (field_facts d) fields) (10 ∷ (field.0.now ++ said.words)) next.words
              (ended_in_line field.0.now s.0 (field_facts d field) said.words said.named) next.begins next.named;
        }

pub fields_put : {T E : Type 0} (r : Result T E) (d : List ℕ) (given fields : List Field) (old new : List ℕ) → given ≡ fields
    → OnOk r (AreSaid d given old new) → OnOk r (PutsFacts (fields_facts fields d) old new)
fields_put (Err e) d given fields old new is said = tt
fields_put (Ok t) d given fields old new is said =
    subst (λ (fs : List Field). PutsFacts (fields_facts fs d) old new) is (fields_in_line d given old new said)

-- behind a noun
pub behind_noun : {T E : Type 0} (r : Result T E) (facts : List (List ℕ)) (noun old mid new : List ℕ) → mid ≡ old ++ noun_words noun
    → OnOk r (PutsFacts facts mid new) → OnOk r (PutsFacts facts old new)
behind_noun (Err e) facts noun old mid new one more = tt
behind_noun (Ok t) facts noun old mid new one more = record {
  words = noun_words noun ++ more.words;
  whole = more.whole ∙ ap (λ (w : List ℕ). w ++ more.words) one ∙ append_assoc old (noun_words noun) more.words;
  named = by (length noun == 0);
}
  where
    by : (x : Bool) → NamesInLine facts (cond x [] (noun ++ codes " ") ++ more.words)
    by true = more.named
    by false =
        subst (λ (w : List ℕ). NamesInLine facts w) (sym (append_assoc noun (codes " ") more.words))
        (in_front facts (10 ∷ noun) (32 ∷ more.words) (behind_apart 32 refl facts more.words more.named))

-- ---- the loop

-- the fields so far are said, before those of the rest
abbrev pub SaidBefore : List ℕ → List Field → List ℕ → List Field → List ℕ → Type 0
SaidBefore d fields old rest text = (new : List ℕ) → AreSaid d rest text new → AreSaid d fields old new

pub said_more : (d : List ℕ) (fields : List Field) (old : List ℕ) (i : ℕ) (x : Field) → i < length fields → (text mid : List ℕ)
    → SaysField (get_or fields i x).0.now (field_facts d (get_or fields i x)) text mid
    → SaidBefore d fields old (drop i fields) text → SaidBefore d fields old (drop (i + 1) fields) mid
said_more d fields old i x lt text mid said so_far = λ new more.
    subst (λ (fs : List Field). SaidBefore d fields old fs text)
    (drop-cons fields i x lt ∙ ap (λ (k : ℕ). get_or fields i x ∷ drop k fields) (sym (add-one i))) so_far new (mid, said, more)

pub said_whole : (d : List ℕ) (fields : List Field) (old : List ℕ) (rest : List Field) (text : List ℕ) → length rest ≡ 0
    → SaidBefore d fields old rest text → AreSaid d fields old text
said_whole d fields old [] text none so_far = so_far text refl
said_whole d fields old (x ∷ rest) text none so_far = absurd (omega (arith, none))

-- ---- values

pub fact_put : (fact old new : List ℕ) → new ≡ old ++ fact → PutsFacts (fact ∷ []) old new
fact_put fact old new put = record { words = fact; whole = put; named = one fact }

-- words that name nothing
pub words_put : {T E : Type 0} (r : Result T E) (words old new : List ℕ) → OnOk r (new ≡ old ++ words) → OnOk r (PutsFacts [] old new)
words_put (Err e) words old new put = tt
words_put (Ok t) words old new put = record { words = words; whole = put; named = tt }

pub word_put : {T E : Type 0} (r : Result T E) (fact old new : List ℕ) → OnOk r (new ≡ old ++ fact) → OnOk r (PutsFacts (fact ∷ []) old new)
word_put (Err e) fact old new put = tt
word_put (Ok t) fact old new put = record { words = fact; whole = put; named = one fact }

pub coded_named : (name : Option (List ℕ)) (number : List ℕ) → NamesInLine (number ∷ []) (named_words name number)
coded_named None number = one number
coded_named (Some name) number =
    ((10 ∷ name) ++ (32 ∷ []), 40, 41 ∷ [], sym (append_assoc (10 ∷ name) (32 ∷ []) (40 ∷ (number ++ (41 ∷ [])))), refl, refl, tt)

pub coded_put : {T E : Type 0} (r : Result T E) (name : Option (List ℕ)) (number old new : List ℕ) → OnOk r (new ≡ old ++ named_words name number)
    → OnOk r (PutsFacts (number ∷ []) old new)
coded_put (Err e) name number old new put = tt
coded_put (Ok t) name number old new put = record { words = named_words name number; whole = put; named = coded_named name number }

-- a name of the table and its digits, or the number behind these words
pub coded_put_if : {T E : Type 0} (r : Result T E) (x : Bool) (name : Option (List ℕ)) (number old new : List ℕ) → OnOk r (new ≡ old ++ named_words name number)
    → OnOk r (PutsFacts (cond x (number ∷ []) []) old new)
coded_put_if (Err e) x name number old new put = tt
coded_put_if (Ok t) true name number old new put = record { words = named_words name number; whole = put; named = coded_named name number }
coded_put_if (Ok t) false name number old new put = record { words = named_words name number; whole = put; named = tt }

number_named : (before decimals : List ℕ) → NamesInLine (cond (ends_apart before) (decimals ∷ []) []) (before ++ decimals)
number_named before decimals = by (ends_apart before) refl
  where
    by : (x : Bool) → ends_apart before ≡ x → NamesInLine (cond x (decimals ∷ []) []) (before ++ decimals)
    by true e = ended_in_line before e (decimals ∷ []) decimals (one decimals)
    by false e = tt

pub number_put : {T E : Type 0} (r : Result T E) (before decimals old new : List ℕ) → OnOk r (new ≡ old ++ (before ++ decimals))
    → OnOk r (PutsFacts (cond (ends_apart before) (decimals ∷ []) []) old new)
number_put (Err e) before decimals old new put = tt
number_put (Ok t) before decimals old new put = record { words = before ++ decimals; whole = put; named = number_named before decimals }

-- ---- data without fields

data_named : (d : List ℕ) → NamesInLine (as_data d) (data_words d)
data_named d = by (length d == 0)
  where
    by : (x : Bool) → NamesInLine (cond x [] (digits d ∷ [])) (cond x (codes "no data") (codes "data " ++ digits d))
    by true = tt
    by false = (10 ∷ codes "data", 32, [], ap (λ (w : List ℕ). 10 ∷ (codes "data " ++ w)) (sym (append-nil (digits d))), refl, tt, tt)

pub data_put : {T E : Type 0} (r : Result T E) (d old new : List ℕ) → OnOk r (new ≡ old ++ data_words d) → OnOk r (PutsFacts (as_data d) old new)
data_put (Err e) d old new put = tt
data_put (Ok t) d old new put = record { words = data_words d; whole = put; named = data_named d }

-- one slot, by its name and its digits
pub code_put : {T E : Type 0} (r : Result T E) (name : Option (List ℕ)) (d noun old mid new : List ℕ) → length d ≡ 1 → mid ≡ old ++ noun_words noun
    → OnOk r (new ≡ mid ++ named_words name (digits d)) → OnOk r (PutsFacts (as_data d) old new)
code_put r name d noun old mid new is one put =
    subst (λ (n : ℕ). OnOk r (PutsFacts (cond (n == 0) [] (digits d ∷ [])) old new)) (sym is)
    (behind_noun r (digits d ∷ []) noun old mid new one (coded_put r name (digits d) mid new put))

-- ---- slots that are a number with a sign or a UID, and those of another length

pub other_length : {T E : Type 0} (r : Result T E) (n : ℕ) (facts : List (List ℕ)) (d old new : List ℕ) → length d ≢ n → OnOk r (new ≡ old ++ data_words d)
    → OnOk r (PutsFacts (cond (length d == n) facts (as_data d)) old new)
other_length r n facts d old new h put = rw (ne_eqb (length d) n h) (data_put r d old new put)

pub other_signed : {T E : Type 0} (r : Result T E) (d old new : List ℕ) → length d ≢ 2 → OnOk r (new ≡ old ++ data_words d) → OnOk r (PutsFacts (as_signed d) old new)
other_signed r d old new h put = other_length r 2 (signed_decimal (signed_in d) ∷ []) d old new h put

pub signed_put : {T E : Type 0} (r : Result T E) (d old new : List ℕ) → length d ≡ 2 → OnOk r (new ≡ old ++ signed_decimal (signed_in d))
    → OnOk r (PutsFacts (as_signed d) old new)
signed_put r d old new is put =
    subst (λ (n : ℕ). OnOk r (PutsFacts (cond (n == 2) (signed_decimal (signed_in d) ∷ []) (as_data d)) old new)) (sym is)
    (word_put r (signed_decimal (signed_in d)) old new put)

pub other_uid : {T E : Type 0} (r : Result T E) (d old new : List ℕ) → length d ≢ 6 → OnOk r (new ≡ old ++ data_words d) → OnOk r (PutsFacts (as_uid d) old new)
other_uid r d old new h put = other_length r 6 (uid_text (uid_at d 0) ∷ []) d old new h put

pub uid_put : {T E : Type 0} (r : Result T E) (uid : Uid) (d old new : List ℕ) → length d ≡ 6 → uid ≡ uid_at d 0 → OnOk r (new ≡ old ++ uid_text uid)
    → OnOk r (PutsFacts (as_uid d) old new)
uid_put r uid d old new is same put =
    subst (λ (n : ℕ). OnOk r (PutsFacts (cond (n == 6) (uid_text (uid_at d 0) ∷ []) (as_data d)) old new)) (sym is)
    (subst (λ (u : Uid). OnOk r (PutsFacts (uid_text u ∷ []) old new)) same (word_put r (uid_text uid) old new put))

pub other_measured : {T E : Type 0} (r : Result T E) (d old new : List ℕ) → length d ≢ 3 → OnOk r (new ≡ old ++ data_words d)
    → OnOk r (PutsFacts (as_measured d) old new)
other_measured r d old new h put = other_length r 3 (as_signed (slots_at 1 2 d)) d old new h put

pub measured_put : {T E : Type 0} (r : Result T E) (d old mid new : List ℕ) → length d ≡ 3 → PutsFacts (as_signed (slots_at 1 2 d)) old mid
    → OnOk r (AddsNames [] mid new) → OnOk r (PutsFacts (as_measured d) old new)
measured_put (Err e) d old mid new is one more = tt
measured_put (Ok t) d old mid new is one more =
    subst (λ (n : ℕ). PutsFacts (cond (n == 3) (as_signed (slots_at 1 2 d)) (as_data d)) old new) (sym is) (puts_more (as_signed (slots_at 1 2 d)) old mid new one more)

-- a space, and words
pub adds_spaced : {T E : Type 0} (r : Result T E) (words old mid new : List ℕ) → mid ≡ old ++ codes " " → OnOk r (new ≡ mid ++ words) → OnOk r (AddsNames [] old new)
adds_spaced r words old mid new one put = adds_words r (codes " " ++ words) old new refl (two r old (codes " ") mid words new one put)
