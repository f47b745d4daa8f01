-- The words of a command that a friendly script may spell in another way are read exactly as what they spell.
use Rattle.std.proofs.Common.{◌≡◌, ◌≢◌, ℕ, suc, ◌+◌, ◌-◌, ◌<◌, ◌≤◌, Bool, true, false, not, cond, eqb, leb, ltb, ◌&&◌, List, [], ◌∷◌, ◌++◌, length, get_or, take, Option, Some, None, ◌⊎◌, inl, inr, refl, sym, ap, subst, ◌∙◌, arith}
use Rattle.std.specs.Prelude.{codes, find, slice_index}
use Rattle.std.specs.Int.{w16, to_be_bytes, from_be_bytes}
use Rattle.std.specs.List.{list_all}
use Rattle.std.specs.Option.{option_or, option_map}
use Rattle.std.specs.Str.{bytes_eq}
use Rattle.std.proofs.lemmas.Bool.{eqb-true, leb-true, le-leb, ltb-false}
use Rattle.std.proofs.lemmas.Option.{same_Some, cond_some}
use Rattle.std.proofs.lemmas.List.{take_more, take_all, take-append-le, length-append}
use Rattle.std.proofs.lemmas.Slice.Eq.{bytes_eq-Decides}
use Rattle.rdm_profile.specs.declared.profile.own.ParameterDef.{ParameterDef}
use Rattle.rdm_frame.specs.DigitReading.{byte_in, bytes_in, number_in}
use Rattle.rdm_frame.proofs.NumberSpellings.{long, word_read, word_again}
use Rattle.rdm_script.specs.declared.dialect.Spelling.{Spelling}
use Rattle.rdm_script.specs.declared.dialect.Spelling.TheVariants.{Strict, Friendly}
use Rattle.rdm_script.specs.Decimals.{number_up_to}
use Rattle.rdm_table.specs.declared.kind.Kind.{Kind}
use Rattle.rdm_params.specs.Table.Kinds.{name_of, kinds, kind_named}
use Rattle.rdm_params.specs.Table.Names.{named_in, lent_names, other_names, pid_named}
use Rattle.rdm_script.specs.Grammar.{is_plain, sub_named, sub_in, own_named, pid_by_name, pid_in, bytes_load_in, is_shown, is_quoted, between, quoted_in, load_in}
use Rattle.rdm_script.specs.Spelling.{SpellsCount, SpellsSub, SpellsPid, SpellsQuoted, SpellsLoad}
use Rattle.rdm_script.proofs.DecimalSpellings.{number_read, number_again}
use Rattle.rdm_script.proofs.WordSpellings.{chosen, guarded, not_true, differs, data_read, data_again}

both : (x y : Bool) → (x && y) ≡ true → (x ≡ true) × (y ≡ true)
both true y h = (refl, h)
both false y h = absurd cc

-- which of two readings it is
first_or : {A : Type 0} (o p : Option A) (z : A) → option_or o p ≡ Some z → (o ≡ Some z) ⊎ (p ≡ Some z)
first_or None p z h = inr h
first_or (Some x) p z h = inl h

none_of : (o : Option ℕ) → ((n : ℕ) → o ≡ Some n → ⊥) → o ≡ None
none_of None h = refl
none_of (Some n) h = absurd (h n refl)

-- a number in hexadecimal digits has four of them
no_number : (text : List ℕ) → (length text ≡ 4 → ⊥) → number_in w16 text ≡ None
no_number text h = none_of (number_in w16 text) (λ n e. h (long text (to_be_bytes w16 n) (word_read text n e).1))

-- ---- sub-devices

one_of : (x y : Bool) → not (x && y) ≡ true → (x ≡ false) ⊎ (y ≡ false)
one_of false y h = inl refl
one_of true false h = inr refl
one_of true true h = absurd cc

not_both : (x y : Bool) → y ≡ false → (x && y) ≡ false
not_both false y h = refl
not_both true y h = h

plain_read : (text : List ℕ) → 0 < length text → not (ltb 1 (length text) && eqb (slice_index text 0) 48) ≡ true → (length text ≡ 1) ⊎ (slice_index text 0 ≢ 48)
plain_read text some h =
    elim (one_of (ltb 1 (length text)) (eqb (slice_index text 0) 48) h) [
      | inl short ↦ inl (let few : length text ≤ 1 = ltb-false _ _ short in omega (arith, some, few))
      | inr other ↦ inr (λ e. let same : eqb (slice_index text 0) 48 ≡ true = rw e refl in let never : true ≡ false = sym same ∙ other in cc)
    ]

plain_again : (text : List ℕ) → (length text ≡ 1) ⊎ (slice_index text 0 ≢ 48) → (ltb 1 (length text) && eqb (slice_index text 0) 48) ≡ false
plain_again text (inl h) = rw h refl
plain_again text (inr h) = not_both (ltb 1 (length text)) (eqb (slice_index text 0) 48) (not_true (eqb (slice_index text 0) 48) (λ e. h (eqb-true _ _ e)))

sub_named_read : (text : List ℕ) (n : ℕ) → sub_named text ≡ Some n → ((text ≡ codes "root") × (n ≡ 0)) ⊎ SpellsCount text n
unfolding sub_named
sub_named_read text n e =
    elim (chosen (bytes_eq text (codes "root")) (Some 0) (cond (is_plain text) (number_up_to 512 text) None) (Some n) e) [
      | inl h ↦ inl ((bytes_eq-Decides text (codes "root")).0 h.0, sym (same_Some 0 n h.1))
      | inr h ↦
          let g = guarded (is_plain text) (number_up_to 512 text) n h.1 in
          let p = both (leb (length text) 3) (not (ltb 1 (length text) && eqb (slice_index text 0) 48)) g.0 in
          let r = number_read 512 text n g.1 in
          inr (record { digits = r.0; at_most_three = leb-true _ _ p.0; plain = plain_read text r.0.digits.0 p.1; fits = r.1 })
    ]

sub_named_again : (text : List ℕ) (n : ℕ) → ((text ≡ codes "root") × (n ≡ 0)) ⊎ SpellsCount text n → sub_named text ≡ Some n
unfolding sub_named
sub_named_again text n (inl h) = rw (h.0, h.1) refl
sub_named_again text n (inr s) =
    rw (differs text (codes "root") (λ e. omega (arith, e, s.at_most_three)), le-leb (length text) 3 s.at_most_three, plain_again text s.plain) (number_again 512 text n s.digits s.fits)

-- the name of the root is no number
no_root : number_in w16 (codes "root") ≡ None
unfolding number_in byte_in
no_root = refl

sub_is_no_number : (text : List ℕ) (n : ℕ) → ((text ≡ codes "root") × (n ≡ 0)) ⊎ SpellsCount text n → number_in w16 text ≡ None
sub_is_no_number text n (inl h) = ap (number_in w16) h.0 ∙ no_root
sub_is_no_number text n (inr s) = no_number text (λ four. omega (arith, four, s.at_most_three))

pub sub_read : (spelling : Spelling) (text : List ℕ) (n : ℕ) → sub_in spelling text ≡ Some n → SpellsSub spelling text n
unfolding sub_in
sub_read Strict text n e = word_read text n e
sub_read Friendly text n e =
    elim (first_or (number_in w16 text) (sub_named text) n e) [
      | inl h ↦ inl (word_read text n h)
      | inr h ↦ inr (sub_named_read text n h)
    ]

pub sub_again : (spelling : Spelling) (text : List ℕ) (n : ℕ) → SpellsSub spelling text n → sub_in spelling text ≡ Some n
unfolding sub_in
sub_again Strict text n s = word_again text n s
sub_again Friendly text n (inl s) = rw (word_again text n s) refl
sub_again Friendly text n (inr s) = rw (sub_is_no_number text n s) (sub_named_again text n s)

-- ---- parameters

-- no name in these rows has four letters
abbrev are_long : List (ℕ × List ℕ) → Bool
are_long [] = true
are_long (row ∷ rows) = not (eqb (length row.1) 4) && are_long rows

not_in : (rows : List (ℕ × List ℕ)) → are_long rows ≡ true → (text : List ℕ) → length text ≡ 4 → named_in rows text ≡ None
not_in [] h text four = refl
not_in (row ∷ rows) h text four =
    let p = both (not (eqb (length row.1) 4)) (are_long rows) h in
    let other : bytes_eq text row.1 ≡ false = differs text row.1 (λ e. let is_four : not (eqb (length row.1) 4) ≡ false = rw (sym e ∙ four) refl in let never : true ≡ false = sym p.0 ∙ is_four in cc) in
    rw other (not_in rows p.1 text four)

-- no parameter of the table has a name of four letters
abbrev are_long_kinds : List Kind → Bool
are_long_kinds [] = true
are_long_kinds (k ∷ ks) = not (eqb (length (name_of k)) 4) && are_long_kinds ks

not_found : (ks : List Kind) → are_long_kinds ks ≡ true → (text : List ℕ) → length text ≡ 4 → find (λ k. bytes_eq (name_of k) text) ks ≡ None
not_found [] h text four = refl
not_found (k ∷ ks) h text four =
    let p = both (not (eqb (length (name_of k)) 4)) (are_long_kinds ks) h in
    let other : bytes_eq (name_of k) text ≡ false = differs (name_of k) text (λ e. let is_four : not (eqb (length (name_of k)) 4) ≡ false = rw (e ∙ four) refl in let never : true ≡ false = sym p.0 ∙ is_four in cc) in
    rw other (not_found ks p.1 text four)

no_kind : (text : List ℕ) → length text ≡ 4 → kind_named text ≡ None
unfolding kind_named
no_kind text four = not_found kinds refl text four

no_name : (text : List ℕ) → length text ≡ 4 → pid_named text ≡ None
unfolding pid_named
no_name text four = rw (no_kind text four) (rw (not_in other_names refl text four) (not_in lent_names refl text four))

pub pid_read : (spelling : Spelling) (own : List ParameterDef) (text : List ℕ) (n : ℕ) → pid_in spelling own text ≡ Some n → SpellsPid spelling own text n
unfolding pid_in
pid_read Strict own text n e = word_read text n e
pid_read Friendly own text n e =
    elim (first_or (number_in w16 text) (pid_by_name own text) n e) [
      | inl h ↦ inl (word_read text n h)
      | inr h ↦ inr h
    ]

-- a double quote is no digit
no_digits : (rest : List ℕ) → bytes_in (34 ∷ rest) ≡ None
unfolding byte_in
no_digits [] = refl
no_digits (b ∷ bs) = refl

none_if : (b : Bool) (o : Option ℕ) → o ≡ None → cond b o None ≡ None
none_if true o h = h
none_if false o h = refl

quote_is_no_number : (text : List ℕ) → slice_index text 0 ≡ 34 → number_in w16 text ≡ None
unfolding number_in
quote_is_no_number [] h = refl
quote_is_no_number (b ∷ rest) h =
    none_if _ _ (ap (option_map (from_be_bytes w16)) (ap (λ (x : ℕ). bytes_in (x ∷ rest)) h ∙ no_digits rest))

-- a name is no number, in double quotes or without them
no_number_at : (own : List ParameterDef) (text : List ℕ) (n : ℕ) (b : Bool) → is_quoted text ≡ b → cond b (own_named own (between text)) (pid_named text) ≡ Some n → number_in w16 text ≡ None
no_number_at own text n true q h =
    let p = both (leb 2 (length text)) (eqb (slice_index text 0) 34 && eqb (slice_index text (length text - 1)) 34) q in
    quote_is_no_number text (eqb-true _ _ (both (eqb (slice_index text 0) 34) (eqb (slice_index text (length text - 1)) 34) p.1).0)
no_number_at own text n false q h = no_number text (λ four. let never : None ≡ Some n = sym (no_name text four) ∙ h in cc)

name_is_no_number : (own : List ParameterDef) (text : List ℕ) (n : ℕ) → pid_by_name own text ≡ Some n → number_in w16 text ≡ None
unfolding pid_by_name
name_is_no_number own text n h = no_number_at own text n (is_quoted text) refl h

pub pid_again : (spelling : Spelling) (own : List ParameterDef) (text : List ℕ) (n : ℕ) → SpellsPid spelling own text n → pid_in spelling own text ≡ Some n
unfolding pid_in
pid_again Strict own text n s = word_again text n s
pid_again Friendly own text n (inl s) = rw (word_again text n s) refl
pid_again Friendly own text n (inr s) = rw (name_is_no_number own text n s) s

-- ---- data

-- what stands between two quotes
ends : (text : List ℕ) → 2 ≤ length text → slice_index text 0 ≡ 34 → slice_index text (length text - 1) ≡ 34 → text ≡ 34 ∷ (between text ++ 34 ∷ [])
ends [] two first last = absurd (omega (arith, two))
ends (c ∷ cs) two first last =
    let i = length cs - 1 in
    let lt : i < length cs = omega (arith, two) in
    let at_end : length (c ∷ cs) - 1 ≡ suc i = omega (arith, two) in
    let is_quote : get_or cs i 0 ≡ 34 = subst (λ (n : ℕ). get_or (c ∷ cs) n 0 ≡ 34) at_end last in
    let whole : take (i + 1) cs ≡ cs = take_all (i + 1) cs (omega (arith, two)) in
    let parts : cs ≡ take i cs ++ 34 ∷ [] = sym whole ∙ take_more cs i 0 lt ∙ ap (λ (x : ℕ). take i cs ++ x ∷ []) is_quote in
    let same : between (c ∷ cs) ≡ take i cs = ap (λ (n : ℕ). take n cs) (omega (arith, two)) in
    ap (λ (x : ℕ). x ∷ cs) first ∙ ap (λ (xs : List ℕ). 34 ∷ xs) (parts ∙ ap (λ (t : List ℕ). t ++ 34 ∷ []) (sym same))

quoted_read : (text load : List ℕ) → quoted_in text ≡ Some load → SpellsQuoted text load
unfolding quoted_in
quoted_read text load e =
    let shown = list_all is_shown (between text) && leb (length (between text)) 255 in
    let g = guarded (is_quoted text) (cond shown (Some (between text)) None) load e in
    let m = cond_some shown (between text) load g.1 in
    let p = both (leb 2 (length text)) (eqb (slice_index text 0) 34 && eqb (slice_index text (length text - 1)) 34) g.0 in
    let q = both (eqb (slice_index text 0) 34) (eqb (slice_index text (length text - 1)) 34) p.1 in
    let r = both (list_all is_shown (between text)) (leb (length (between text)) 255) m.0 in
    subst (λ (l : List ℕ). SpellsQuoted text l) m.1 (record { quoted = ends text (leb-true _ _ p.0) (eqb-true _ _ q.0) (eqb-true _ _ q.1); printable = r.0; fits = leb-true _ _ r.1 })

last_is : (load : List ℕ) → get_or (load ++ 34 ∷ []) (length load) 0 ≡ 34
last_is [] = refl
last_is (b ∷ bs) = last_is bs

length-quoted : (load : List ℕ) → length (load ++ 34 ∷ []) ≡ length load + 1
length-quoted load = length-append load (34 ∷ [])

is_quoted_so : (load : List ℕ) → is_quoted (34 ∷ (load ++ 34 ∷ [])) ≡ true
is_quoted_so load =
    let n = length-quoted load in
    let two : leb 2 (length (34 ∷ (load ++ 34 ∷ []))) ≡ true = le-leb 2 (length (34 ∷ (load ++ 34 ∷ []))) (omega (arith, n)) in
    let at_end : length (34 ∷ (load ++ 34 ∷ [])) - 1 ≡ suc (length load) = omega (arith, n) in
    let last : slice_index (34 ∷ (load ++ 34 ∷ [])) (length (34 ∷ (load ++ 34 ∷ [])) - 1) ≡ 34 = ap (slice_index (34 ∷ (load ++ 34 ∷ []))) at_end ∙ last_is load in
    rw (two, last) refl

between_so : (load : List ℕ) → between (34 ∷ (load ++ 34 ∷ [])) ≡ load
between_so load =
    let n = length-quoted load in
    let count : length (34 ∷ (load ++ 34 ∷ [])) - 1 - 1 ≡ length load = omega (arith, n) in
    ap (λ (k : ℕ). take k (load ++ 34 ∷ [])) count ∙ take-append-le (length load) load (34 ∷ []) (omega arith) ∙ take_all (length load) load (omega arith)

quoted_load : (load : List ℕ) → list_all is_shown load ≡ true → length load ≤ 255 → quoted_in (34 ∷ (load ++ 34 ∷ [])) ≡ Some load
unfolding quoted_in
quoted_load load shown fits = rw (is_quoted_so load, between_so load, shown, le-leb (length load) 255 fits) refl

-- a double quote is no digit
no_bytes : (load : List ℕ) → bytes_in (34 ∷ (load ++ 34 ∷ [])) ≡ None
unfolding byte_in
no_bytes [] = refl
no_bytes (b ∷ bs) = refl

either_none : (b : Bool) (o : Option (List ℕ)) → o ≡ None → cond b o None ≡ None
either_none true o h = h
either_none false o h = refl

no_data_at : (text : List ℕ) → bytes_eq text (codes "-") ≡ false → bytes_in text ≡ None → bytes_load_in text ≡ None
unfolding bytes_load_in
no_data_at text h k = rw h (either_none (leb (length text) 510) (bytes_in text) k)

no_data : (load : List ℕ) → bytes_load_in (34 ∷ (load ++ 34 ∷ [])) ≡ None
no_data load =
    let n = length-quoted load in
    no_data_at (34 ∷ (load ++ 34 ∷ [])) (differs (34 ∷ (load ++ 34 ∷ [])) (codes "-") (λ e. omega (arith, e, n))) (no_bytes load)

pub load_read : (spelling : Spelling) (text load : List ℕ) → load_in spelling text ≡ Some load → SpellsLoad spelling text load
unfolding load_in
load_read Strict text load e = data_read text load e
load_read Friendly text load e =
    elim (first_or (bytes_load_in text) (quoted_in text) load e) [
      | inl h ↦ inl (data_read text load h)
      | inr h ↦ inr (quoted_read text load h)
    ]

pub load_again : (spelling : Spelling) (text load : List ℕ) → SpellsLoad spelling text load → load_in spelling text ≡ Some load
unfolding load_in
load_again Strict text load s = data_again text load s
load_again Friendly text load (inl s) = rw (data_again text load s) refl
load_again Friendly text load (inr s) = rw (s.quoted, no_data load) (quoted_load load s.printable s.fits)
