-- What a table says that was written field by field.
use Rattle.std.proofs.Common.{◌≡◌, ℕ, suc, ◌≤◌, Bool, true, false, ◌&&◌, List, [], ◌∷◌, Option, Some, None, Ordering, Less, Equal, Greater, String, Global, nat_cmp, string_bytes, refl, sym, ap, ◌∙◌, arith}
use Rattle.std.proofs.lemmas.Cmp.{nat_list_cmp_total}
use Rattle.std.specs.Cmp.Lexicographic.{slice_cmp}
use Rattle.std.specs.Ordering.{match_ordering, ordering_reverse, is_eq}
use Rattle.std.proofs.lemmas.Map.Text.{is_eq-slice_cmp}
use Rattle.std.specs.List.{list_any}
use Rattle.std.specs.Str.{bytes_eq}
use Rattle.std.specs.String.{string_cmp}
use Rattle.std.specs.BTreeMap.{insert_entry}
use Rattle.toml.specs.Data.{Data, Members, no_members, member, get_member, members_depth, members_have_valid_dates, table}
use Rattle.toml.specs.View.{view, members_view}
use Rattle.toml.specs.declared.value.Value.{Value}
use Rattle.rdm_fixture_keys.specs.Keys.{has_only}
use Rattle.rdm_fixture.specs.Writing.{with_member, with_field, IsPlain}

abbrev pub Field : Type 0
Field = List ℕ × Option Data

-- the members, and the fields besides, of which the first was put last
abbrev pub members_on : Members → List Field → Members
members_on base [] = base
members_on base (f ∷ fs) = with_field f.0 f.1 (members_on base fs)

abbrev pub members_from : List Field → Members
members_from = members_on no_members

abbrev pub or_else : Option Data → Option Data → Option Data
or_else None o = o
or_else (Some d) o = Some d

-- what a key of them holds
abbrev pub find_on : Members → List ℕ → List Field → Option Data
find_on base k [] = get_member k base
find_on base k (f ∷ fs) = match_ordering (slice_cmp nat_cmp k f.0) (find_on base k fs) (or_else f.1 (find_on base k fs)) (find_on base k fs)

abbrev pub find_field : List ℕ → List Field → Option Data
find_field = find_on no_members

-- ---- one more member

match_members : (o : Ordering) (k : List ℕ) (a b c : Members) → get_member k (match_ordering o a b c) ≡ match_ordering o (get_member k a) (get_member k b) (get_member k c)
match_members Less k a b c = refl
match_members Equal k a b c = refl
match_members Greater k a b c = refl

apart : (o p : Ordering) (d e x : Option Data) → (p ≡ Equal → o ≡ Less) → match_ordering p (match_ordering o x d x) e (match_ordering o x d x) ≡ match_ordering o (match_ordering p x e x) d (match_ordering p x e x)
apart Less p d e x h = refl
apart Equal Less d e x h = refl
apart Equal Greater d e x h = refl
apart Equal Equal d e x h = absurd (let wrong : Equal ≡ Less = h refl in cc)
apart Greater Less d e x h = refl
apart Greater Greater d e x h = refl
apart Greater Equal d e x h = absurd (let wrong : Greater ≡ Less = h refl in cc)

before : (k l m : List ℕ) → slice_cmp nat_cmp l m ≡ Greater → slice_cmp nat_cmp k m ≡ Equal → slice_cmp nat_cmp k l ≡ Less
before k l m greater same =
    nat_list_cmp_total.congr k m l same ∙ nat_list_cmp_total.antisymm m l ∙ ap ordering_reverse greater

replaced : (o : Ordering) (d e x : Option Data) → match_ordering o x d x ≡ match_ordering o (match_ordering o x e x) d (match_ordering o x e x)
replaced Less d e x = refl
replaced Equal d e x = refl
replaced Greater d e x = refl

same_place : (k l m : List ℕ) → slice_cmp nat_cmp l m ≡ Equal → slice_cmp nat_cmp k l ≡ slice_cmp nat_cmp k m
same_place k l m same =
    nat_list_cmp_total.antisymm k l ∙ ap ordering_reverse (nat_list_cmp_total.congr l m k same) ∙ sym (nat_list_cmp_total.antisymm k m)

found_at : (o : Ordering) (k l m : List ℕ) (d e : Data) (ms : Members) → slice_cmp nat_cmp l m ≡ o
    → get_member k (with_member l d ms) ≡ match_ordering (slice_cmp nat_cmp k l) (get_member k ms) (Some d) (get_member k ms)
    → get_member k (match_ordering o (member l d (member m e ms)) (member m d ms) (member m e (with_member l d ms)))
    ≡ match_ordering (slice_cmp nat_cmp k l) (get_member k (member m e ms)) (Some d) (get_member k (member m e ms))
found_at Less k l m d e ms is more = refl
found_at Equal k l m d e ms is more =
    rw (same_place k l m is) (replaced (slice_cmp nat_cmp k m) (Some d) (Some e) (get_member k ms))
found_at Greater k l m d e ms is more =
    rw more (apart (slice_cmp nat_cmp k l) (slice_cmp nat_cmp k m) (Some d) (Some e) (get_member k ms) (before k l m is))

get_with_member : (k l : List ℕ) (d : Data) (ms : Members)
    → get_member k (with_member l d ms) ≡ match_ordering (slice_cmp nat_cmp k l) (get_member k ms) (Some d) (get_member k ms)
get_with_member k l d no_members = refl
get_with_member k l d (member m e ms) = found_at (slice_cmp nat_cmp l m) k l m d e ms refl (get_with_member k l d ms)

either : (o : Ordering) (x : Option Data) → x ≡ match_ordering o x x x
either Less x = refl
either Equal x = refl
either Greater x = refl

get_with_field : (k l : List ℕ) (o : Option Data) (ms : Members)
    → get_member k (with_field l o ms) ≡ match_ordering (slice_cmp nat_cmp k l) (get_member k ms) (or_else o (get_member k ms)) (get_member k ms)
get_with_field k l None ms = either (slice_cmp nat_cmp k l) (get_member k ms)
get_with_field k l (Some d) ms = get_with_member k l d ms

pub get_on : (base : Members) (k : List ℕ) (fs : List Field) → get_member k (members_on base fs) ≡ find_on base k fs
get_on base k [] = refl
get_on base k (f ∷ fs) = rw (get_with_field k f.0 f.1 (members_on base fs), get_on base k fs) refl

pub get_from : (k : List ℕ) (fs : List Field) → get_member k (members_from fs) ≡ find_field k fs
get_from k fs = get_on no_members k fs

-- ---- the keys

and_swap : (a b c : Bool) → (a && (b && c)) ≡ (b && (a && c))
and_swap true b c = refl
and_swap false true c = refl
and_swap false false c = refl

pub and_two : (a b : Bool) → a ≡ true → b ≡ true → (a && b) ≡ true
and_two true b p q = q
and_two false b p q = p

pub first_true : (a b : Bool) → (a && b) ≡ true → a ≡ true
first_true true b h = refl
first_true false b h = h

pub second_true : (a b : Bool) → (a && b) ≡ true → b ≡ true
second_true true b h = h
second_true false b h = absurd (cc)

only_at : (o : Ordering) (keys : List (List ℕ)) (l m : List ℕ) (d e : Data) (ms : Members)
    → list_any (bytes_eq l) keys ≡ true → has_only keys (member m e ms) ≡ true → has_only keys (with_member l d ms) ≡ true
    → has_only keys (match_ordering o (member l d (member m e ms)) (member m d ms) (member m e (with_member l d ms))) ≡ true
only_at Less keys l m d e ms here rest more = and_two _ _ here rest
only_at Equal keys l m d e ms here rest more = rest
only_at Greater keys l m d e ms here rest more = and_two _ _ (first_true _ _ rest) more

only_with_member : (keys : List (List ℕ)) (l : List ℕ) (d : Data) (ms : Members)
    → list_any (bytes_eq l) keys ≡ true → has_only keys ms ≡ true → has_only keys (with_member l d ms) ≡ true
only_with_member keys l d no_members here rest = and_two _ _ here refl
only_with_member keys l d (member m e ms) here rest =
    only_at (slice_cmp nat_cmp l m) keys l m d e ms here rest (only_with_member keys l d ms here (second_true _ _ rest))

only_with_field : (keys : List (List ℕ)) (l : List ℕ) (o : Option Data) (ms : Members)
    → list_any (bytes_eq l) keys ≡ true → has_only keys ms ≡ true → has_only keys (with_field l o ms) ≡ true
only_with_field keys l None ms here rest = rest
only_with_field keys l (Some d) ms here rest = only_with_member keys l d ms here rest

-- each field has one of the keys
abbrev pub named : List (List ℕ) → List Field → Bool
named keys [] = true
named keys (f ∷ fs) = list_any (bytes_eq f.0) keys && named keys fs

pub only_on : (keys : List (List ℕ)) (base : Members) (fs : List Field) → has_only keys base ≡ true → named keys fs ≡ true → has_only keys (members_on base fs) ≡ true
only_on keys base [] rest h = rest
only_on keys base (f ∷ fs) rest h =
    only_with_field keys f.0 f.1 (members_on base fs) (first_true _ _ h) (only_on keys base fs rest (second_true _ _ h))

pub only_from : (keys : List (List ℕ)) (fs : List Field) → named keys fs ≡ true → has_only keys (members_from fs) ≡ true
only_from keys fs h = only_on keys no_members fs refl h

-- keys of which one is in the list and the other isn't differ
same_any : (k l : List ℕ) (keys : List (List ℕ)) → slice_cmp nat_cmp k l ≡ Equal → list_any (bytes_eq k) keys ≡ list_any (bytes_eq l) keys
same_any k l [] same = refl
same_any k l (m ∷ keys) same =
    let here : bytes_eq k m ≡ bytes_eq l m = sym (is_eq-slice_cmp k m) ∙ ap is_eq (nat_list_cmp_total.congr k l m same) ∙ is_eq-slice_cmp l m in
    rw (here, same_any k l keys same) refl

-- a key that is none of these isn't there
absent_at : (o : Ordering) (k l : List ℕ) (keys : List (List ℕ)) (d : Data) (x : Option Data) → slice_cmp nat_cmp k l ≡ o
    → list_any (bytes_eq l) keys ≡ true → list_any (bytes_eq k) keys ≡ false → x ≡ None → match_ordering o x (Some d) x ≡ None
absent_at Less k l keys d x is here none rest = rest
absent_at Greater k l keys d x is here none rest = rest
absent_at Equal k l keys d x is here none rest =
    let there : list_any (bytes_eq k) keys ≡ true = same_any k l keys is ∙ here in absurd (cc)

pub absent : (keys : List (List ℕ)) (k : List ℕ) (ms : Members) → has_only keys ms ≡ true → list_any (bytes_eq k) keys ≡ false → get_member k ms ≡ None
absent keys k no_members only none = refl
absent keys k (member l d ms) only none =
    absent_at (slice_cmp nat_cmp k l) k l keys d (get_member k ms) refl (first_true _ _ only) none (absent keys k ms (second_true _ _ only) none)

-- ---- how deep they are

-- each value of the fields nests at most n deep, and has no date that can't be written
abbrev pub ArePlain : ℕ → List Field → Type 0
ArePlain n [] = Unit {0}
ArePlain n ((k, None) ∷ fs) = ArePlain n fs
ArePlain n ((k, Some d) ∷ fs) = IsPlain n d × ArePlain n fs

record PlainMembers (n : ℕ) (ms : Members) : Type 0 where
  shallow : members_depth ms ≤ n
  dates : members_have_valid_dates ms ≡ true

plain_at : (o : Ordering) (n : ℕ) (l m : List ℕ) (d e : Data) (ms : Members)
    → IsPlain n d → PlainMembers n (member m e ms) → PlainMembers n (with_member l d ms)
    → PlainMembers n (match_ordering o (member l d (member m e ms)) (member m d ms) (member m e (with_member l d ms)))
plain_at Less n l m d e ms here rest more = record { shallow = omega (arith, here.shallow, rest.shallow); dates = and_two _ _ here.dates rest.dates }
plain_at Equal n l m d e ms here rest more = record { shallow = omega (arith, here.shallow, rest.shallow); dates = and_two _ _ here.dates (second_true _ _ rest.dates) }
plain_at Greater n l m d e ms here rest more = record { shallow = omega (arith, more.shallow, rest.shallow); dates = and_two _ _ (first_true _ _ rest.dates) more.dates }

rest_plain : (n : ℕ) (m : List ℕ) (e : Data) (ms : Members) → PlainMembers n (member m e ms) → PlainMembers n ms
rest_plain n m e ms rest = record { shallow = omega (arith, rest.shallow); dates = second_true _ _ rest.dates }

plain_with_member : (n : ℕ) (l : List ℕ) (d : Data) (ms : Members) → IsPlain n d → PlainMembers n ms → PlainMembers n (with_member l d ms)
plain_with_member n l d no_members here rest = record { shallow = omega (arith, here.shallow); dates = and_two _ _ here.dates refl }
plain_with_member n l d (member m e ms) here rest =
    plain_at (slice_cmp nat_cmp l m) n l m d e ms here rest (plain_with_member n l d ms here (rest_plain n m e ms rest))

plain_members : (n : ℕ) (base : Members) (fs : List Field) → PlainMembers n base → ArePlain n fs → PlainMembers n (members_on base fs)
plain_members n base [] rest h = rest
plain_members n base ((k, None) ∷ fs) rest h = plain_members n base fs rest h
plain_members n base ((k, Some d) ∷ fs) rest h = plain_with_member n k d (members_on base fs) h.0 (plain_members n base fs rest h.1)

pub plain_on : (n : ℕ) (base : Members) (fs : List Field) → IsPlain (suc n) (table base) → ArePlain n fs → IsPlain (suc n) (table (members_on base fs))
plain_on n base fs rest h =
    let is = plain_members n base fs (record { shallow = omega (arith, rest.shallow); dates = rest.dates }) h in
    record { shallow = omega (arith, is.shallow); dates = is.dates }

pub plain_from : (n : ℕ) (fs : List Field) → ArePlain n fs → IsPlain (suc n) (table (members_from fs))
plain_from n fs h = plain_on n no_members fs (record { shallow = omega arith; dates = refl }) h

-- ---- the map

match_entries : (o : Ordering) (a b c : List (String Global × Value)) → members_view (match_ordering o a b c) ≡ match_ordering o (members_view a) (members_view b) (members_view c)
match_entries Less a b c = refl
match_entries Equal a b c = refl
match_entries Greater a b c = refl

pub members_view-insert_entry : (es : List (String Global × Value)) (k : String Global) (v : Value)
    → members_view (insert_entry string_cmp es k v) ≡ with_member (string_bytes k) (view v) (members_view es)
members_view-insert_entry [] k v = refl
members_view-insert_entry (e ∷ es) k v = match_entries (string_cmp k e.0) _ _ _ ∙ rw (members_view-insert_entry es k v) refl
