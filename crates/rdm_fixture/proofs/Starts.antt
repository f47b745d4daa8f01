-- What the table of a parameter says of its data, and what is written of them.
use Rattle.std.proofs.Common.{◌≡◌, ℕ, ◌*◌, ◌/◌, ◌%◌, ◌<◌, ◌≤◌, ℤ, pos, int_le, Bool, true, false, ◌&&◌, ◌==◌, List, [], ◌∷◌, length, map, Option, Some, None, option_map, option_and_then, IsTrue, refl, sym, ap, subst, ◌∙◌, arith, zero, suc, nat_le, if◌then◌else◌, codes}
use Rattle.std.specs.Prelude.{slice_index}
use Rattle.std.specs.Int.{w8, w16, w32, cast_signed, from_be_bytes}
use Rattle.std.specs.Option.{option_map_or}
use Rattle.std.specs.List.{AllByRecursion}
use Rattle.std.specs.Str.{bytes_eq, IsAscii}
use Rattle.std.specs.Str.Lossy.{utf8_lossy}
use Rattle.std.proofs.lemmas.Bool.{and_parts, leb-true, le-leb, eqb-true}
use Rattle.std.proofs.lemmas.Bool.Decides.{nat_tests}
use Rattle.std.proofs.lemmas.List.Concat.{flat_map-cons}
use Rattle.std.proofs.lemmas.Option.{same_Some}
use Rattle.std.proofs.lemmas.Slice.Eq.{bytes_eq-Decides}
use Rattle.std.proofs.lemmas.Str.{IsUtf8-from_ascii, utf8_lossy-IsUtf8}
use Rattle.rdm_frame.specs.Digits.{digit, digits, upper}
use Rattle.rdm_frame.specs.DigitReading.{bytes_in}
use Rattle.rdm_frame.proofs.NumberSpellings.{long}
use Rattle.rdm_frame.proofs.Spellings.{bytes_read, bytes_again}
use Rattle.rdm_profile.specs.declared.profile.fields.Field.{Field}
use Rattle.rdm_profile.specs.declared.profile.own.ParameterDef.{ParameterDef}
use Rattle.rdm_profile.specs.declared.profile.own.Rights.{Rights}
use Rattle.rdm_profile.specs.declared.profile.own.Rights.TheVariants as rights
use Rattle.rdm_profile.specs.declared.profile.own.Shape.{Shape}
use Rattle.rdm_profile.specs.declared.profile.own.Shape.TheVariants as shapes
use Rattle.rdm_profile.specs.Forms.{has_length, value_in, has_form}
use Rattle.rdm_profile.specs.Fields.{says}
use Rattle.rdm_profile.specs.OwnParameters.{form_of, number_in, can_start}
use Rattle.toml.specs.Data.{Data, string, integer, float, boolean, datetime, array, table}
use Rattle.rdm_fixture.specs.Describable.{are_printable, can_stand}
use Rattle.rdm_fixture_keys.specs.Keys.{must}
use Rattle.rdm_fixture_keys.specs.Values.{integer_from, text, is_text}
use Rattle.rdm_fixture.specs.Parameters.{command_class, shape_named, data_type, slots_of, number_slots, spelled, start}
use Rattle.rdm_fixture.specs.Writing.{rights_name, shape_name, written_slots}
use Rattle.rdm_fixture.proofs.NumberSlots.{integer_again, can_be, can_be_of, IsBytes, number_said, said_within, slots_again, tested, never_some, parts_of}
use Rattle.rdm_fixture.proofs.Texts.{ascii}

-- ---- how many slots

-- bits and data of no type have as many
abbrev pub IsSized : ℕ → Shape → Type 0
IsSized slots (shapes.Bits n) = n ≡ slots
IsSized slots (shapes.Slots n) = n ≡ slots
IsSized slots _ = Unit {0}

named_shape : (slots : ℕ) (a b c d e f g h i j k l m n o p : Bool) (s : Shape)
    → (if a then Some shapes.Byte else (if b then Some shapes.SignedByte else (if c then Some shapes.Word else (if d then Some shapes.SignedWord else
    (if e then Some shapes.Long else (if f then Some shapes.SignedLong else (if g then Some shapes.Text else (if h then Some (shapes.Bits slots) else
    (if i then Some (shapes.Slots slots) else (if j then Some shapes.Choice else (if k then Some shapes.Names else (if l then Some shapes.Rates else
    (if m then Some shapes.Scenes else (if n then Some shapes.Lock else (if o then Some shapes.Pin else (if p then Some shapes.Block else
    None)))))))))))))))) ≡ Some s → IsSized slots s
named_shape slots true b c d e f g h i j k l m n o p s is = subst (IsSized slots) (same_Some shapes.Byte s is) tt
named_shape slots false true c d e f g h i j k l m n o p s is = subst (IsSized slots) (same_Some shapes.SignedByte s is) tt
named_shape slots false false true d e f g h i j k l m n o p s is = subst (IsSized slots) (same_Some shapes.Word s is) tt
named_shape slots false false false true e f g h i j k l m n o p s is = subst (IsSized slots) (same_Some shapes.SignedWord s is) tt
named_shape slots false false false false true f g h i j k l m n o p s is = subst (IsSized slots) (same_Some shapes.Long s is) tt
named_shape slots false false false false false true g h i j k l m n o p s is = subst (IsSized slots) (same_Some shapes.SignedLong s is) tt
named_shape slots false false false false false false true h i j k l m n o p s is = subst (IsSized slots) (same_Some shapes.Text s is) tt
named_shape slots false false false false false false false true i j k l m n o p s is = subst (IsSized slots) (same_Some (shapes.Bits slots) s is) refl
named_shape slots false false false false false false false false true j k l m n o p s is = subst (IsSized slots) (same_Some (shapes.Slots slots) s is) refl
named_shape slots false false false false false false false false false true k l m n o p s is = subst (IsSized slots) (same_Some shapes.Choice s is) tt
named_shape slots false false false false false false false false false false true l m n o p s is = subst (IsSized slots) (same_Some shapes.Names s is) tt
named_shape slots false false false false false false false false false false false true m n o p s is = subst (IsSized slots) (same_Some shapes.Rates s is) tt
named_shape slots false false false false false false false false false false false false true n o p s is = subst (IsSized slots) (same_Some shapes.Scenes s is) tt
named_shape slots false false false false false false false false false false false false false true o p s is = subst (IsSized slots) (same_Some shapes.Lock s is) tt
named_shape slots false false false false false false false false false false false false false false true p s is = subst (IsSized slots) (same_Some shapes.Pin s is) tt
named_shape slots false false false false false false false false false false false false false false false true s is = subst (IsSized slots) (same_Some shapes.Block s is) tt
named_shape slots false false false false false false false false false false false false false false false false s is = absurd (cc)

pub sized : (slots : ℕ) (found : Option Data) (s : Shape) → must (data_type slots) found ≡ Some s → IsSized slots s
sized slots None s h = absurd (cc)
sized slots (Some (string name)) s h = named_shape slots _ _ _ _ _ _ _ _ _ _ _ _ _ _ _ _ s h
sized slots (Some (integer z)) s h = absurd (cc)
sized slots (Some (float f)) s h = absurd (cc)
sized slots (Some (boolean b)) s h = absurd (cc)
sized slots (Some (datetime dt)) s h = absurd (cc)
sized slots (Some (array ds)) s h = absurd (cc)
sized slots (Some (table t)) s h = absurd (cc)

not_true : (b : Bool) → (b ≡ true → ⊥) → b ≡ false
not_true true h = absurd (h refl)
not_true false h = refl

differs : (s t : List ℕ) → (s ≡ t → ⊥) → bytes_eq s t ≡ false
differs s t h = not_true (bytes_eq s t) (λ e. h ((bytes_eq-Decides s t).0 e))

-- no other word is the name of a type
pub no_shape : (slots : ℕ) (s : List ℕ) → (s ≡ codes "unsigned_byte" → ⊥) → (s ≡ codes "signed_byte" → ⊥) → (s ≡ codes "unsigned_word" → ⊥)
    → (s ≡ codes "signed_word" → ⊥) → (s ≡ codes "unsigned_dword" → ⊥) → (s ≡ codes "signed_dword" → ⊥) → (s ≡ codes "ascii" → ⊥)
    → (s ≡ codes "bit_field" → ⊥) → (s ≡ codes "not_defined" → ⊥) → (s ≡ codes "choice" → ⊥) → (s ≡ codes "names" → ⊥) → (s ≡ codes "rates" → ⊥)
    → (s ≡ codes "scenes" → ⊥) → (s ≡ codes "lock" → ⊥) → (s ≡ codes "pin" → ⊥) → (s ≡ codes "block" → ⊥)
    → shape_named slots s ≡ None
no_shape slots s a b c d e f g h i j k l m n o p =
    rw (differs s _ a, differs s _ b, differs s _ c, differs s _ d, differs s _ e, differs s _ f, differs s _ g, differs s _ h, differs s _ i, differs s _ j, differs s _ k, differs s _ l, differs s _ m, differs s _ n, differs s _ o, differs s _ p) refl

pub type_again : (slots : ℕ) (s : Shape) → IsSized slots s → data_type slots (string (shape_name s)) ≡ Some s
type_again slots shapes.Byte h = refl
type_again slots shapes.SignedByte h = refl
type_again slots shapes.Word h = refl
type_again slots shapes.SignedWord h = refl
type_again slots shapes.Long h = refl
type_again slots shapes.SignedLong h = refl
type_again slots shapes.Text h = refl
type_again slots (shapes.Bits n) h = ap (λ (m : ℕ). Some (shapes.Bits m)) (sym h)
type_again slots (shapes.Slots n) h = ap (λ (m : ℕ). Some (shapes.Slots m)) (sym h)
type_again slots shapes.Choice h = refl
type_again slots shapes.Names h = refl
type_again slots shapes.Rates h = refl
type_again slots shapes.Block h = refl
type_again slots shapes.Scenes h = refl
type_again slots shapes.Lock h = refl
type_again slots shapes.Pin h = refl

pub rights_again : (r : Rights) → command_class (string (rights_name r)) ≡ Some r
rights_again rights.Get = refl
rights_again rights.Set = refl
rights_again rights.Both = refl
rights_again rights.Clear = refl

-- ---- slots in digits

unless_long : (b : Bool) (o : Option (List ℕ)) (xs : List ℕ) → (if b then o else None) ≡ Some xs → (b ≡ true) × (o ≡ Some xs)
unless_long true o xs h = (refl, h)
unless_long false o xs h = absurd (cc)

pub spelled_slots : (d : Data) (xs : List ℕ) → spelled d ≡ Some xs → (slots_of (Some d) ≡ length xs) × (length xs ≤ 32)
spelled_slots (string s) xs h =
    let (few, is) = unless_long (nat_le (length s) 64) (bytes_in s) xs h in
    let most : length s ≤ 64 = leb-true (length s) 64 few in
    let twice : length s ≡ 2 * length xs = long s xs (bytes_read s xs is) in
    (omega (arith, twice, most), omega (arith, twice, most))
spelled_slots (integer z) xs h = absurd (cc)
spelled_slots (float f) xs h = absurd (cc)
spelled_slots (boolean b) xs h = absurd (cc)
spelled_slots (datetime dt) xs h = absurd (cc)
spelled_slots (array ds) xs h = absurd (cc)
spelled_slots (table t) xs h = absurd (cc)

abbrev IsByte : ℕ → Type 0
IsByte byte = byte < 256

each_fits : (xs : List ℕ) → IsBytes xs → AllByRecursion IsByte xs
each_fits [] fits = tt
each_fits (x ∷ xs) fits = (fits 0, each_fits xs (λ i. fits (suc i)))

digits-cons : (byte : ℕ) (bytes : List ℕ) → digits (byte ∷ bytes) ≡ digit (byte / 16) ∷ digit (byte % 16) ∷ digits bytes
digits-cons byte bytes = flat_map-cons (λ (b : ℕ). digit (b / 16) ∷ digit (b % 16) ∷ []) byte bytes

upper_digit : (n : ℕ) → n < 16 → upper (digit n) ≡ digit n
upper_digit n h = grind (arith, nat_tests)

upper_digits : (bytes : List ℕ) → AllByRecursion IsByte bytes → map upper (digits bytes) ≡ digits bytes
upper_digits [] fits = refl
upper_digits (b ∷ bs) fits =
    ap (map upper) (digits-cons b bs) ∙ rw (upper_digit (b / 16) (omega (arith, fits.0)), upper_digit (b % 16) (omega arith), upper_digits bs fits.1) refl
    ∙ sym (digits-cons b bs)

length-digits : (bytes : List ℕ) → length (digits bytes) ≡ 2 * length bytes
length-digits [] = refl
length-digits (b ∷ bs) = ap length (digits-cons b bs) ∙ (let rest : length (digits bs) ≡ 2 * length bs = length-digits bs in omega (arith, rest))

small_digit : (n : ℕ) → n < 16 → digit n < 128
small_digit n h = grind (arith, nat_tests)

two_ascii : (a b : ℕ) (s : List ℕ) → a < 128 → b < 128 → IsAscii s → IsAscii (a ∷ b ∷ s)
two_ascii a b s first second rest zero = first
two_ascii a b s first second rest (suc zero) = second
two_ascii a b s first second rest (suc (suc i)) = rest i

ascii_digits : (bytes : List ℕ) → AllByRecursion IsByte bytes → IsAscii (digits bytes)
ascii_digits [] fits = ascii [] refl
ascii_digits (b ∷ bs) fits =
    subst IsAscii (sym (digits-cons b bs))
    (two_ascii (digit (b / 16)) (digit (b % 16)) (digits bs) (small_digit (b / 16) (omega (arith, fits.0))) (small_digit (b % 16) (omega arith)) (ascii_digits bs fits.1))

digits_written : (bytes : List ℕ) → IsBytes bytes → utf8_lossy (digits bytes) ≡ digits bytes
digits_written bytes fits = utf8_lossy-IsUtf8 (digits bytes) (IsUtf8-from_ascii (digits bytes) (ascii_digits bytes (each_fits bytes fits)))

digits_spell : (bytes : List ℕ) → IsBytes bytes → length bytes ≤ 32 → spelled (string (digits bytes)) ≡ Some bytes
digits_spell bytes fits few =
    let each = each_fits bytes fits in
    let short : length (digits bytes) ≤ 64 = omega (arith, length-digits bytes, few) in
    rw (le-leb (length (digits bytes)) 64 short) (bytes_again (digits bytes) bytes (record { printed = upper_digits bytes each; fits = each }))

-- ---- what a table says that the data start with

text_if : (b : Bool) (s xs : List ℕ) → (if b then Some s else None) ≡ Some xs → (b ≡ true) × (s ≡ xs)
text_if true s xs h = (refl, same_Some s xs h)
text_if false s xs h = absurd (cc)

-- a text that is said is printable
text_stands : (d : Data) (xs : List ℕ) → text d ≡ Some xs → IsTrue (are_printable xs)
text_stands (string s) xs h =
    let (is, same) = text_if (is_text s) s xs h in
    ap are_printable (sym same) ∙ (and_parts (nat_le (length s) 32) (are_printable s) is).1
text_stands (integer z) xs h = absurd (cc)
text_stands (float f) xs h = absurd (cc)
text_stands (boolean b) xs h = absurd (cc)
text_stands (datetime dt) xs h = absurd (cc)
text_stands (array ds) xs h = absurd (cc)
text_stands (table t) xs h = absurd (cc)

pub stands : (s : Shape) (low high : ℤ) (d : Data) (xs : List ℕ) → start s low high d ≡ Some xs → can_stand s xs ≡ true
stands shapes.Text low high d xs h = text_stands d xs h
stands shapes.Byte low high d xs h = refl
stands shapes.SignedByte low high d xs h = refl
stands shapes.Word low high d xs h = refl
stands shapes.SignedWord low high d xs h = refl
stands shapes.Long low high d xs h = refl
stands shapes.SignedLong low high d xs h = refl
stands (shapes.Bits n) low high d xs h = refl
stands (shapes.Slots n) low high d xs h = refl
stands shapes.Choice low high d xs h = refl
stands shapes.Names low high d xs h = refl
stands shapes.Rates low high d xs h = refl
stands shapes.Block low high d xs h = refl
stands shapes.Scenes low high d xs h = refl
stands shapes.Lock low high d xs h = refl
stands shapes.Pin low high d xs h = refl

-- ---- what is written of what they start with

-- data that can be started with have their length
long_enough : (s : Shape) (low high : ℤ) (fs : List Field) (xs : List ℕ) → can_be s low high fs xs ≡ true → has_length (form_of s) (length xs) ≡ true
long_enough s low high fs xs can =
    (tested (has_length (form_of s) (length xs)) (value_in (form_of s) xs)
    (λ v. option_map_or (λ n. int_le low n && int_le n high) (number_in s v) (has_form (form_of s) v && says fs v)) can).0

-- as many slots as are written
pub start_sized : (s : Shape) (low high : ℤ) (fs : List Field) (d : Data) (xs : List ℕ) → start s low high d ≡ Some xs → can_be s low high fs xs ≡ true → IsSized (slots_of (Some d)) s
start_sized shapes.Byte low high fs d xs h can = tt
start_sized shapes.SignedByte low high fs d xs h can = tt
start_sized shapes.Word low high fs d xs h can = tt
start_sized shapes.SignedWord low high fs d xs h can = tt
start_sized shapes.Long low high fs d xs h can = tt
start_sized shapes.SignedLong low high fs d xs h can = tt
start_sized shapes.Text low high fs d xs h can = tt
start_sized shapes.Choice low high fs d xs h can = tt
start_sized shapes.Names low high fs d xs h can = tt
start_sized shapes.Rates low high fs d xs h can = tt
start_sized shapes.Block low high fs d xs h can = tt
start_sized shapes.Scenes low high fs d xs h can = tt
start_sized shapes.Lock low high fs d xs h can = tt
start_sized shapes.Pin low high fs d xs h can = tt
start_sized (shapes.Bits n) low high fs d xs h can =
    let is : ((length xs == n) && nat_le (length xs) 32) ≡ true = long_enough (shapes.Bits n) low high fs xs can in
    let (long, few) = and_parts (length xs == n) (nat_le (length xs) 32) is in
    sym (eqb-true (length xs) n long) ∙ sym (spelled_slots d xs h).0
start_sized (shapes.Slots n) low high fs d xs h can =
    let is : ((length xs == n) && nat_le (length xs) 32) ≡ true = long_enough (shapes.Slots n) low high fs xs can in
    let (long, few) = and_parts (length xs == n) (nat_le (length xs) 32) is in
    sym (eqb-true (length xs) n long) ∙ sym (spelled_slots d xs h).0

-- a number is written as the one that the data say
number_again : (s : Shape) (low high z : ℤ) (fs : List Field) (xs : List ℕ) → start s low high (integer z) ≡ option_map (number_slots s) (integer_from low high (integer z))
    → IsBytes xs → number_said s xs ≡ Some z → can_be s low high fs xs ≡ true → start s low high (integer z) ≡ Some xs
number_again s low high z fs xs is fits said can =
    let (a, b) = and_parts _ _ (said_within s low high z fs xs said can) in
    is ∙ ap (option_map (number_slots s)) (integer_again low high z a b) ∙ ap (λ (ys : List ℕ). Some ys) (slots_again s z xs fits said)

pub number_written : (s : Shape) (low high z : ℤ) (fs : List Field) (xs : List ℕ) → IsBytes xs → number_said s xs ≡ Some z → can_be s low high fs xs ≡ true
    → start s low high (integer z) ≡ Some xs
number_written shapes.Byte low high z fs xs fits said can = number_again shapes.Byte low high z fs xs refl fits said can
number_written shapes.SignedByte low high z fs xs fits said can = number_again shapes.SignedByte low high z fs xs refl fits said can
number_written shapes.Word low high z fs xs fits said can = number_again shapes.Word low high z fs xs refl fits said can
number_written shapes.SignedWord low high z fs xs fits said can = number_again shapes.SignedWord low high z fs xs refl fits said can
number_written shapes.Long low high z fs xs fits said can = number_again shapes.Long low high z fs xs refl fits said can
number_written shapes.SignedLong low high z fs xs fits said can = number_again shapes.SignedLong low high z fs xs refl fits said can
number_written shapes.Choice low high z fs xs fits said can = number_again shapes.Choice low high z fs xs refl fits said can
number_written shapes.Lock low high z fs xs fits said can = number_again shapes.Lock low high z fs xs refl fits said can
number_written shapes.Pin low high z fs xs fits said can = number_again shapes.Pin low high z fs xs refl fits said can
number_written shapes.Names low high z fs xs fits said can = absurd (never_some z (parts_of shapes.Names xs z said).1)
number_written shapes.Rates low high z fs xs fits said can = absurd (never_some z (parts_of shapes.Rates xs z said).1)
number_written shapes.Block low high z fs xs fits said can = absurd (never_some z (parts_of shapes.Block xs z said).1)
number_written shapes.Scenes low high z fs xs fits said can = absurd (never_some z (parts_of shapes.Scenes xs z said).1)
number_written shapes.Text low high z fs xs fits said can = absurd (never_some z (parts_of shapes.Text xs z said).1)
number_written (shapes.Bits n) low high z fs xs fits said can = absurd (never_some z (parts_of (shapes.Bits n) xs z said).1)
number_written (shapes.Slots n) low high z fs xs fits said can = absurd (never_some z (parts_of (shapes.Slots n) xs z said).1)

-- a number is said where data have the length of one
some_said : (s : Shape) (xs : List ℕ) (z : ℤ) → has_length (form_of s) (length xs) ≡ true → number_in s (value_in (form_of s) xs) ≡ Some z → number_said s xs ≡ Some z
some_said s xs z long value = ap (λ (b : Bool). option_and_then (number_in s) (if b then Some (value_in (form_of s) xs) else None)) long ∙ value

never : (s : Shape) (xs : List ℕ) (z : ℤ) → number_said s xs ≡ Some z → number_said s xs ≡ None → ⊥
never s xs z some none = never_some z (sym none ∙ some)

text_again : (s : List ℕ) → length s ≤ 32 → IsTrue (are_printable s) → text (string s) ≡ Some s
text_again s fits h = rw (le-leb (length s) 32 fits, h) refl

spelled_again : (xs t : List ℕ) → IsBytes xs → length xs ≤ 32 → t ≡ utf8_lossy (digits xs) → spelled (string t) ≡ Some xs
spelled_again xs t fits few e = subst (λ (u : List ℕ). spelled (string u) ≡ Some xs) (sym (e ∙ digits_written xs fits)) (digits_spell xs fits few)

no_slots : (xs : List ℕ) → (length xs == 0) ≡ true → length xs ≤ 32
no_slots xs h = let none : length xs ≡ 0 = eqb-true (length xs) 0 h in omega (arith, none)

-- all else is written as a text, or in digits
pub slots_written : (s : Shape) (low high : ℤ) (fs : List Field) (xs t : List ℕ) → IsBytes xs → number_said s xs ≡ None → can_be s low high fs xs ≡ true → can_stand s xs ≡ true
    → t ≡ written_slots s xs → start s low high (string t) ≡ Some xs
slots_written shapes.Text low high fs xs t fits none can stand e =
    let few : length xs ≤ 32 = leb-true (length xs) 32 (long_enough shapes.Text low high fs xs can) in
    let plain : utf8_lossy xs ≡ xs = utf8_lossy-IsUtf8 xs (IsUtf8-from_ascii xs (ascii xs stand)) in
    subst (λ (u : List ℕ). text (string u) ≡ Some xs) (sym (e ∙ plain)) (text_again xs few stand)
slots_written (shapes.Bits n) low high fs xs t fits none can stand e =
    let is : ((length xs == n) && nat_le (length xs) 32) ≡ true = long_enough (shapes.Bits n) low high fs xs can in
    let (long, short) = and_parts (length xs == n) (nat_le (length xs) 32) is in
    spelled_again xs t fits (leb-true (length xs) 32 short) e
slots_written (shapes.Slots n) low high fs xs t fits none can stand e =
    let is : ((length xs == n) && nat_le (length xs) 32) ≡ true = long_enough (shapes.Slots n) low high fs xs can in
    let (long, short) = and_parts (length xs == n) (nat_le (length xs) 32) is in
    spelled_again xs t fits (leb-true (length xs) 32 short) e
slots_written shapes.Byte low high fs xs t fits none can stand e =
    absurd (never shapes.Byte xs _ (some_said shapes.Byte xs (pos (slice_index xs 0)) (long_enough shapes.Byte low high fs xs can) refl) none)
slots_written shapes.SignedByte low high fs xs t fits none can stand e =
    absurd (never shapes.SignedByte xs _ (some_said shapes.SignedByte xs (cast_signed w8 (slice_index xs 0)) (long_enough shapes.SignedByte low high fs xs can) refl) none)
slots_written shapes.Word low high fs xs t fits none can stand e =
    absurd (never shapes.Word xs _ (some_said shapes.Word xs (pos (from_be_bytes w16 xs)) (long_enough shapes.Word low high fs xs can) refl) none)
slots_written shapes.SignedWord low high fs xs t fits none can stand e =
    absurd (never shapes.SignedWord xs _ (some_said shapes.SignedWord xs (cast_signed w16 (from_be_bytes w16 xs)) (long_enough shapes.SignedWord low high fs xs can) refl) none)
slots_written shapes.Long low high fs xs t fits none can stand e =
    absurd (never shapes.Long xs _ (some_said shapes.Long xs (pos (from_be_bytes w32 xs)) (long_enough shapes.Long low high fs xs can) refl) none)
slots_written shapes.SignedLong low high fs xs t fits none can stand e =
    absurd (never shapes.SignedLong xs _ (some_said shapes.SignedLong xs (cast_signed w32 (from_be_bytes w32 xs)) (long_enough shapes.SignedLong low high fs xs can) refl) none)
slots_written shapes.Choice low high fs xs t fits none can stand e =
    absurd (never shapes.Choice xs _ (some_said shapes.Choice xs (pos (slice_index xs 0)) (long_enough shapes.Choice low high fs xs can) refl) none)
slots_written shapes.Lock low high fs xs t fits none can stand e =
    absurd (never shapes.Lock xs _ (some_said shapes.Lock xs (pos (slice_index xs 0)) (long_enough shapes.Lock low high fs xs can) refl) none)
slots_written shapes.Pin low high fs xs t fits none can stand e =
    absurd (never shapes.Pin xs _ (some_said shapes.Pin xs (pos (from_be_bytes w16 xs)) (long_enough shapes.Pin low high fs xs can) refl) none)
slots_written shapes.Names low high fs xs t fits none can stand e = spelled_again xs t fits (no_slots xs (long_enough shapes.Names low high fs xs can)) e
slots_written shapes.Rates low high fs xs t fits none can stand e = spelled_again xs t fits (no_slots xs (long_enough shapes.Rates low high fs xs can)) e
slots_written shapes.Block low high fs xs t fits none can stand e = spelled_again xs t fits (no_slots xs (long_enough shapes.Block low high fs xs can)) e
slots_written shapes.Scenes low high fs xs t fits none can stand e = spelled_again xs t fits (no_slots xs (long_enough shapes.Scenes low high fs xs can)) e

-- ---- the same of a parameter

pub number_starts : (d : ParameterDef) (s : Shape) (xs : List ℕ) (z : ℤ) → IsBytes xs → d.shape ≡ s → d.start ≡ xs → can_start d ≡ true → number_said s xs ≡ Some z
    → start d.shape d.low d.high (integer z) ≡ Some d.start
number_starts d s xs z fits shape starts can said =
    let written : start s d.low d.high (integer z) ≡ Some xs = number_written s d.low d.high z d.fields.items xs fits said (can_be_of d s xs shape starts can) in
    ap (λ (r : Shape). start r d.low d.high (integer z)) shape ∙ written ∙ ap (λ (ys : List ℕ). Some ys) (sym starts)

pub slots_start_again : (d : ParameterDef) (s : Shape) (xs t : List ℕ) → IsBytes xs → d.shape ≡ s → d.start ≡ xs → can_start d ≡ true
    → IsTrue (can_stand d.shape d.start) → number_said s xs ≡ None → t ≡ written_slots s xs → start d.shape d.low d.high (string t) ≡ Some d.start
slots_start_again d s xs t fits shape starts can stand none e =
    let stand_too : can_stand s xs ≡ true = subst (λ (ys : List ℕ). can_stand s ys ≡ true) starts (subst (λ (r : Shape). can_stand r d.start ≡ true) shape stand) in
    let written : start s d.low d.high (string t) ≡ Some xs = slots_written s d.low d.high d.fields.items xs t fits none (can_be_of d s xs shape starts can) stand_too e in
    ap (λ (r : Shape). start r d.low d.high (string t)) shape ∙ written ∙ ap (λ (ys : List ℕ). Some ys) (sym starts)
