-- Numbers in the slots of data, and back.
use Rattle.std.proofs.Common.{◌≡◌, ℕ, suc, ◌+◌, ◌-◌, ◌%◌, ◌<◌, ◌≤◌, ℤ, pos, negsuc, neg_ℤ, int_le, Bool, true, false, ◌&&◌, List, [], ◌∷◌, length, Option, Some, None, option_and_then, inl, inr, refl, ap, subst, ◌∙◌, arith, if◌then◌else◌}
use Rattle.std.specs.Prelude.{slice_index}
use Rattle.std.specs.Int.{w8, w16, w32, w64, from_be_bytes, cast_signed, cast_unsigned}
use Rattle.std.specs.Option.{option_map_or}
use Rattle.std.proofs.lemmas.Bool.{and_from, and_parts, eqb-true, cases_lt}
use Rattle.std.proofs.lemmas.Int.{ints, to_z-of_z, to_z_pos}
use Rattle.std.proofs.lemmas.Nat.{be_bytes_2, be_bytes_4}
use Rattle.std.proofs.lemmas.Option.{same_Some}
use Rattle.rdm_profile.specs.declared.profile.fields.Field.{Field}
use Rattle.rdm_profile.specs.declared.profile.own.ParameterDef.{ParameterDef}
use Rattle.rdm_profile.specs.declared.profile.own.Shape.{Shape}
use Rattle.rdm_profile.specs.declared.profile.own.Shape.TheVariants as shapes
use Rattle.rdm_profile.specs.Forms.{has_length, value_in, value_of, has_form}
use Rattle.rdm_profile.specs.Fields.{says}
use Rattle.rdm_profile.specs.OwnParameters.{form_of, number_in, has_number, can_start}
use Rattle.rdm_profile.specs.Values.{word_slots, long_slots}
use Rattle.toml.specs.Data.{Data, string, integer, float, boolean, datetime, array, table}
use Rattle.rdm_fixture_keys.specs.Values.{integer_from}
use Rattle.rdm_fixture.specs.Parameters.{least_of, greatest_of, number_slots}

-- ---- the order of numbers

pub le_through : (a b c : ℤ) → int_le a b ≡ true → int_le b c ≡ true → int_le a c ≡ true
le_through a b c h k = grind (arith, ints)

pub le_same : (a : ℤ) → int_le a a ≡ true
le_same a = grind (arith, ints)

pub in_shape : (s : Shape) (z : ℤ) → int_le (least_of s) z ≡ true → int_le z (greatest_of s) ≡ true → has_number s z ≡ true
in_shape shapes.Byte z a b = and_from (int_le (pos 0) z) (int_le z (pos 255)) a b
in_shape shapes.SignedByte z a b = and_from (int_le (neg_ℤ (pos 128)) z) (int_le z (pos 127)) a b
in_shape shapes.Word z a b = and_from (int_le (pos 0) z) (int_le z (pos 65535)) a b
in_shape shapes.SignedWord z a b = and_from (int_le (neg_ℤ (pos 32768)) z) (int_le z (pos 32767)) a b
in_shape shapes.Long z a b = and_from (int_le (pos 0) z) (int_le z (pos 4294967295)) a b
in_shape shapes.SignedLong z a b = and_from (int_le (neg_ℤ (pos 2147483648)) z) (int_le z (pos 2147483647)) a b
in_shape shapes.Text z a b = refl
in_shape (shapes.Bits n) z a b = refl
in_shape (shapes.Slots n) z a b = refl
in_shape shapes.Choice z a b = and_from (int_le (pos 0) z) (int_le z (pos 255)) a b
in_shape shapes.Names z a b = refl
in_shape shapes.Scenes z a b = and_from (int_le (pos 0) z) (int_le z (pos 255)) a b
in_shape shapes.Lock z a b = and_from (int_le (pos 0) z) (int_le z (pos 255)) a b
in_shape shapes.Pin z a b = and_from (int_le (pos 0) z) (int_le z (pos 9999)) a b
in_shape shapes.Rates z a b = refl
in_shape shapes.Block z a b = refl

pub least_greatest : (s : Shape) → int_le (least_of s) (greatest_of s) ≡ true
least_greatest shapes.Byte = refl
least_greatest shapes.SignedByte = refl
least_greatest shapes.Word = refl
least_greatest shapes.SignedWord = refl
least_greatest shapes.Long = refl
least_greatest shapes.SignedLong = refl
least_greatest shapes.Text = refl
least_greatest (shapes.Bits n) = refl
least_greatest (shapes.Slots n) = refl
least_greatest shapes.Choice = refl
least_greatest shapes.Names = refl
least_greatest shapes.Rates = refl
least_greatest shapes.Block = refl
least_greatest shapes.Scenes = refl
least_greatest shapes.Lock = refl
least_greatest shapes.Pin = refl

from_if : (b : Bool) (k z : ℤ) → (if b then Some k else None) ≡ Some z → (b ≡ true) × (k ≡ z)
from_if true k z h = (refl, same_Some _ _ h)
from_if false k z h = absurd (cc)

pub within_from : (low high : ℤ) (d : Data) (z : ℤ) → integer_from low high d ≡ Some z → (int_le low z ≡ true) × (int_le z high ≡ true)
within_from low high (integer k) z h =
    let (within, same) = from_if (int_le low k && int_le k high) k z h in
    let (a, b) = and_parts _ _ within in
    subst (λ (m : ℤ). (int_le low m ≡ true) × (int_le m high ≡ true)) same (a, b)
within_from low high (string s) z h = absurd (cc)
within_from low high (float f) z h = absurd (cc)
within_from low high (boolean b) z h = absurd (cc)
within_from low high (datetime dt) z h = absurd (cc)
within_from low high (array ds) z h = absurd (cc)
within_from low high (table t) z h = absurd (cc)

pub integer_again : (low high z : ℤ) → int_le low z ≡ true → int_le z high ≡ true → integer_from low high (integer z) ≡ Some z
integer_again low high z a b = rw (a, b) refl

-- ---- signed numbers in more bits again

below_16 : (n : ℕ) → n < 65536 → n % 65536 ≡ n
below_16 n less = omega arith

below_32 : (n : ℕ) → n < 4294967296 → n % 4294967296 ≡ n
below_32 n less = omega arith

negative_8 : (m n : ℕ) → m + suc n ≡ 256 → 128 ≤ m → cast_unsigned w64 (cast_signed w8 m) % 0x100 ≡ m
negative_8 m n e large =
    let fits : n < 128 = omega (arith, e, large) in
    let bits : m ≡ 256 - suc n = omega (arith, e) in
    let is : cast_signed w8 m ≡ negsuc n = ap (cast_signed w8) bits ∙ to_z-of_z w8 (negsuc n) (record { sfits = fits }) in
    let same : (18446744073709551616 - suc n) % 256 ≡ m = omega (arith, e) in
    ap (λ (z : ℤ). cast_unsigned w64 z % 0x100) is ∙ same

positive_8 : (m : ℕ) → m < 128 → cast_unsigned w64 (cast_signed w8 m) % 0x100 ≡ m
positive_8 m small =
    let same : m % 256 ≡ m = omega (arith, small) in
    ap (λ (z : ℤ). cast_unsigned w64 z % 0x100) (to_z_pos w8 m small) ∙ same

back_8 : (m : ℕ) → m < 256 → cast_unsigned w64 (cast_signed w8 m) % 0x100 ≡ m
back_8 m less =
    elim (cases_lt m 128) [
      | inl small ↦ positive_8 m small
      | inr large ↦ negative_8 m (255 - m) (omega (arith, less)) large
    ]

negative_16 : (m n : ℕ) → m + suc n ≡ 65536 → 32768 ≤ m → cast_unsigned w64 (cast_signed w16 m) % 0x10000 ≡ m
negative_16 m n e large =
    let fits : n < 32768 = omega (arith, e, large) in
    let bits : m ≡ 65536 - suc n = omega (arith, e) in
    let is : cast_signed w16 m ≡ negsuc n = ap (cast_signed w16) bits ∙ to_z-of_z w16 (negsuc n) (record { sfits = fits }) in
    let same : (18446744073709551616 - suc n) % 65536 ≡ m = omega (arith, e) in
    ap (λ (z : ℤ). cast_unsigned w64 z % 0x10000) is ∙ same

positive_16 : (m : ℕ) → m < 32768 → cast_unsigned w64 (cast_signed w16 m) % 0x10000 ≡ m
positive_16 m small =
    let same : m % 65536 ≡ m = omega (arith, small) in
    ap (λ (z : ℤ). cast_unsigned w64 z % 0x10000) (to_z_pos w16 m small) ∙ same

back_16 : (m : ℕ) → m < 65536 → cast_unsigned w64 (cast_signed w16 m) % 0x10000 ≡ m
back_16 m less =
    elim (cases_lt m 32768) [
      | inl small ↦ positive_16 m small
      | inr large ↦ negative_16 m (65535 - m) (omega (arith, less)) large
    ]

negative_32 : (m n : ℕ) → m + suc n ≡ 4294967296 → 2147483648 ≤ m → cast_unsigned w64 (cast_signed w32 m) % 0x100000000 ≡ m
negative_32 m n e large =
    let fits : n < 2147483648 = omega (arith, e, large) in
    let bits : m ≡ 4294967296 - suc n = omega (arith, e) in
    let is : cast_signed w32 m ≡ negsuc n = ap (cast_signed w32) bits ∙ to_z-of_z w32 (negsuc n) (record { sfits = fits }) in
    let same : (18446744073709551616 - suc n) % 4294967296 ≡ m = omega (arith, e) in
    ap (λ (z : ℤ). cast_unsigned w64 z % 0x100000000) is ∙ same

positive_32 : (m : ℕ) → m < 2147483648 → cast_unsigned w64 (cast_signed w32 m) % 0x100000000 ≡ m
positive_32 m small =
    let same : m % 4294967296 ≡ m = omega (arith, small) in
    ap (λ (z : ℤ). cast_unsigned w64 z % 0x100000000) (to_z_pos w32 m small) ∙ same

back_32 : (m : ℕ) → m < 4294967296 → cast_unsigned w64 (cast_signed w32 m) % 0x100000000 ≡ m
back_32 m less =
    elim (cases_lt m 2147483648) [
      | inl small ↦ positive_32 m small
      | inr large ↦ negative_32 m (4294967295 - m) (omega (arith, less)) large
    ]

-- ---- data that start so

-- what `can_start` tests of the fields
abbrev pub can_be : Shape → ℤ → ℤ → List Field → List ℕ → Bool
can_be s low high fs xs =
    option_map_or (λ v. option_map_or (λ n. int_le low n && int_le n high) (number_in s v) (has_form (form_of s) v && says fs v)) (value_of (form_of s) xs) false

pub can_be_of : (d : ParameterDef) (s : Shape) (xs : List ℕ) → d.shape ≡ s → d.start ≡ xs → can_start d ≡ true → can_be s d.low d.high d.fields.items xs ≡ true
can_be_of d s xs shape start h =
    subst (λ (ys : List ℕ). can_be s d.low d.high d.fields.items ys ≡ true) start (subst (λ (r : Shape). can_be r d.low d.high d.fields.items d.start ≡ true) shape h)

-- ---- the number that data say is written, and read as the same data

abbrev pub IsBytes : List ℕ → Type 0
IsBytes xs = (i : ℕ) → slice_index xs i < 256

-- the number that slots say in a shape
abbrev pub number_said : Shape → List ℕ → Option ℤ
number_said s xs = option_and_then (number_in s) (value_of (form_of s) xs)

guarded : {A B : Type 0} (b : Bool) (v : A) (f : A → Option B) (z : B) → option_and_then f (if b then Some v else None) ≡ Some z → (b ≡ true) × (f v ≡ Some z)
guarded true v f z h = (refl, h)
guarded false v f z h = absurd (cc)

pub tested : {A : Type 0} (b : Bool) (v : A) (g : A → Bool) → option_map_or g (if b then Some v else None) false ≡ true → (b ≡ true) × (g v ≡ true)
tested true v g h = (refl, h)
tested false v g h = absurd (cc)

pub never_some : (z : ℤ) → None ≡ Some z → ⊥
never_some z e = cc

pub parts_of : (s : Shape) (xs : List ℕ) (z : ℤ) → number_said s xs ≡ Some z → (has_length (form_of s) (length xs) ≡ true) × (number_in s (value_in (form_of s) xs) ≡ Some z)
parts_of s xs z h = guarded (has_length (form_of s) (length xs)) (value_in (form_of s) xs) (number_in s) z h

in_range : (o : Option ℤ) (low high z : ℤ) (other : Bool) → o ≡ Some z → option_map_or (λ n. int_le low n && int_le n high) o other ≡ true → (int_le low z && int_le z high) ≡ true
in_range o low high z other e h = subst (λ (p : Option ℤ). option_map_or (λ n. int_le low n && int_le n high) p other ≡ true) e h

pub said_within : (s : Shape) (low high z : ℤ) (fs : List Field) (xs : List ℕ) → number_said s xs ≡ Some z → can_be s low high fs xs ≡ true → (int_le low z && int_le z high) ≡ true
said_within s low high z fs xs said can =
    let (long, value) = parts_of s xs z said in
    let (same, inside) =
    tested (has_length (form_of s) (length xs)) (value_in (form_of s) xs)
    (λ v. option_map_or (λ n. int_le low n && int_le n high) (number_in s v) (has_form (form_of s) v && says fs v)) can in
    in_range (number_in s (value_in (form_of s) xs)) low high z (has_form (form_of s) (value_in (form_of s) xs) && says fs (value_in (form_of s) xs)) value inside

single : (xs : List ℕ) → length xs ≡ 1 → slice_index xs 0 ∷ [] ≡ xs
single [] e = absurd (omega (arith, e))
single (x ∷ []) e = refl
single (x ∷ y ∷ ys) e = absurd (omega (arith, e))

byte_again : (xs : List ℕ) → length xs ≡ 1 → IsBytes xs → slice_index xs 0 % 0x100 ∷ [] ≡ xs
byte_again xs one fits =
    let small = fits 0 in
    let same : slice_index xs 0 % 256 ≡ slice_index xs 0 = omega (arith, small) in
    ap (λ (n : ℕ). n ∷ []) same ∙ single xs one

word_small : (xs : List ℕ) → length xs ≡ 2 → IsBytes xs → from_be_bytes w16 xs < 65536
word_small xs two fits = omega (arith, fits 0, fits 1)

long_small : (xs : List ℕ) → length xs ≡ 4 → IsBytes xs → from_be_bytes w32 xs < 4294967296
long_small xs four fits = omega (arith, fits 0, fits 1, fits 2, fits 3)

pub slots_again : (s : Shape) (z : ℤ) (xs : List ℕ) → IsBytes xs → number_said s xs ≡ Some z → number_slots s z ≡ xs
slots_again shapes.Byte z xs fits said =
    let (long, value) = parts_of shapes.Byte xs z said in
    let one : length xs ≡ 1 = eqb-true (length xs) 1 long in
    subst (λ (k : ℤ). number_slots shapes.Byte k ≡ xs) (same_Some (pos (slice_index xs 0)) z value) (byte_again xs one fits)
slots_again shapes.Choice z xs fits said =
    let (long, value) = parts_of shapes.Choice xs z said in
    let one : length xs ≡ 1 = eqb-true (length xs) 1 long in
    subst (λ (k : ℤ). number_slots shapes.Choice k ≡ xs) (same_Some (pos (slice_index xs 0)) z value) (byte_again xs one fits)
slots_again shapes.Lock z xs fits said =
    let (long, value) = parts_of shapes.Lock xs z said in
    let one : length xs ≡ 1 = eqb-true (length xs) 1 long in
    subst (λ (k : ℤ). number_slots shapes.Lock k ≡ xs) (same_Some (pos (slice_index xs 0)) z value) (byte_again xs one fits)
slots_again shapes.SignedByte z xs fits said =
    let (long, value) = parts_of shapes.SignedByte xs z said in
    let one : length xs ≡ 1 = eqb-true (length xs) 1 long in
    subst (λ (k : ℤ). number_slots shapes.SignedByte k ≡ xs) (same_Some (cast_signed w8 (slice_index xs 0)) z value)
    (ap (λ (n : ℕ). n ∷ []) (back_8 (slice_index xs 0) (fits 0)) ∙ single xs one)
slots_again shapes.Word z xs fits said =
    let (long, value) = parts_of shapes.Word xs z said in
    let two : length xs ≡ 2 = eqb-true (length xs) 2 long in
    let small : from_be_bytes w16 xs < 65536 = word_small xs two fits in
    let same : from_be_bytes w16 xs % 65536 ≡ from_be_bytes w16 xs = below_16 (from_be_bytes w16 xs) small in
    subst (λ (k : ℤ). number_slots shapes.Word k ≡ xs) (same_Some (pos (from_be_bytes w16 xs)) z value)
    (ap word_slots same ∙ be_bytes_2 xs (from_be_bytes w16 xs) two fits refl)
slots_again shapes.Pin z xs fits said =
    let (long, value) = parts_of shapes.Pin xs z said in
    let two : length xs ≡ 2 = eqb-true (length xs) 2 long in
    let small : from_be_bytes w16 xs < 65536 = word_small xs two fits in
    let same : from_be_bytes w16 xs % 65536 ≡ from_be_bytes w16 xs = below_16 (from_be_bytes w16 xs) small in
    subst (λ (k : ℤ). number_slots shapes.Pin k ≡ xs) (same_Some (pos (from_be_bytes w16 xs)) z value)
    (ap word_slots same ∙ be_bytes_2 xs (from_be_bytes w16 xs) two fits refl)
slots_again shapes.SignedWord z xs fits said =
    let (long, value) = parts_of shapes.SignedWord xs z said in
    let two : length xs ≡ 2 = eqb-true (length xs) 2 long in
    subst (λ (k : ℤ). number_slots shapes.SignedWord k ≡ xs) (same_Some (cast_signed w16 (from_be_bytes w16 xs)) z value)
    (ap word_slots (back_16 (from_be_bytes w16 xs) (word_small xs two fits)) ∙ be_bytes_2 xs (from_be_bytes w16 xs) two fits refl)
slots_again shapes.Long z xs fits said =
    let (long, value) = parts_of shapes.Long xs z said in
    let four : length xs ≡ 4 = eqb-true (length xs) 4 long in
    let small : from_be_bytes w32 xs < 4294967296 = long_small xs four fits in
    let same : from_be_bytes w32 xs % 4294967296 ≡ from_be_bytes w32 xs = below_32 (from_be_bytes w32 xs) small in
    subst (λ (k : ℤ). number_slots shapes.Long k ≡ xs) (same_Some (pos (from_be_bytes w32 xs)) z value)
    (ap long_slots same ∙ be_bytes_4 xs (from_be_bytes w32 xs) four fits refl)
slots_again shapes.SignedLong z xs fits said =
    let (long, value) = parts_of shapes.SignedLong xs z said in
    let four : length xs ≡ 4 = eqb-true (length xs) 4 long in
    subst (λ (k : ℤ). number_slots shapes.SignedLong k ≡ xs) (same_Some (cast_signed w32 (from_be_bytes w32 xs)) z value)
    (ap long_slots (back_32 (from_be_bytes w32 xs) (long_small xs four fits)) ∙ be_bytes_4 xs (from_be_bytes w32 xs) four fits refl)
slots_again shapes.Text z xs fits said = absurd (never_some z (parts_of shapes.Text xs z said).1)
slots_again (shapes.Bits n) z xs fits said = absurd (never_some z (parts_of (shapes.Bits n) xs z said).1)
slots_again (shapes.Slots n) z xs fits said = absurd (never_some z (parts_of (shapes.Slots n) xs z said).1)
slots_again shapes.Names z xs fits said = absurd (never_some z (parts_of shapes.Names xs z said).1)
slots_again shapes.Rates z xs fits said = absurd (never_some z (parts_of shapes.Rates xs z said).1)
slots_again shapes.Block z xs fits said = absurd (never_some z (parts_of shapes.Block xs z said).1)
slots_again shapes.Scenes z xs fits said = absurd (never_some z (parts_of shapes.Scenes xs z said).1)
