-- What is written of a survey is read back.
use Rattle.std.specs.Prelude.{◌^◌, ◌&&◌, nat_le, nat_lt, option_map, IfSome, codes, decimal, take, drop}
use Rattle.std.proofs.Common.{◌≡◌, ℕ, zero, suc, ◌+◌, ◌/◌, ◌%◌, ◌<◌, ◌≤◌, Bool, true, false, cond, List, [], ◌∷◌, ◌++◌, length, map, Option, Some, None, Result, Ok, Err, refl, sym, ap, append_assoc, ◌∙◌, arith}
use Rattle.std.specs.Int.{w16, w32, to_be_bytes}
use Rattle.std.specs.List.{flat_map, AllByRecursion}
use Rattle.std.specs.Str.{bytes_eq}
use Rattle.std.proofs.lemmas.Bool.Decides.{nat_tests}
use Rattle.std.proofs.lemmas.Fmt.{decimal_is_IsNumeral}
use Rattle.std.proofs.lemmas.List.Concat.{flat_map-cons}
use Rattle.std.proofs.lemmas.Slice.Eq.{bytes_eq-Decides}
use Rattle.json.specs.Json.{Json, number as a_number, string, object, array}
use Rattle.json.specs.Find.{get, get_member, later_or}
use Rattle.json.specs.Value.{items_of}
use Rattle.rdm_frame.specs.declared.uid.Uid.{Uid}
use Rattle.rdm_frame.specs.Digits.{digit, digits, upper}
use Rattle.rdm_frame.specs.DigitReading.{uid_in}
use Rattle.rdm_frame.specs.FrameText.{IsUid}
use Rattle.rdm_frame.specs.UidText.{uid_text}
use Rattle.rdm_frame.proofs.NumberSpellings.{long_again, uid_spelled, uid_written, word_again}
use Rattle.rdm_survey.specs.declared.row.SubDevice.{SubDevice}
use Rattle.rdm_survey.specs.Members.{id_word, long_id_word}
use Rattle.rdm_survey.specs.Shown.{shown, unshown}
use Rattle.rdm_survey.proofs.Unshowing.{read_back}
use Rattle.rdm_compare.specs.declared.field.Field.{Field}
use Rattle.rdm_compare.specs.declared.field.Field.TheVariants as field
use Rattle.rdm_compare.specs.declared.field.Told.{Told}
use Rattle.rdm_compare.specs.declared.field.Told.TheVariants as told
use Rattle.rdm_compare.specs.declared.kept.Kept.{Kept}
use Rattle.rdm_compare.specs.Fields.{a_number as number_told, a_text, fields, told_in}
use Rattle.rdm_compare.specs.Laws.{IsKept, IsSub, IsText}
use Rattle.rdm_compare.specs.Reading.{are_once, fixture_by, has_format, list_in, makes_by, names_by, personality_by, right_if_told, slots_by, sub_in, subs_are_once, subs_by, subs_in, survey_in, told_by, uid_by}
use Rattle.rdm_compare.specs.Saving.{address_members, field_list, field_members, fixtures_json, fixtures_member, format_member, kept_json, key_of, members_json, number_member, saved_json, sub_json, sub_members, subs_json, subs_member, told_json, told_members}
use Rattle.rdm_compare.specs.Texts.{id_in, json_id, json_number, json_text, number_in, text_in, whole_number}
use Rattle.rdm_compare.proofs.ReadBack.{after_plus, numeral_told}

-- ---- words

both : (a b : Bool) → a ≡ true → b ≡ true → (a && b) ≡ true
both a b h g = rw (h, g) refl

fits : (n m : ℕ) → n ≤ m → nat_le n m ≡ true
fits n m h = grind (arith, nat_tests)

smaller : (n m : ℕ) → n < m → nat_lt n m ≡ true
smaller n m h = grind (arith, nat_tests)

text_back : (t : List ℕ) → IsText t → text_in (shown t) ≡ Some t
unfolding text_in
text_back t h =
    let same : unshown (shown t) ≡ t = read_back t h.0 in
    rw (same, (bytes_eq-Decides (shown t) (shown t)).1 refl, fits (length t) 32 h.1) refl

whole_back : (n : ℕ) → n < 2 ^ 64 → whole_number (a_number (decimal n)) ≡ Some n
unfolding whole_number number_in
whole_back n h =
    let k = decimal_is_IsNumeral n h in
    rw (after_plus (decimal n) k.0, numeral_told (decimal n) k.0, k.1, smaller n (2 ^ 64) h) refl

number_back : (bound n : ℕ) → n < bound → bound ≤ 2 ^ 64 → json_number bound (a_number (decimal n)) ≡ Some n
number_back bound n h g = rw (whole_back n (omega arith), smaller n bound h) refl

upper_digit : (n : ℕ) → n < 16 → upper (digit n) ≡ digit n
upper_digit n h = grind (arith, nat_tests)

upper_digits : (bytes : List ℕ) → AllByRecursion (λ byte. byte < 256) bytes → map upper (digits bytes) ≡ digits bytes
upper_digits [] fits = refl
upper_digits (b ∷ bs) fits =
    let cons = flat_map-cons (λ (byte : ℕ). digit (byte / 16) ∷ digit (byte % 16) ∷ []) b bs in
    ap (map upper) cons ∙ rw (upper_digit (b / 16) (omega (arith, fits.0)), upper_digit (b % 16) (omega arith), upper_digits bs fits.1) refl ∙ sym cons

id_back : (n : ℕ) → n < 65536 → json_id w16 (string (id_word n)) ≡ Some n
unfolding id_in id_word
id_back n h =
    let bytes : AllByRecursion (λ byte. byte < 256) (to_be_bytes w16 n) = (omega arith, (omega arith, tt)) in
    word_again (digits (to_be_bytes w16 n)) n (omega arith, record { printed = upper_digits (to_be_bytes w16 n) bytes; fits = bytes })

long_id_back : (n : ℕ) → n < 2 ^ 32 → json_id w32 (string (long_id_word n)) ≡ Some n
unfolding id_in long_id_word
long_id_back n h =
    let bytes : AllByRecursion (λ byte. byte < 256) (to_be_bytes w32 n) = (omega arith, (omega arith, (omega arith, (omega arith, tt)))) in
    long_again (digits (to_be_bytes w32 n)) n (omega arith, record { printed = upper_digits (to_be_bytes w32 n) bytes; fits = bytes })

-- ---- members

later_none : (o : Option Json) → later_or o None ≡ o
later_none None = refl
later_none (Some j) = refl

found : List ℕ → (Field → Option Told) → List Field → Option Json → Option Json
found name t [] e = e
found name t (f ∷ fs) e = later_or (found name t fs e) (cond (bytes_eq (key_of f) name) (option_map (told_json f) (t f)) None)

no_member : (x : Option Json) (b : Bool) → x ≡ later_or x (cond b None None)
no_member x true = sym (later_none x)
no_member x false = sym (later_none x)

member_found : (name : List ℕ) (f : Field) (o : Option Told) (more : List (List ℕ × Json))
    → get_member name (members_json (told_members f o ++ more)) ≡ later_or (get_member name (members_json more)) (cond (bytes_eq (key_of f) name) (option_map (told_json f) o) None)
member_found name f None more = no_member (get_member name (members_json more)) (bytes_eq (key_of f) name)
member_found name f (Some t) more = refl

members_found : (name : List ℕ) (k : Kept) (fs : List Field) (more : List (List ℕ × Json))
    → get_member name (members_json (flat_map (field_members k) fs ++ more)) ≡ found name (λ f. told_in f k) fs (get_member name (members_json more))
unfolding field_members found
members_found name k [] more = refl
members_found name k (f ∷ fs) more =
    ap (λ (ms : List (List ℕ × Json)). get_member name (members_json ms)) (append_assoc (told_members f (told_in f k)) (flat_map (field_members k) fs) more)
    ∙ member_found name f (told_in f k) (flat_map (field_members k) fs ++ more)
    ∙ ap (λ (x : Option Json). later_or x (cond (bytes_eq (key_of f) name) (option_map (told_json f) (told_in f k)) None)) (members_found name k fs more)

behind : ℕ → Option Json → Option Json
behind zero o = o
behind (suc n) o = later_or (behind n o) None

it_is : (n : ℕ) (o : Option Json) → behind n o ≡ o
unfolding behind
it_is zero o = refl
it_is (suc n) o = later_none (behind n o) ∙ it_is n o

under : (name : List ℕ) (k : Kept) → get_member name (members_json (field_list k ++ subs_member k.sub_devices ∷ []))
    ≡ found name (λ f. told_in f k) fields (get_member name (members_json (subs_member k.sub_devices ∷ [])))
unfolding field_list
under name k = members_found name k fields (subs_member k.sub_devices ∷ [])

told_under : (f : Field) (k : Kept) → get (key_of f) (kept_json k) ≡ option_map (told_json f) (told_in f k)
unfolding kept_json found behind
told_under field.Manufacturer k = rw (under (key_of field.Manufacturer) k) (it_is 1 _)
told_under field.Model k = rw (under (key_of field.Model) k) (it_is 2 _)
told_under field.ModelId k = rw (under (key_of field.ModelId) k) (it_is 3 _)
told_under field.Label k = rw (under (key_of field.Label) k) (it_is 4 _)
told_under field.Software k = rw (under (key_of field.Software) k) (it_is 5 _)
told_under field.SoftwareId k = rw (under (key_of field.SoftwareId) k) (it_is 6 _)
told_under field.Personality k = rw (under (key_of field.Personality) k) (it_is 7 _)
told_under field.PersonalityName k = rw (under (key_of field.PersonalityName) k) (it_is 8 _)
told_under field.Personalities k = rw (under (key_of field.Personalities) k) (it_is 9 _)
told_under field.Address k = rw (under (key_of field.Address) k) (it_is 10 _)
told_under field.Footprint k = rw (under (key_of field.Footprint) k) (it_is 11 _)
told_under field.Hours k = rw (under (key_of field.Hours) k) (it_is 12 _)

uid_under : (k : Kept) → get (codes "uid") (kept_json k) ≡ Some (string (uid_text k.uid))
unfolding kept_json found
uid_under k = rw (under (codes "uid") k) refl

subs_under : (k : Kept) → get (codes "sub_devices") (kept_json k) ≡ Some (subs_json k.sub_devices)
unfolding kept_json found
subs_under k = rw (under (codes "sub_devices") k) refl

-- ---- a fixture

told_text : (n : ℕ) (f : Field) (o : Option (List ℕ)) → IfSome o IsText → right_if_told json_text n f (option_map (told_json f) (a_text o)) ≡ Ok o
told_text n f None h = refl
told_text n f (Some t) h = rw (text_back t h) refl

told_number : (bound n : ℕ) (f : Field) (j : Told → Json) (o : Option ℕ) → bound ≤ 2 ^ 64 → ((m : ℕ) → j (told.Number m) ≡ a_number (decimal m)) → IfSome o (λ m. m < bound)
    → right_if_told (json_number bound) n f (option_map j (number_told o)) ≡ Ok o
told_number bound n f j None g s h = refl
told_number bound n f j (Some m) g s h = rw (s m, number_back bound m h g) refl

told_id : (n : ℕ) (f : Field) (j : Told → Json) (o : Option ℕ) → ((m : ℕ) → j (told.Number m) ≡ string (id_word m)) → IfSome o (λ m. m < 65536)
    → right_if_told (json_id w16) n f (option_map j (number_told o)) ≡ Ok o
told_id n f j None s h = refl
told_id n f j (Some m) s h = rw (s m, id_back m h) refl

told_long_id : (n : ℕ) (f : Field) (j : Told → Json) (o : Option ℕ) → ((m : ℕ) → j (told.Number m) ≡ string (long_id_word m)) → IfSome o (λ m. m < 2 ^ 32)
    → right_if_told (json_id w32) n f (option_map j (number_told o)) ≡ Ok o
told_long_id n f j None s h = refl
told_long_id n f j (Some m) s h = rw (s m, long_id_back m h) refl

text_of : (n : ℕ) (f : Field) (k : Kept) (o : Option (List ℕ)) → told_in f k ≡ a_text o → IfSome o IsText → told_by json_text n f (kept_json k) ≡ Ok o
unfolding told_by
text_of n f k o e h = rw (told_under f k, e) (told_text n f o h)

number_of : (bound n : ℕ) (f : Field) (k : Kept) (o : Option ℕ) → told_in f k ≡ number_told o → bound ≤ 2 ^ 64 → ((m : ℕ) → told_json f (told.Number m) ≡ a_number (decimal m))
    → IfSome o (λ m. m < bound) → told_by (json_number bound) n f (kept_json k) ≡ Ok o
unfolding told_by
number_of bound n f k o e g s h = rw (told_under f k, e) (told_number bound n f (told_json f) o g s h)

model_of : (n : ℕ) (k : Kept) → IfSome k.model_id (λ m. m < 65536) → told_by (json_id w16) n field.ModelId (kept_json k) ≡ Ok k.model_id
unfolding told_by
model_of n k h = rw (told_under field.ModelId k) (told_id n field.ModelId (told_json field.ModelId) k.model_id (λ m. refl) h)

software_of : (n : ℕ) (k : Kept) → IfSome k.software_id (λ m. m < 2 ^ 32) → told_by (json_id w32) n field.SoftwareId (kept_json k) ≡ Ok k.software_id
unfolding told_by
software_of n k h = rw (told_under field.SoftwareId k) (told_long_id n field.SoftwareId (told_json field.SoftwareId) k.software_id (λ m. refl) h)

uid_back : (n : ℕ) (k : Kept) → IsUid k.uid → uid_by n (kept_json k) ≡ Ok k.uid
unfolding uid_by
uid_back n k h =
    let spelled : uid_in (uid_text k.uid) ≡ Some k.uid = (uid_spelled (uid_text k.uid) k.uid).1 (uid_written k.uid h) in
    rw (uid_under k, spelled) refl

sub_back : (s : SubDevice) → IsSub s → sub_in (sub_json s) ≡ Some s
unfolding sub_in sub_json
sub_back s h = by s.address h.address
  where
    by : (o : Option ℕ) → IfSome o (λ n. n < 65536)
        → sub_in (object (members_json (number_member (codes "number") s.number ∷ address_members o ++ number_member (codes "footprint") s.footprint ∷ [])))
        ≡ Some (record { number = s.number; address = o; footprint = s.footprint })
    by None g = rw (number_back 65536 s.number h.number (omega arith), number_back 65536 s.footprint h.footprint (omega arith)) refl
    by (Some a) g = rw (number_back 65536 s.number h.number (omega arith), number_back 65536 a g (omega arith), number_back 65536 s.footprint h.footprint (omega arith)) refl

subs_back : (subs : List SubDevice) → AllByRecursion IsSub subs → subs_in (items_of (map sub_json subs)) ≡ Some subs
subs_back [] h = refl
subs_back (s ∷ subs) h = rw (sub_back s h.0, subs_back subs h.1) refl

subs_of : (n : ℕ) (k : Kept) → IsKept k → subs_by n (kept_json k) ≡ Ok k.sub_devices
unfolding subs_by subs_json
subs_of n k h = rw (subs_under k, subs_back k.sub_devices h.sub_devices, h.once) refl

names_of : (n : ℕ) (k : Kept) → IsKept k → names_by n (kept_json k) ≡ Ok (record { manufacturer = k.manufacturer; model = k.model; label = k.label })
unfolding names_by
names_of n k h =
    rw (text_of n field.Manufacturer k k.manufacturer refl h.manufacturer, text_of n field.Model k k.model refl h.model, text_of n field.Label k k.label refl h.label) refl

makes_of : (n : ℕ) (k : Kept) → IsKept k → makes_by n (kept_json k) ≡ Ok (record { software = k.software; software_id = k.software_id; model_id = k.model_id })
unfolding makes_by
makes_of n k h = rw (text_of n field.Software k k.software refl h.software, software_of n k h.software_id, model_of n k h.model_id) refl

personality_of : (n : ℕ) (k : Kept) → IsKept k → personality_by n (kept_json k) ≡ Ok (record { number = k.personality; name = k.personality_name; count = k.personalities })
unfolding personality_by
personality_of n k h =
    rw (number_of 256 n field.Personality k k.personality refl (omega arith) (λ m. refl) h.personality, text_of n field.PersonalityName k k.personality_name refl h.personality_name, number_of 256 n field.Personalities k k.personalities refl (omega arith) (λ m. refl) h.personalities) refl

slots_of : (n : ℕ) (k : Kept) → IsKept k → slots_by n (kept_json k) ≡ Ok (record { address = k.address; footprint = k.footprint; hours = k.hours })
unfolding slots_by
slots_of n k h =
    rw (number_of 65536 n field.Address k k.address refl (omega arith) (λ m. refl) h.address, number_of 65536 n field.Footprint k k.footprint refl (omega arith) (λ m. refl) h.footprint, number_of (2 ^ 32) n field.Hours k k.hours refl (omega arith) (λ m. refl) h.hours) refl

fixture_back : (n : ℕ) (k : Kept) → IsKept k → fixture_by n (kept_json k) ≡ Ok k
unfolding fixture_by
fixture_back n k h = rw (uid_back n k h.uid, names_of n k h, makes_of n k h, personality_of n k h, slots_of n k h, subs_of n k h) refl

-- ---- a survey

list_back : (n : ℕ) (list : List Kept) → AllByRecursion IsKept list → list_in n (items_of (map kept_json list)) ≡ Ok list
list_back n [] h = refl
list_back n (k ∷ list) h = rw (fixture_back n k h.0, list_back (n + 1) list h.1) refl

pub survey_back : (list : List Kept) → AllByRecursion IsKept list → are_once list ≡ Ok tt → survey_in (saved_json list) ≡ Ok list
unfolding survey_in has_format fixtures_json
survey_back list h once = rw (number_back 65536 1 (omega arith) (omega arith), list_back 1 list h, once) refl
