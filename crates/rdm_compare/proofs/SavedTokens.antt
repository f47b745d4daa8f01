-- How tokens are put together, over plain variables.
use Rattle.std.specs.Prelude.{codes, ◌^◌, option_and_then}
use Rattle.std.proofs.Common.{◌≡◌, ℕ, ◌≤◌, ◌<◌, List, [], ◌∷◌, ◌++◌, map, Option, Some, None, refl, sym, ap, append_assoc, ◌∙◌, arith}
use Rattle.std.proofs.lemmas.List.{append-nil}
use Rattle.std.proofs.lemmas.Grind.{flat_map-append}
use Rattle.std.specs.List.{flat_map}
use Rattle.std.specs.Str.{IsAscii}
use Rattle.json.specs.Json.{Json, array, object, value, if_last, max_depth, document}
use Rattle.json.specs.Lex.{tokens}
use Rattle.json.proofs.Printed.Trees.{value-json_tokens}
use Rattle.json.specs.Token.{Token, begin_object, end_object, begin_array, end_array, key}
use Rattle.json.specs.Tree.{json_tokens, items_tokens, members_tokens as tree_tokens, depth, items_depth, members_depth}
use Rattle.json.specs.Value.{items_of}
use Rattle.rdm_frame.specs.declared.uid.Uid.{Uid}
use Rattle.rdm_frame.specs.UidText.{uid_text}
use Rattle.rdm_survey.specs.declared.row.SubDevice.{SubDevice}
use Rattle.rdm_survey.specs.Members.{uid_word}
use Rattle.rdm_survey.proofs.Ascii.{id_ascii, long_id_ascii, uid_ascii as word_ascii}
use Rattle.std.proofs.lemmas.Fmt.{IsAscii-decimal}
use Rattle.rdm_compare.specs.declared.field.Field.TheVariants as field
use Rattle.rdm_compare.specs.Lines.{number_word}
use Rattle.rdm_compare.specs.declared.field.Field.{Field}
use Rattle.rdm_compare.specs.declared.kept.Kept.{Kept}
use Rattle.rdm_compare.specs.declared.field.Told.{Told}
use Rattle.rdm_compare.specs.declared.field.Told.TheVariants as told
use Rattle.rdm_compare.specs.Fields.{fields, told_in}
use Rattle.rdm_compare.specs.Saving.{address_members, field_list, field_members, fixtures_json, fixtures_member, format_member, key_of, kept_json, kept_members, member_tokens, members_json, number_json, number_member, members_tokens, saved_json, saved_text, sub_json, sub_members, subs_json, subs_member, told_json, told_members, uid_member, value_tokens}

pub uid_ascii : (uid : Uid) → IsAscii (uid_text uid)
unfolding uid_word
uid_ascii uid = word_ascii uid

pub number_ascii : (f : Field) (n : ℕ) → n < 2 ^ 64 → IsAscii (number_word f n)
number_ascii field.ModelId n h = id_ascii n
number_ascii field.SoftwareId n h = long_id_ascii n
number_ascii field.Manufacturer n h = IsAscii-decimal n h
number_ascii field.Model n h = IsAscii-decimal n h
number_ascii field.Label n h = IsAscii-decimal n h
number_ascii field.Software n h = IsAscii-decimal n h
number_ascii field.Personality n h = IsAscii-decimal n h
number_ascii field.PersonalityName n h = IsAscii-decimal n h
number_ascii field.Personalities n h = IsAscii-decimal n h
number_ascii field.Address n h = IsAscii-decimal n h
number_ascii field.Footprint n h = IsAscii-decimal n h
number_ascii field.Hours n h = IsAscii-decimal n h

in_object : (ms : List (List ℕ × Json)) → flat_map member_tokens ms ++ end_object ∷ [] ≡ tree_tokens (members_json ms)
unfolding member_tokens
in_object [] = refl
in_object (m ∷ ms) =
    ap (λ (z : List Token). key m.0 ∷ z)
    (append_assoc (json_tokens m.1) (flat_map member_tokens ms) (end_object ∷ []) ∙ ap (λ (z : List Token). json_tokens m.1 ++ z) (in_object ms))

as_value : (old : List Token) (j : Json) → old ++ json_tokens j ≡ old ++ value_tokens j
unfolding value_tokens
as_value old j = refl

object_tokens : (old : List Token) (ms : List (List ℕ × Json))
    → ((old ++ begin_object ∷ []) ++ members_tokens ms) ++ end_object ∷ [] ≡ old ++ json_tokens (object (members_json ms))
unfolding members_tokens
object_tokens old ms =
    append_assoc (old ++ begin_object ∷ []) (flat_map member_tokens ms) (end_object ∷ [])
    ∙ append_assoc old (begin_object ∷ []) (flat_map member_tokens ms ++ end_object ∷ [])
    ∙ ap (λ (z : List Token). old ++ (begin_object ∷ z)) (in_object ms)

pub kept_tokens : (old : List Token) (k : Kept)
    → ((old ++ begin_object ∷ []) ++ members_tokens (kept_members k)) ++ end_object ∷ [] ≡ old ++ value_tokens (kept_json k)
unfolding value_tokens kept_json
kept_tokens old k = object_tokens old (kept_members k)

pub sub_tokens : (old : List Token) (s : SubDevice)
    → ((old ++ begin_object ∷ []) ++ members_tokens (sub_members s)) ++ end_object ∷ [] ≡ old ++ value_tokens (sub_json s)
unfolding value_tokens sub_json
sub_tokens old s = object_tokens old (sub_members s)

in_array : {A : Type 0} → (f : A → Json) (list : List A) → flat_map (λ x. value_tokens (f x)) list ++ end_array ∷ [] ≡ items_tokens (items_of (map f list))
unfolding value_tokens
in_array f [] = refl
in_array f (x ∷ list) =
    append_assoc (json_tokens (f x)) (flat_map (λ y. json_tokens (f y)) list) (end_array ∷ [])
    ∙ ap (λ (z : List Token). json_tokens (f x) ++ z) (in_array f list)

array_tokens : {A : Type 0} → (f : A → Json) (old : List Token) (list : List A)
    → ((old ++ begin_array ∷ []) ++ flat_map (λ x. value_tokens (f x)) list) ++ end_array ∷ [] ≡ old ++ json_tokens (array (items_of (map f list)))
array_tokens f old list =
    append_assoc (old ++ begin_array ∷ []) (flat_map (λ x. value_tokens (f x)) list) (end_array ∷ [])
    ∙ append_assoc old (begin_array ∷ []) (flat_map (λ x. value_tokens (f x)) list ++ end_array ∷ [])
    ∙ ap (λ (z : List Token). old ++ (begin_array ∷ z)) (in_array f list)

pub fixtures_tokens : (old : List Token) (list : List Kept)
    → ((old ++ begin_array ∷ []) ++ flat_map (λ k. value_tokens (kept_json k)) list) ++ end_array ∷ [] ≡ old ++ value_tokens (fixtures_json list)
unfolding fixtures_json
fixtures_tokens old list = array_tokens kept_json old list ∙ as_value old (array (items_of (map kept_json list)))

pub subs_tokens : (old : List Token) (list : List SubDevice)
    → ((old ++ begin_array ∷ []) ++ flat_map (λ s. value_tokens (sub_json s)) list) ++ end_array ∷ [] ≡ old ++ value_tokens (subs_json list)
unfolding subs_json
subs_tokens old list = array_tokens sub_json old list ∙ as_value old (array (items_of (map sub_json list)))

pub member_joined : (old : List Token) (name : List ℕ) (j : Json) → (old ++ key name ∷ []) ++ value_tokens j ≡ old ++ member_tokens (name, j)
unfolding member_tokens value_tokens
member_joined old name j = append_assoc old (key name ∷ []) (json_tokens j)

pub told_joined : (old : List Token) (f : Field) (t : Told) → (old ++ key (key_of f) ∷ []) ++ value_tokens (told_json f t) ≡ old ++ members_tokens (told_members f (Some t))
unfolding members_tokens
told_joined old f t = member_joined old (key_of f) (told_json f t) ∙ ap (λ (z : List Token). old ++ z) (sym (append-nil (member_tokens (key_of f, told_json f t))))

pub in_fields : (k : Kept) (fs : List Field) → flat_map (λ f. members_tokens (told_members f (told_in f k))) fs ≡ members_tokens (flat_map (field_members k) fs)
unfolding members_tokens field_members
in_fields k [] = refl
in_fields k (f ∷ fs) =
    ap (λ (z : List Token). flat_map member_tokens (told_members f (told_in f k)) ++ z) (in_fields k fs)
    ∙ sym (flat_map-append member_tokens (told_members f (told_in f k)) (flat_map (field_members k) fs))

pub kept_joined : (old : List Token) (k : Kept)
    → ((old ++ member_tokens (uid_member k.uid)) ++ members_tokens (field_list k)) ++ member_tokens (subs_member k.sub_devices)
    ≡ old ++ members_tokens (kept_members k)
unfolding members_tokens
kept_joined old k =
    let u = member_tokens (uid_member k.uid) in
    let fs = flat_map member_tokens (field_list k) in
    let s = member_tokens (subs_member k.sub_devices) in
    append_assoc (old ++ u) fs s ∙ append_assoc old u (fs ++ s)
    ∙ ap (λ (z : List Token). old ++ (u ++ z))
    (ap (λ (z : List Token). fs ++ z) (sym (append-nil s)) ∙ sym (flat_map-append member_tokens (field_list k) (subs_member k.sub_devices ∷ [])))

pub saved_tokens : (list : List Kept)
    → ((begin_object ∷ member_tokens format_member) ++ member_tokens (fixtures_member list)) ++ end_object ∷ [] ≡ json_tokens (saved_json list)
unfolding member_tokens
saved_tokens list = refl

-- ---- a reader finds the survey

subs_depth : (subs : List SubDevice) → items_depth (items_of (map sub_json subs)) ≤ 1
unfolding sub_json
subs_depth [] = omega arith
subs_depth (s ∷ subs) = omega (arith, sub_depth s, subs_depth subs)
  where
    by : (s : SubDevice) (o : Option ℕ) → members_depth (members_json (number_member (codes "number") s.number ∷ address_members o ++ number_member (codes "footprint") s.footprint ∷ [])) ≤ 0
    by s None = omega arith
    by s (Some a) = omega arith

    sub_depth : (s : SubDevice) → members_depth (members_json (sub_members s)) ≤ 0
    sub_depth s = by s s.address

number_depth : (f : Field) (n : ℕ) → depth (number_json f n) ≤ 0
number_depth field.ModelId n = omega arith
number_depth field.SoftwareId n = omega arith
number_depth field.Manufacturer n = omega arith
number_depth field.Model n = omega arith
number_depth field.Label n = omega arith
number_depth field.Software n = omega arith
number_depth field.Personality n = omega arith
number_depth field.PersonalityName n = omega arith
number_depth field.Personalities n = omega arith
number_depth field.Address n = omega arith
number_depth field.Footprint n = omega arith
number_depth field.Hours n = omega arith

told_depth : (f : Field) (o : Option Told) (n : ℕ) (more : List (List ℕ × Json))
    → members_depth (members_json more) ≤ n → members_depth (members_json (told_members f o ++ more)) ≤ n
told_depth f None n more h = h
told_depth f (Some (told.Text t)) n more h = omega (arith, h)
told_depth f (Some (told.Number m)) n more h = omega (arith, h, number_depth f m)

fields_depth : (k : Kept) (fs : List Field) (n : ℕ) (more : List (List ℕ × Json))
    → members_depth (members_json more) ≤ n → members_depth (members_json (flat_map (field_members k) fs ++ more)) ≤ n
unfolding field_members
fields_depth k [] n more h = h
fields_depth k (f ∷ fs) n more h =
    rw (append_assoc (told_members f (told_in f k)) (flat_map (field_members k) fs) more)
    (told_depth f (told_in f k) n (flat_map (field_members k) fs ++ more) (fields_depth k fs n more h))

kept_depth : (k : Kept) → depth (kept_json k) ≤ 3
unfolding kept_json field_list subs_json
kept_depth k = omega (arith, fields_depth k fields 2 (subs_member k.sub_devices ∷ []) (omega (arith, subs_depth k.sub_devices)))

list_depth : (list : List Kept) → items_depth (items_of (map kept_json list)) ≤ 3
list_depth [] = omega arith
list_depth (k ∷ list) = omega (arith, kept_depth k, list_depth list)

saved_depth : (list : List Kept) → depth (saved_json list) ≤ max_depth
unfolding fixtures_json
saved_depth list = omega (arith, list_depth list)

pub document_of : (list : List Kept) → tokens (saved_text list) ≡ json_tokens (saved_json list) → document (saved_text list) ≡ Some (saved_json list)
document_of list e =
    ap (λ (p : Option (Json × List Token)). option_and_then (λ q. if_last q.0 q.1) p)
    (ap (λ (ts : List Token). value max_depth ts) (e ∙ sym (append-nil (json_tokens (saved_json list))))
    ∙ value-json_tokens (saved_json list) max_depth [] (saved_depth list))
