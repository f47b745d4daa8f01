-- How tokens are put together, over plain variables.
use Rattle.std.specs.Prelude.{option_and_then}
use Rattle.std.proofs.Common.{◌≡◌, ℕ, ◌≤◌, List, [], ◌∷◌, ◌++◌, map, Option, Some, refl, sym, ap, append_assoc, ◌∙◌, arith}
use Rattle.std.proofs.lemmas.List.{append-nil}
use Rattle.std.specs.List.{flat_map}
use Rattle.json.specs.Json.{Json, string, array, object, value, if_last, max_depth, document}
use Rattle.json.specs.Lex.{tokens}
use Rattle.json.proofs.Printed.Trees.{value-json_tokens}
use Rattle.json.specs.Token.{Token, begin_object, end_object, begin_array, end_array, key}
use Rattle.json.specs.Tree.{json_tokens, items_tokens, members_tokens, depth, items_depth, members_depth}
use Rattle.json.specs.Value.{items_of}
use Rattle.rdm_survey.specs.declared.member.Member.{Member}
use Rattle.rdm_survey.specs.declared.partner.Partner.{Partner}
use Rattle.rdm_survey.specs.declared.place.Clash.{Clash}
use Rattle.rdm_survey.specs.declared.row.Row.{Row}
use Rattle.rdm_survey.specs.Json.{cell_tokens, json_of, json_text, members_json, other_token, row_json, row_tokens, survey_json}
use Rattle.rdm_survey.specs.Places.{clashes}
use Rattle.rdm_survey.specs.Members.{Value, members_in, nothing, number, partner_word, said, told, word, words}

pub member_joined : (old : List Token) (m : Member) → (old ++ key m.key.now ∷ []) ++ json_tokens (json_of (told m.cell)) ≡ old ++ cell_tokens m
unfolding cell_tokens
member_joined old m = append_assoc old (key m.key.now ∷ []) (json_tokens (json_of (told m.cell)))

others : (list : List Partner) → map other_token list ++ end_array ∷ [] ≡ items_tokens (items_of (map string (map partner_word list)))
unfolding other_token
others [] = refl
others (p ∷ list) = ap (λ (z : List Token). Token.string (partner_word p) ∷ z) (others list)

pub array_tokens : (old : List Token) (list : List Partner)
    → ((old ++ begin_array ∷ []) ++ map other_token list) ++ end_array ∷ [] ≡ old ++ json_tokens (json_of (words (map partner_word list)))
array_tokens old list =
    append_assoc (old ++ begin_array ∷ []) (map other_token list) (end_array ∷ [])
    ∙ append_assoc old (begin_array ∷ []) (map other_token list ++ end_array ∷ [])
    ∙ ap (λ (z : List Token). old ++ (begin_array ∷ z)) (others list)

in_object : (ms : List Member) → flat_map cell_tokens ms ++ end_object ∷ [] ≡ members_tokens (members_json (map said ms))
unfolding cell_tokens
in_object [] = refl
in_object (m ∷ ms) =
    ap (λ (z : List Token). key m.key.now ∷ z)
    (append_assoc (json_tokens (json_of (told m.cell))) (flat_map cell_tokens ms) (end_object ∷ [])
    ∙ ap (λ (z : List Token). json_tokens (json_of (told m.cell)) ++ z) (in_object ms))

pub object_tokens : (old : List Token) (ms : List Member)
    → ((old ++ begin_object ∷ []) ++ flat_map cell_tokens ms) ++ end_object ∷ [] ≡ old ++ json_tokens (object (members_json (map said ms)))
object_tokens old ms =
    append_assoc (old ++ begin_object ∷ []) (flat_map cell_tokens ms) (end_object ∷ [])
    ∙ append_assoc old (begin_object ∷ []) (flat_map cell_tokens ms ++ end_object ∷ [])
    ∙ ap (λ (z : List Token). old ++ (begin_object ∷ z)) (in_object ms)

in_array : (list : List Clash) (rows : List Row) → flat_map (row_tokens list) rows ++ end_array ∷ [] ≡ items_tokens (items_of (map (row_json list) rows))
unfolding row_tokens row_json
in_array list [] = refl
in_array list (row ∷ rows) =
    append_assoc (row_tokens list row) (flat_map (row_tokens list) rows) (end_array ∷ [])
    ∙ ap (λ (z : List Token). row_tokens list row ++ z) (in_array list rows)

pub survey_tokens : (list : List Clash) (rows : List Row)
    → (begin_array ∷ flat_map (row_tokens list) rows) ++ end_array ∷ [] ≡ json_tokens (array (items_of (map (row_json list) rows)))
survey_tokens list rows = ap (λ (z : List Token). begin_array ∷ z) (in_array list rows)

-- ---- a reader finds the survey

words_depth : (list : List (List ℕ)) → items_depth (items_of (map string list)) ≤ 0
words_depth [] = omega arith
words_depth (w ∷ list) = omega (arith, words_depth list)

value_depth : (v : Value) → depth (json_of v) ≤ 1
value_depth nothing = omega arith
value_depth (number n) = omega arith
value_depth (word w) = omega arith
value_depth (words list) = omega (arith, words_depth list)

object_depth : (ms : List (List ℕ × Value)) → members_depth (members_json ms) ≤ 1
object_depth [] = omega arith
object_depth (m ∷ ms) = omega (arith, value_depth m.1, object_depth ms)

rows_depth : (list : List Clash) (rows : List Row) → items_depth (items_of (map (row_json list) rows)) ≤ 2
unfolding row_json
rows_depth list [] = omega arith
rows_depth list (row ∷ rows) = omega (arith, object_depth (members_in list row), rows_depth list rows)

pub document_of : (rows : List Row) → tokens (json_text rows) ≡ json_tokens (survey_json rows) → document (json_text rows) ≡ Some (survey_json rows)
document_of rows e =
    let shallow : depth (survey_json rows) ≤ max_depth = omega (arith, rows_depth (clashes rows) rows) in
    ap (λ (p : Option (Json × List Token)). option_and_then (λ q. if_last q.0 q.1) p)
    (ap (λ (ts : List Token). value max_depth ts) (e ∙ sym (append-nil (json_tokens (survey_json rows))))
    ∙ value-json_tokens (survey_json rows) max_depth [] shallow)
