-- How texts are put together, over plain variables.
use Rattle.std.proofs.Common.{◌≡◌, ℕ, ◌≤◌, ◌==◌, Bool, true, false, cond, List, [], ◌∷◌, ◌++◌, length, map, codes, Result, Ok, Err, OnOk, refl, ap, append_assoc, ◌∙◌, arith}
use Rattle.std.specs.Prelude.{is_ok}
use Rattle.std.specs.List.{flat_map}
use Rattle.csv.specs.Writing.{default_writer, escaped, field_text, fields_text, is_blank, quoted, row_text}
use Rattle.rdm_survey.specs.declared.member.Member.{Member}
use Rattle.rdm_survey.specs.Csv.{cell_field, comma_field, doubled, fields, keys_text}
use Rattle.rdm_survey.specs.Members.{keys, said}

pub comma_joined : (old : List ℕ) (m : Member) → (old ++ 0x2C ∷ []) ++ field_text default_writer (cell_field m) ≡ old ++ comma_field m
unfolding comma_field
comma_joined old m = append_assoc old (0x2C ∷ []) (field_text default_writer (cell_field m))

step : (t : Bool) (b : ℕ) (x y : List ℕ) → x ≡ y → cond t (0x22 ∷ b ∷ x) (b ∷ x) ≡ cond t (0x22 ∷ b ∷ []) (b ∷ []) ++ y
step true b x y e = ap (λ (z : List ℕ). 0x22 ∷ b ∷ z) e
step false b x y e = ap (λ (z : List ℕ). b ∷ z) e

escaped_flat : (f : List ℕ) → escaped default_writer f ≡ flat_map doubled f
unfolding escaped
escaped_flat [] = refl
escaped_flat (b ∷ rest) = step (b == 0x22) b _ _ (escaped_flat rest)

pub quotes_joined : (old f : List ℕ) → ((old ++ 0x22 ∷ []) ++ flat_map doubled f) ++ 0x22 ∷ [] ≡ old ++ quoted default_writer f
quotes_joined old f =
    append_assoc (old ++ 0x22 ∷ []) (flat_map doubled f) (0x22 ∷ [])
    ∙ append_assoc old (0x22 ∷ []) (flat_map doubled f ++ 0x22 ∷ [])
    ∙ ap (λ (e : List ℕ). old ++ (0x22 ∷ (e ++ 0x22 ∷ []))) (rw (escaped_flat f) refl)

more_fields : (ms : List Member) → flat_map comma_field ms ≡ fields_text default_writer (map cell_field ms)
unfolding fields_text comma_field
more_fields [] = refl
more_fields (m ∷ ms) = ap (λ (z : List ℕ). 0x2C ∷ (field_text default_writer (cell_field m) ++ z)) (more_fields ms)

two_fields : (f g : List ℕ) (fs : List (List ℕ))
    → row_text default_writer (f ∷ g ∷ fs) ≡ (field_text default_writer f ++ fields_text default_writer (g ∷ fs)) ++ 0x0A ∷ []
unfolding is_blank
two_fields f g fs = refl

line_of : (old : List ℕ) (m : Member) (ms : List Member) → 1 ≤ length ms
    → ((old ++ field_text default_writer (cell_field m)) ++ flat_map comma_field ms) ++ 0x0A ∷ [] ≡ old ++ row_text default_writer (map cell_field (m ∷ ms))
line_of old m [] h = absurd (omega arith)
line_of old m (n ∷ ms) h =
    append_assoc (old ++ field_text default_writer (cell_field m)) (flat_map comma_field (n ∷ ms)) (0x0A ∷ [])
    ∙ append_assoc old (field_text default_writer (cell_field m)) (flat_map comma_field (n ∷ ms) ++ 0x0A ∷ [])
    ∙ ap (λ (z : List ℕ). old ++ (field_text default_writer (cell_field m) ++ (z ++ 0x0A ∷ []))) (more_fields (n ∷ ms))
    ∙ ap (λ (z : List ℕ). old ++ z) (rw (two_fields (cell_field m) (cell_field n) (map cell_field ms), append_assoc (field_text default_writer (cell_field m)) (fields_text default_writer (cell_field n ∷ map cell_field ms)) (0x0A ∷ [])) refl)

-- a line is put, part by part
pub line_put : {T E : Type 0} (r : Result T E) (m : Member) (ms : List Member) (old first more new : List ℕ) → 1 ≤ length ms
    → first ≡ old ++ field_text default_writer (cell_field m) → more ≡ first ++ flat_map comma_field ms → new ≡ cond (is_ok r) (more ++ 0x0A ∷ []) more
    → OnOk r (new ≡ old ++ row_text default_writer (map cell_field (m ∷ ms)))
line_put (Err e) m ms old first more new h p q s = tt
line_put (Ok t) m ms old first more new h p q s =
    s ∙ ap (λ (w : List ℕ). w ++ 0x0A ∷ []) (q ∙ ap (λ (w : List ℕ). w ++ flat_map comma_field ms) p) ∙ line_of old m ms h

pub cell_fields : (ms : List Member) → map cell_field ms ≡ fields (map said ms)
unfolding cell_field
cell_fields [] = refl
cell_fields (m ∷ ms) = ap (λ (z : List (List ℕ)). cell_field m ∷ z) (cell_fields ms)

abbrev keys_front : List ℕ
keys_front = codes "uid,manufacturer,model,model_id,category,label,address,last_address,footprint,personality,personalities,"

abbrev keys_back : List ℕ
keys_back = codes "personality_name,software,software_id,sub_devices,sensors,hours,errors,warnings,clashes\n"

keys_joined : (old : List ℕ) → (old ++ keys_front) ++ keys_back ≡ old ++ keys_text
unfolding keys_text keys fields_text is_blank escaped
keys_joined old = append_assoc old keys_front keys_back

-- the line of the keys is put, in two parts
pub keys_put : {T E : Type 0} (r : Result T E) (old mid new : List ℕ) → mid ≡ old ++ keys_front → new ≡ cond (is_ok r) (mid ++ keys_back) mid
    → OnOk r (new ≡ old ++ keys_text)
keys_put (Err e) old mid new p q = tt
keys_put (Ok t) old mid new p q = q ∙ ap (λ (w : List ℕ). w ++ keys_back) p ∙ keys_joined old
