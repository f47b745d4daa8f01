-- What a reader finds in the text of an element.
use Rattle.std.proofs.Common.{◌≡◌, ℕ, Bool, true, false, ◌==◌, cond, List, [], ◌∷◌, ◌++◌, length, chars, codes, string_bytes, All, refl, sym, ap, ◌∙◌, append_assoc}
use Rattle.std.proofs.lemmas.Bool.{eqb-true}
use Rattle.std.proofs.lemmas.List.Elements.{All-head, All-tail}
use Rattle.rdm_chart.specs.declared.arrow.Kind.{Kind}
use Rattle.rdm_chart.specs.declared.element.Attribute.{Attribute}
use Rattle.rdm_chart.specs.declared.element.Key.{Key}
use Rattle.rdm_chart.specs.declared.element.Key.TheVariants as key
use Rattle.rdm_chart.specs.declared.element.Tag.{Tag}
use Rattle.rdm_chart.specs.declared.element.Tag.TheVariants as tag
use Rattle.rdm_markup.specs.declared.escaping.Place.TheVariants.{Attribute as InAttribute, Content}
use Rattle.rdm_markup.specs.Markup.{IsPlain}
use Rattle.rdm_chart.specs.Elements.{tag_name, key_name, tag_front, tag_rest, end_tag, escaped, escaped_value, attribute_text, attributes_text}
use Rattle.rdm_chart.specs.Pictures.{LooksSo}
use Rattle.rdm_chart.specs.Reading.{arrows_in, arrow_begun, kind_named, up_to}
use Rattle.rdm_markup.proofs.Plainness.{plain_in_markup}

-- no arrow begins in a text, whatever follows
abbrev Skips : List ℕ → Type 0
Skips text = (rest : List ℕ) → arrows_in (text ++ rest) ≡ arrows_in rest

pub skips_both : (xs ys : List ℕ) → Skips xs → Skips ys → Skips (xs ++ ys)
skips_both xs ys p q rest = ap arrows_in (append_assoc xs ys rest) ∙ p (ys ++ rest) ∙ q rest

skips_plain : (text : List ℕ) → All IsPlain text → Skips text
skips_plain [] p rest = refl
skips_plain (b ∷ text) p rest = by (b == 0x3C) refl (skips_plain text (All-tail IsPlain b text p) rest)
  where
    by : (x : Bool) → (b == 0x3C) ≡ x → arrows_in (text ++ rest) ≡ arrows_in rest → cond x (arrow_begun (text ++ rest)) [] ++ arrows_in (text ++ rest) ≡ arrows_in rest
    by true e more = absurd ((All-head IsPlain b text p).0 (eqb-true b 0x3C e))
    by false e more = more

skips_escaped : (words : List ℕ) → Skips (escaped words)
skips_escaped words = skips_plain (escaped words) (plain_in_markup Content (chars words))

skips_value : (value : List ℕ) → Skips (escaped_value value)
skips_value value = skips_plain (escaped_value value) (plain_in_markup InAttribute (chars value))

skips_name : (t : Tag) → Skips (tag_name t)
skips_name tag.Svg rest = refl
skips_name tag.Title rest = refl
skips_name tag.Style rest = refl
skips_name tag.Rect rest = refl
skips_name tag.Path rest = refl
skips_name tag.Text rest = refl

pub skips_end : (t : Tag) → Skips (end_tag t)
skips_end tag.Svg rest = refl
skips_end tag.Title rest = refl
skips_end tag.Style rest = refl
skips_end tag.Rect rest = refl
skips_end tag.Path rest = refl
skips_end tag.Text rest = refl

skips_key : (k : Key) → Skips (key_name k)
skips_key key.Namespace rest = refl
skips_key key.ViewBox rest = refl
skips_key key.Role rest = refl
skips_key key.LabelledBy rest = refl
skips_key key.Id rest = refl
skips_key key.Class rest = refl
skips_key key.X rest = refl
skips_key key.Y rest = refl
skips_key key.Width rest = refl
skips_key key.Height rest = refl
skips_key key.Radius rest = refl
skips_key key.Way rest = refl

skips_attribute : (a : Attribute) → Skips (attribute_text a)
unfolding attribute_text
skips_attribute a =
    let name = codes " " ++ key_name a.key in
    let value = escaped_value (string_bytes a.value) in
    skips_both (name ++ codes "=\"" ++ value) (codes "\"")
    (skips_both (name ++ codes "=\"") value (skips_both name (codes "=\"") (skips_both (codes " ") (key_name a.key) (λ rest. refl) (skips_key a.key)) (λ rest. refl)) (skips_value (string_bytes a.value)))
    (λ rest. refl)

skips_attributes : (attributes : List Attribute) → Skips (attributes_text attributes)
skips_attributes [] rest = refl
skips_attributes (a ∷ attributes) rest = skips_both (attribute_text a) (attributes_text attributes) (skips_attribute a) (skips_attributes attributes) rest

skips_rest : (t : Tag) (words : List ℕ) (none : Bool) → Skips (cond none (codes "/>") (codes ">" ++ escaped words ++ end_tag t))
skips_rest t words true rest = refl
skips_rest t words false rest = skips_both (codes ">" ++ escaped words) (end_tag t) (skips_both (codes ">") (escaped words) (λ rest. refl) (skips_escaped words)) (skips_end t) rest

-- what a reader finds in the tag that opens an element
pub front_arrows : (t : Tag) (attributes : List Attribute) (rest : List ℕ)
    → arrows_in (tag_front t attributes ++ rest) ≡ arrow_begun (tag_name t ++ (attributes_text attributes ++ rest)) ++ arrows_in rest
front_arrows t attributes rest =
    let text = attributes_text attributes ++ rest in
    ap arrows_in (append_assoc (codes "<" ++ tag_name t) (attributes_text attributes) rest)
    ∙ ap (λ (kinds : List Kind). arrow_begun (tag_name t ++ text) ++ kinds) (skips_name t text ∙ skips_attributes attributes rest)

value_up_to : (value rest : List ℕ) → All IsPlain value → up_to 0x22 (value ++ 0x22 ∷ rest) ≡ value
value_up_to [] rest p = refl
value_up_to (b ∷ value) rest p = by (b == 0x22) refl (value_up_to value rest (All-tail IsPlain b value p))
  where
    by : (x : Bool) → (b == 0x22) ≡ x → up_to 0x22 (value ++ 0x22 ∷ rest) ≡ value → cond x [] (b ∷ up_to 0x22 (value ++ 0x22 ∷ rest)) ≡ b ∷ value
    by true e more = absurd ((All-head IsPlain b value p).2 (eqb-true b 0x22 e))
    by false e more = ap (λ (text : List ℕ). b ∷ text) more

-- an attribute, and what follows
attribute_front : (name value rest : List ℕ) → codes " " ++ name ++ codes "=\"" ++ value ++ codes "\"" ++ rest ≡ 0x20 ∷ (name ++ (codes "=\"" ++ (value ++ 0x22 ∷ rest)))
attribute_front name value rest =
    append_assoc (codes " " ++ name ++ codes "=\"" ++ value) (codes "\"") rest
    ∙ append_assoc (codes " " ++ name ++ codes "=\"") value (codes "\"" ++ rest)
    ∙ append_assoc (codes " " ++ name) (codes "=\"") (value ++ 0x22 ∷ rest)

-- a path whose class comes first
path_begun : (a : Attribute) (more : List Attribute) (rest : List ℕ) → a.key ≡ key.Class
    → arrow_begun (tag_name tag.Path ++ (attributes_text (a ∷ more) ++ rest)) ≡ kind_named (escaped_value (string_bytes a.value))
unfolding attribute_text
path_begun a more rest is =
    let value = escaped_value (string_bytes a.value) in
    let behind = attributes_text more ++ rest in
    let parts : attributes_text (a ∷ more) ++ rest ≡ 0x20 ∷ (codes "class" ++ (codes "=\"" ++ (value ++ 0x22 ∷ behind))) =
    append_assoc (attribute_text a) (attributes_text more) rest
    ∙ attribute_front (key_name a.key) value behind
    ∙ ap (λ (k : Key). 0x20 ∷ (key_name k ++ (codes "=\"" ++ (value ++ 0x22 ∷ behind)))) is in
    ap (λ (text : List ℕ). arrow_begun (tag_name tag.Path ++ text)) parts
    ∙ ap kind_named (value_up_to value behind (plain_in_markup InAttribute (chars (string_bytes a.value))))

-- what a reader finds in an opening tag that looks so
looks_found : (kinds : List Kind) (t : Tag) (attributes : List Attribute) (words rest : List ℕ) → LooksSo kinds t attributes words
    → arrow_begun (tag_name t ++ (attributes_text attributes ++ rest)) ≡ kinds
looks_found kinds tag.Path [] words rest looks = absurd looks
looks_found kinds tag.Path (a ∷ more) words rest looks = path_begun a more rest looks.0 ∙ sym looks.1
looks_found kinds tag.Svg attributes words rest looks = sym looks
looks_found kinds tag.Title attributes words rest looks = sym looks
looks_found kinds tag.Style attributes words rest looks = sym looks
looks_found kinds tag.Rect attributes words rest looks = sym looks
looks_found kinds tag.Text attributes words rest looks = sym looks

-- what a reader finds in an element that looks so
pub found : (kinds : List Kind) (t : Tag) (attributes : List Attribute) (words rest : List ℕ) → LooksSo kinds t attributes words
    → arrows_in (tag_front t attributes ++ tag_rest t words ++ codes "\n" ++ rest) ≡ kinds ++ arrows_in rest
found kinds t attributes words rest looks =
    let front = tag_front t attributes in
    let inner = tag_rest t words in
    ap arrows_in (append_assoc (front ++ inner) (codes "\n") rest ∙ append_assoc front inner (codes "\n" ++ rest))
    ∙ front_arrows t attributes (inner ++ (codes "\n" ++ rest))
    ∙ ap (λ (ks : List Kind). ks ++ arrows_in (inner ++ (codes "\n" ++ rest))) (looks_found kinds t attributes words (inner ++ (codes "\n" ++ rest)) looks)
    ∙ ap (λ (ks : List Kind). kinds ++ ks) (skips_rest t words (length words == 0) (codes "\n" ++ rest))
