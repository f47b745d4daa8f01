-- That the text of a picture is a document.
use Rattle.std.proofs.Common.{◌≡◌, ℕ, Bool, true, false, ◌==◌, cond, List, [], ◌∷◌, ◌++◌, length, chars, codes, string_bytes, flat_map, refl, sym, subst, ◌∙◌, append_assoc}
use Rattle.std.proofs.lemmas.List.{append-nil}
use Rattle.std.proofs.Math.Utf8.{encode}
use Rattle.rdm_chart.specs.declared.element.Attribute.{Attribute}
use Rattle.rdm_chart.specs.declared.element.Element.{Element}
use Rattle.rdm_chart.specs.declared.element.Tag.{Tag}
use Rattle.rdm_markup.specs.declared.escaping.Place.TheVariants.{Content}
use Rattle.rdm_markup.specs.Markup.{in_markup}
use Rattle.rdm_chart.specs.Elements.{are_once, tag_front, tag_rest, end_tag, escaped, element_text}
use Rattle.rdm_chart.specs.Pictures.{IsContent, Nothing, Words, Element as Whole, Empty}

-- a line end stands in markup as it is
line_end : flat_map (in_markup Content) (10 ∷ []) ≡ codes "\n"
unfolding in_markup encode
line_end = refl

pub line_ended : (rest : List ℕ) → IsContent rest → IsContent (codes "\n" ++ rest)
line_ended rest content = subst (λ (end : List ℕ). IsContent (end ++ rest)) line_end (Words (10 ∷ []) rest content)

words_alone : (words : List ℕ) → IsContent (escaped words)
words_alone words = subst (λ (t : List ℕ). IsContent t) (append-nil (escaped words)) (Words (chars words) [] Nothing)

-- a tag that closes itself, or text between two tags, with what follows
rest_content : (tag : Tag) (attributes : List Attribute) (words rest : List ℕ) (none : Bool) → are_once attributes ≡ true → IsContent rest → IsContent (tag_front tag attributes ++ (cond none (codes "/>") (codes ">" ++ (escaped words ++ end_tag tag)) ++ rest))
rest_content tag attributes words rest true once content = Empty tag attributes once rest content
rest_content tag attributes words rest false once content =
    subst (λ (t : List ℕ). IsContent (tag_front tag attributes ++ (codes ">" ++ t))) (sym (append_assoc (escaped words) (end_tag tag) rest))
    (Whole tag attributes once (escaped words) rest (words_alone words) content)

pub element_content : (e : Element) (rest : List ℕ) → are_once e.attributes.items ≡ true → IsContent rest → IsContent (element_text e ++ rest)
unfolding element_text
element_content e rest once content =
    let front = tag_front e.tag e.attributes.items in
    let inner = tag_rest e.tag (string_bytes e.words) in
    subst (λ (t : List ℕ). IsContent t)
    (sym (append_assoc (front ++ inner) (codes "\n") rest ∙ append_assoc front inner (codes "\n" ++ rest)))
    (rest_content e.tag e.attributes.items (string_bytes e.words) (codes "\n" ++ rest) (length (string_bytes e.words) == 0) once (line_ended rest content))
