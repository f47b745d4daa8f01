-- What is put of elements, of layers and of a picture.
use Rattle.std.proofs.Common.{◌≡◌, ℕ, ◌<◌, ◌+◌, true, List, [], ◌∷◌, ◌++◌, length, get_or, take, codes, String, Global, string_bytes, refl, sym, ap, subst, ◌∙◌, append_assoc}
use Rattle.std.proofs.lemmas.List.{append-nil, map_more}
use Rattle.rdm_chart.specs.declared.arrow.Kind.{Kind}
use Rattle.rdm_chart.specs.declared.arrow.Shaft.{Shaft}
use Rattle.rdm_chart.specs.declared.element.Attribute.{Attribute}
use Rattle.rdm_chart.specs.declared.element.Element.{Element}
use Rattle.rdm_chart.specs.declared.element.Key.TheVariants.{Class, Way}
use Rattle.rdm_chart.specs.declared.element.Tag.TheVariants.{Svg, Path}
use Rattle.rdm_chart.specs.Drawings.{kinds_of_shafts}
use Rattle.rdm_chart.specs.Elements.{are_once, tag_front, end_tag, escaped_value, element_text, IsName}
use Rattle.rdm_chart.specs.Pictures.{AreDrawn, IsDrawnAs, IsContent, Nothing, IsDocument}
use Rattle.rdm_chart.specs.Reading.{arrows_in, kind_named}
use Rattle.rdm_chart.proofs.Documents.{element_content, line_ended}
use Rattle.rdm_chart.proofs.Names.{name_escaped}
use Rattle.rdm_chart.proofs.Reading.{found, front_arrows, skips_end}

pub drawn_none : (old : List ℕ) → AreDrawn [] old old
drawn_none old = record { content = []; text = sym (append-nil old); well_formed = λ rest h. h; arrows = λ rest. refl }

pub drawn_one : (kinds : List Kind) (e : Element) (old new : List ℕ) → IsDrawnAs kinds e → new ≡ old ++ element_text e → AreDrawn kinds old new
unfolding element_text
drawn_one kinds e old new is put = record {
  content = element_text e;
  text = put;
  well_formed = λ rest h. element_content e rest is.0 h;
  arrows = λ rest. found kinds e.tag e.attributes.items (string_bytes e.words) rest is.1;
}

pub drawn_both : (kinds more : List Kind) (old mid new : List ℕ) → AreDrawn kinds old mid → AreDrawn more mid new → AreDrawn (kinds ++ more) old new
drawn_both kinds more old mid new first second =
    let a = first.content in
    let b = second.content in
    record {
      content = a ++ b;
      text = second.text ∙ ap (λ (t : List ℕ). t ++ b) first.text ∙ append_assoc old a b;
      well_formed = λ rest h. subst (λ (t : List ℕ). IsContent t) (sym (append_assoc a b rest)) (first.well_formed (b ++ rest) (second.well_formed rest h));
      arrows = λ rest. ap arrows_in (append_assoc a b rest) ∙ first.arrows (b ++ rest)
          ∙ ap (λ (ks : List Kind). kinds ++ ks) (second.arrows rest) ∙ sym (append_assoc kinds more (arrows_in rest));
    }

pub shaft_drawn : (shafts : List Shaft) (i : ℕ) (d : Shaft) (old mid new : List ℕ) → i < length shafts
    → AreDrawn (kinds_of_shafts (take i shafts)) old mid → AreDrawn ((get_or shafts i d).kind ∷ []) mid new → AreDrawn (kinds_of_shafts (take (i + 1) shafts)) old new
shaft_drawn shafts i d old mid new lt before one =
    subst (λ (ks : List Kind). AreDrawn ks old new) (sym (map_more (λ (s : Shaft). s.kind) shafts i d lt))
    (drawn_both (kinds_of_shafts (take i shafts)) ((get_or shafts i d).kind ∷ []) old mid new before one)

-- a path with its class
pub path_looks : (class : List ℕ) (e : Element) (value way : String Global) → IsName class → string_bytes value ≡ class → e.tag ≡ Path
    → e.attributes.items ≡ record { key = Class; value = value } ∷ record { key = Way; value = way } ∷ [] → string_bytes e.words ≡ []
    → IsDrawnAs (kind_named class) e
path_looks class e value way name is tag items words =
    (rw items refl, rw (tag, items) (refl, ap kind_named (sym (ap escaped_value is ∙ name_escaped class name)), words))

pub drawn_layers : (kinds : List Kind) (o g b l a f : List ℕ) → AreDrawn [] o g → AreDrawn [] g b → AreDrawn [] b l → AreDrawn kinds l a → AreDrawn [] a f
    → AreDrawn kinds o f
drawn_layers kinds o g b l a f ground back lives arrows front =
    subst (λ (ks : List Kind). AreDrawn ks o f) (append-nil kinds)
    (drawn_both kinds [] o a f (drawn_both [] kinds o l a (drawn_both [] [] o b l (drawn_both [] [] o g b ground back) lives) arrows) front)

-- the parts of a picture's text
parts : (front content text inner begun : List ℕ) → begun ≡ front ++ codes ">\n" → inner ≡ begun ++ content → text ≡ inner ++ end_tag Svg ++ codes "\n"
    → text ≡ front ++ (codes ">\n" ++ (content ++ (end_tag Svg ++ codes "\n")))
parts front content text inner begun is has ends =
    let end = end_tag Svg in
    ends ∙ ap (λ (t : List ℕ). t ++ end ++ codes "\n") (has ∙ ap (λ (t : List ℕ). t ++ content) is)
    ∙ append_assoc (front ++ codes ">\n" ++ content) end (codes "\n")
    ∙ append_assoc (front ++ codes ">\n") content (end ++ codes "\n")
    ∙ append_assoc front (codes ">\n") (content ++ (end ++ codes "\n"))

pub is_document : (kinds : List Kind) (attributes : List Attribute) (begun inner text : List ℕ) → are_once attributes ≡ true
    → begun ≡ tag_front Svg attributes ++ codes ">\n" → AreDrawn kinds begun inner → text ≡ inner ++ end_tag Svg ++ codes "\n" → IsDocument text
is_document kinds attributes begun inner text once is drawn ends = record {
  attributes = attributes;
  once = once;
  content = codes "\n" ++ drawn.content;
  well_formed = line_ended drawn.content (subst (λ (t : List ℕ). IsContent t) (append-nil drawn.content) (drawn.well_formed [] Nothing));
  whole = parts (tag_front Svg attributes) drawn.content text inner begun is drawn.text ends;
}

pub arrows_found : (kinds : List Kind) (attributes : List Attribute) (begun inner text : List ℕ)
    → begun ≡ tag_front Svg attributes ++ codes ">\n" → AreDrawn kinds begun inner → text ≡ inner ++ end_tag Svg ++ codes "\n" → arrows_in text ≡ kinds
arrows_found kinds attributes begun inner text is drawn ends =
    let end = end_tag Svg ++ codes "\n" in
    ap arrows_in (parts (tag_front Svg attributes) drawn.content text inner begun is drawn.text ends)
    ∙ front_arrows Svg attributes (codes ">\n" ++ (drawn.content ++ end))
    ∙ drawn.arrows end ∙ ap (λ (ks : List Kind). kinds ++ ks) (skips_end Svg (codes "\n")) ∙ append-nil kinds
