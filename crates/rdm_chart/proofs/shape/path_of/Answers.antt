use Rattle.std.proofs.Common.{◌≡◌, [], ◌∷◌, refl, ◌∙◌}
use Rattle.rdm_chart.specs.declared.element.Attribute.{Attribute}
use Rattle.rdm_chart.specs.declared.element.Key.TheVariants.{Class, Way}
use Rattle.rdm_chart.proofs.Paintings.{path_looks}
use Rattle.rdm_chart.proofs.shape.path_of.Goals as goal

pub returns : goal.returns
returns c name =
    let class : Attribute = record { key = Class; value = c.in_ok-from_str.field-0 } in
    let way : Attribute = record { key = Way; value = c.in_ok-text.field-0 } in
    let items : c.say-2.new.self.attributes.items ≡ class ∷ way ∷ [] =
    rw (c.in_ok-say-2.ensures.attributes, c.in_ok-say.ensures.attributes, c.new-path.ensures.attributes) refl in
    path_looks c.args.class.now c.say-2.new.self c.in_ok-from_str.field-0 c.in_ok-text.field-0 name c.in_ok-from_str.ensures.ok
    (c.say-2.ensures.tag ∙ c.say.ensures.tag ∙ c.new-path.ensures.tag) items (rw (c.say-2.ensures.words, c.say.ensures.words) c.new-path.ensures.words)
