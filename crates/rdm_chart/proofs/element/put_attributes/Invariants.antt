use Rattle.std.proofs.Common.{◌≡◌, ◌++◌, take, flat_map, string_bytes}
use Rattle.rdm_chart.specs.Elements.{attribute_text}
use Rattle.rdm_chart.proofs.element.put_attributes.Given as goal

abbrev pub invariant-loop-attribute : goal.invariant-loop-attribute
invariant-loop-attribute l = string_bytes l.markup ≡ string_bytes l.fn.markup ++ flat_map attribute_text (take l.attribute-index l.attributes)
