use Rattle.std.proofs.Common.{[], string_bytes}
use Rattle.rdm_chart.proofs.Paintings.{drawn_one, drawn_both}
use Rattle.rdm_chart.proofs.shape.put_shapes.Goals as goal

pub loop-shape-preserved : goal.loop-shape-preserved
loop-shape-preserved c =
    drawn_both [] [] (string_bytes c.args.markup.now) (string_bytes c.loop-shape.markup) (string_bytes c.put_element.new.markup) c.loop-shape.invariant
    (drawn_one [] c.in_ok-element.element (string_bytes c.loop-shape.markup) (string_bytes c.put_element.new.markup) c.in_ok-element.ensures c.in_ok-put_element.ensures)
