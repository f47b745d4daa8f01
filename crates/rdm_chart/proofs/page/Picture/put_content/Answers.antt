use Rattle.std.proofs.Common.{string_bytes}
use Rattle.rdm_chart.proofs.Paintings.{drawn_layers}
use Rattle.rdm_chart.proofs.page.Picture.put_content.Goals as goal

pub returns : goal.returns
returns c =
    drawn_layers _ (string_bytes c.args.text.now) (string_bytes c.put_shapes.new.markup) (string_bytes c.put_shapes-2.new.markup)
    (string_bytes c.put_shapes-3.new.markup) (string_bytes c.put_shafts.new.markup) (string_bytes c.put_shapes-4.new.markup)
    c.in_ok-put_shapes.ensures c.in_ok-put_shapes-2.ensures c.in_ok-put_shapes-3.ensures
    (rw c.as_slice-4.ensures.value at c.in_ok-put_shafts.ensures) c.in_ok-put_shapes-4.ensures
