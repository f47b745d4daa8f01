use Rattle.std.proofs.Common.{[], ◌∷◌, string_bytes}
use Rattle.rdm_chart.proofs.Paintings.{drawn_one}
use Rattle.rdm_chart.proofs.shape.put_shaft.Goals as goal

pub returns : goal.returns
returns c =
    drawn_one (c.args.shaft.now.kind ∷ []) c.in_ok-element.element (string_bytes c.args.markup.now) (string_bytes c.put_element.new.markup)
    (rw c.name.ensures.kind at (c.in_ok-element.ensures c.name.ensures.letters)) c.in_ok-put_element.ensures
