use Rattle.std.proofs.Common.{refl, string_bytes}
use Rattle.rdm_chart.proofs.Paintings.{is_document, arrows_found}
use Rattle.rdm_chart.proofs.page.Picture.text.Goals as goal

pub returns-clause-document : goal.returns-clause-document
returns-clause-document c once =
    is_document _ c.args.self.now.attributes.items (string_bytes c.push_str.new.self) (string_bytes c.put_content.new.text) (string_bytes c.push_str-2.new.self) once
    (rw (c.in_ok-push_str.ensures.bytes, c.in_ok-put_tag_front.ensures, c.new-text.ensures.bytes, c.as_slice.ensures.value) refl)
    c.in_ok-put_content.ensures
    (rw (c.in_ok-push_str-2.ensures.bytes, c.in_ok-put_end_tag.ensures) refl)

pub returns-clause-arrows : goal.returns-clause-arrows
returns-clause-arrows c =
    arrows_found _ c.args.self.now.attributes.items (string_bytes c.push_str.new.self) (string_bytes c.put_content.new.text) (string_bytes c.push_str-2.new.self)
    (rw (c.in_ok-push_str.ensures.bytes, c.in_ok-put_tag_front.ensures, c.new-text.ensures.bytes, c.as_slice.ensures.value) refl)
    c.in_ok-put_content.ensures
    (rw (c.in_ok-push_str-2.ensures.bytes, c.in_ok-put_end_tag.ensures) refl)
