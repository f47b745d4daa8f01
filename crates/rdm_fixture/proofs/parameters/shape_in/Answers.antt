use Rattle.std.proofs.Common.{◌≡◌, None, sym, ap, ◌∙◌}
use Rattle.toml.specs.View.{view}
use Rattle.toml.proofs.Views.{view-String}
use Rattle.rdm_fixture.specs.Parameters.{shape_named, data_type}
use Rattle.rdm_fixture.proofs.Starts.{no_shape}
use Rattle.rdm_fixture.proofs.parameters.shape_in.Goals as goal

pub returns-in_default-as_str : goal.returns-in_default-as_str
returns-in_default-as_str c =
    let other = c.in_default-as_str in
    let none : shape_named c.args.slots c.as_str.result.now ≡ None =
    no_shape c.args.slots c.as_str.result.now other.not-unsigned_byte other.not-signed_byte other.not-unsigned_word other.not-signed_word
    other.not-unsigned_dword other.not-signed_dword other.not-ascii other.not-bit_field other.not-not_defined other.not-choice other.not-names other.not-rates
    other.not-scenes other.not-lock other.not-pin other.not-block in
    sym (ap (data_type c.args.slots) (ap view c.in-String.is ∙ view-String c.in-String.name) ∙ ap (shape_named c.args.slots) (sym c.as_str.ensures.value) ∙ none)
