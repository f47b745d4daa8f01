use Rattle.std.proofs.Common.{◌∙◌}
use Rattle.rdm_updates.specs.SavedValues.{told}
use Rattle.rdm_updates.proofs.Listed.{value_is}
use Rattle.rdm_updates.proofs.values.saved_value.Goals as goal

pub returns : goal.returns
returns c = value_is c.args.image.now c.args.number c.value_place.result (told c.value_at.result) (c.if-image-said_len.false ∙ c.said_len.ensures) c.value_place.ensures.value c.value_at.ensures
