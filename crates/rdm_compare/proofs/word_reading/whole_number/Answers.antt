use Rattle.std.proofs.Common.{◌≡◌}
use Rattle.json.specs.Find.{as_number}
use Rattle.json.specs.Value.{value_view}
use Rattle.rdm_compare.specs.Texts.{whole_number}
use Rattle.rdm_compare.proofs.ReadBack.{number_read}
use Rattle.rdm_compare.proofs.word_reading.whole_number.Goals as goal

pub returns : goal.returns
unfolding whole_number
returns c = number_read (as_number (value_view c.args.value.now)) c.as_u64.result c.as_u64.ensures
