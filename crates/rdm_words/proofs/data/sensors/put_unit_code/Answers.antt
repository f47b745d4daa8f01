use Rattle.rdm_frame.specs.Digits.{digits}
use Rattle.rdm_words.proofs.Reports.{described_put}
use Rattle.rdm_words.proofs.data.sensors.put_unit_code.Goals as goal

pub returns : goal.returns
returns c =
    described_put c.put_behind.result c.as_str.result.now (digits c.args.slots.now) _ _ _ c.in_ok-push_str.ensures.bytes c.put_behind.ensures
