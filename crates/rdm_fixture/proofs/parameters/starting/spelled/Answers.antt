use Rattle.std.proofs.Common.{◌≡◌, ◌≤◌, ◌*◌, Some, length, sym, ap, ◌∙◌, arith}
use Rattle.rdm_frame.specs.DigitReading.{bytes_in}
use Rattle.rdm_frame.proofs.NumberSpellings.{long}
use Rattle.rdm_frame.proofs.Spellings.{bytes_read}
use Rattle.rdm_fixture.proofs.parameters.starting.spelled.Goals as goal

pub of-requires : goal.of-requires
of-requires c =
    let is : bytes_in c.as_bytes.result.now ≡ Some c.in_ok-slots.slots = sym c.bytes_in.ensures ∙ c.in_ok-slots.was in
    let twice : length c.as_bytes.result.now ≡ 2 * length c.in_ok-slots.slots = long _ _ (bytes_read _ _ is) in
    let few : length c.as_slice.result.now ≤ 32 =
    omega (arith, twice, ap length c.as_slice.ensures.value, c.len.ensures, ap length c.as_bytes.ensures.value, c.if-len-gt64.false) in
    (omega arith, few)
