use Rattle.std.proofs.Common.{◌≤◌, length, ap, arith}
use Rattle.rdm_fixture.proofs.Texts.{text_says}
use Rattle.rdm_fixture.proofs.writing.fields.put_text.Goals as goal

pub returns-in_err-string-clause-says : goal.returns-in_err-string-clause-says
returns-in_err-string-clause-says c =
    let fits : length c.args.text.now ≤ 32 = omega (arith, ap length c.as_slice-bytes.ensures.value, c.as_slice-bytes.ensures.fits) in
    text_says c.args.text.now fits

pub returns-clause-says : goal.returns-clause-says
returns-clause-says c =
    let fits : length c.args.text.now ≤ 32 = omega (arith, ap length c.as_slice-bytes.ensures.value, c.as_slice-bytes.ensures.fits) in
    text_says c.args.text.now fits
