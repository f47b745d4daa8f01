use Rattle.std.proofs.Common.{◌≡◌, string_bytes, rules, arith}
use Rattle.rdm_frame.specs.FrameText.{IsUid}
use Rattle.rdm_frame.specs.UidText.{uid_text}
use Rattle.toml.proofs.Views.{view-String}
use Rattle.rdm_fixture.proofs.WrittenFixtures.{binding_says}
use Rattle.rdm_fixture.proofs.writing.fields.put_uid.Goals as goal

pub returns-clause-put : goal.returns-clause-put
returns-clause-put c = λ ok.
    let text : string_bytes c.in_ok-text.text ≡ uid_text c.in-Some.uid = search (rules, c.in_ok-text.ensures.ok) in
    rw (c.in-Some.is, ← text, ← view-String c.in_ok-text.text) (c.put.ensures ok)

pub returns-clause-says : goal.returns-clause-says
returns-clause-says c =
    let fits : IsUid c.in-Some.uid = record { maker = omega arith; device = omega arith } in
    rw c.in-Some.is (binding_says c.in-Some.uid fits)

pub returns-in_err-text-clause-says : goal.returns-in_err-text-clause-says
returns-in_err-text-clause-says c =
    let fits : IsUid c.in-Some.uid = record { maker = omega arith; device = omega arith } in
    rw c.in-Some.is (binding_says c.in-Some.uid fits)
