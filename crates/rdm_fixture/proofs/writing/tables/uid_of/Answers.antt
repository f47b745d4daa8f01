use Rattle.std.proofs.Common.{◌≡◌, string_bytes, rules, arith}
use Rattle.rdm_frame.specs.FrameText.{IsUid}
use Rattle.rdm_frame.specs.UidText.{uid_text}
use Rattle.toml.proofs.Views.{view-String}
use Rattle.rdm_fixture.proofs.WrittenFixtures.{uid_says}
use Rattle.rdm_fixture.proofs.writing.tables.uid_of.Goals as goal

pub returns-clause-says : goal.returns-clause-says
returns-clause-says c = λ own.
    let fits : IsUid c.args.uid = record { maker = omega arith; device = omega arith } in
    let text : string_bytes c.in_ok-text.text ≡ uid_text c.args.uid = search (rules, c.in_ok-text.ensures.ok) in
    rw (view-String c.in_ok-text.text, text) (uid_says c.args.uid fits own)
