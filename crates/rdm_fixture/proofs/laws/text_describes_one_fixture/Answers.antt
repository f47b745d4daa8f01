use Rattle.rdm_fixture.proofs.OneFixture.{one_text}
use Rattle.rdm_fixture.proofs.laws.text_describes_one_fixture.Goals as goal

pub returns : goal.returns
returns c = one_text
