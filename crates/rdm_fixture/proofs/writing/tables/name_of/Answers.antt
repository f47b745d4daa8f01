use Rattle.std.proofs.Common.{sym, ◌∙◌}
use Rattle.rdm_fixture.proofs.WrittenParameters.{optional_known, named_again}
use Rattle.rdm_fixture.proofs.writing.tables.name_of.Goals as goal

pub returns-in-Some : goal.returns-in-Some
returns-in-Some c = λ optional. named_again c.in-Some.kind c.args.pid c.name.result.now c.in-Some.ensures.value c.name.ensures

pub returns-in-None : goal.returns-in-None
returns-in-None c = λ optional. absurd (optional_known c.args.pid optional (sym c.kind_of.ensures.first ∙ c.in-None.is))
