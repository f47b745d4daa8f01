use Rattle.rdm_fixture.proofs.parameters.fields.fields.Goals as goal

pub returns-in-Err-clause-wrong : goal.returns-in-Err-clause-wrong
returns-in-Err-clause-wrong c = ((λ fs h. c.in-Err.ensures.read (record { items = fs }) h), c.at.ensures)
