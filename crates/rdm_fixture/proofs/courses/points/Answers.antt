use Rattle.rdm_fixture.proofs.courses.points.Goals as goal

pub returns-in-Err-clause-wrong : goal.returns-in-Err-clause-wrong
returns-in-Err-clause-wrong c = ((λ ps h. c.in-Err.ensures.read (record { items = ps }) h), c.no_points.ensures)
