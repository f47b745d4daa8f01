use Rattle.rdm_fixture.proofs.outcomes.only_its_keys.Goals as goal

pub returns-in-Reading-clause-wrong : goal.returns-in-Reading-clause-wrong
returns-in-Reading-clause-wrong c = rw c.in-Reading.is c.only-in-Reading.ensures.wrong

pub returns-in-Failed-clause-wrong : goal.returns-in-Failed-clause-wrong
returns-in-Failed-clause-wrong c = rw c.in-Failed.is c.only-in-Failed.ensures.wrong
