use Rattle.rdm_surveyor.proofs.surveying.ask_first.Goals as goal

pub returns-clause-tried : goal.returns-clause-tried
returns-clause-tried g c = λ start got. c.ask-2.ensures.tried start (c.in_ok-info.ensures.got start got)
