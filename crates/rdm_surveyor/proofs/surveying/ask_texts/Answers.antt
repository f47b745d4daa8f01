use Rattle.rdm_surveyor.proofs.surveying.ask_texts.Goals as goal

pub returns-in_err-hours-clause-tried : goal.returns-in_err-hours-clause-tried
returns-in_err-hours-clause-tried g c = λ start got.
    c.ask_hours.ensures.tried start
    (c.in_ok-software.ensures.got start (c.in_ok-personality.ensures.got start (c.in_ok-label.ensures.got start (c.in_ok-model.ensures.got start got))))

pub returns-clause-tried : goal.returns-clause-tried
returns-clause-tried g c = λ start got.
    c.ask_hours.ensures.tried start
    (c.in_ok-software.ensures.got start (c.in_ok-personality.ensures.got start (c.in_ok-label.ensures.got start (c.in_ok-model.ensures.got start got))))
