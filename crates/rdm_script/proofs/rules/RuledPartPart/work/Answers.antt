use Rattle.std.proofs.Common.{◌≡◌, List, [], ◌∷◌, ◌++◌, subst, sym, ◌∙◌, ap, append_assoc, append-nil}
use Rattle.rdm_outbox.specs.declared.job.Job.{Job}
use Rattle.rdm_outcomes.specs.Outcomes.{outcome_of}
use Rattle.rdm_script.proofs.rules.RuledPartPart.work.Goals as goal

pub returns-clause-next : goal.returns-clause-next
returns-clause-next c rules done has =
    (c.end.ensures.counts rules done has).0 ∙ ap (λ (l : List Job). outcome_of rules l c.args.job.now) (sym (append-nil done))

pub returns-clause-later : goal.returns-clause-later
returns-clause-later c before j o given rules done has =
    given rules (done ++ c.args.job.now ∷ []) (c.end.ensures.counts rules done has).1
    ∙ ap (λ (l : List Job). outcome_of rules l j) (append_assoc done (c.args.job.now ∷ []) before)
