-- Parts whose jobs end by rules.
use Rattle.std.specs.Prelude.{◌≡◌, List, ◌++◌, map}
use Rattle.rdm_commands.specs.declared.jobs.outcome.Outcome.{Outcome}
use Rattle.rdm_outbox.specs.declared.job.Job.{Job}
use Rattle.rdm_outcomes.specs.declared.rule.Rule.{Rule}
use Rattle.rdm_outcomes.specs.Outcomes.{HasEnded, outcome_of}
use Rattle.rdm_script.specs.declared.rules.RuledPart.{RuledPart}

-- the rules of a part, in order: the first that speaks of a job says how it ends
abbrev pub rules_of : RuledPart → List Rule
rules_of part = map (λ c. c.rule) part.planned.counted.items

-- A part has these rules, and has done these jobs, in order.
abbrev pub HasDone : RuledPart → List Rule → List Job → Type 0
HasDone part rules done = HasEnded part.planned rules done

-- How a part may end a job that comes after these: as its rules say of the job behind all that it has done and these.
abbrev pub EndsAfter : RuledPart → List Job → Job → Outcome → Type 0
EndsAfter part before job outcome = (rules : List Rule) (done : List Job) → HasDone part rules done → outcome ≡ outcome_of rules (done ++ before) job
