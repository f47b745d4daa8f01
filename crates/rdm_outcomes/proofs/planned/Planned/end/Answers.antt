use Rattle.std.proofs.Common.{◌≡◌, map, length, ap, ◌∙◌}
use Rattle.std.specs.List.{refill}
use Rattle.std.proofs.lemmas.List.{length-map}
use Rattle.rdm_outcomes.specs.declared.planned.Counted.{Counted}
use Rattle.rdm_outcomes.specs.Outcomes.{outcome_at, note}
use Rattle.rdm_outcomes.proofs.Counting.{rules_kept, counts_all, refilled}
use Rattle.rdm_outcomes.proofs.planned.Planned.end.Goals as goal

-- what is counted in the end
items : (c : goal.After-self-1) → refill (length c.args.self.now.counted.items) c.args.self.now.counted.items c.note_all.new.counted ≡ map (note c.args.job.now) c.args.self.now.counted.items
items c =
    let new : c.note_all.new.counted ≡ map (note c.args.job.now) c.args.self.now.counted.items = c.note_all.ensures ∙ ap (map (note c.args.job.now)) c.as_mut_slice.ensures.value in
    refilled _ _ (ap length new ∙ length-map _ _) ∙ new

pub returns-clause-rules : goal.returns-clause-rules
returns-clause-rules c = ap (map (λ (d : Counted). d.rule)) (items c) ∙ rules_kept c.args.job.now c.args.self.now.counted.items

pub returns-clause-counts : goal.returns-clause-counts
returns-clause-counts c rules before h = (
  c.outcome_at-outcome.ensures ∙ ap (λ cs. outcome_at cs c.args.job.now) (c.as_slice.ensures.value ∙ h),
  items c ∙ ap (map (note c.args.job.now)) h ∙ counts_all c.args.job.now before rules,
)
