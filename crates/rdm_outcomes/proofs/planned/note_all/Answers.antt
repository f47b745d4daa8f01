use Rattle.std.proofs.Common.{rules}
use Rattle.std.proofs.lemmas.List.Edits.{map_over_more}
use Rattle.rdm_outcomes.specs.Outcomes.{note}
use Rattle.rdm_outcomes.proofs.planned.note_all.Goals as goal

pub loop-each-preserved : goal.loop-each-preserved
loop-each-preserved c = search (rules, map_over_more (note c.args.job.now))
