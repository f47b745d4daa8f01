use Rattle.std.proofs.Common.{ap, ◌∙◌}
use Rattle.rdm_crew.specs.declared.stopped.Stopped.TheVariants.{BadSetup}
use Rattle.rdm_crew.specs.Setups.{IsBadSetup}
use Rattle.rdm_crew.proofs.Starting.{told_also, made_ready}
use Rattle.rdm_crew.proofs.ready.make_ready.Goals as goal

pub returns-in-Err-clause-bad_setup : goal.returns-in-Err-clause-bad_setup
returns-in-Err-clause-bad_setup c = told_also c.in-Err.refusal BadSetup (IsBadSetup c.args.setup) c.in-Err.ensures.bad

pub returns-in-Ok-equip-clause-ready : goal.returns-in-Ok-equip-clause-ready
returns-in-Ok-equip-clause-ready c =
    let kit = c.in-Ok-equip.ensures in
    let crew = c.new.ensures in
    made_ready c.new.result c.in-Ok-equip.kit c.args.setup c.in-Ok.system (ap (λ s. s.value) crew.desk.0 ∙ c.of-began.ensures) crew.desk.1 crew.desk.2 crew.posts.0 crew.posts.1 crew.changes c.in-Ok.ensures.new kit.first kit.second kit.reports kit.changes
