use Rattle.std.proofs.Common.{subst}
use Rattle.std.specs.Prelude.{IfOk}
use Rattle.rdm_crew.specs.declared.setup.Setup.{Setup}
use Rattle.rdm_crew.specs.declared.stopped.Stopped.TheVariants.{BadSetup}
use Rattle.rdm_crew.specs.Stages.{IsEnded}
use Rattle.rdm_crew.specs.Setups.{IsBadSetup}
use Rattle.rdm_crew.specs.Workers.{in_turn}
use Rattle.rdm_crew.proofs.Starting.{told_also, good_later}
use Rattle.rdm_crew.proofs.running.play_new.Goals as goal

pub returns-in-Ok-clause-ended : goal.returns-in-Ok-clause-ended
returns-in-Ok-clause-ended g c =
    subst (λ (s : Setup). IfOk c.play_ready.result (λ ended. IsEnded s (in_turn g.P.Part.gives g.P.Part.gives_after c.args.part0) (in_turn g.Q.Part.gives g.Q.Part.gives_after c.args.part1) (g.N.Panel.offers c.args.panel) c.args.steps.now ended)) c.in-Ok.ensures.setup c.play_ready.ensures.ended

pub returns-in-Ok-clause-bad_setup : goal.returns-in-Ok-clause-bad_setup
returns-in-Ok-clause-bad_setup g c = good_later c.in-Ok.ready c.play_ready.result (IsBadSetup c.args.setup) c.in-Ok.ensures.bad_setup c.play_ready.ensures.set_up

pub returns-in-Err-clause-bad_setup : goal.returns-in-Err-clause-bad_setup
returns-in-Err-clause-bad_setup g c = told_also c.in-Err.refusal BadSetup (IsBadSetup c.args.setup) c.in-Err.ensures.bad_setup
