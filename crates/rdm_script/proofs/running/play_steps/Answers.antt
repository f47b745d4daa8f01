use Rattle.std.proofs.Common.{◌↔◌, IsErrOf, subst, arith}
use Rattle.rdm_crew.specs.declared.stopped.Stopped.TheVariants.{BadSetup}
use Rattle.rdm_crew.specs.declared.setup.Setup.{Setup as CrewSetup}
use Rattle.rdm_crew.specs.Setups.{IsBadSetup}
use Rattle.rdm_crew.specs.Workers.{in_turn}
use Rattle.rdm_script.specs.Scene.{scene_of}
use Rattle.rdm_script.proofs.Stopping.{bad_of, stops, good_run}
use Rattle.rdm_script.proofs.running.play_steps.Goals as goal

pub returns-clause-bad_setup : goal.returns-clause-bad_setup
returns-clause-bad_setup g c =
    bad_of c.run_steps.result (scene_of (in_turn g.P.Part.gives g.P.Part.gives_after) (in_turn g.Q.Part.gives g.Q.Part.gives_after) g.N.Panel.offers c.args.stage) c.args.setup (λ lt. omega (arith, lt, c.if-stage-setup.false))
    (subst (λ (s : CrewSetup). IsErrOf c.run_steps.result BadSetup ↔ IsBadSetup s) c.crew_setup-crew_setup.ensures c.run_steps.ensures.bad_setup)

pub returns-clause-err : goal.returns-clause-err
returns-clause-err g c =
    stops c.run_steps.result (scene_of (in_turn g.P.Part.gives g.P.Part.gives_after) (in_turn g.Q.Part.gives g.Q.Part.gives_after) g.N.Panel.offers c.args.stage) c.args.setup c.args.steps.now (returns-clause-bad_setup g c)
    c.run_steps.ensures.reserved c.run_steps.ensures.too_long c.run_steps.ensures.unsettled

pub returns-clause-good : goal.returns-clause-good
returns-clause-good g c =
    good_run c.run_steps.result (scene_of (in_turn g.P.Part.gives g.P.Part.gives_after) (in_turn g.Q.Part.gives g.Q.Part.gives_after) g.N.Panel.offers c.args.stage) c.args.setup (returns-clause-bad_setup g c)
