use Rattle.rdm_profile.proofs.DemoLemmas.{demo_can_be_made}
use Rattle.rdm_profile.proofs.profile.Profile.demo.Goals as goal

pub returns-clause-made : goal.returns-clause-made
returns-clause-made c few = rw c.moving_head.ensures (demo_can_be_made c.args.subs few)
