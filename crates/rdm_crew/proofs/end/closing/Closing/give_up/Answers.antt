use Rattle.std.proofs.Common.{◌≡◌, rules}
use Rattle.rdm_crew.specs.declared.bus.stop.Stop.TheVariants as stop
use Rattle.rdm_crew.proofs.end.closing.Closing.give_up.Goals as goal

pub look_into-requires-clause-suspect : goal.look_into-requires-clause-suspect
look_into-requires-clause-suspect g c =
    let astray : c.args.stop ≡ stop.Astray = search rules in
    c.requires.suspect astray
