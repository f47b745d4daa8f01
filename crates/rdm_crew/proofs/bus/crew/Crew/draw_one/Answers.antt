use Rattle.std.proofs.Common.{refl}
use Rattle.rdm_crew.proofs.Playing.{arrived_is, drawn_one}
use Rattle.rdm_crew.proofs.bus.crew.Crew.draw_one.Goals as goal

pub returns-in-Ok-Arrived-clause-played : goal.returns-in-Ok-Arrived-clause-played
returns-in-Ok-Arrived-clause-played g c =
    let is = arrived_is c.args.self.now.desk c.draw.new.self c.in-Ok-Arrived.field-0 c.in-Ok-Arrived.field-0-is c.in-Ok-Arrived.ensures.drawn in
    drawn_one c.args.self.now _ c.requires.tied is.0 c.draw.ensures.same.0 is.1 refl refl
