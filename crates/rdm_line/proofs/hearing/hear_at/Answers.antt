use Rattle.std.proofs.Common.{sym, subst, get_or-set_other, get_or-set_same}
use Rattle.std.specs.Prelude.{IfSome}
use Rattle.rdm_line.specs.Keeping.{CameTo}
use Rattle.rdm_line.proofs.Each.{map_set}
use Rattle.rdm_line.proofs.Zips.{zip_at, zip_set}
use Rattle.rdm_line.proofs.hearing.hear_at.Goals as goal

pub returns-clause-reply : goal.returns-clause-reply
returns-clause-reply g c before after h place zip =
    c.hear.ensures.reply h (zip_at g.D.Device.stands c.args.devices.now before h after c.args.index _ place zip)

pub returns-clause-stands : goal.returns-clause-stands
returns-clause-stands g c before after h place zip =
    zip_set g.D.Device.stands c.args.devices.now before h _ after c.args.index _ place zip
    (c.hear.ensures.stands h (zip_at g.D.Device.stands c.args.devices.now before h after c.args.index _ place zip))

pub returns-clause-rest : goal.returns-clause-rest
returns-clause-rest g c = map_set g.D.Device.rest c.args.devices.now c.args.index _ _ c.hear.ensures.rest

pub returns-clause-kept : goal.returns-clause-kept
returns-clause-kept g c before after h place zip d =
    subst (λ (x : g.row.D.Denot). IfSome (g.D.Device.came_to x) (CameTo h c.args.bytes.now)) (sym (get_or-set_same c.args.devices.now c.args.index c.hear.new.self d c.requires))
    (c.hear.ensures.kept h (zip_at g.D.Device.stands c.args.devices.now before h after c.args.index _ place zip))

pub returns-clause-others : goal.returns-clause-others
returns-clause-others g c i d other = get_or-set_other c.args.devices.now c.args.index i c.hear.new.self d other
