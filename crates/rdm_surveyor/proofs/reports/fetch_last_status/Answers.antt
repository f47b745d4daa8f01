use Rattle.rdm_surveyor.proofs.Getting.{broken, exchanged, none_got, tried}
use Rattle.rdm_surveyor.proofs.reports.fetch_last_status.Goals as goal

pub returns-in_err-reserve-clause-tried : goal.returns-in_err-reserve-clause-tried
returns-in_err-reserve-clause-tried g c =
    tried g.P.Port.hears g.P.Port.fails c.args.port.now c.args.port.now (none_got g.P.Port.hears c.args.port.now)

pub returns-in_err-heard-clause-tried : goal.returns-in_err-heard-clause-tried
returns-in_err-heard-clause-tried g c =
    broken g.P.Port.hears g.P.Port.fails c.args.port.now c.args.port.now c.exchange.new.self c.request.result _ (λ start got. got) c.request.ensures.get
    c.in_err-heard.ensures.failed c.args.port.now (none_got g.P.Port.hears c.args.port.now)

pub returns-in_err-take-clause-tried : goal.returns-in_err-take-clause-tried
returns-in_err-take-clause-tried g c =
    tried g.P.Port.hears g.P.Port.fails c.args.port.now c.exchange.new.self
    (exchanged g.P.Port.hears c.args.port.now c.args.port.now c.exchange.new.self c.request.result _ (λ start got. got) c.request.ensures.get c.in_ok-heard.ensures.heard
    c.args.port.now (none_got g.P.Port.hears c.args.port.now))

pub returns-clause-tried : goal.returns-clause-tried
returns-clause-tried g c =
    tried g.P.Port.hears g.P.Port.fails c.args.port.now c.exchange.new.self
    (exchanged g.P.Port.hears c.args.port.now c.args.port.now c.exchange.new.self c.request.result _ (λ start got. got) c.request.ensures.get c.in_ok-heard.ensures.heard
    c.args.port.now (none_got g.P.Port.hears c.args.port.now))
