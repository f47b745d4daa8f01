use Rattle.std.proofs.Common.{ℕ, List, None, subst}
use Rattle.rdm_collector.specs.AnyDevice.Collecting.{after_ask}
use Rattle.rdm_console.proofs.Exchanges.{heard_by}
use Rattle.rdm_console.proofs.exchanging.ask_once.Goals as goal

pub returns-in-Ok-exchange_once-clause-sent : goal.returns-in-Ok-exchange_once-clause-sent
returns-in-Ok-exchange_once-clause-sent g c = record {
  sent = subst (λ (bytes : List ℕ). g.P.Port.hears c.args.port.now bytes c.in-Ok-exchange_once.came.1 c.exchange_once.new.port) c.in-Ok.ensures.sent c.in-Ok-exchange_once.ensures.sent.0;
  taken = heard_by c.args.mailbox.now c.ask.new.self c.exchange_once.new.mailbox (after_ask c.args.mailbox.now.collector c.args.command.now) c.in-Ok-exchange_once.came.1 c.in-Ok-exchange_once.came.0 c.in-Ok.ensures.new c.in-Ok-exchange_once.ensures.sent.1;
}

pub returns-in-Err-exchange_once-clause-failed : goal.returns-in-Err-exchange_once-clause-failed
returns-in-Err-exchange_once-clause-failed g c = record {
  failed = subst (λ (bytes : List ℕ). g.P.Port.fails c.args.port.now bytes c.in-Err-exchange_once.error c.exchange_once.new.port) c.in-Ok.ensures.sent c.in-Err-exchange_once.ensures.failed.0;
  said = c.in-Err-exchange_once.ensures.failed.1;
  taken = heard_by c.args.mailbox.now c.ask.new.self c.exchange_once.new.mailbox (after_ask c.args.mailbox.now.collector c.args.command.now) None c.in-Err-exchange_once.ensures.failed.1 c.in-Ok.ensures.new c.in-Err-exchange_once.ensures.failed.2;
}
