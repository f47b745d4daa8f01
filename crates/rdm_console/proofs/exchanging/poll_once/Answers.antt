use Rattle.std.proofs.Common.{◌≡◌, ℕ, List, None, subst}
use Rattle.rdm_collector.specs.declared.port.PortError.{PortError}
use Rattle.rdm_collector.specs.AnyDevice.Collecting.{after_poll}
use Rattle.rdm_console.specs.Exchanges.{HasFailedOnce, Turn}
use Rattle.rdm_console.proofs.Exchanges.{heard_by}
use Rattle.rdm_console.proofs.exchanging.poll_once.Goals as goal

pub returns-in-Ok-exchange_once-clause-sent : goal.returns-in-Ok-exchange_once-clause-sent
returns-in-Ok-exchange_once-clause-sent g c = record {
  sent = subst (λ (bytes : List ℕ). g.P.Port.hears c.args.port.now bytes c.in-Ok-exchange_once.came.1 c.exchange_once.new.port) c.in-Ok.ensures.sent c.in-Ok-exchange_once.ensures.sent.0;
  taken = heard_by c.args.mailbox.now c.poll.new.self c.exchange_once.new.mailbox (after_poll c.args.mailbox.now.collector) c.in-Ok-exchange_once.came.1 c.in-Ok-exchange_once.came.0 c.in-Ok.ensures.new c.in-Ok-exchange_once.ensures.sent.1;
}

pub returns-in-Err-exchange_once-clause-failed : goal.returns-in-Err-exchange_once-clause-failed
returns-in-Err-exchange_once-clause-failed g c = λ error is.
    let before : Turn _ = record { mail = c.args.mailbox.now; port = c.args.port.now } in
    let after : Turn _ = record { mail = c.exchange_once.new.mailbox; port = c.exchange_once.new.port } in
    let same : c.in-Err-exchange_once.error ≡ error = cc in
    subst (λ (e : PortError). HasFailedOnce g.P.Port.fails (None) before after e) same (record {
      failed = subst (λ (bytes : List ℕ). g.P.Port.fails c.args.port.now bytes c.in-Err-exchange_once.error c.exchange_once.new.port) c.in-Ok.ensures.sent c.in-Err-exchange_once.ensures.failed.0;
      said = c.in-Err-exchange_once.ensures.failed.1;
      taken = heard_by c.args.mailbox.now c.poll.new.self c.exchange_once.new.mailbox (after_poll c.args.mailbox.now.collector) None c.in-Err-exchange_once.ensures.failed.1 c.in-Ok.ensures.new c.in-Err-exchange_once.ensures.failed.2;
    })
