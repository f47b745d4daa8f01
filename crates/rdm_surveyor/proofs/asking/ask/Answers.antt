use Rattle.std.proofs.Common.{◌≡◌, Ok, Err, IfOk, OnOk, refl, sym, ap, ◌∙◌, subst}
use Rattle.rdm_frame.specs.declared.uid.Uid.{Uid}
use Rattle.rdm_console.specs.Exchanges.{turn}
use Rattle.rdm_surveyor.specs.Asking.{Ends, IsAsked, question}
use Rattle.rdm_surveyor.specs.Getting.{GoesOn}
use Rattle.rdm_surveyor.proofs.Getting.{asked, failed, tried}
use Rattle.rdm_surveyor.proofs.Questions.{IsFor, for_still, is_asked}
use Rattle.rdm_surveyor.proofs.asking.ask.Given as given
use Rattle.rdm_surveyor.proofs.asking.ask.Goals as goal
use Rattle.rdm_surveyor.proofs.asking.ask.Goals.{in-Ok, in-Err}

-- who asks whom
abbrev who : (g : given.Over) → goal.Joined-ask_through g → Ends
who g c = record { console = c.asker.inside.mailbox.collector.uid; fixture = c.uid.result }

who_is : (g : given.Over) (c : goal.Joined-ask_through g) → who g c ≡ c.args.asker.now
who_is g c = ap (λ (u : Uid). record { console = c.asker.inside.mailbox.collector.uid; fixture = u }) c.uid.ensures ∙ c.asker.view_is

for_before : (g : given.Over) (c : goal.Joined-ask_through g) → IsFor (who g c) c.asker.inside.mailbox
for_before g c = record {
  console = refl;
  fixture = sym c.uid.ensures;
  target = c.asker.invariant.0 ∙ sym c.uid.ensures;
  recorded = c.asker.invariant.1;
}

for_after : (g : given.Over) (c : goal.Joined-ask_through g) → IsFor (who g c) c.ask_through.new.mailbox
for_after g c =
    for_still g.P.Port.hears (who g c) (question c.args.sub c.args.pid c.args.load) g.P.Port.fails (turn c.asker.inside.mailbox c.args.port.now)
    (turn c.ask_through.new.mailbox c.ask_through.new.port) c.ask_through.result (for_before g c) c.ask_through.ensures.sent c.ask_through.ensures.failed

pub returns-clause-asked : goal.returns-clause-asked
returns-clause-asked g c =
    elim c.match-ask_through.branch [
      | in-Ok w ↦
          subst (λ r. IfOk r (λ reply. IsAsked g.P.Port.hears c.args.asker.now (question c.args.sub c.args.pid c.args.load) c.args.port.now reply c.ask_through.new.port)) (sym w.result-is)
          (subst (λ (e : Ends). IsAsked g.P.Port.hears e (question c.args.sub c.args.pid c.args.load) c.args.port.now w.in-Ok.reply c.ask_through.new.port) (who_is g c)
          (is_asked g.P.Port.hears (who g c) (question c.args.sub c.args.pid c.args.load) (turn c.asker.inside.mailbox c.args.port.now)
          (turn c.ask_through.new.mailbox c.ask_through.new.port) (Ok w.in-Ok.reply) (for_before g c) w.in-Ok.ensures.sent))
      | in-Err w ↦
          subst (λ r. IfOk r (λ reply. IsAsked g.P.Port.hears c.args.asker.now (question c.args.sub c.args.pid c.args.load) c.args.port.now reply c.ask_through.new.port)) (sym w.result-is) tt
    ]

pub returns-clause-same : goal.returns-clause-same
returns-clause-same g c =
    let after = for_after g c in
    ap (λ (u : Uid). record { console = u; fixture = c.ask_through.new.mailbox.device }) after.console
    ∙ ap (λ (u : Uid). record { console = c.asker.inside.mailbox.collector.uid; fixture = u }) after.fixture
    ∙ who_is g c

pub invariant_of-asker : goal.invariant_of-asker
invariant_of-asker g c =
    let after = for_after g c in
    (after.target ∙ sym after.fixture, after.recorded)

pub returns-clause-got : goal.returns-clause-got
returns-clause-got g c =
    elim c.match-ask_through.branch [
      | in-Ok w ↦
          subst (λ r. OnOk r (GoesOn g.P.Port.hears c.args.port.now c.ask_through.new.port)) (sym w.result-is)
          (asked g.P.Port.hears _ (turn c.asker.inside.mailbox c.args.port.now) (turn c.ask_through.new.mailbox c.ask_through.new.port) (Ok w.in-Ok.reply) refl w.in-Ok.ensures.sent)
      | in-Err w ↦ subst (λ r. OnOk r (GoesOn g.P.Port.hears c.args.port.now c.ask_through.new.port)) (sym w.result-is) tt
    ]

pub returns-clause-tried : goal.returns-clause-tried
returns-clause-tried g c =
    elim c.match-ask_through.branch [
      | in-Ok w ↦ λ start got.
          tried g.P.Port.hears g.P.Port.fails start c.ask_through.new.port
          (asked g.P.Port.hears _ (turn c.asker.inside.mailbox c.args.port.now) (turn c.ask_through.new.mailbox c.ask_through.new.port) (Ok w.in-Ok.reply) refl
          w.in-Ok.ensures.sent start got)
      | in-Err w ↦
          failed g.P.Port.hears g.P.Port.fails _ (turn c.asker.inside.mailbox c.args.port.now) (turn c.ask_through.new.mailbox c.ask_through.new.port) (Err w.in-Err.fault) refl
          w.in-Err.ensures.failed
    ]
