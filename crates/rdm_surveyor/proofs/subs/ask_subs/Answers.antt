use Rattle.std.proofs.Common.{◌+◌, ◌∙◌, arith, subst}
use Rattle.rdm_surveyor.specs.Asking.{Ends}
use Rattle.rdm_surveyor.specs.Surveys.{TellsNumber}
use Rattle.rdm_surveyor.proofs.Getting.{goes_trying}
use Rattle.rdm_surveyor.proofs.Numbers.{next_asked}
use Rattle.rdm_surveyor.proofs.subs.ask_subs.Goals as goal

pub loop-before-preserved : goal.loop-before-preserved
loop-before-preserved g c =
    let invariant = c.loop-before.invariant in
    let tells =
    subst (λ (e : Ends). TellsNumber g.P.Port.hears e (c.loop-before.before + 1) c.loop-before.port c.loop-before.told.items c.ask_sub.new.told.items c.in-Ok.is_there c.ask_sub.new.port)
    invariant.0 c.in-Ok.ensures.told in (
      c.ask_sub.ensures.same ∙ invariant.0,
      next_asked g.P.Port.hears c.args.asker.now c.args.count c.loop-before.before c.args.port.now c.loop-before.port c.ask_sub.new.port c.loop-before.told.items
          c.ask_sub.new.told.items c.loop-before.left c.left_behind-left.result c.in-Ok.is_there invariant.1 (omega (arith, c.if-left-eq0.false)) tells c.left_behind-left.ensures,
      λ start got. c.in-Ok.ensures.got start (invariant.2 start got),
    )

pub returns-in-Err-clause-tried : goal.returns-in-Err-clause-tried
returns-in-Err-clause-tried g c = λ start got. c.ask_sub.ensures.tried start (c.loop-before.invariant.2 start got)

pub returns-clause-tried : goal.returns-clause-tried
returns-clause-tried g c = goes_trying g.P.Port.hears g.P.Port.fails c.args.port.now c.loop-before.port c.loop-before.invariant.2
