use Rattle.std.proofs.Common.{◌≢◌, ◌<◌, length, sym, arith, ◌∙◌}
use Rattle.std.proofs.lemmas.List.{get_or-set_other, length-set}
use Rattle.rdm_line.proofs.Each.{zip_of, one_more}
use Rattle.rdm_line.proofs.errand.run_all.Goals as goal

pub loop-index-preserved : goal.loop-index-preserved
loop-index-preserved g c =
    let within : c.loop-index.index < length c.loop-index.devices = omega (arith, c.loop-index.invariant.as_many, c.loop-index-test.true) in
    record {
      as_many = length-set c.loop-index.devices c.loop-index.index c.run.new.device ∙ c.loop-index.invariant.as_many;
      done =
          one_more (g.E.Errand.does c.args.errand.now) c.args.devices.now c.loop-index.devices c.loop-index.index c.run.new.device c.index-devices-index.result within
          c.loop-index-test.true c.loop-index.invariant.done (c.loop-index.invariant.left c.loop-index.index c.index-devices-index.result (omega arith)) c.run.ensures;
      left = λ j d le.
          (let other : j ≢ c.loop-index.index = omega arith in
          get_or-set_other c.loop-index.devices c.loop-index.index j c.run.new.device d other ∙ c.loop-index.invariant.left j d (omega (arith, le)));
    }

pub returns-clause-each : goal.returns-clause-each
returns-clause-each g c =
    zip_of (g.E.Errand.does c.args.errand.now) c.args.devices.now c.loop-index.devices (sym c.loop-index.invariant.as_many)
    (λ j x y lt. c.loop-index.invariant.done j x y (omega (arith, lt, c.loop-index-test.false)))
