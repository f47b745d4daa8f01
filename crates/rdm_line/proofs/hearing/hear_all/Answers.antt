use Rattle.std.proofs.Common.{◌≢◌, refl, ◌∙◌, arith}
use Rattle.rdm_line.proofs.Keeping.{all_kept, next_kept}
use Rattle.rdm_line.proofs.Loops.{ended_stands, ended_line, next_stands, next_line}
use Rattle.rdm_line.proofs.hearing.hear_all.Goals as goal

pub loop-i-init : goal.loop-i-init
loop-i-init g c = record { stands = λ hs zip. zip; line = λ hs zip. refl; kept = λ hs zip j lt. absurd (omega (arith, lt)); left = λ j d le. refl; rest = refl; as_many = refl }

pub loop-i-preserved : goal.loop-i-preserved
loop-i-preserved g c = record {
  stands = λ hs zip. next_stands g.D.Device.stands c.args.bytes.now c.args.devices.now c.loop-i.devices c.hear_next-on_wire.new.devices hs c.loop-i.i zip (omega (arith, c.loop-i-test.true)) (c.loop-i.invariant.stands hs zip) c.hear_next-on_wire.ensures.stands;
  line = λ hs zip. next_line g.D.Device.stands c.args.bytes.now c.args.devices.now c.loop-i.devices hs c.loop-i.i c.args.rule c.args.wire.now (c.loop-i.on_wire, c.loop-i.wire) (c.hear_next-on_wire.result, c.hear_next-on_wire.new.wire) zip (omega (arith, c.loop-i-test.true)) (c.loop-i.invariant.stands hs zip) (c.loop-i.invariant.line hs zip) c.hear_next-on_wire.ensures.line;
  kept = λ hs zip. next_kept g.D.Device.stands g.D.Device.came_to c.args.bytes.now c.args.devices.now c.loop-i.devices c.hear_next-on_wire.new.devices hs c.loop-i.i zip (omega (arith, c.loop-i-test.true)) (c.loop-i.invariant.stands hs zip) c.loop-i.invariant.left c.hear_next-on_wire.ensures.others (c.loop-i.invariant.kept hs zip) c.hear_next-on_wire.ensures.kept;
  left = λ j d le. (let other : j ≢ c.loop-i.i = omega (arith, le) in c.hear_next-on_wire.ensures.others j d other ∙ c.loop-i.invariant.left j d (omega (arith, le)));
  rest = c.hear_next-on_wire.ensures.rest ∙ c.loop-i.invariant.rest;
  as_many = c.hear_next-on_wire.ensures.len ∙ c.loop-i.invariant.as_many;
}

pub returns-clause-line : goal.returns-clause-line
returns-clause-line g c hs zip =
    ended_line g.D.Device.stands c.args.bytes.now c.args.devices.now hs c.loop-i.i c.args.rule c.args.wire.now _ zip (omega (arith, c.loop-i-test.false)) (c.loop-i.invariant.line hs zip)

pub returns-clause-stands : goal.returns-clause-stands
returns-clause-stands g c hs zip =
    ended_stands g.D.Device.stands c.args.bytes.now c.args.devices.now c.loop-i.devices hs c.loop-i.i zip (omega (arith, c.loop-i-test.false)) (c.loop-i.invariant.stands hs zip)

pub returns-clause-kept : goal.returns-clause-kept
returns-clause-kept g c hs zip =
    all_kept g.D.Device.stands g.D.Device.came_to c.args.bytes.now hs c.args.devices.now c.loop-i.devices zip c.loop-i.invariant.as_many
    (λ j lt. c.loop-i.invariant.kept hs zip j (omega (arith, lt, c.loop-i-test.false)))
