use Rattle.std.proofs.Common.{string_bytes}
use Rattle.rdm_chart.proofs.Paintings.{shaft_drawn}
use Rattle.rdm_chart.proofs.shape.put_shafts.Goals as goal

pub loop-shaft-preserved : goal.loop-shaft-preserved
loop-shaft-preserved c =
    shaft_drawn c.args.shafts.now c.loop-shaft.shaft-index _ (string_bytes c.args.markup.now) (string_bytes c.loop-shaft.markup)
    (string_bytes c.put_shaft.new.markup) c.loop-shaft-test.true c.loop-shaft.invariant c.in_ok-put_shaft.ensures
