use Rattle.std.proofs.Common.{refl, arith}
use Rattle.rdm_streams.proofs.Appending.{appends_more}
use Rattle.rdm_streams.proofs.writing.write_all.Goals as goal

pub loop-written-preserved : goal.loop-written-preserved
loop-written-preserved g c = record {
  front = appends_more _ _ _ c.args.bytes.now _ c.loop-written.written c.in_ok-count.count refl c.loop-written.invariant.front c.in_ok-count.ensures.bytes.1;
  within = omega (arith, c.in_ok-count.ensures.bytes.0);
}
