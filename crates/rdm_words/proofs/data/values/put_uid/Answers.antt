use Rattle.std.proofs.Common.{arith}
use Rattle.rdm_words.proofs.LaidOut.{uid_put}
use Rattle.rdm_words.proofs.data.values.put_uid.Goals as goal

pub returns : goal.returns
returns c = uid_put c.write.result c.uid_at-uid.result c.args.slots.now _ _ (omega (arith, c.if-slots-ne6.false)) c.uid_at-uid.ensures c.write.ensures.bytes
