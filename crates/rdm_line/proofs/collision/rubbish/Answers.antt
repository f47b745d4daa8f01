use Rattle.rdm_line.proofs.Waves.{three_numbers}
use Rattle.rdm_line.proofs.collision.rubbish.Goals as goal

pub returns : goal.returns
returns c =
    three_numbers c.args.seed _ _ _ _ _ _ _ _ _ _ c.next_number-first.ensures c.next_number-second.ensures c.next_number-third.ensures c.to_be_bytes.ensures c.to_be_bytes-2.ensures c.to_be_bytes-3.ensures c.new-bytes.ensures c.append.ensures c.append-2.ensures c.append-3.ensures
