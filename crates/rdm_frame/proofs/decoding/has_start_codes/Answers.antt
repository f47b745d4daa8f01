use Rattle.std.proofs.Common.{arith}
use Rattle.std.proofs.lemmas.Bool.{eqb-true, eq-eqb}
use Rattle.rdm_frame.proofs.decoding.has_start_codes.Goals as goal

-- each slot is a byte, so the number says both
pub returns : goal.returns
returns c =
    let first = c.type_inv.bytes 0 in
    let second = c.type_inv.bytes 1 in
    (λ same. let is = eqb-true c.from_be_bytes.result 52225 same in (omega (arith, is, c.from_be_bytes.ensures, first, second), omega (arith, is, c.from_be_bytes.ensures, first, second)), λ right. eq-eqb c.from_be_bytes.result 52225 (omega (arith, right.0, right.1, c.from_be_bytes.ensures)))
