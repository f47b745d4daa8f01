use Rattle.std.proofs.Common.{◌≡◌, map, slice_index, bit_or}
use Rattle.std.specs.List.{range_with_len}
use Rattle.rdm_line.proofs.collision.all_bits.Given as goal

-- the bytes before this one
abbrev pub invariant-loop-i : goal.invariant-loop-i
invariant-loop-i l = l.both ≡ map (λ i. bit_or (slice_index l.first i) (slice_index l.second i)) (range_with_len 0 l.i)
