use Rattle.std.proofs.Common.{◌≡◌, ℕ, ◌<◌, true, false, slice_index_or}
use Rattle.rdm_lane.proofs.take.all_marked.Given as goal

abbrev pub invariant-loop-producer : goal.invariant-loop-producer
invariant-loop-producer l = (p : ℕ) → p < l.producer → slice_index_or l.marks p false ≡ true
