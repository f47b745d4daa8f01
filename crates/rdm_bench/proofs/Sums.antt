-- The tally of bytes, and of more bytes.
use Rattle.std.proofs.Common.{◌≡◌, ℕ, ◌+◌, ◌%◌, ◌^◌, List, ◌++◌, length, refl, length-append}
use Rattle.std.specs.Prelude.{sum}
use Rattle.std.proofs.Math.Nat.{mod-add-mod}
use Rattle.std.proofs.lemmas.List.Sums.{sum_by-append}
use Rattle.rdm_bench.specs.declared.tally.Tally.{Tally}
use Rattle.rdm_bench.specs.Tally.{tally_of}

-- the tally with more bytes added to it is that of all
pub tally_of_more : (before more : List ℕ) (tally after : Tally) → tally ≡ tally_of before → after ≡ record { bytes = (tally.bytes + length more) % 2 ^ 64; total = (tally.total + sum more) % 2 ^ 64 } → after ≡ tally_of (before ++ more)
tally_of_more before more tally after e a =
    rw (a, e, mod-add-mod (length before), mod-add-mod (sum before), length-append before more, sum_by-append (λ x. x) before more) refl
