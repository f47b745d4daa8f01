-- What the bytes of replies come to.
use Rattle.std.specs.Prelude.{ℕ, ◌%◌, ◌^◌, List, length, sum}
use Rattle.rdm_bench.specs.declared.tally.Tally.{Tally}

-- how many bytes these are, and their sum, in 64 bits
abbrev pub tally_of : List ℕ → Tally
tally_of bytes = record { bytes = length bytes % 2 ^ 64; total = sum bytes % 2 ^ 64 }
