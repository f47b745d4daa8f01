-- What is on the wire when devices answer at once. E1.20 section 7.5.
use Rattle.std.specs.Prelude.{ℕ, ◌+◌, ◌*◌, ◌%◌, ◌^◌, List, [], ◌∷◌, ◌++◌, length, map, max, fold, slice_index, bit_or}
use Rattle.std.specs.List.{range_with_len}
use Rattle.std.specs.Int.{w64, to_be_bytes}
use Rattle.rdm_line.specs.declared.on_wire.OnWire.{OnWire}
use Rattle.rdm_line.specs.declared.on_wire.OnWire.TheVariants.{Nothing, Reply, Collision as Collided}
use Rattle.rdm_line.specs.declared.collision.Collision.{Collision}
use Rattle.rdm_line.specs.declared.collision.Collision.TheVariants.{AllBits, First, Rubbish}

-- Each byte has the bits that either list has set there. The longer one goes on alone.
abbrev pub all_bits : List ℕ → List ℕ → List ℕ
all_bits xs ys = map (λ i. bit_or (slice_index xs i) (slice_index ys i)) (range_with_len 0 (max (length xs) (length ys)))

-- the number after this one in a sequence without an order that can be seen
abbrev pub next_number : ℕ → ℕ
next_number n = (n * 6364136223846793005 + 1442695040888963407) % 2 ^ 64

-- 24 bytes, as many as an answer has, that a seed gives
abbrev pub rubbish : ℕ → List ℕ
rubbish seed =
    to_be_bytes w64 (next_number seed) ++ to_be_bytes w64 (next_number (next_number seed))
    ++ to_be_bytes w64 (next_number (next_number (next_number seed)))

-- what two answers or more make together: all bits of all, the first alone, or rubbish
abbrev pub collided : Collision → List ℕ → List (List ℕ) → List ℕ
collided AllBits first others = fold all_bits first others
collided First first others = first
collided (Rubbish seed) first others = rubbish seed

-- What is on the wire when these are the answers, and its bytes, where `before` stood before.
abbrev pub on_wire : Collision → List ℕ → List (List ℕ) → OnWire × List ℕ
on_wire rule before [] = (Nothing, before)
on_wire rule before (answer ∷ []) = (Reply, answer)
on_wire rule before (first ∷ (second ∷ others)) = (Collided, collided rule first (second ∷ others))
