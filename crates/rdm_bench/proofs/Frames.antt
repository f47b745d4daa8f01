-- Byte strings in one, taken off one by one.
use Rattle.std.proofs.Common.{◌≡◌, ℕ, suc, ◌<◌, ◌^◌, true, false, List, [], ◌∷◌, ◌++◌, length, map, Bor, sym, ◌∙◌, arith, append_assoc}
use Rattle.std.specs.Int.{w16, to_be_bytes}
use Rattle.std.proofs.lemmas.List.{map_push, append-nil}
use Rattle.rdm_bench.specs.Packed.{packed, ArePackable}

-- the byte strings behind the references
abbrev pub bytes_of : List (Bor (List ℕ)) → List (List ℕ)
bytes_of frames = map (λ frame. frame.now) frames

-- these are found, and those are still packed
abbrev pub IsUnpackedTo : List (List ℕ) → List (Bor (List ℕ)) → List ℕ → Type 0
IsUnpackedTo frames found rest = (others : List (List ℕ)) × ArePackable others × (bytes_of found ++ others ≡ frames) × (rest ≡ packed others)

tail_packable : (frame : List ℕ) (others : List (List ℕ)) → ArePackable (frame ∷ others) → ArePackable others
tail_packable frame others all k d lt = all (suc k) d (omega arith)

pub one_more_found : (frames : List (List ℕ)) (found more : List (Bor (List ℕ))) (frame : Bor (List ℕ)) (rest behind : List ℕ) → more ≡ found ++ frame ∷ [] → (rest ≡ [] → true ≡ false) → ((f b : List ℕ) → length f < 2 ^ 16 → rest ≡ to_be_bytes w16 (length f) ++ f ++ b → (frame.now ≡ f) × (behind ≡ b)) → IsUnpackedTo frames found rest → IsUnpackedTo frames more behind
one_more_found frames found more frame rest behind pushed some first ([], all, joined, is) = let empty : true ≡ false = some is in cc
one_more_found frames found more frame rest behind pushed some first (next ∷ others, all, joined, is) =
    let both = first next (packed others) (all 0 [] (omega arith)) is in
    (others, tail_packable next others all, (rw (pushed, map_push (λ (b : Bor (List ℕ)). b.now) found frame, both.0) (append_assoc (bytes_of found) (next ∷ []) others ∙ joined)), both.1)

pub all_found : (frames : List (List ℕ)) (found : List (Bor (List ℕ))) (rest : List ℕ) → ((f b : List ℕ) → length f < 2 ^ 16 → rest ≡ to_be_bytes w16 (length f) ++ f ++ b → ⊥) → IsUnpackedTo frames found rest → bytes_of found ≡ frames
all_found frames found rest none ([], all, joined, is) = sym (append-nil (bytes_of found)) ∙ joined
all_found frames found rest none (next ∷ others, all, joined, is) = absurd (none next (packed others) (all 0 [] (omega arith)) is)
