-- What stands at the front of a list of bytes, by its numbers.
use Rattle.std.proofs.Common.{◌≡◌, ℕ, ◌+◌, ◌-◌, ◌*◌, ◌%◌, ◌^◌, ◌≤◌, eqb, false, List, [], ◌∷◌, length, take, drop, Some, refl, arith, eq-eqb}
use Rattle.std.proofs.lemmas.Bool.{le-ltb}
use Rattle.rdm_capture.specs.declared.packet.Order.{Order}
use Rattle.rdm_capture.specs.declared.packet.Order.TheVariants.{Big, Little}
use Rattle.rdm_capture.specs.declared.packet.Interface.{Interface}
use Rattle.rdm_capture.specs.Numbers.{number, nanoseconds}
use Rattle.rdm_capture.specs.Packets.{Told, ASection, Piece}
use Rattle.rdm_capture.specs.Blocks.{captured, padded, option_in, block_size, order_in, section_at, direction_of, enhanced_in, body_says, block_at}

abbrev pub piece_with : ℕ → Told → Piece
piece_with size says = record { size = size; says = says }

pub size_is : (order : Order) (t : List ℕ) (size : ℕ) → 12 ≤ length t → number order 4 (drop 4 t) ≡ size → 12 ≤ size → size ≤ length t
    → size % 4 ≡ 0 → number order 4 (drop (size - 4) t) ≡ size → block_size order t ≡ Some size
unfolding block_size
size_is order t size long is least within multiple again =
    rw (le-ltb (length t) 12 long, is, le-ltb size 12 least, le-ltb (length t) size within, multiple, again, eq-eqb size size refl) refl

pub section_is : (t : List ℕ) (size : ℕ) (interfaces : List Interface) (order : Order) → 12 ≤ length t → number Big 4 t ≡ 0x0A0D0D0A → order_in t ≡ Some Little
    → block_size Little t ≡ Some size → 28 ≤ size → block_at order interfaces t ≡ Some (piece_with size (ASection Little))
unfolding block_at section_at
section_is t size interfaces order long kind is whole least = rw (le-ltb (length t) 12 long, kind, is, whole, le-ltb size 28 least) refl

pub block_is : (t body : List ℕ) (size kind : ℕ) (interfaces : List Interface) (says : Told) → 12 ≤ length t → eqb (number Big 4 t) 0x0A0D0D0A ≡ false
    → block_size Little t ≡ Some size → number Little 4 t ≡ kind → take (size - 12) (drop 8 t) ≡ body → body_says Little interfaces kind body ≡ Some says
    → block_at Little interfaces t ≡ Some (piece_with size says)
unfolding block_at
block_is t body size kind interfaces says long other whole is part said = rw (le-ltb (length t) 12 long, other, whole, is, part, said) refl

pub enhanced_is : (interface : Interface) (t options frame : List ℕ) (count high low : ℕ) → 20 + count ≤ length t → number Little 4 (drop 12 t) ≡ count
    → number Little 4 t ≡ 0 → number Little 4 (drop 4 t) ≡ high → number Little 4 (drop 8 t) ≡ low → drop (20 + padded count) t ≡ options
    → take count (drop 20 t) ≡ frame
    → enhanced_in Little (interface ∷ []) t ≡ Some (captured interface (Some (nanoseconds interface.resolution (high * 2 ^ 32 + low))) (direction_of Little (option_in Little 2 options)) frame)
unfolding enhanced_in
enhanced_is interface t options frame count high low long is first upper lower behind part =
    let least : 20 ≤ length t = omega arith in
    rw (le-ltb (length t) 20 least, is, le-ltb (length t) (20 + count) long, first, upper, lower, behind, part) refl
