use Rattle.std.proofs.Common.{◌≡◌, ◌∷◌, ◌++◌, [], List, ℕ, length, map, slice_index, bit_or, refl, ap, sym, ◌∙◌, arith}
use Rattle.std.specs.List.{range_with_len}
use Rattle.std.proofs.lemmas.List.FromFn.{length-map-range_with_len, map-range_with_len_more}
use Rattle.rdm_line.proofs.collision.all_bits.Goals as goal

pub append-requires : goal.append-requires
append-requires c =
    let n = ap (length {A = ℕ}) c.loop-i.invariant ∙ length-map-range_with_len (λ i. bit_or (slice_index c.args.first.now i) (slice_index c.args.second.now i)) 0 c.loop-i.i in
    omega (arith, n, c.requires.first, c.requires.second)

pub loop-i-preserved : goal.loop-i-preserved
loop-i-preserved c =
    let f : ℕ → ℕ = λ j. bit_or (slice_index c.args.first.now j) (slice_index c.args.second.now j) in
    let one : bit_or c.byte_at.result c.byte_at-in-loop-i.result ≡ f c.loop-i.i = rw (c.byte_at.ensures, c.byte_at-in-loop-i.ensures) refl in
    c.append.ensures
    ∙ ap (λ (xs : List ℕ). xs ++ bit_or c.byte_at.result c.byte_at-in-loop-i.result ∷ []) c.loop-i.invariant
    ∙ ap (λ (n : ℕ). map f (range_with_len 0 c.loop-i.i) ++ n ∷ []) one
    ∙ sym (map-range_with_len_more f 0 c.loop-i.i c.loop-i.i (omega arith))

pub returns : goal.returns
returns c =
    let f : ℕ → ℕ = λ j. bit_or (slice_index c.args.first.now j) (slice_index c.args.second.now j) in
    let all : c.loop-i.i ≡ c.max-i-end.result = omega (arith, c.loop-i.auto.i-end, c.loop-i-test.false) in
    c.loop-i.invariant ∙ ap (λ (n : ℕ). map f (range_with_len 0 n)) (all ∙ c.max-i-end.ensures)
