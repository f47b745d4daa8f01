-- One write after another.
use Rattle.std.proofs.Common.{◌≡◌, ℕ, ◌+◌, ◌-◌, List, ◌++◌, length, take, drop, Option, Some, None, sym, ap, ◌∙◌, append_assoc, arith}
use Rattle.std.specs.Io.KnownBytes.{Appends}
use Rattle.std.proofs.Math.Seq.{take-add}
use Rattle.std.proofs.lemmas.List.{take_all, length-drop}

appends_then : (old mid new : Option (List ℕ)) (xs ys : List ℕ) → Appends old mid xs → Appends mid new ys → Appends old new (xs ++ ys)
appends_then None mid new xs ys h k = tt
appends_then (Some a) None new xs ys h k = absurd h
appends_then (Some a) (Some b) None xs ys h k = absurd k
appends_then (Some a) (Some b) (Some c) xs ys h k = k ∙ ap (λ (zs : List ℕ). zs ++ ys) h ∙ append_assoc a xs ys

-- after the first bytes of some bytes, the next ones
pub appends_more : (old mid new : Option (List ℕ)) (bytes rest : List ℕ) (written count : ℕ) → rest ≡ take (length bytes - written) (drop written bytes)
    → Appends old mid (take written bytes) → Appends mid new (take count rest) → Appends old new (take (written + count) bytes)
appends_more old mid new bytes rest written count is_rest h k =
    let whole : rest ≡ drop written bytes = is_rest ∙ take_all (length bytes - written) (drop written bytes) (omega (arith, length-drop written bytes)) in
    let cut : take (written + count) bytes ≡ take written bytes ++ take count rest = take-add written count bytes ∙ ap (λ (xs : List ℕ). take written bytes ++ take count xs) (sym whole) in
    rw cut (appends_then old mid new (take written bytes) (take count rest) h k)
