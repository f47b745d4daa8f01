-- The bytes that a plate keeps its text in.
use Rattle.std.proofs.Common.{ℕ, ◌≤◌, List, ◌++◌, length, drop, replicate, ◌∙◌, arith, length-append}
use Rattle.std.proofs.lemmas.List.{drop-replicate, length-drop}
use Rattle.std.proofs.Math.Seq.{drop-append_seam}
use Rattle.rdm_commands.specs.Views.Plates.{HoldsText}

pub holds_text : (text : List ℕ) → length text ≤ 32 → HoldsText (text ++ drop (length text) (replicate 32 0)) (length text)
holds_text text fits =
    let blank : List ℕ = replicate 32 0 in
    let rest : List ℕ = drop (length text) blank in
    record {
      fits = fits;
      whole = omega (arith, length-append text rest, length-drop (length text) blank, fits);
      blank = drop-append_seam text rest ∙ drop-replicate (length text) 32 0;
    }
