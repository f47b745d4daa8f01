-- Texts without expectations.
use Rattle.std.proofs.Common.{◌≡◌, ℕ, suc, List, [], ◌∷◌, map, All, false, refl, ap, ◌∙◌, arith}
use Rattle.std.specs.List.{join_with_byte}
use Rattle.std.proofs.lemmas.List.Splits.{join_with_byte-slice_split}
use Rattle.rdm_trace.specs.Traces.{pieces_of}
use Rattle.rdm_expect.specs.Sheets.{is_expectation, kept, script_of}

all_kept : (lines : List (List ℕ)) → All (λ line. is_expectation line ≡ false) lines → map kept lines ≡ lines
all_kept [] h = refl
all_kept (line ∷ lines) h =
    let here : is_expectation line ≡ false = h 0 line (omega arith) in
    let rest : map kept lines ≡ lines = all_kept lines (λ k d lt. h (suc k) d (omega (arith, lt))) in
    rw here (ap (λ (l : List (List ℕ)). line ∷ l) rest)

pub own_script : (text : List ℕ) → All (λ line. is_expectation line ≡ false) (pieces_of text) → script_of text ≡ text
unfolding pieces_of
own_script text h = ap (join_with_byte 10) (all_kept (pieces_of text) h) ∙ join_with_byte-slice_split 10 text
