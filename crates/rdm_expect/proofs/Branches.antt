-- What `found` demands.
use Rattle.std.proofs.Common.{◌≡◌, ℕ, ◌-◌, ◌&&◌, true, List, length, drop, refl, sym, ap, ◌∙◌, arith, length-drop}
use Rattle.std.specs.Prelude.{◌↔◌, nat_le}
use Rattle.std.specs.Str.{bytes_eq}
use Rattle.std.proofs.lemmas.Bool.{and_parts, and_from, leb-true, le-leb}
use Rattle.std.proofs.lemmas.Slice.Eq.{bytes_eq-Decides}
use Rattle.rdm_frame.specs.declared.uid.Uid.{Uid}
use Rattle.rdm_frame.specs.Discovery.{IsBranchReply, branch_reply}
use Rattle.rdm_expect.specs.Verdicts.{is_answer_of}

size_of : (u : Uid) → length (branch_reply u) ≡ 24
unfolding branch_reply
size_of u = refl

pub answers : (u : Uid) (bytes : List ℕ) → (is_answer_of u bytes ≡ true) ↔ IsBranchReply u bytes
answers u bytes = (
  λ e.
      let parts = and_parts (nat_le (24 - length bytes) 7) (bytes_eq bytes (drop (24 - length bytes) (branch_reply u))) e in
      (24 - length bytes, leb-true (24 - length bytes) 7 parts.0, (bytes_eq-Decides bytes (drop (24 - length bytes) (branch_reply u))).0 parts.1),
  λ is.
      let size : length bytes ≡ 24 - is.0 =
      ap (λ (l : List ℕ). length l) is.2 ∙ length-drop is.0 (branch_reply u) ∙ ap (λ n. n - is.0) (size_of u) in
      let same : 24 - length bytes ≡ is.0 = omega (arith, size, is.1) in
      and_from _ _ (le-leb (24 - length bytes) 7 (omega (arith, same, is.1)))
      ((bytes_eq-Decides bytes (drop (24 - length bytes) (branch_reply u))).1 (is.2 ∙ ap (λ n. drop n (branch_reply u)) (sym same))),
)
