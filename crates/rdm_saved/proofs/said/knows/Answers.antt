use Rattle.std.proofs.Common.{ℕ, ◌-◌, List, length, take, drop, ap, ◌∙◌}
use Rattle.rdm_saved.specs.Carrying.{has_piece, said_own}
use Rattle.rdm_saved.proofs.Carried.{all_behind}
use Rattle.rdm_saved.proofs.said.knows.Goals as goal

pub returns : goal.returns
returns c =
    c.has_piece.ensures ∙ ap (λ (n : ℕ). has_piece 4 n (take (length c.args.image.now - 23) (drop 23 c.args.image.now)) c.own_text.result) c.said_own.ensures.value
    ∙ ap (λ (xs : List ℕ). has_piece 4 (said_own c.args.image.now) xs c.own_text.result) (all_behind 23 c.args.image.now)
    ∙ ap (λ (text : List ℕ). has_piece 4 (said_own c.args.image.now) (drop 23 c.args.image.now) text) c.own_text.ensures
