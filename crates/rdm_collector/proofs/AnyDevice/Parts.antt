-- The data of the parts of a message, one part after the other.
use Rattle.std.proofs.Common.{◌≡◌, ℕ, Bool, true, false, cond, List, [], ◌∷◌, ◌++◌, subst, ◌∙◌, append_assoc}
use Rattle.rdm_collector.specs.declared.any_device.collected.Collected.{Collected}
use Rattle.rdm_collector.specs.AnyDevice.Parts.{data_behind, is_repeat}

pub past_repeat : (start total : List ℕ) (before c : Collected) (cs : List Collected) → is_repeat before c ≡ true → start ++ data_behind before (c ∷ cs) ≡ total
    → start ++ data_behind c cs ≡ total
past_repeat start total before c cs e h =
    let P : Bool → Type 0 = λ b. start ++ (cond b [] c.message.body ++ data_behind c cs) ≡ total in
    subst P e h

pub past_part : (start total : List ℕ) (before c : Collected) (cs : List Collected) → is_repeat before c ≡ false → start ++ data_behind before (c ∷ cs) ≡ total
    → (start ++ c.message.body) ++ data_behind c cs ≡ total
past_part start total before c cs e h =
    let P : Bool → Type 0 = λ b. start ++ (cond b [] c.message.body ++ data_behind c cs) ≡ total in
    append_assoc start c.message.body (data_behind c cs) ∙ subst P e h
