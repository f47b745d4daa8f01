use Rattle.std.proofs.Common.{ℕ, List, [], ◌∷◌, OnOk, string_bytes, subst}
use Rattle.rdm_frame.specs.Digits.{digits}
use Rattle.rdm_words.specs.Naming.{PutsFacts}
use Rattle.rdm_words.proofs.Reports.{described_put}
use Rattle.rdm_words.proofs.data.statuses.put_described.Goals as goal

pub returns : goal.returns
returns c =
    subst (λ (id : List ℕ). OnOk c.put_behind.result (PutsFacts (digits id ∷ []) (string_bytes c.args.text.now) (string_bytes c.put_behind.new.text)))
    c.to_be_bytes.ensures
    (described_put c.put_behind.result c.as_str.result.now (digits c.to_be_bytes.result) _ _ _ c.in_ok-push_str.ensures.bytes c.put_behind.ensures)
