use Rattle.std.specs.Prelude.{codes}
use Rattle.std.proofs.Common.{◌≡◌, ◌++◌, List, OnOk, subst}
use Rattle.json.specs.Json.{string}
use Rattle.json.specs.Token.{Token}
use Rattle.rdm_frame.specs.UidText.{uid_text}
use Rattle.rdm_compare.specs.Saving.{member_tokens, uid_member, value_tokens}
use Rattle.rdm_compare.proofs.SavedTokens.{member_joined}
use Rattle.rdm_compare.proofs.saved_text.put_uid.Goals as goal

pub returns-clause-tokens : goal.returns-clause-tokens
returns-clause-tokens c =
    let e : c.key.new.self.tokens ++ value_tokens (string (uid_text c.args.uid)) ≡ c.args.writer.now.tokens ++ member_tokens (uid_member c.args.uid)
    = rw c.in_ok-key.ensures.ok (member_joined c.args.writer.now.tokens (codes "uid") (string (uid_text c.args.uid))) in
    subst (λ (z : List Token). OnOk c.put_uid_word.result (c.put_uid_word.new.writer.tokens ≡ z)) e c.put_uid_word.ensures.tokens
