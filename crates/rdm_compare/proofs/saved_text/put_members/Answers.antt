use Rattle.std.proofs.Common.{◌≡◌, ◌++◌, List, OnOk, subst}
use Rattle.json.specs.Token.{Token}
use Rattle.rdm_compare.specs.Saving.{kept_members, member_tokens, members_tokens, subs_member}
use Rattle.rdm_compare.proofs.SavedTokens.{kept_joined}
use Rattle.rdm_compare.proofs.saved_text.put_members.Goals as goal

pub returns-clause-tokens : goal.returns-clause-tokens
returns-clause-tokens c =
    let e : c.put_field_list.new.writer.tokens ++ member_tokens (subs_member c.as_slice.result.now)
    ≡ c.args.writer.now.tokens ++ members_tokens (kept_members c.args.kept.now)
    = rw (c.as_slice.ensures, c.in_ok-put_field_list.ensures.tokens, c.in_ok-put_uid.ensures.tokens) (kept_joined c.args.writer.now.tokens c.args.kept.now) in
    subst (λ (z : List Token). OnOk c.put_subs.result (c.put_subs.new.writer.tokens ≡ z)) e c.put_subs.ensures.tokens
