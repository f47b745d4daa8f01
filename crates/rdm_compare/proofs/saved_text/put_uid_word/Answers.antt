use Rattle.rdm_compare.specs.Saving.{value_tokens}
use Rattle.rdm_compare.proofs.SavedTokens.{uid_ascii}
use Rattle.rdm_compare.proofs.saved_text.put_uid_word.Goals as goal

pub returns-clause-tokens : goal.returns-clause-tokens
unfolding value_tokens
returns-clause-tokens c = rw (← c.text-word.ensures) (c.put_string.ensures.tokens (rw c.text-word.ensures (uid_ascii c.args.uid)))
