use Rattle.std.proofs.Common.{refl, inl, inr}
use Rattle.toml.specs.View.{table_view}
use Rattle.rdm_fixture.specs.FirstWrong.{locking_parts}
use Rattle.rdm_fixture_keys.specs.Wrong.{FirstWrong}
use Rattle.rdm_fixture_keys.proofs.Parts.{exit, some}
use Rattle.rdm_fixture.proofs.profile.locks.LockingFromEntry.from_entry.Goals as goal

pub returns-in_err-number-clause-wrong : goal.returns-in_err-number-clause-wrong
returns-in_err-number-clause-wrong c =
    exit (FirstWrong locking_parts (table_view c.args.table.now)) _ _ c.from_residual-in_err-number.ensures.1
    (inr (c.in_ok-only.ensures.variant.0 refl, inl c.in_err-number.ensures.wrong))

pub returns-in_err-locked-clause-wrong : goal.returns-in_err-locked-clause-wrong
returns-in_err-locked-clause-wrong c =
    exit (FirstWrong locking_parts (table_view c.args.table.now)) _ _ c.from_residual-in_err-locked.ensures.1
    (inr (c.in_ok-only.ensures.variant.0 refl, inr (some _ c.in_ok-number.ensures.value, inl c.in_err-locked.ensures.wrong)))
