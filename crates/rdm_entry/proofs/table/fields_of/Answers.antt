use Rattle.std.proofs.Common.{ℕ, subst}
use Rattle.std.specs.Option.{option_map}
use Rattle.rdm_params.specs.Table.Rows.{row_of}
use Rattle.rdm_entry.specs.Slots.{Fit}
use Rattle.rdm_entry.proofs.table.fields_of.Goals as goal

pub returns-in-Some : goal.returns-in-Some
returns-in-Some c =
    subst (λ (p : ℕ). Fit (row_of p) c.args.verb (option_map (λ fields. fields.now) c.fields_in_table.result)) c.in-Some.ensures.value c.fields_in_table.ensures
