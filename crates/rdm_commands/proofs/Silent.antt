-- A reply that has no data at any device has none at the first that is addressed.
use Rattle.std.proofs.Common.{◌≡◌, [], Option, Some, None, refl}
use Rattle.std.specs.Option.{option_map_or}
use Rattle.rdm_profile.specs.declared.value.Value.{Value}
use Rattle.rdm_added.specs.Spot.{Spot}
use Rattle.rdm_table.specs.Table.Rows.{Command}
use Rattle.rdm_table.specs.Table.Uses.{reply}

pub silent_at : (command : Option Command) (here : Option Spot) → ((spot : Spot) (value : Value) → reply command spot value ≡ []) → (value : Value) → option_map_or (λ spot. reply command spot value) here [] ≡ []
silent_at command None silent value = refl
silent_at command (Some spot) silent value = silent spot value
