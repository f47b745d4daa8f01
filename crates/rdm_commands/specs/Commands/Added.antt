-- A command of a parameter that the maker adds, at the root: rules 7 to 10, its reply, and what it leaves.
use Rattle.std.specs.Prelude.{ℕ, true, List, Option, Result, Ok, Err}
use Rattle.rdm_frame.specs.declared.nack.Nack.{Nack}
use Rattle.rdm_table.specs.declared.kind.Verb.{Verb}
use Rattle.rdm_table.specs.declared.kind.Verb.TheVariants.{Set}
use Rattle.rdm_profile.specs.declared.profile.Profile.{Profile}
use Rattle.rdm_profile.specs.declared.value.Value.{Value}
use Rattle.rdm_added.specs.Map.{Entry}
use Rattle.rdm_added.specs.Spot.{Spot}
use Rattle.rdm_commands.specs.Commands.Commands.{read_data_at, unprotected, ◌>>=◌}
use Rattle.rdm_table.specs.Table.Uses.{added_written, access, reply}
use Rattle.rdm_table.specs.Table.Rows.{Command, Row, row_in, added_rows, command_in}

-- the row that the profile adds for a PID
abbrev pub row_here : Profile → ℕ → Option Row
row_here profile pid = row_in (added_rows profile) pid

-- rules 7 to 10: the value that the data of a command of this row stand for, behind a step that may refuse them
abbrev pub handed_with : Result (Unit {0}) Nack → Spot → Option Row → Verb → List ℕ → Result Value Nack
handed_with free spot row verb bytes = access row true verb >>= (λ found. free >>= (λ passed. read_data_at (command_in row verb) spot bytes))

-- of the row of this PID
abbrev pub handed_here : Spot → ℕ → Option Row → Verb → List ℕ → Result Value Nack
handed_here spot pid row verb bytes = handed_with (unprotected spot.profile spot.added pid (command_in row verb) verb bytes) spot row verb bytes

-- the data of the reply to a command that the parameter has: rules 9 and 10
abbrev pub reply_of : Spot → Option Command → List ℕ → Result (List ℕ) Nack
reply_of spot command bytes = read_data_at command spot bytes >>= (λ value. Ok (reply command spot value))

-- the data of its reply
abbrev pub reply_here : Spot → ℕ → Option Row → Verb → List ℕ → Result (List ℕ) Nack
reply_here spot pid row verb bytes = handed_here spot pid row verb bytes >>= (λ value. Ok (reply (command_in row verb) spot value))

abbrev pub stored_here : Spot → Option Command → Result Value Nack → List Entry
stored_here spot command (Err nack) = spot.added
stored_here spot command (Ok value) = added_written command value spot

-- the values of the parameters that the maker adds, after its SET
abbrev pub after_with : Result (Unit {0}) Nack → Spot → Option Row → List ℕ → List Entry
after_with free spot row bytes = stored_here spot (command_in row Set) (handed_with free spot row Set bytes)

abbrev pub after_here : Spot → ℕ → Option Row → List ℕ → List Entry
after_here spot pid row bytes = stored_here spot (command_in row Set) (handed_here spot pid row Set bytes)
