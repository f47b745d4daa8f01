-- Commands without data: how these are read, and that they are in range.
use Rattle.std.proofs.Common.{◌≡◌, ℕ, ◌&&◌, ◌||◌, not, Bool, true, false, cond, List, length, Option, Some, None, Result, Ok, Err, refl, sym, ap, ◌∙◌}
use Rattle.std.specs.List.{list_all}
use Rattle.rdm_frame.specs.declared.nack.Nack.{Nack}
use Rattle.rdm_frame.specs.declared.nack.Nack.TheVariants.{FormatError}
use Rattle.rdm_table.specs.declared.kind.Verb.{Verb}
use Rattle.rdm_profile.specs.declared.value.Value.{Value}
use Rattle.rdm_profile.specs.declared.value.Value.TheVariants.{Nothing}
use Rattle.rdm_profile.specs.Forms.{Form, nothing, has_length}
use Rattle.rdm_added.specs.Spot.{Spot}
use Rattle.rdm_table.specs.Table.Rows.{Command, table, row_of, command_of}
use Rattle.rdm_table.specs.Table.Uses.{read, read_as, in_range_of, is_bare, is_nothing}
use Rattle.rdm_table.proofs.Rows.{holds}

abbrev ok : Value → Result Value Nack
ok v = Ok v

-- nothing is in the range of a command without data
abbrev pub takes_nothing : Spot → Option Command → Bool
takes_nothing spot command = not (is_bare command) || in_range_of command spot Nothing

rows_take_nothing : (spot : Spot) → list_all (λ r. takes_nothing spot r.get && takes_nothing spot r.set) table ≡ true
unfolding table
rows_take_nothing spot = refl

pub command_takes_nothing : (pid : ℕ) (verb : Verb) (spot : Spot) → takes_nothing spot (command_of pid verb) ≡ true
unfolding row_of
command_takes_nothing pid verb spot = holds (takes_nothing spot) table pid verb refl (rows_take_nothing spot)

read_nothing : (form : Form) (bytes : List ℕ) → is_nothing form ≡ true → read_as form bytes ≡ read_as nothing bytes
read_nothing nothing bytes bare = refl
read_nothing _ bytes bare = absurd cc

read_bare_at : (command : Option Command) (bytes : List ℕ) → is_bare command ≡ true → read command bytes ≡ read_as nothing bytes
read_bare_at None bytes bare = absurd cc
read_bare_at (Some c) bytes bare = read_nothing c.form bytes bare

pub read_bare : (pid : ℕ) (verb : Verb) (bytes : List ℕ) → is_bare (command_of pid verb) ≡ true → read (command_of pid verb) bytes ≡ read_as nothing bytes
read_bare pid verb bytes bare = read_bare_at (command_of pid verb) bytes bare

is_no_data : (fits : Bool) (v : Value) → cond fits (Ok Nothing) (Err FormatError) ≡ ok v → v ≡ Nothing
is_no_data true v e = cc
is_no_data false v e = absurd cc

then_in_range : (bare here : Bool) → bare ≡ true → (not bare || here) ≡ true → here ≡ true
then_in_range true here b e = e
then_in_range false here b e = absurd cc

-- what a command without data hands in is in its range
pub bare_in_range : (pid : ℕ) (verb : Verb) (spot : Spot) (v : Value) → is_bare (command_of pid verb) ≡ true → ((bytes : List ℕ) × read (command_of pid verb) bytes ≡ Ok v) → in_range_of (command_of pid verb) spot v ≡ true
bare_in_range pid verb spot v bare said =
    let none : v ≡ Nothing = is_no_data (has_length nothing (length said.0)) v (sym (read_bare pid verb said.0 bare) ∙ said.1) in
    ap (in_range_of (command_of pid verb) spot) none ∙ then_in_range (is_bare (command_of pid verb)) (in_range_of (command_of pid verb) spot Nothing) bare (command_takes_nothing pid verb spot)
