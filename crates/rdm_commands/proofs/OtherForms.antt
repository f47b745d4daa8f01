-- No value of a form that no command has is in range.
use Rattle.std.proofs.Common.{◌≡◌, ℕ, ◌==◌, ◌&&◌, not, Bool, true, false, List, [], ◌∷◌, Option, refl}
use Rattle.std.specs.Prelude.{is_ok}
use Rattle.std.specs.List.{list_all}
use Rattle.rdm_table.specs.declared.kind.Kind.{Kind}
use Rattle.rdm_table.specs.declared.kind.Verb.{Verb}
use Rattle.rdm_profile.specs.declared.value.Value.{Value}
use Rattle.rdm_profile.specs.declared.value.Value.TheVariants.{Pair, Named, SlotName, Mode, Reading, Sensor, Info, Block}
use Rattle.rdm_commands.specs.Commands.Commands.{in_range, addressed, is_some_device}
use Rattle.rdm_table.specs.Table.Rows.{command_of, Command, table, row_of, is_left_out}
use Rattle.rdm_profile.specs.Forms.{is_of_a_form}
use Rattle.rdm_table.specs.Table.Kinds.{pid_of}
use Rattle.rdm_added.specs.Parameters.{Parameters}
use Rattle.rdm_added.specs.Spot.{Spot}
use Rattle.rdm_table.specs.Table.Uses.{access, in_range_of}
use Rattle.rdm_table.proofs.Bools.{is_not}
use Rattle.rdm_table.proofs.Rows.{holds}

-- the command doesn't have the value in its range
abbrev refuses : Spot → Value → Option Command → Bool
refuses spot v command = not (in_range_of command spot v)

rows_refuse : (spot : Spot) (v : Value) → is_of_a_form v ≡ false → list_all (λ r. refuses spot v r.get && refuses spot v r.set) table ≡ true
unfolding table
rows_refuse spot (Pair m n) other = refl
rows_refuse spot (Named number name) other = refl
rows_refuse spot (SlotName offset name) other = refl
rows_refuse spot (Mode number footprint name) other = refl
rows_refuse spot (Reading number present lowest highest recorded) other = refl
rows_refuse spot (Sensor number def) other = refl
rows_refuse spot (Info protocol model category software footprint personality personalities start subs sensors) other = refl
rows_refuse spot (Block bytes) other = refl
rows_refuse spot _ other = absurd cc

command_refuses : (pid : ℕ) (verb : Verb) (spot : Spot) (v : Value) → is_of_a_form v ≡ false → in_range_of (command_of pid verb) spot v ≡ false
unfolding row_of
command_refuses pid verb spot v other = is_not (in_range_of (command_of pid verb) spot v) (holds (refuses spot v) table pid verb refl (rows_refuse spot v other))

never_all : (a : Bool) (test : Spot → Bool) (spots : List Spot) → ((spot : Spot) → test spot ≡ false) → ((is_some_device spots && a) && list_all test spots) ≡ false
never_all a test [] none = refl
never_all true test (spot ∷ spots) none = rw (none spot) refl
never_all false test (spot ∷ spots) none = refl

and_never : (a b : Bool) → b ≡ false → (a && b) ≡ false
and_never true b e = e
and_never false b e = refl

pub never_in_range : (p : Parameters) (sub : ℕ) (kind : Kind) (verb : Verb) (v : Value) → is_of_a_form v ≡ false → in_range p sub kind verb v ≡ false
unfolding in_range
never_in_range p sub kind verb v other =
    and_never (not (is_left_out p.profile (pid_of kind))) _ (never_all (is_ok (access (row_of (pid_of kind)) (sub == 0) verb)) (λ spot. in_range_of (command_of (pid_of kind) verb) spot v) (addressed p sub verb) (λ spot. command_refuses (pid_of kind) verb spot v other))

as_all : (left some known all r : Bool) → left ≡ false → some ≡ true → known ≡ true → r ≡ all → r ≡ (not left && ((some && known) && all))
as_all false true true all r e f g h = h
as_all true some known all r e f g h = absurd cc
as_all false false known all r e f g h = absurd cc
as_all false true false all r e f g h = absurd cc

-- of a parameter that the devices have, the range at each of them decides
pub in_range_by : (p : Parameters) (sub : ℕ) (kind : Kind) (verb : Verb) (v : Value) (r : Bool) → is_left_out p.profile (pid_of kind) ≡ false → is_some_device (addressed p sub verb) ≡ true → is_ok (access (row_of (pid_of kind)) (sub == 0) verb) ≡ true → r ≡ list_all (λ spot. in_range_of (command_of (pid_of kind) verb) spot v) (addressed p sub verb) → r ≡ in_range p sub kind verb v
unfolding in_range
in_range_by p sub kind verb v r e f g h = as_all (is_left_out p.profile (pid_of kind)) (is_some_device (addressed p sub verb)) (is_ok (access (row_of (pid_of kind)) (sub == 0) verb)) _ r e f g h
