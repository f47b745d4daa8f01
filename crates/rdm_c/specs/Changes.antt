-- What a request changed, as the numbers that C has of it.
use Rattle.std.specs.Prelude.{◌≡◌, ℕ, ◌==◌, if◌then◌else◌, Option, Some, None}
use Rattle.rdm_commands.specs.declared.changed.Changed.{Changed}
use Rattle.rdm_commands.specs.declared.changed.Changed.TheVariants.{Value, Several}
use Rattle.rdm_c.specs.declared.job.SteppedNumbers.{SteppedNumbers}

-- nothing changed, the values of one parameter at one device, or those of several
abbrev pub change_code : Option Changed → ℕ
change_code None = 0
change_code (Some (Value sub pid)) = 1
change_code (Some Several) = 2

-- the sub-device, which is 0 for the root, and the parameter, if it is one value, else 0
abbrev pub sub_told : Option Changed → ℕ
sub_told (Some (Value sub pid)) = sub
sub_told _ = 0

abbrev pub pid_told : Option Changed → ℕ
pid_told (Some (Value sub pid)) = pid
pid_told _ = 0

-- the same numbers, but telling of this change
abbrev pub with_change : SteppedNumbers → Option Changed → SteppedNumbers
with_change s changed = record s {
  changed = change_code changed;
  changed_sub_device = sub_told changed;
  changed_parameter = pid_told changed;
}

-- the change that C is told of
abbrev pub change_in : SteppedNumbers → Option Changed
change_in s =
    if s.changed == 1 then Some (Value s.changed_sub_device s.changed_parameter) else if s.changed == 2 then Some Several else None

-- The numbers tell of a change in the one way that there is: those that say nothing are 0.
abbrev pub IsPlainly : SteppedNumbers → Type 0
IsPlainly s = s ≡ with_change s (change_in s)
