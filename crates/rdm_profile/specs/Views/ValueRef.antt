-- The value that the data of a command stand for.
use Rattle.std.specs.Prelude.{ℕ, length}
use Rattle.rdm_profile.specs.declared.value.Value.{Value}
use Rattle.rdm_profile.specs.declared.value.Value.TheVariants as values
use Rattle.rdm_profile.specs.declared.value.argument.ValueRef.{ValueRef}
use Rattle.rdm_profile.specs.declared.value.argument.ValueRef.TheVariants as refs

abbrev pub value_of_ref : ValueRef → Value
value_of_ref refs.Nothing = values.Nothing
value_of_ref (refs.Byte n) = values.Byte n
value_of_ref (refs.Word n) = values.Word n
value_of_ref (refs.Long n) = values.Long n
value_of_ref (refs.Preset mode level) = values.Preset mode level
value_of_ref (refs.Label text) = values.Label text.now

-- how many bytes the text has, or 0 if the value is none
abbrev pub text_length : ValueRef → ℕ
text_length (refs.Label text) = length text.now
text_length _ = 0
