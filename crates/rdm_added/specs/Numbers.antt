-- Numbers that a SET hands in, and that are kept as their data. E1.20 section 10.4.2 and table A-15.
use Rattle.std.specs.Prelude.{ℕ, ℤ, Bool, true, false, List, Option}
use Rattle.std.specs.Option.{option_and_then}
use Rattle.rdm_profile.specs.declared.profile.own.Rights.{Rights}
use Rattle.rdm_profile.specs.declared.profile.own.Rights.TheVariants as rights
use Rattle.rdm_profile.specs.declared.profile.own.Shape.{Shape}
use Rattle.rdm_profile.specs.declared.profile.own.Shape.TheVariants as shapes
use Rattle.rdm_profile.specs.Forms.{value_of}
use Rattle.rdm_profile.specs.OwnParameters.{form_of, number_in}

-- whether the data that a SET hands in are a number, and nothing beside it, as a PIN
abbrev pub is_number : Shape → Bool
is_number shapes.Byte = true
is_number shapes.Word = true
is_number shapes.Long = true
is_number shapes.SignedByte = true
is_number shapes.SignedWord = true
is_number shapes.SignedLong = true
is_number shapes.Choice = true
is_number _ = false

-- whether a parameter of these commands and of this shape keeps a number that a SET hands in
abbrev pub sets_number : Rights → Shape → Bool
sets_number rights.Both shape = is_number shape
sets_number _ shape = false

-- the number that data say in a shape, if they have its length
abbrev pub number_said : Shape → List ℕ → Option ℤ
number_said shape bytes = option_and_then (number_in shape) (value_of (form_of shape) bytes)
