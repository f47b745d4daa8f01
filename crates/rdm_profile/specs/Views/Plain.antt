-- Values without names for their fields, which the code writes apart.
use Rattle.std.specs.Prelude.{Bool, true, false}
use Rattle.rdm_profile.specs.declared.value.Value.{Value}
use Rattle.rdm_profile.specs.declared.value.Value.TheVariants.{Nothing, Byte, Word, Long, Pair, Label, Block}

-- whether a value has no names for its fields
abbrev pub is_plain : Value → Bool
is_plain Nothing = true
is_plain (Byte n) = true
is_plain (Word n) = true
is_plain (Long n) = true
is_plain (Pair m n) = true
is_plain (Label text) = true
is_plain (Block bytes) = true
is_plain _ = false
