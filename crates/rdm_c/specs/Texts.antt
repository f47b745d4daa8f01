-- The text that a plain struct of C's stands for.
use Rattle.std.specs.Prelude.{ℕ, List, take}
use Rattle.rdm_c.specs.declared.profile.TextNumbers.{TextNumbers}

-- a count that is greater than the array stands for the whole array
abbrev pub text_in : TextNumbers → List ℕ
text_in t = take t.count t.bytes
