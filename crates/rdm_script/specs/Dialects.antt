-- The dialects of the script language.
use Rattle.std.specs.Prelude.{List, []}
use Rattle.rdm_frame.specs.declared.uid.Uid.{Uid}
use Rattle.rdm_profile.specs.declared.profile.own.ParameterDef.{ParameterDef}
use Rattle.rdm_script.specs.declared.dialect.Spelling.{Spelling}
use Rattle.rdm_script.specs.declared.dialect.Spelling.TheVariants.{Strict, Friendly}

-- Of which device the words `dev` and `maker` speak, how the other words are spelled, and the parameters of its maker's own, by whose
-- names friendly words may call them.
pub record Dialect : Type 0 where
  pub device : Uid
  pub spelling : Spelling
  pub own : List ParameterDef

-- scripts for a device of this UID without such parameters, in words that are spelled so
abbrev pub dialect_of : Uid → Spelling → Dialect
dialect_of device spelling = record { device = device; spelling = spelling; own = [] }

-- scripts for a device of this UID, in words that are spelled strictly
abbrev pub strict : Uid → Dialect
strict device = dialect_of device Strict

-- the same in words that may be spelled as people say them
abbrev pub friendly : Uid → Dialect
friendly device = dialect_of device Friendly
