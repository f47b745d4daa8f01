-- Which refusals `==` holds equal: those that tell the same. A name has unused room behind its text, of which nothing is told.
use Rattle.std.specs.Prelude.{◌≡◌, Option, Some, None}
use Rattle.rdm_fixture_keys.specs.declared.refusal.Entry.{Entry}
use Rattle.rdm_fixture_keys.specs.declared.refusal.Refusal.{Refusal}

-- the same entry of a list of the same name
abbrev pub IsSameEntry : Entry → Entry → Type 0
IsSameEntry a b = (a.list.bytes ≡ b.list.bytes) × (a.number ≡ b.number)

-- the same entry, or none both times
abbrev pub IsSamePlace : Option Entry → Option Entry → Type 0
IsSamePlace None None = Unit {0}
IsSamePlace (Some a) (Some b) = IsSameEntry a b
IsSamePlace _ _ = ⊥

-- the same of the same key, in the same place
pub record IsSameRefusal (a b : Refusal) : Type 0 where
  pub section : a.section ≡ b.section
  pub entry : IsSamePlace a.entry b.entry
  pub key : a.key.bytes ≡ b.key.bytes
  pub wanted : a.wanted ≡ b.wanted
  pub line : a.line ≡ b.line
