-- One end of a line: who reads and writes there.
use Rattle.std.specs.Prelude.{ℕ, List, Option}

-- What changes at an end of a line: its clock, what there is to read and what was written, where this is known, and what it holds
-- of what it read.
pub record End (C : Type 0) : Type 0 where
  pub clock : C
  pub unread : Option (List ℕ)
  pub written : Option (List ℕ)
  pub held : List ℕ

-- the end where the clock stands so, with this to read, this written and this held
abbrev pub end_at : {C : Type 0} → C → Option (List ℕ) → Option (List ℕ) → List ℕ → End C
end_at clock unread written held = record { clock = clock; unread = unread; written = written; held = held }
