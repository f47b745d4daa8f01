use Rattle.std.proofs.Common.{ℕ, ◌<◌, length, slice_index_or}
use Rattle.rdm_profile.specs.declared.profile.own.ParameterDef.{ParameterDef}
use Rattle.rdm_profile_rules.proofs.own_checks.are_ascending.Given as goal

-- the parameters before this one come before all after them
abbrev pub invariant-loop-i : goal.invariant-loop-i
invariant-loop-i l = (a b : ℕ) (d : ParameterDef) → a < l.i → a < b → b < length l.defs → (slice_index_or l.defs a d).pid < (slice_index_or l.defs b d).pid

abbrev pub invariant-loop-j : goal.invariant-loop-j
invariant-loop-j l = record {
  before : (a b : ℕ) (d : ParameterDef) → a < l.i → a < b → b < length l.defs → (slice_index_or l.defs a d).pid < (slice_index_or l.defs b d).pid;
  here : (b : ℕ) (d : ParameterDef) → l.i < b → b < l.j → (slice_index_or l.defs l.i d).pid < (slice_index_or l.defs b d).pid;
}
