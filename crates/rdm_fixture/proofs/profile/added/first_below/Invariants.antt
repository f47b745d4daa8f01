use Rattle.std.proofs.Common.{ℕ, ◌<◌, slice_index_or}
use Rattle.rdm_profile.specs.declared.profile.own.ParameterDef.{ParameterDef}
use Rattle.rdm_fixture.proofs.profile.added.first_below.Given as goal

-- those before this one ascend
abbrev pub invariant-loop-n : goal.invariant-loop-n
invariant-loop-n l = (i j : ℕ) (d : ParameterDef) → i < j → j < l.n → (slice_index_or l.defs i d).pid < (slice_index_or l.defs j d).pid

abbrev pub invariant-loop-i : goal.invariant-loop-i
invariant-loop-i l = record {
  before : (i j : ℕ) (d : ParameterDef) → i < j → j < l.n → (slice_index_or l.defs i d).pid < (slice_index_or l.defs j d).pid;
  here : (i : ℕ) (d : ParameterDef) → i < l.i → (slice_index_or l.defs i d).pid < (slice_index_or l.defs l.n d).pid;
}
