use Rattle.std.proofs.Common.{ℕ, ◌<◌, length, slice_index_or, IsTrue}
use Rattle.rdm_profile.specs.declared.profile.choices.ChoiceName.{ChoiceName}
use Rattle.rdm_profile.specs.Choices.{comes_before}
use Rattle.rdm_profile_rules.proofs.choice_checks.are_ascending.Given as goal

-- the names before this one come before all after them
abbrev pub invariant-loop-i : goal.invariant-loop-i
invariant-loop-i l = (a b : ℕ) (d : ChoiceName) → a < l.i → a < b → b < length l.choices → IsTrue (comes_before (slice_index_or l.choices a d) (slice_index_or l.choices b d))

abbrev pub invariant-loop-j : goal.invariant-loop-j
invariant-loop-j l = record {
  before : (a b : ℕ) (d : ChoiceName) → a < l.i → a < b → b < length l.choices → IsTrue (comes_before (slice_index_or l.choices a d) (slice_index_or l.choices b d));
  here : (b : ℕ) (d : ChoiceName) → l.i < b → b < l.j → IsTrue (comes_before (slice_index_or l.choices l.i d) (slice_index_or l.choices b d));
}
