use Rattle.std.proofs.Common.{◌≢◌, ℕ, ◌<◌, length, slice_index_or}
use Rattle.rdm_profile.specs.declared.profile.SelfTest.{SelfTest}
use Rattle.rdm_profile_rules.proofs.checks.tests_differ.Given as goal

-- the tests before this one are alike to none after them
abbrev pub invariant-loop-i : goal.invariant-loop-i
invariant-loop-i l = (a b : ℕ) (d : SelfTest) → a < l.i → a < b → b < length l.tests → (slice_index_or l.tests a d).number ≢ (slice_index_or l.tests b d).number

abbrev pub invariant-loop-j : goal.invariant-loop-j
invariant-loop-j l = record {
  before : (a b : ℕ) (d : SelfTest) → a < l.i → a < b → b < length l.tests → (slice_index_or l.tests a d).number ≢ (slice_index_or l.tests b d).number;
  here : (b : ℕ) (d : SelfTest) → l.i < b → b < l.j → (slice_index_or l.tests l.i d).number ≢ (slice_index_or l.tests b d).number;
}
