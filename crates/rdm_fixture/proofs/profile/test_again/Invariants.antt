use Rattle.std.proofs.Common.{◌≢◌, ℕ, ◌<◌, slice_index_or}
use Rattle.rdm_profile.specs.declared.profile.SelfTest.{SelfTest}
use Rattle.rdm_fixture.proofs.profile.test_again.Given as goal

-- those before this one differ
abbrev pub invariant-loop-n : goal.invariant-loop-n
invariant-loop-n l = (i j : ℕ) (d : SelfTest) → i < j → j < l.n → (slice_index_or l.tests i d).number ≢ (slice_index_or l.tests j d).number

abbrev pub invariant-loop-i : goal.invariant-loop-i
invariant-loop-i l = record {
  before : (i j : ℕ) (d : SelfTest) → i < j → j < l.n → (slice_index_or l.tests i d).number ≢ (slice_index_or l.tests j d).number;
  here : (i : ℕ) (d : SelfTest) → i < l.i → (slice_index_or l.tests i d).number ≢ (slice_index_or l.tests l.n d).number;
}
