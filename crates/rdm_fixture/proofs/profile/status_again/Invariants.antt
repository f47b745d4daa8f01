use Rattle.std.proofs.Common.{◌≢◌, ℕ, ◌<◌, slice_index_or}
use Rattle.rdm_profile.specs.declared.profile.StatusText.{StatusText}
use Rattle.rdm_fixture.proofs.profile.status_again.Given as goal

-- those before this one differ
abbrev pub invariant-loop-n : goal.invariant-loop-n
invariant-loop-n l = (i j : ℕ) (d : StatusText) → i < j → j < l.n → (slice_index_or l.texts i d).id ≢ (slice_index_or l.texts j d).id

abbrev pub invariant-loop-i : goal.invariant-loop-i
invariant-loop-i l = record {
  before : (i j : ℕ) (d : StatusText) → i < j → j < l.n → (slice_index_or l.texts i d).id ≢ (slice_index_or l.texts j d).id;
  here : (i : ℕ) (d : StatusText) → i < l.i → (slice_index_or l.texts i d).id ≢ (slice_index_or l.texts l.n d).id;
}
