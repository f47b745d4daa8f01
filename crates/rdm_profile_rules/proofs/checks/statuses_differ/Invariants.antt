use Rattle.std.proofs.Common.{◌≢◌, ℕ, ◌<◌, length, slice_index_or}
use Rattle.rdm_profile.specs.declared.profile.StatusText.{StatusText}
use Rattle.rdm_profile_rules.proofs.checks.statuses_differ.Given as goal

-- the texts before this one are alike to none after them
abbrev pub invariant-loop-i : goal.invariant-loop-i
invariant-loop-i l = (a b : ℕ) (d : StatusText) → a < l.i → a < b → b < length l.texts → (slice_index_or l.texts a d).id ≢ (slice_index_or l.texts b d).id

abbrev pub invariant-loop-j : goal.invariant-loop-j
invariant-loop-j l = record {
  before : (a b : ℕ) (d : StatusText) → a < l.i → a < b → b < length l.texts → (slice_index_or l.texts a d).id ≢ (slice_index_or l.texts b d).id;
  here : (b : ℕ) (d : StatusText) → l.i < b → b < l.j → (slice_index_or l.texts l.i d).id ≢ (slice_index_or l.texts b d).id;
}
