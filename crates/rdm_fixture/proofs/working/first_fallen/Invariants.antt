use Rattle.std.proofs.Common.{◌≡◌, ℕ, ◌<◌, true, slice_index_or}
use Rattle.rdm_courses.specs.declared.notice.Notice.{Notice}
use Rattle.rdm_fixture.specs.Working.{stands}
use Rattle.rdm_fixture.proofs.working.first_fallen.Given as goal

-- each message before this one stands
abbrev pub invariant-loop-n : goal.invariant-loop-n
invariant-loop-n l =
    (i : ℕ) (d : Notice) → i < l.n → stands l.profile.subs l.profile.status_texts.items (slice_index_or l.notices i d) ≡ true
