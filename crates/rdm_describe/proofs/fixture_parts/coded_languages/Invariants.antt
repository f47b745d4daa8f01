use Rattle.std.proofs.Common.{◌≡◌, ◌++◌, ◌∷◌, []}
use Rattle.rdm_describe.specs.Answers.{each}
use Rattle.rdm_describe.specs.Parts.{language_at}
use Rattle.rdm_describe.proofs.fixture_parts.coded_languages.Given as goal

-- those so far
abbrev pub invariant-loop-place : goal.invariant-loop-place
invariant-loop-place l = l.list.items ≡ each (language_at l.slots) 0 l.place
