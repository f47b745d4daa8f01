use Rattle.std.proofs.Common.{◌≡◌, length, map}
use Rattle.rdm_entry.specs.Plain.{behind_words, words_of}
use Rattle.rdm_entry.proofs.plain.words_of.Given as goal

abbrev pub invariant-loop-field : goal.invariant-loop-field
invariant-loop-field l = record { said : behind_words (map (λ word. word.items) l.words.items) (words_of l.rest l.left) ≡ words_of l.fields l.body }

abbrev pub decreases-loop-field : goal.decreases-loop-field
decreases-loop-field l = length l.rest
