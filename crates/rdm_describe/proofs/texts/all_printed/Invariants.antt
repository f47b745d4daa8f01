use Rattle.std.proofs.Common.{◌≡◌, length, map, take}
use Rattle.rdm_describe.specs.Texts.{printed}
use Rattle.rdm_describe.proofs.texts.all_printed.Given as goal

-- the characters so far
abbrev pub invariant-loop-character : goal.invariant-loop-character
invariant-loop-character l = record { value : l.text ≡ map printed (take l.character-index l.characters); count : length l.text ≡ l.character-index }
