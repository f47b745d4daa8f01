use Rattle.std.proofs.Common.{◌≡◌, [], length, map}
use Rattle.rdm_settings.specs.Cells.{texts_behind}
use Rattle.rdm_settings.proofs.cell.texts_in.Given as goal

abbrev pub invariant-loop-rest : goal.invariant-loop-rest
invariant-loop-rest l =
    texts_behind (map (λ text. text.now) l.texts.items) (map (λ word. word.now) l.rest) ≡ texts_behind [] (map (λ word. word.now) l.words)

abbrev pub decreases-loop-rest : goal.decreases-loop-rest
decreases-loop-rest l = length l.rest
