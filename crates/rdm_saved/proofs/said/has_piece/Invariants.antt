use Rattle.std.proofs.Common.{◌≡◌, ◌*◌, ◌-◌, drop}
use Rattle.rdm_saved.specs.Carrying.{has_piece}
use Rattle.rdm_saved.proofs.said.has_piece.Given as goal

-- none of the pieces before this one is it
abbrev pub invariant-loop-i : goal.invariant-loop-i
invariant-loop-i l = has_piece l.size l.count l.bytes l.piece ≡ has_piece l.size (l.count - l.i) (drop (l.size * l.i) l.bytes) l.piece
