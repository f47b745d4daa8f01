use Rattle.std.proofs.Common.{◌≡◌, ◌*◌, ◌-◌, drop}
use Rattle.rdm_saved.specs.Carrying.{kept_in}
use Rattle.rdm_saved.proofs.carrying.added.kept_in.Given as goal

-- none of the values before this one is of the key
abbrev pub invariant-loop-i : goal.invariant-loop-i
invariant-loop-i l = kept_in l.count l.bytes l.pid l.index ≡ kept_in (l.count - l.i) (drop (37 * l.i) l.bytes) l.pid l.index
