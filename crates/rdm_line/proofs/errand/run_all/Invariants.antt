use Rattle.std.proofs.Common.{◌≡◌, ◌<◌, ◌≤◌, ℕ, length, get_or}
use Rattle.rdm_line.proofs.errand.run_all.Given as goal

-- it is done to those before this one
abbrev pub invariant-loop-index : goal.invariant-loop-index
invariant-loop-index g l = record {
  as_many : length l.devices ≡ length l.initial.devices;
  done : (j : ℕ) (d e : g.row.D.Denot) → j < l.index → g.E.Errand.does l.errand (get_or l.initial.devices j d) (get_or l.devices j e);
  left : (j : ℕ) (d : g.row.D.Denot) → l.index ≤ j → get_or l.devices j d ≡ get_or l.initial.devices j d;
}
