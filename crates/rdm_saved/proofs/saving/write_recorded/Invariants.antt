use Rattle.std.proofs.Common.{◌≡◌, ◌*◌, ◌++◌, length, take, drop}
use Rattle.std.specs.Prelude.{flat_map}
use Rattle.rdm_profile.specs.Values.{signed_slots}
use Rattle.rdm_saved.proofs.saving.write_recorded.Given as goal

-- the sensors before this one are written, and the bytes behind them are as they were
abbrev pub invariant-loop-i : goal.invariant-loop-i
invariant-loop-i l =
    (l.out ≡ flat_map (λ m. signed_slots m.recorded) (take l.i l.sensors) ++ drop (2 * l.i) l.initial.out) × (length (flat_map (λ m. signed_slots m.recorded) (take l.i l.sensors)) ≡ 2 * l.i)
