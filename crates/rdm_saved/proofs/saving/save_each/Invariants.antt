use Rattle.std.proofs.Common.{◌≡◌, ◌*◌, ◌++◌, length, take, drop, map}
use Rattle.std.specs.Prelude.{flat_map}
use Rattle.rdm_added.specs.Views.State.{common_entries}
use Rattle.rdm_saved.specs.SavedText.{device_text}
use Rattle.rdm_saved.specs.Laws.{AreWhole}
use Rattle.rdm_saved.proofs.saving.save_each.Given as goal

-- the sub-devices before this one are written, and the bytes behind them are as they were
abbrev pub invariant-loop-i : goal.invariant-loop-i
invariant-loop-i l = record {
  written : l.out ≡ flat_map (λ values. device_text (common_entries values)) (take l.i l.subs) ++ drop (46 * l.i) l.initial.out;
  len : length (flat_map (λ values. device_text (common_entries values)) (take l.i l.subs)) ≡ 46 * l.i;
  whole : AreWhole (map common_entries (take l.i l.subs));
}
