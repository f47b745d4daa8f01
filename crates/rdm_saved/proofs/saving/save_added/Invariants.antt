use Rattle.std.proofs.Common.{◌≡◌, ◌*◌, ◌++◌, length, take, drop}
use Rattle.std.specs.Prelude.{flat_map}
use Rattle.rdm_added.specs.Views.State.{kept_entry, added_entries}
use Rattle.rdm_saved.specs.SavedText.{kept_text}
use Rattle.rdm_saved.specs.Laws.{AreTexts}
use Rattle.rdm_saved.proofs.saving.save_added.Given as goal

-- the values before this one are written, and the bytes behind them are as they were
abbrev pub invariant-loop-i : goal.invariant-loop-i
invariant-loop-i l = record {
  written : l.out ≡ flat_map (λ kept. kept_text (kept_entry kept)) (take l.i l.values) ++ drop (37 * l.i) l.initial.out;
  len : length (flat_map (λ kept. kept_text (kept_entry kept)) (take l.i l.values)) ≡ 37 * l.i;
  whole : AreTexts (added_entries (take l.i l.values));
}
