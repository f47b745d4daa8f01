use Rattle.std.proofs.Common.{List, ap, ◌∙◌}
use Rattle.std.specs.Prelude.{flat_map}
use Rattle.rdm_added.specs.declared.state.Kept.{Kept}
use Rattle.rdm_added.specs.declared.state.Measured.{Measured}
use Rattle.rdm_added.specs.Views.State.{sensor_entries, kept_entry}
use Rattle.rdm_saved.specs.SavedText.{device_text, kept_text}
use Rattle.rdm_saved.proofs.Parts.{values_are, head}
use Rattle.rdm_saved.proofs.kept.write_values.Goals as goal

pub returns-clause-text : goal.returns-clause-text
returns-clause-text c =
    values_are c.args.maker c.args.profile.now c.args.root.now c.args.own.now c.args.subs.now _ _ _ c.own_text.result _ _ _ (c.copy_from_slice.ensures.after ∙ c.as_slice.ensures.value ∙ c.head_text.ensures.text ∙ ap (head c.args.maker c.args.profile.now) c.added_count.ensures) c.save_common.ensures.text c.copy_from_slice-2.ensures.after c.own_text.ensures (c.save_sensors.ensures ∙ ap (λ (ms : List Measured). device_text (sensor_entries 0 ms)) c.as_slice-2.ensures.value) (c.save_added.ensures.text ∙ ap (flat_map (λ (kept : Kept). kept_text (kept_entry kept))) c.as_slice-3.ensures.value) c.save_each.ensures.text
