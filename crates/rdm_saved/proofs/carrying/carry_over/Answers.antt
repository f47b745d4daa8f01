use Rattle.std.proofs.Common.{◌≡◌, ℕ, List, ◌++◌, length, drop, map, sym, ap, ◌∙◌}
use Rattle.rdm_added.specs.declared.state.Measured.{Measured}
use Rattle.std.specs.Vec.{with_items}
use Rattle.std.proofs.lemmas.List.{length-map, with_items_is}
use Rattle.rdm_added.specs.Map.{Entry, entry}
use Rattle.rdm_added.specs.declared.state.Kept.{Kept}
use Rattle.rdm_added.specs.Views.State.{common_entries, own_entries, sensor_entries, kept_entry, added_entries}
use Rattle.rdm_saved.specs.Carrying.{carried_kept, carried_sensors, said_sensors, sensors_place}
use Rattle.rdm_saved.proofs.Carried.{carried_is}
use Rattle.rdm_saved.proofs.carrying.carry_over.Goals as goal

pub returns : goal.returns
unfolding own_entries
returns c =
    let image : List ℕ = c.args.image.now in
    let root = ap (λ (es : List Entry). common_entries c.carry_root.new.root ++ es) c.carry_sensors_of.ensures.numbers ∙ c.carry_root.ensures.root in
    let sensors = c.carry_sensors_of.ensures.sensors ∙ ap (λ (ms : List Measured). carried_sensors (said_sensors image) (sensor_entries 0 ms) (drop (sensors_place image) image)) c.carry_root.ensures.sensors in
    let before = c.as_mut_slice.ensures.value ∙ c.carry_sensors_of.ensures.added ∙ c.carry_root.ensures.added in
    let f : Entry → Entry = λ (e : Entry). entry e.pid e.index (carried_kept c.args.profile.now image e) in
    let as_many : length c.carry_added.new.values ≡ c.carry_sensors_of.new.own.added.len =
    sym (length-map c.carry_added.new.values kept_entry) ∙ ap (length {A = Entry}) c.carry_added.ensures ∙ length-map (added_entries c.as_mut_slice.result.now) f ∙ length-map c.as_mut_slice.result.now kept_entry ∙ c.as_mut_slice.ensures.len
    in
    let added = ap added_entries (with_items_is c.carry_sensors_of.new.own.added c.carry_added.new.values as_many) ∙ c.carry_added.ensures ∙ ap (λ (ks : List Kept). map (λ (e : Entry). entry e.pid e.index (carried_kept c.args.profile.now image e)) (added_entries ks)) before in
    carried_is c.args.profile.now c.args.root.now c.carry_root.new.root c.args.own.now (record c.carry_sensors_of.new.own { added = with_items c.carry_sensors_of.new.own.added c.carry_added.new.values }) c.args.subs.now c.carry_subs.new.subs image root sensors added c.carry_subs.ensures
