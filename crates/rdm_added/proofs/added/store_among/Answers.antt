use Rattle.std.proofs.Common.{◌≡◌, ◌<◌, ◌∙◌, ◌||◌, length, ap}
use Rattle.std.proofs.lemmas.List.{length-map, length-set}
use Rattle.rdm_added.specs.Map.{Entry}
use Rattle.rdm_added.specs.Views.State.{added_entries, stored_in, no_entry}
use Rattle.rdm_added.proofs.KeptValues.{each_step, each_same, joined_true, joined_false}
use Rattle.rdm_added.proofs.added.store_among.Goals as goal
use Rattle.rdm_added.proofs.added.store_among.Goals.{then-changed, else-changed}

pub loop-i-preserved : goal.loop-i-preserved
loop-i-preserved c =
    let becomes : Entry → Entry = stored_in c.args.pid c.args.index c.args.bytes.now in
    let before = added_entries c.args.values.now in
    let now = added_entries c.loop-i.values in
    let next = added_entries c.store_at-here.new.values in
    let fits : c.loop-i.i < length (added_entries c.args.values.now) = simp length-map c.loop-i-test.true in
    let joined : c.if-changed.changed ≡ (c.loop-i.changed || c.store_at-here.result) = elim c.if-changed.branch [ then-changed w ↦ joined_true _ _ _ w.if-changed.true w.changed-is | else-changed w ↦ joined_false _ _ _ w.if-changed.false w.changed-is ] in
    record {
      stored = each_step no_entry becomes before now next c.loop-i.i fits c.loop-i.invariant.stored c.store_at-here.ensures.after;
      as_many = ap (length {A = Entry}) c.store_at-here.ensures.after ∙ length-set now c.loop-i.i _ ∙ c.loop-i.invariant.as_many;
      same = each_same no_entry becomes c.loop-i.changed c.store_at-here.result c.if-changed.changed before now next c.loop-i.i fits c.loop-i.invariant.as_many c.loop-i.invariant.stored c.store_at-here.ensures.after c.store_at-here.ensures.same c.loop-i.invariant.same joined;
    }
