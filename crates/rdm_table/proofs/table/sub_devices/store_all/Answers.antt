use Rattle.std.proofs.Common.{◌≡◌, ◌<◌, ◌∙◌, ◌||◌, length, map, ap, List}
use Rattle.std.proofs.lemmas.List.{length-map, length-set}
use Rattle.rdm_table.specs.declared.kind.Verb.TheVariants.{Set}
use Rattle.rdm_table.specs.Table.Rows.{command_of}
use Rattle.rdm_added.specs.Spot.{sub_device}
use Rattle.rdm_table.specs.Table.Uses.{written}
use Rattle.rdm_table.specs.Table.Kinds.{pid_of}
use Rattle.rdm_added.specs.Map.{Entry}
use Rattle.rdm_added.specs.Views.State.{common_entries}
use Rattle.rdm_table.proofs.Changes.{each_same, joined_true, joined_false}
use Rattle.rdm_table.proofs.SubSteps.{each_step}
use Rattle.rdm_table.proofs.table.sub_devices.store_all.Goals as goal
use Rattle.rdm_table.proofs.table.sub_devices.store_all.Goals.{then-changed, else-changed}

pub loop-i-preserved : goal.loop-i-preserved
loop-i-preserved c =
    let becomes : List Entry → List Entry = λ entries. written (command_of (pid_of c.args.kind) Set) c.args.value.now (sub_device c.args.profile.now entries) in
    let before = map common_entries c.args.subs.now in
    let now = map common_entries c.loop-i.subs in
    let next = map common_entries c.store_at-here.new.subs in
    let fits : c.loop-i.i < length (map common_entries c.args.subs.now) = simp length-map c.loop-i-test.true in
    let joined : c.if-changed.changed ≡ (c.loop-i.changed || c.store_at-here.result) = elim c.if-changed.branch [ then-changed w ↦ joined_true _ _ _ w.if-changed.true w.changed-is | else-changed w ↦ joined_false _ _ _ w.if-changed.false w.changed-is ] in
    record {
      written = each_step becomes before now next c.loop-i.i fits c.loop-i.invariant.written c.store_at-here.ensures.after;
      as_many = ap (length {A = List Entry}) c.store_at-here.ensures.after ∙ length-set now c.loop-i.i _ ∙ c.loop-i.invariant.as_many;
      same = each_same becomes c.loop-i.changed c.store_at-here.result c.if-changed.changed before now next c.loop-i.i fits c.loop-i.invariant.as_many c.loop-i.invariant.written c.store_at-here.ensures.after c.store_at-here.ensures.same c.loop-i.invariant.same joined;
    }
