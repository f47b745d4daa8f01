use Rattle.std.proofs.Common.{get_or, refl, ap}
use Rattle.rdm_table.specs.declared.kind.Verb.TheVariants.{Set}
use Rattle.rdm_added.specs.declared.state.CommonValues.{CommonValues}
use Rattle.rdm_table.specs.Table.Rows.{command_of}
use Rattle.rdm_added.specs.Spot.{sub_device}
use Rattle.rdm_table.specs.Table.Uses.{written}
use Rattle.rdm_table.specs.Table.Kinds.{pid_of}
use Rattle.rdm_added.specs.Views.State.{common_entries}
use Rattle.rdm_table.proofs.Changes.{one_same}
use Rattle.rdm_table.proofs.SubSteps.{one_written}
use Rattle.rdm_table.proofs.table.sub_devices.store_at.Goals as goal

pub returns-then-index-subs-clause-after : goal.returns-then-index-subs-clause-after
returns-then-index-subs-clause-after c =
    let old : CommonValues = get_or c.args.subs.now c.args.index c.index-subs-index.result in
    one_written (λ entries. written (command_of (pid_of c.args.kind) Set) c.args.value.now (sub_device c.args.profile.now entries)) c.args.subs.now c.args.index old c.store_common.new.common c.if-index-subs.true (ap (λ (d : CommonValues). get_or c.args.subs.now c.args.index d) c.index-subs-index.is) (c.store_common.ensures.after (sub_device c.args.profile.now (common_entries old)) refl refl)

pub returns-then-index-subs-clause-same : goal.returns-then-index-subs-clause-same
returns-then-index-subs-clause-same c =
    let old : CommonValues = get_or c.args.subs.now c.args.index c.index-subs-index.result in
    one_same c.store_common.result c.args.subs.now c.args.index old c.store_common.new.common c.if-index-subs.true (ap (λ (d : CommonValues). get_or c.args.subs.now c.args.index d) c.index-subs-index.is) c.store_common.ensures.same
