use Rattle.std.proofs.Common.{ap, ◌∙◌, ◌+◌, ◌*◌, ℕ, take, drop, length}
use Rattle.rdm_saved.proofs.Restored.{root_parts, added_parts, subs_parts}
use Rattle.rdm_saved.proofs.kept.restore_parts.Goals as goal

pub returns-clause-root : goal.returns-clause-root
returns-clause-root c =
    root_parts c.args.root.now c.restore_common.new.values c.args.own.now c.restore_own.new.values c.args.bytes.now _ _ _ c.split_at.ensures.front c.split_at.ensures.back (c.split_at-2.ensures.front ∙ ap (λ (n : ℕ). take (15 + 2 * n) c.split_at.result.1.now) c.len.ensures.value) c.restore_common.ensures c.restore_own.ensures.own

pub returns-clause-added : goal.returns-clause-added
returns-clause-added c =
    added_parts c.args.own.now.added.items _ (length c.args.own.now.sensors.items) c.args.bytes.now _ _ _ c.split_at.ensures.back (c.split_at-2.ensures.back ∙ ap (λ (n : ℕ). drop (15 + 2 * n) c.split_at.result.1.now) c.len.ensures.value) (c.split_at-3.ensures.front ∙ ap (λ (n : ℕ). take (37 * n) c.split_at-2.result.1.now) c.added_count.ensures) c.restore_own.ensures.added

pub returns-clause-subs : goal.returns-clause-subs
returns-clause-subs c =
    subs_parts c.args.subs.now c.restore_each.new.subs (length c.args.own.now.sensors.items) (length c.args.own.now.added.items) c.args.bytes.now _ _ _ _ c.split_at.ensures.back (c.split_at-2.ensures.back ∙ ap (λ (n : ℕ). drop (15 + 2 * n) c.split_at.result.1.now) c.len.ensures.value) (c.split_at-3.ensures.back ∙ ap (λ (n : ℕ). drop (37 * n) c.split_at-2.result.1.now) c.added_count.ensures) c.split_at-4.ensures.front c.restore_each.ensures
