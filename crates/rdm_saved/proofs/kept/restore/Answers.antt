use Rattle.std.proofs.Common.{ℕ, drop, ap, ◌∙◌, arith}
use Rattle.rdm_saved.specs.SavedText.{kept}
use Rattle.rdm_saved.proofs.Refusing.{restored_same, same_length}
use Rattle.rdm_saved.proofs.Restored.{restored_is}
use Rattle.rdm_saved.proofs.kept.restore.Goals as goal

pub restore_parts-requires : goal.restore_parts-requires
restore_parts-requires c =
    let long = same_length c.args.profile.now c.args.root.now c.args.own.now c.args.subs.now c.args.image.now c.in_ok-test.field-0 c.in_ok-test.ensures.same c.if-branch.true c.in_ok-test.ensures.long in
    omega (arith, c.split_at.ensures.back_len, c.profile_len.ensures.size, long)

pub returns-then-branch-clause-after : goal.returns-then-branch-clause-after
returns-then-branch-clause-after c =
    restored_is c.args.profile.now c.args.root.now c.restore_parts.new.root c.args.own.now c.restore_parts.new.own c.args.subs.now c.restore_parts.new.subs c.args.image.now _ (c.split_at.ensures.back ∙ ap (λ (n : ℕ). drop n c.args.image.now) c.profile_len.ensures.size) c.restore_parts.ensures.root c.restore_parts.ensures.added c.restore_parts.ensures.subs
    ∙ restored_same (kept c.args.profile.now c.args.root.now c.args.own.now c.args.subs.now) c.args.image.now c.in_ok-test.field-0 c.in_ok-test.ensures.same c.if-branch.true
