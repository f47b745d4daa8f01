use Rattle.std.proofs.Common.{ap, subst, ◌∙◌, ◌≡◌, ◌+◌, ◌-◌, ◌*◌, ℕ, List, get_or, arith}
use Rattle.rdm_added.specs.declared.state.CommonValues.{CommonValues}
use Rattle.rdm_added.specs.Views.State.{common_entries}
use Rattle.rdm_saved.specs.SavedText.{device_text}
use Rattle.rdm_saved.specs.Laws.{IsWhole}
use Rattle.rdm_saved.proofs.Whole.{whole_more}
use Rattle.rdm_saved.proofs.Writing.{text_length, len_more, written_more}
use Rattle.rdm_saved.proofs.saving.save_each.Goals as goal

abbrev text_of : CommonValues → List ℕ
text_of values = device_text (common_entries values)

pub loop-i-preserved : goal.loop-i-preserved
loop-i-preserved c =
    let d : CommonValues = c.index-subs-i.result in
    let whole : IsWhole (common_entries (get_or c.args.subs.now c.loop-i.i d)) = subst (λ (v : CommonValues). IsWhole (common_entries v)) c.index-subs-i.is c.save_common.ensures.whole in
    let text : c.save_common.new.out ≡ device_text (common_entries (get_or c.args.subs.now c.loop-i.i d)) = c.save_common.ensures.text ∙ ap (λ (v : CommonValues). device_text (common_entries v)) c.index-subs-i.is in
    let one = text_length (get_or c.args.subs.now c.loop-i.i d) whole in
    let next : 46 * (c.loop-i.i + 1) ≡ 46 * c.loop-i.i + 46 = omega arith in
    record {
      written = written_more text_of c.args.subs.now c.loop-i.i d c.args.out.now c.loop-i.out c.save_common.new.out (46 * c.loop-i.i) (46 * c.loop-i.i + 46 - 46 * c.loop-i.i) 46 (46 * (c.loop-i.i + 1)) c.loop-i-test.true (omega arith) next c.loop-i.invariant.written c.loop-i.invariant.len text one;
      len = len_more text_of c.args.subs.now c.loop-i.i d (46 * c.loop-i.i) 46 (46 * (c.loop-i.i + 1)) c.loop-i-test.true c.loop-i.invariant.len one next;
      whole = whole_more c.args.subs.now c.loop-i.i d c.loop-i-test.true c.loop-i.invariant.whole whole;
    }
