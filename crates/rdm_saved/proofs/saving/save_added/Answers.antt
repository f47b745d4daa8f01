use Rattle.std.proofs.Common.{ap, subst, ◌∙◌, ◌≡◌, ◌≤◌, ◌+◌, ◌-◌, ◌*◌, ℕ, List, length, get_or, arith}
use Rattle.rdm_added.specs.declared.state.Kept.{Kept}
use Rattle.rdm_added.specs.Views.State.{kept_entry}
use Rattle.rdm_saved.specs.SavedText.{kept_text}
use Rattle.rdm_saved.proofs.Whole.{kept_size, texts_more}
use Rattle.rdm_saved.proofs.Writing.{len_more, written_more}
use Rattle.rdm_saved.proofs.saving.save_added.Goals as goal

abbrev text_of : Kept → List ℕ
text_of kept = kept_text (kept_entry kept)

pub loop-i-preserved : goal.loop-i-preserved
loop-i-preserved c =
    let d : Kept = c.index-values-i.result in
    let short : length (get_or c.args.values.now c.loop-i.i d).bytes ≤ 32 = subst (λ (v : Kept). length v.bytes ≤ 32) c.index-values-i.is c.save_kept.ensures.short in
    let text : c.save_kept.new.out ≡ text_of (get_or c.args.values.now c.loop-i.i d) = c.save_kept.ensures.text ∙ ap text_of c.index-values-i.is in
    let one = kept_size (kept_entry (get_or c.args.values.now c.loop-i.i d)) short in
    let next : 37 * (c.loop-i.i + 1) ≡ 37 * c.loop-i.i + 37 = omega arith in
    record {
      written = written_more text_of c.args.values.now c.loop-i.i d c.args.out.now c.loop-i.out c.save_kept.new.out (37 * c.loop-i.i) (37 * c.loop-i.i + 37 - 37 * c.loop-i.i) 37 (37 * (c.loop-i.i + 1)) c.loop-i-test.true (omega arith) next c.loop-i.invariant.written c.loop-i.invariant.len text one;
      len = len_more text_of c.args.values.now c.loop-i.i d (37 * c.loop-i.i) 37 (37 * (c.loop-i.i + 1)) c.loop-i-test.true c.loop-i.invariant.len one next;
      whole = texts_more c.args.values.now c.loop-i.i d c.loop-i-test.true c.loop-i.invariant.whole short;
    }
