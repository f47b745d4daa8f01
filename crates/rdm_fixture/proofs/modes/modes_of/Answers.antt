use Rattle.std.proofs.Common.{◌≡◌, [], ◌∷◌, sym, ap, ◌∙◌, get_or, length, subst, arith}
use Rattle.std.proofs.lemmas.List.{length-append}
use Rattle.toml.specs.View.{view}
use Rattle.toml.specs.declared.value.Value.{Value}
use Rattle.rdm_fixture.specs.Lists.{OfTable}
use Rattle.rdm_fixture.specs.OwnSlots.{IsMode}
use Rattle.rdm_fixture.proofs.ListEntries.{EachIs-at, EachIs-more}
use Rattle.rdm_fixture.proofs.modes.modes_of.Goals as goal

pub mode_of-requires : goal.mode_of-requires
mode_of-requires c =
    let items = c.args.entries.now.items in
    let here : get_or items c.loop-entry.entry-index c.entry-item.result ≡ c.entry-item.result =
    ap (λ vs. get_or vs c.loop-entry.entry-index c.entry-item.result) (sym c.deref-entry-items.ensures.value) ∙ sym c.entry-item.is in
    let at = EachIs-at (OfTable IsMode) items c.requires.said.0 c.loop-entry.entry-index c.entry-item.result c.requires.said.1 (omega arith) in
    (at.0, let Says : Value → Type 0 = λ v. OfTable IsMode (view v) at.0 in subst Says here at.1)

pub loop-entry-preserved : goal.loop-entry-preserved
loop-entry-preserved c =
    let items = c.args.entries.now.items in
    let here : get_or items c.loop-entry.entry-index c.entry-item.result ≡ c.entry-item.result =
    ap (λ vs. get_or vs c.loop-entry.entry-index c.entry-item.result) (sym c.deref-entry-items.ensures.value) ∙ sym c.entry-item.is in
    record {
      read = rw c.in_ok-push.ensures.pushed (EachIs-more (OfTable IsMode) items c.loop-entry.entry-index c.entry-item.result _ _ (omega arith) c.loop-entry.invariant.read
          (let Says : Value → Type 0 = λ v. OfTable IsMode (view v) c.in_ok-mode_of.field-0 in subst Says (sym here) c.in_ok-mode_of.ensures));
      count = let more = ap length c.in_ok-push.ensures.pushed ∙ length-append c.loop-entry.modes (c.in_ok-mode_of.field-0 ∷ []) in
          let count = c.loop-entry.invariant.count in
          omega (arith, more, count);
    }
