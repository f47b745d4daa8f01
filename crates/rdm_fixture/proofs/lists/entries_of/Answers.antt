use Rattle.std.proofs.Common.{◌≡◌, ◌+◌, sym, ap, ◌∙◌, get_or, subst, arith}
use Rattle.toml.specs.View.{view}
use Rattle.toml.specs.declared.value.Value.{Value}
use Rattle.rdm_fixture_keys.specs.Faults.{in_entry, told}
use Rattle.rdm_fixture.specs.Lists.{OfTable, InEntry}
use Rattle.rdm_fixture.proofs.ListEntries.{EachIs-at, EachIs-more}
use Rattle.rdm_fixture.proofs.WrongEntries.{first_at}
use Rattle.rdm_fixture.proofs.lists.entries_of.Goals as goal

pub returns-in-Err-clause-read : goal.returns-in-Err-clause-read
returns-in-Err-clause-read g c = λ xs h.
    let items = c.args.entries.now.items in
    let here : get_or items c.loop-i.i c.entry-item.result ≡ c.entry-item.result =
    ap (λ vs. get_or vs c.loop-i.i c.entry-item.result) (sym c.deref-entry-items.ensures.value) ∙ sym c.entry-item.is in
    let P = OfTable (g.E.FromEntry.says c.args.slots) in
    let at = EachIs-at P items xs.items c.loop-i.i c.entry-item.result h (omega arith) in
    c.in-Err.ensures.read at.0 (let Says : Value → Type 0 = λ v. P (view v) at.0 in subst Says here at.1)

pub loop-i-preserved : goal.loop-i-preserved
loop-i-preserved g c =
    let items = c.args.entries.now.items in
    let here : get_or items c.loop-i.i c.entry-item.result ≡ c.entry-item.result =
    ap (λ vs. get_or vs c.loop-i.i c.entry-item.result) (sym c.deref-entry-items.ensures.value) ∙ sym c.entry-item.is in
    let P = OfTable (g.E.FromEntry.says c.args.slots) in
    record {
      read = rw c.push.ensures.items (EachIs-more P items c.loop-i.i c.entry-item.result _ _ (omega arith) c.loop-i.invariant.read (let Says : Value → Type 0 = λ v. P (view v) c.in-Ok.item in subst Says (sym here) c.in-Ok.ensures.read));
      count = omega arith;
    }

-- It is the first: those before it were read.
pub returns-in-Err-clause-wrong : goal.returns-in-Err-clause-wrong
returns-in-Err-clause-wrong g c =
    let items = c.args.entries.now.items in
    let here : get_or items c.loop-i.i c.entry-item.result ≡ c.entry-item.result =
    ap (λ vs. get_or vs c.loop-i.i c.entry-item.result) (sym c.deref-entry-items.ensures.value) ∙ sym c.entry-item.is in
    let Wrong : Value → Type 0 = λ v. InEntry c.args.key.now (g.E.FromEntry.wrong c.args.slots) (view v) (told c.in-Err.refusal) in
    let number : c.loop-i.i + 1 ≡ 1 + c.loop-i.i = omega arith in
    first_at c.args.key.now (g.E.FromEntry.says c.args.slots) (g.E.FromEntry.wrong c.args.slots) items c.loop-i.read.items c.loop-i.i c.entry-item.result 1
    (told c.in-Err.refusal) _ c.loop-i.invariant.read (omega arith) (subst Wrong (sym here) c.in-Err.ensures.wrong)
    (c.in_entry.ensures ∙ ap (λ n. in_entry c.args.key.now n (told c.in-Err.refusal)) number)
