use Rattle.std.proofs.Common.{◌≡◌, ◌+◌, ℕ, List, ◌∷◌, ◌++◌, length, take, drop, sym, ap, subst, ◌∙◌, rules}
use Rattle.std.proofs.lemmas.Bool.{cond-true}
use Rattle.rdm_frame.specs.UidNumber.{uid_number}
use Rattle.rdm_line.specs.Line.{State, StandFor, AreInOrder, IsGap}
use Rattle.rdm_line.proofs.Joinings.{order_more, length_one, number_fits, number_single, stand_joined}
use Rattle.rdm_line.proofs.line.Line.join.Goals as goal

pub invariant_of-self-in-Ok-insert : goal.invariant_of-self-in-Ok-insert
invariant_of-self-in-Ok-insert g c =
    let ok = c.insert-in-Ok-insert.ensures.succeeds c.in-Ok.ensures.room in
    let ns = c.self.inside.numbers.items in
    let old : c.place_for.new.numbers.items ≡ ns = c.place_for.ensures.items in
    let items = c.insert-in-Ok-insert.ensures.items ∙ cond-true _ _ _ ok in
    let all = ap (λ (xs : List ℕ). take c.in-Ok.index xs ++ c.number.result ∷ drop c.in-Ok.index xs) old in
    let n : c.number.result ≡ uid_number c.uid-uid.result = c.number.ensures in (
      subst AreInOrder (sym (items ∙ all))
          (order_more ns c.in-Ok.index c.number.result c.self.invariant.0 (subst (λ (m : ℕ). IsGap ns m c.in-Ok.index) (sym n) c.in-Ok.ensures.place) (number_fits c.uid-uid.result c.number.result n (search rules)) (number_single c.uid-uid.result c.number.result n c.in-Ok.ensures.single)),
      ap (length {A = g.row.D.Denot}) c.in-Ok-insert.ensures.items ∙ length_one c.self.inside.devices.items c.in-Ok.index c.args.device ∙ ap (λ (m : ℕ). m + 1) c.self.invariant.1
          ∙ sym (ap (length {A = ℕ}) (items ∙ all) ∙ length_one ns c.in-Ok.index c.number.result),
    )

pub returns-in-Ok-insert-clause-stands : goal.returns-in-Ok-insert-clause-stands
returns-in-Ok-insert-clause-stands g c hs h stand one =
    let ok = c.insert-in-Ok-insert.ensures.succeeds c.in-Ok.ensures.room in
    let ns = c.self.inside.numbers.items in
    let old : c.place_for.new.numbers.items ≡ ns = c.place_for.ensures.items in
    let items = c.insert-in-Ok-insert.ensures.items ∙ cond-true _ _ _ ok in
    let all = ap (λ (xs : List ℕ). take c.in-Ok.index xs ++ c.number.result ∷ drop c.in-Ok.index xs) old in
    stand_joined g.D.Device.stands c.self.inside.devices.items c.insert.new.self.items ns c.insert-in-Ok-insert.new.self.items c.self.inside.rule c.args.device hs h c.in-Ok.index c.uid-uid.result c.number.result (search rules) (c.uid-uid.ensures.uid h one) c.number.ensures c.in-Ok.ensures.place
    (c.in-Ok-insert.ensures.items) (items ∙ all) (subst (λ (s : State g.row.D.Denot). StandFor g.D.Device.stands s hs) (sym c.self.view_is) stand) one
