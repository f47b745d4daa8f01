use Rattle.std.proofs.Common.{◌≡◌, ℕ, List, ◌∷◌, ◌∙◌, ap, refl}
use Rattle.rdm_survey.specs.Members.{Value, members}
use Rattle.rdm_survey.proofs.member.members.Goals as goal

cons : {A : Type 0} {x y : A} {xs ys : List A} → x ≡ y → xs ≡ ys → (x ∷ xs) ≡ (y ∷ ys)
cons p q = λ i. p i ∷ q i

under : (m : List ℕ × Value) (k : List ℕ) (v w : Value) → m ≡ (k, v) → v ≡ w → m ≡ (k, w)
under m k v w e f = e ∙ ap (λ (x : Value). (k, x)) f

pub returns : goal.returns
unfolding members
returns c =
    cons c.under.ensures (
    cons (under _ _ _ _ c.under-2.ensures c.text.ensures) (
    cons (under _ _ _ _ c.under-3.ensures c.text-2.ensures) (
    cons (under _ _ _ _ c.under-4.ensures c.ids.ensures.model) (
    cons (under _ _ _ _ c.under-5.ensures c.ids.ensures.category) (
    cons (under _ _ _ _ c.under-6.ensures c.text-3.ensures) (
    cons (under _ _ _ _ c.under-7.ensures c.slots.ensures.address) (
    cons (under _ _ _ _ c.under-8.ensures c.slots.ensures.last) (
    cons (under _ _ _ _ c.under-9.ensures c.slots.ensures.footprint) (
    cons (under _ _ _ _ c.under-10.ensures c.counts.ensures.personality) (
    cons (under _ _ _ _ c.under-11.ensures c.counts.ensures.personalities) (
    cons (under _ _ _ _ c.under-12.ensures c.text-4.ensures) (
    cons (under _ _ _ _ c.under-13.ensures c.text-5.ensures) (
    cons (under _ _ _ _ c.under-14.ensures c.ids.ensures.software) (
    cons (under _ _ _ _ c.under-15.ensures c.counts.ensures.sub_devices) (
    cons (under _ _ _ _ c.under-16.ensures c.counts.ensures.sensors) (
    cons (under _ _ _ _ c.under-17.ensures c.number.ensures) (
    cons (under _ _ _ _ c.under-18.ensures c.status.ensures.errors) (
    cons (under _ _ _ _ c.under-19.ensures c.status.ensures.warnings) (
    cons c.under-20.ensures (refl))))))))))))))))))))
