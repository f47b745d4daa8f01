-- Which image an area holds, and what is left of it when its bytes rise.
use Rattle.std.proofs.Common.{◌≡◌, ℕ, ◌+◌, ◌-◌, ◌^◌, ◌≤◌, ◌⊎◌, List, length, Some, None, refl, sym, ap, ◌∙◌, arith, inl, inr}
use Rattle.std.specs.Prelude.{nat_le}
use Rattle.std.specs.Bool.{Decides}
use Rattle.std.proofs.lemmas.Bool.{cases_Bool, cond-false, cond-true, leb-true, le-leb}
use Rattle.std.proofs.lemmas.Bool.Decides.{Decides-eqb, Decides-and}
use Rattle.rdm_frame.specs.Reading.{word_at, long_at}
use Rattle.rdm_images.specs.Areas.{Rises, IsSound}
use Rattle.rdm_images.specs.Reading.{total, saved_at, saved, held, is_image, PassesAll}
use Rattle.rdm_images.proofs.Rising.{total-le, total-same, key_same, counter_same, length_same, payload_same, rises-length}

leb_decides : (a b : ℕ) → Decides (nat_le a b) (a ≤ b)
leb_decides a b = (leb-true a b, le-leb a b)

abbrev Tests : ℕ → List ℕ → Type 0
Tests key t = (12 ≤ length t) × ((12 + word_at t 10 ≤ length t) × ((total t ≡ 2 ^ 32 - 1) × (long_at t 4 ≡ key)))

image_decides : (key : ℕ) (t : List ℕ) → Decides (is_image key t) (Tests key t)
image_decides key t =
    Decides-and _ _ (leb_decides 12 (length t)) (Decides-and _ _ (leb_decides (12 + word_at t 10) (length t)) (Decides-and _ _ (Decides-eqb (total t) (2 ^ 32 - 1)) (Decides-eqb (long_at t 4) key)))

pub held_some : (key : ℕ) (t : List ℕ) → PassesAll key t → held key t ≡ Some (saved_at t)
unfolding held
held_some key t ok = cond-true (is_image key t) _ _ ((image_decides key t).1 (ok.0.0.0, (ok.0.0.1, (ok.0.1, ok.1))))

pub held_none : (key : ℕ) (t : List ℕ) → (PassesAll key t → ⊥) → held key t ≡ None
unfolding held
held_none key t fails =
    elim (cases_Bool (is_image key t)) [
      | inl holds ↦ let p = (image_decides key t).0 holds in absurd (fails (((p.0, p.1.0), p.1.1.0), p.1.1.1))
      | inr fails_it ↦ cond-false (is_image key t) _ _ fails_it
    ]

pub held_cases : (key : ℕ) (t : List ℕ) → (held key t ≡ None) ⊎ PassesAll key t
unfolding held
held_cases key t =
    elim (cases_Bool (is_image key t)) [
      | inl holds ↦ let p = (image_decides key t).0 holds in inr (((p.0, p.1.0), p.1.1.0), p.1.1.1)
      | inr fails_it ↦ inl (cond-false (is_image key t) _ _ fails_it)
    ]

saved_same : (c d : ℕ) (p q : List ℕ) → c ≡ d → p ≡ q → saved c p ≡ saved d q
saved_same c d p q e f = rw (e, f) refl

-- An area whose check isn't too low, and whose bytes rise, holds nothing then, or what it held.
pub held_when_risen : (key : ℕ) (xs ys : List ℕ) → Rises xs ys → IsSound xs → (held key ys ≡ None) ⊎ (held key ys ≡ held key xs)
held_when_risen key xs ys h sound =
    elim (held_cases key ys) [
      | inl none ↦ inl none
      | inr ok ↦
          let len = rises-length xs ys h in
          let high = sound (omega (arith, ok.0.0.0, len)) in
          let same = total-same xs ys h (omega (arith, ok.0.1, high)) in
          let again : PassesAll key xs = (((omega (arith, ok.0.0.0, len), omega (arith, ok.0.0.1, len, length_same xs ys same)), omega (arith, ok.0.1, high, total-le xs ys h)), key_same xs ys same ∙ ok.1) in
          inr (held_some key ys ok ∙ ap Some (sym (saved_same _ _ _ _ (counter_same xs ys same) (payload_same xs ys same))) ∙ sym (held_some key xs again))
    ]

pub sound_when_risen : (xs ys : List ℕ) → Rises xs ys → IsSound xs → IsSound ys
sound_when_risen xs ys h sound = λ long. omega (arith, total-le xs ys h, sound (omega (arith, long, rises-length xs ys h)))
