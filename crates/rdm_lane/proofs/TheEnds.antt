-- The ends of a lane with one post, and with two, as `settle_up` asks for them.
use Rattle.std.proofs.Common.{◌≡◌, ◌≢◌, ℕ, zero, suc, ◌<◌, ◌⊎◌, inl, inr, ⊎_elim, [], ◌∷◌, sym, ◌∙◌, arith}
use Rattle.std.proofs.lemmas.List.Elements.{All-nil, All-cons}
use Rattle.rdm_lane.specs.Ends.{PostState, TakeState, AreEnds}

module _ {T : Type 0} where
  -- the one post of a lane
  pub one_end : (t : TakeState T) (a : PostState T) → a.lane ≡ t.lane → a.producer ≡ 0 → t.posts ≡ 1 → AreEnds t (a ∷ [])
  one_end t a lane zeroth count = (
    All-cons (λ c. c.lane ≡ t.lane) a [] lane (All-nil (λ c. c.lane ≡ t.lane)),
    (All-nil (λ d. d.producer ≢ a.producer), tt),
    λ p below. let none : p ≡ 0 = omega arith in (0, omega arith, zeroth ∙ sym none),
  )

  -- two posts of a lane of two, with both numbers
  both_ends : (t : TakeState T) (a b : PostState T) → a.lane ≡ t.lane → b.lane ≡ t.lane → t.posts ≡ 2 → b.producer ≢ a.producer → ((p : ℕ) → p < 2 → (a.producer ≡ p) ⊎ (b.producer ≡ p)) → AreEnds t (a ∷ b ∷ [])
  both_ends t a b lane-a lane-b count unlike numbers = (
    All-cons (λ c. c.lane ≡ t.lane) a (b ∷ []) lane-a (All-cons (λ c. c.lane ≡ t.lane) b [] lane-b (All-nil (λ c. c.lane ≡ t.lane))),
    (
      All-cons (λ d. d.producer ≢ a.producer) b [] unlike (All-nil (λ d. d.producer ≢ a.producer)),
      (All-nil (λ d. d.producer ≢ b.producer), tt),
    ),
    λ p below. ⊎_elim (λ (at : a.producer ≡ p). (0, omega arith, at)) (λ (at : b.producer ≡ p). (1, omega arith, at)) (numbers p (omega arith)),
  )

  two_numbers : (a b : PostState T) → a.producer ≡ 0 → b.producer ≡ 1 → (p : ℕ) → p < 2 → (a.producer ≡ p) ⊎ (b.producer ≡ p)
  two_numbers a b zeroth first zero below = inl zeroth
  two_numbers a b zeroth first (suc zero) below = inr first
  two_numbers a b zeroth first (suc (suc p)) below = absurd (omega arith)

  -- the two posts of a lane, post 0 first
  pub two_ends : (t : TakeState T) (a b : PostState T) → a.lane ≡ t.lane → b.lane ≡ t.lane → a.producer ≡ 0 → b.producer ≡ 1 → t.posts ≡ 2 → AreEnds t (a ∷ b ∷ [])
  two_ends t a b lane-a lane-b zeroth first count = both_ends t a b lane-a lane-b count (λ same. absurd (omega arith)) (two_numbers a b zeroth first)

  -- and post 1 first
  pub two_ends_turned : (t : TakeState T) (a b : PostState T) → a.lane ≡ t.lane → b.lane ≡ t.lane → a.producer ≡ 1 → b.producer ≡ 0 → t.posts ≡ 2 → AreEnds t (a ∷ b ∷ [])
  two_ends_turned t a b lane-a lane-b first zeroth count =
      both_ends t a b lane-a lane-b count (λ same. absurd (omega arith)) (λ p below. ⊎_elim (λ (at : b.producer ≡ p). inr at) (λ (at : a.producer ≡ p). inl at) (two_numbers b a zeroth first p below))
