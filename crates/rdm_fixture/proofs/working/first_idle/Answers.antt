use Rattle.std.proofs.Common.{◌≡◌, ℕ, zero, suc, ◌+◌, ◌<◌, ◌⊎◌, inl, inr, List, [], ◌∷◌, Option, None, length, slice_index_or, refl, ap, subst, sym, ◌∙◌, arith, rules}
use Rattle.rdm_outcomes.specs.declared.rule.Rule.{Rule}
use Rattle.rdm_fixture_keys.specs.declared.refusal.Agreement.{Agreement}
use Rattle.rdm_fixture.specs.Working.{idle_with}
use Rattle.rdm_fixture.proofs.working.first_idle.Goals as goal

before_or_at : (n i : ℕ) → i < n + 1 → (i < n) ⊎ (i ≡ n)
before_or_at zero zero h = inr refl
before_or_at zero (suc i) h = absurd (omega (arith, h))
before_or_at (suc n) zero h = inl (omega arith)
before_or_at (suc n) (suc i) h = elim (before_or_at n i (omega (arith, h))) [
  | inl less ↦ inl (omega (arith, less))
  | inr same ↦ inr (ap suc same)
]

-- one rule more says something
one_more : (f : Rule → Option Agreement) (xs : List Rule) (n : ℕ) → ((i : ℕ) (d : Rule) → i < n → f (slice_index_or xs i d) ≡ None)
    → ((d : Rule) → f (slice_index_or xs n d) ≡ None) → (i : ℕ) (d : Rule) → i < n + 1 → f (slice_index_or xs i d) ≡ None
one_more f xs n before here i d less = elim (before_or_at n i less) [
  | inl earlier ↦ before i d earlier
  | inr same ↦ subst (λ (k : ℕ). f (slice_index_or xs k d) ≡ None) (sym same) (here d)
]

-- an entry that is there is the same whatever stands for those that aren't
one_entry : (xs : List Rule) (n : ℕ) (d e : Rule) → n < length xs → slice_index_or xs n d ≡ slice_index_or xs n e
one_entry [] n d e less = absurd (omega (arith, less))
one_entry (x ∷ xs) zero d e less = refl
one_entry (x ∷ xs) (suc n) d e less = one_entry xs n d e (omega (arith, less))

pub loop-n-preserved : goal.loop-n-preserved
loop-n-preserved c =
    let less : c.loop-n.n < length c.args.rules.now = search rules in
    let none : c.idle.result ≡ None = search rules in
    let f : Rule → Option Agreement =
    idle_with c.args.without.now c.args.profile.now.sensors.items c.args.profile.now.tests.items c.args.profile.now.status_texts.items in
    one_more f c.args.rules.now c.loop-n.n c.loop-n.invariant
    (λ d. ap f (one_entry c.args.rules.now c.loop-n.n d _ less) ∙ sym c.idle.ensures ∙ none)
