use Rattle.std.proofs.Common.{◌≡◌, ℕ, ◌<◌, ◌≤◌, ℤ, List, [], ◌∷◌, ◌++◌, length, slice_index_or, refl, sym, arith, rules}
use Rattle.std.specs.Int.{w16, int_min, int_max}
use Rattle.std.proofs.lemmas.Int.{to_z-of_z}
use Rattle.rdm_device.specs.Device.Measuring.{measured, signed_in}
use Rattle.rdm_profile.specs.Values.{signed_slots}
use Rattle.rdm_widget.specs.Measuring.{with_present}
use Rattle.rdm_widget.proofs.live_fixture.measuring.with_present.Goals as goal

-- what is made of nine slots
nine_slots : (number : ℕ) (v : ℤ) (shown : List ℕ) → 9 ≤ length shown → length shown < 10
    → with_present number v shown
    ≡ number ∷ (signed_slots v ++ signed_slots (int_min (signed_in (slice_index_or shown 3 0 ∷ slice_index_or shown 4 0 ∷ [])) v)
    ++ signed_slots (int_max (signed_in (slice_index_or shown 5 0 ∷ slice_index_or shown 6 0 ∷ [])) v)
    ++ slice_index_or shown 7 0 ∷ slice_index_or shown 8 0 ∷ [])
unfolding measured
nine_slots number v (n ∷ a ∷ b ∷ c ∷ d ∷ e ∷ f ∷ g ∷ h ∷ []) least most = refl
nine_slots number v (n ∷ a ∷ b ∷ c ∷ d ∷ e ∷ f ∷ g ∷ h ∷ i ∷ more) least most = absurd (omega (arith, most))
nine_slots number v (n ∷ a ∷ b ∷ c ∷ d ∷ e ∷ f ∷ g ∷ []) least most = absurd (omega (arith, least))
nine_slots number v (n ∷ a ∷ b ∷ c ∷ d ∷ e ∷ f ∷ []) least most = absurd (omega (arith, least))
nine_slots number v (n ∷ a ∷ b ∷ c ∷ d ∷ e ∷ []) least most = absurd (omega (arith, least))
nine_slots number v (n ∷ a ∷ b ∷ c ∷ d ∷ []) least most = absurd (omega (arith, least))
nine_slots number v (n ∷ a ∷ b ∷ c ∷ []) least most = absurd (omega (arith, least))
nine_slots number v (n ∷ a ∷ b ∷ []) least most = absurd (omega (arith, least))
nine_slots number v (n ∷ a ∷ []) least most = absurd (omega (arith, least))
nine_slots number v (n ∷ []) least most = absurd (omega (arith, least))
nine_slots number v [] least most = absurd (omega (arith, least))

pub returns-in-len9 : goal.returns-in-len9
returns-in-len9 c =
    let v = to_z-of_z w16 c.args.value (search rules) in
    let lowest = to_z-of_z w16 c.least_of-lowest.result (search rules) in
    let highest = to_z-of_z w16 c.greatest_of-highest.result (search rules) in
    let low = to_z-of_z w16 c.signed_of.result (search rules) in
    let high = to_z-of_z w16 c.signed_of-in-len9.result (search rules) in
    rw (c.slots_of.ensures, v, lowest, highest, c.least_of-lowest.ensures, c.greatest_of-highest.ensures, low, high, v, c.signed_of.ensures, c.signed_of-in-len9.ensures)
    (sym (nine_slots c.args.sensor c.args.value c.args.shown.now (omega (arith, c.in-len9.len_at_least)) (omega (arith, c.in-len9.len_below))))
