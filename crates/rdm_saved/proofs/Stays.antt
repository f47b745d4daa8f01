-- What no image changes: the profile, and how many sub-devices there are.
use Rattle.std.proofs.Common.{◌≡◌, ℕ, zero, suc, Bool, true, false, List, [], ◌∷◌, length, drop, refl, ap}
use Rattle.std.specs.Prelude.{if◌then◌else◌}
use Rattle.rdm_profile.specs.declared.profile.Profile.{Profile}
use Rattle.rdm_added.specs.Map.{Entry}
use Rattle.rdm_added.specs.Parameters.{Parameters}
use Rattle.rdm_saved.specs.Carrying.{carried, carried_devices, carried_subs, subs_place}
use Rattle.rdm_saved.specs.Restoring.{restored, says_profile}
use Rattle.rdm_saved.specs.SameProfile.{device_size, restored_devices, restored_whole}

as_many : (ds : List (List Entry)) (bytes : List ℕ) → length (restored_devices ds bytes) ≡ length ds
as_many [] bytes = refl
as_many (d ∷ ds) bytes = ap (λ (n : ℕ). suc n) (as_many ds (drop (device_size d) bytes))

as_many_carried : (n : ℕ) (p : Profile) (image : List ℕ) (ds : List (List Entry)) (bytes : List ℕ) → length (carried_devices n p image ds bytes) ≡ length ds
as_many_carried zero p image ds bytes = refl
as_many_carried (suc n) p image [] bytes = refl
as_many_carried (suc n) p image (d ∷ ds) bytes = ap (λ (k : ℕ). suc k) (as_many_carried n p image ds (drop 46 bytes))

either_way : {A : Type 0} (f : Parameters → A) (b : Bool) (x y : Parameters) (a : A) → f x ≡ a → f y ≡ a → f (if b then x else y) ≡ a
either_way f true x y a ex ey = ex
either_way f false x y a ex ey = ey

pub restored_profile : (p : Parameters) (image : List ℕ) → (restored p image).profile ≡ p.profile
unfolding restored
restored_profile p image = either_way (λ (q : Parameters). q.profile) (says_profile p image) (restored_whole p image) (carried p image) p.profile refl refl

pub restored_subs : (p : Parameters) (image : List ℕ) → length (restored p image).subs ≡ length p.subs
unfolding restored
restored_subs p image =
    either_way (λ (q : Parameters). length q.subs) (says_profile p image) (restored_whole p image) (carried p image) (length p.subs) (as_many p.subs _) (as_many_carried (carried_subs p.profile image) p.profile image p.subs (drop (subs_place image) image))
