-- The scenes of a parameter.
use Rattle.std.proofs.Common.{◌≡◌, ℕ, suc, ◌+◌, List, [], ◌∷◌, ◌++◌, sym, ap, ◌∙◌, append_assoc, add-one}
use Rattle.std.proofs.lemmas.List.{map-append}
use Rattle.rdm_added.specs.declared.state.Kept.{Kept}
use Rattle.rdm_profile.specs.declared.profile.own.ParameterDef.{ParameterDef}
use Rattle.rdm_added.specs.Scenes.{scene_at_start, scenes_to}
use Rattle.rdm_added.specs.Map.{Entry}
use Rattle.rdm_added.specs.Views.State.{kept_entry, added_entries}

-- one more scene that starts
pub one_more : (front now : List Kept) (k : Kept) (d : ParameterDef) (n : ℕ) → added_entries now ≡ added_entries front ++ scenes_to d n → kept_entry k ≡ scene_at_start d (n + 1) → added_entries (now ++ k ∷ []) ≡ added_entries front ++ scenes_to d (n + 1)
one_more front now k d n so_far is =
    let next : kept_entry k ≡ scene_at_start d (suc n) = is ∙ ap (scene_at_start d) (add-one n) in
    map-append kept_entry now (k ∷ []) ∙ ap (λ (es : List Entry). es ++ kept_entry k ∷ []) so_far ∙ append_assoc (added_entries front) (scenes_to d n) (kept_entry k ∷ []) ∙ ap (λ (e : Entry). added_entries front ++ (scenes_to d n ++ e ∷ [])) next ∙ ap (λ (m : ℕ). added_entries front ++ scenes_to d m) (sym (add-one n))
