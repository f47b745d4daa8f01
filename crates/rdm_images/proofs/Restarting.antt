-- What is loaded after saves and restarts.
use Rattle.std.proofs.Common.{◌≡◌, ℕ, ◌+◌, ◌<◌, ◌≤◌, Bool, true, false, List, [], ◌∷◌, length, get_or, take, drop, refl, sym, subst, ◌∙◌, arith, inl, inr}
use Rattle.std.proofs.lemmas.List.{get_or-drop, get_or-take, length-take, length-drop}
use Rattle.rdm_images.specs.declared.memory.Side.{Side}
use Rattle.rdm_images.specs.Areas.{IsErased, AreSound, loaded}
use Rattle.rdm_images.specs.Disks.{areas_in, place_of}
use Rattle.rdm_images.specs.Restarts.{Save, IsSave, IsHistory, MayBeLoaded}
use Rattle.rdm_images.proofs.Erasing.{nothing_loaded, erased_sound}

erased_area : (disk : List ℕ) (s : Side) → IsErased disk → IsErased (areas_in disk s)
erased_area disk s h = λ k d lt.
    get_or-take 36864 (drop (place_of s) disk) k d (omega (arith, lt, length-take 36864 (drop (place_of s) disk)))
    ∙ get_or-drop (place_of s) disk k d ∙ h (place_of s + k) d (omega (arith, lt, length-take 36864 (drop (place_of s) disk), length-drop (place_of s) disk))

at_first : (key : ℕ) (disk : List ℕ) → IsErased disk → MayBeLoaded [] (loaded key (areas_in disk)) × AreSound (areas_in disk)
at_first key disk h = (nothing_loaded key (areas_in disk) (λ s. erased_area disk s h), λ s. erased_sound (areas_in disk s) (erased_area disk s h))

one_more : (key : ℕ) (save : Save) (earlier : List Save) (before after : List ℕ) (over : Bool) → save.is_over ≡ over → IsSave key save before after
    → AreSound (areas_in before) → MayBeLoaded earlier (loaded key (areas_in before)) → MayBeLoaded (save ∷ earlier) (loaded key (areas_in after))
one_more key save earlier before after true e is sound may = inl (is.over e)
one_more key save earlier before after false e is sound may =
    elim (is.whole sound) [
      | inl same ↦ inr (e, subst (MayBeLoaded earlier) (sym same) may)
      | inr new ↦ inl new
    ]

pub values_outlast : (key : ℕ) (saves : List Save) (first last : List ℕ) → IsErased first → IsHistory key saves first last
    → MayBeLoaded saves (loaded key (areas_in last)) × AreSound (areas_in last)
values_outlast key [] first last erased h =
    subst (λ (disk : List ℕ). MayBeLoaded [] (loaded key (areas_in disk)) × AreSound (areas_in disk)) (sym h) (at_first key first erased)
values_outlast key (save ∷ earlier) first last erased h =
    let was = values_outlast key earlier first h.0 erased h.1 in
    (one_more key save earlier h.0 last save.is_over refl h.2 was.1 was.0, h.2.sound was.1)
