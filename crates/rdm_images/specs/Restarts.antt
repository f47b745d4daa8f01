-- Saves into a disk, one after another, with restarts between them, and what is loaded after them.
use Rattle.std.specs.Prelude.{◌≡◌, ◌⊎◌, ℕ, Bool, IsTrue, IsFalse, List, [], ◌∷◌, Option, Some, None}
use Rattle.rdm_images.specs.Areas.{loaded, AreSound, IsErased}
use Rattle.rdm_images.specs.Disks.{areas_in}

-- A save: what was to be saved, and whether its call ended Ok. It doesn't if the disk fails or power does, at whatever byte.
pub record Save : Type 0 where
  pub payload : List ℕ
  pub is_over : Bool

-- What a save makes of the bytes of a disk, as the clauses of `Images::save` promise it.
pub record IsSave (key : ℕ) (save : Save) (before after : List ℕ) : Type 0 where
  pub over : IsTrue save.is_over → loaded key (areas_in after) ≡ Some save.payload
  pub whole : AreSound (areas_in before)
      → (loaded key (areas_in after) ≡ loaded key (areas_in before)) ⊎ (loaded key (areas_in after) ≡ Some save.payload)
  pub sound : AreSound (areas_in before) → AreSound (areas_in after)

-- What a disk holds at first, and after these saves, of which the last comes first. A restart changes nothing of what it holds.
abbrev pub IsHistory : ℕ → List Save → List ℕ → List ℕ → Type 0
IsHistory key [] first last = last ≡ first
IsHistory key (save ∷ earlier) first last = (before : List ℕ) × IsHistory key earlier first before × IsSave key save before last

-- What may be loaded after these saves, of which the last comes first: what was saved last or, if that save wasn't over, what may be
-- loaded without it.
abbrev pub MayBeLoaded : List Save → Option (List ℕ) → Type 0
MayBeLoaded [] values = values ≡ None
MayBeLoaded (save ∷ earlier) values = (values ≡ Some save.payload) ⊎ (IsFalse save.is_over × MayBeLoaded earlier values)

-- That is what is loaded from a disk that was erased once, and the next save is promised the same.
abbrev pub ValuesOutlastRestarts : Type 0
ValuesOutlastRestarts = (key : ℕ) (saves : List Save) (first last : List ℕ) → IsErased first → IsHistory key saves first last
    → MayBeLoaded saves (loaded key (areas_in last)) × AreSound (areas_in last)
