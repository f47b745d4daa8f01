-- Which values an image has of a fixture: all that last.
use Rattle.std.specs.Prelude.{◌≡◌, ℕ, suc, ◌<◌, ◌==◌, List, [], ◌∷◌, ◌++◌, drop, flat_map, map, if◌then◌else◌}
use Rattle.rdm_profile.specs.declared.profile.Profile.{Profile}
use Rattle.rdm_added.specs.declared.state.CommonValues.{CommonValues}
use Rattle.rdm_added.specs.declared.state.RootValues.{RootValues}
use Rattle.rdm_added.specs.Map.{Entry}
use Rattle.rdm_added.specs.Parameters.{Parameters}
use Rattle.rdm_saved.specs.Laws.{IsWhole, AreTexts, AreWhole}
use Rattle.rdm_saved.specs.SavedText.{is_of_the_moment, kept, saved_text}
use Rattle.rdm_updates.specs.Laws.{AreCounted}
use Rattle.rdm_updates.specs.SavedValues.{ValueSaved, saved_values}

-- a value with its device
abbrev pub value_of : ℕ → Entry → List ℕ → ValueSaved
value_of device e bytes = record { device = device; pid = e.pid; index = e.index; bytes = bytes }

-- a value, if it lasts; of a sensor what was recorded
abbrev pub lasting_of : ℕ → Entry → List ValueSaved
lasting_of device e =
    if is_of_the_moment e.pid then [] else value_of device e (if e.pid == 0x0201 then drop 6 e.bytes else e.bytes) ∷ []

-- those of a device that last
abbrev pub lasting_in : ℕ → List Entry → List ValueSaved
lasting_in device es = flat_map (lasting_of device) es

-- those of the sub-devices, from this number on
abbrev pub lasting_subs : ℕ → List (List Entry) → List ValueSaved
lasting_subs device [] = []
lasting_subs device (d ∷ ds) = lasting_in device d ++ lasting_subs (suc device) ds

-- all: those of the root, of what the maker adds, and of the sub-devices
abbrev pub all_lasting : Parameters → List ValueSaved
all_lasting p = lasting_in 0 p.root ++ (map (λ e. value_of 0 e e.bytes) p.added ++ lasting_subs 1 p.subs)

-- keys have 16 bits
abbrev pub HaveWords : List Entry → Type 0
HaveWords [] = Unit {0}
HaveWords (e ∷ es) = ((e.pid < 65536) × (e.index < 65536)) × HaveWords es

-- What is read from an image, one by one, are the values that were saved.
abbrev pub SavedIsRead : Type 0
SavedIsRead =
    (maker : ℕ) (p : Profile) (root : CommonValues) (own : RootValues) (subs : List CommonValues)
    → IsWhole (kept p root own subs).root → AreTexts (kept p root own subs).added → AreWhole (kept p root own subs).subs
    → AreCounted p own subs → HaveWords (kept p root own subs).added
    → saved_values (saved_text maker (kept p root own subs)) ≡ all_lasting (kept p root own subs)
