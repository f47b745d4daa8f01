-- What an update keeps, over all values.
use Rattle.std.specs.Prelude.{◌≡◌, ℕ, ◌<◌, false, None, List, length}
use Rattle.rdm_profile.specs.declared.profile.Profile.{Profile}
use Rattle.rdm_added.specs.declared.state.CommonValues.{CommonValues}
use Rattle.rdm_added.specs.declared.state.RootValues.{RootValues}
use Rattle.rdm_added.specs.Parameters.{Parameters, added_at_start, own_at_start}
use Rattle.rdm_added.specs.Views.State.{added_entries, own_entries}
use Rattle.rdm_saved.specs.Laws.{IsWhole, AreTexts, AreWhole}
use Rattle.rdm_saved.specs.Restoring.{says_profile, restored, restore_refusal}
use Rattle.rdm_saved.specs.SavedText.{kept, saved_text}
use Rattle.rdm_updates.specs.Updated.{updated}

-- A fixture has as many sensors and sub-devices as its profile says, and an image can count its sub-devices and what its maker adds.
pub record AreCounted (p : Profile) (own : RootValues) (subs : List CommonValues) : Type 0 where
  pub sensors : length own.sensors.items ≡ length p.sensors.items
  pub devices : length subs ≡ p.subs
  pub few_devices : p.subs < 65536
  pub few_kept : length own.added.items < 65536

-- So has a fixture that starts.
abbrev pub StartIsCounted : Type 0
StartIsCounted =
    (p : Profile) (own : RootValues) (subs : List CommonValues) → own_entries own ≡ own_at_start p
    → added_entries own.added.items ≡ added_at_start p.particulars.own → length subs ≡ p.subs → p.subs < 65536
    → length (added_at_start p.particulars.own) < 65536 → AreCounted p own subs

-- What was saved is accepted by another version of the same model, and restored as `updated` says.
abbrev pub AreUpdated : ℕ → Parameters → Parameters → Type 0
AreUpdated maker now saved =
    IsWhole saved.root → AreTexts saved.added → AreWhole saved.subs → now.profile.root.model ≡ saved.profile.root.model
    → says_profile now (saved_text maker saved) ≡ false
    → (restore_refusal maker now (saved_text maker saved) ≡ None) × (restored now (saved_text maker saved) ≡ updated now saved)

-- So are the values of any fixture.
abbrev pub UpdateKeeps : Type 0
UpdateKeeps =
    (maker : ℕ) (p before : Profile) (root root' : CommonValues) (own own' : RootValues) (subs subs' : List CommonValues)
    → AreCounted before own' subs' → AreUpdated maker (kept p root own subs) (kept before root' own' subs')
