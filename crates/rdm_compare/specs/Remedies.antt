-- What can be set back to what it was. E1.20 sections 10.5.5, 10.6.1 and 10.6.3.
use Rattle.std.specs.Prelude.{ℕ, ◌==◌, ◌&&◌, ◌||◌, not, nat_lt, Bool, false, List, [], ◌∷◌, ◌++◌, Option, Some, None, is_some, option_and_then, if◌then◌else◌}
use Rattle.std.specs.Int.{w16, to_be_bytes}
use Rattle.std.specs.List.{flat_map}
use Rattle.std.specs.Str.{bytes_eq}
use Rattle.rdm_frame.specs.declared.uid.Uid.{Uid}
use Rattle.rdm_frame.specs.Digits.{within}
use Rattle.rdm_survey.specs.declared.row.SubDevice.{SubDevice}
use Rattle.rdm_compare.specs.declared.kept.Kept.{Kept}
use Rattle.rdm_compare.specs.declared.remedy.Remedy.{Remedy}
use Rattle.rdm_compare.specs.Differences.{fixture_of, sub_of}

-- the numbers to which a personality and a start address can be set
abbrev pub is_personality : ℕ → Bool
is_personality n = nat_lt 0 n

abbrev pub is_address : ℕ → Bool
is_address n = within 1 n 512

-- another number is told now
abbrev pub differs : ℕ → Option ℕ → Bool
differs n None = false
differs n (Some now) = not (n == now)

-- The number to set: the one of then, if it can be set and another is told now. After what moves addresses it is set anyway.
abbrev pub to_set : (ℕ → Bool) → Bool → Option ℕ → Option ℕ → Option ℕ
to_set can anyway None now = None
to_set can anyway (Some n) now = if can n && (anyway || differs n now) then Some n else None

-- what sets a personality, a start address and a label
abbrev pub personality_remedy : Uid → Option ℕ → List Remedy
personality_remedy uid None = []
personality_remedy uid (Some n) = record { uid = uid; sub = 0; pid = 0x00E0; «data» = n ∷ [] } ∷ []

abbrev pub address_remedy : Uid → ℕ → Option ℕ → List Remedy
address_remedy uid sub None = []
address_remedy uid sub (Some n) = record { uid = uid; sub = sub; pid = 0x00F0; «data» = to_be_bytes w16 n } ∷ []

abbrev pub label_remedy : Uid → Option (List ℕ) → Option (List ℕ) → List Remedy
label_remedy uid (Some was) (Some is) = if bytes_eq was is then [] else record { uid = uid; sub = 0; pid = 0x0082; «data» = was } ∷ []
label_remedy uid (Some was) None = []
label_remedy uid None is = []

-- the personality to set back
abbrev pub personality_back : Kept → Kept → Option ℕ
personality_back was is = to_set is_personality false was.personality is.personality

-- A new personality may move the start addresses, of the root and of the sub-devices.
abbrev pub moves : Kept → Kept → Bool
moves was is = is_some (personality_back was is)

abbrev pub root_remedy : Kept → Kept → List Remedy
root_remedy was is = address_remedy was.uid 0 (to_set is_address (moves was is) was.address is.address)

-- the start address that a sub-device tells now
abbrev pub address_now : ℕ → List SubDevice → Option ℕ
address_now number subs = option_and_then (λ (s : SubDevice). s.address) (sub_of number subs)

unfoldable pub sub_remedy : Uid → Bool → List SubDevice → SubDevice → List Remedy
sub_remedy uid moved now s = address_remedy uid s.number (to_set is_address moved s.address (address_now s.number now))

-- The remedies of a fixture: its personality first, then the start addresses of the root and of its sub-devices, then its label.
abbrev pub remedies_of : Kept → Kept → List Remedy
remedies_of was is =
    personality_remedy was.uid (personality_back was is) ++ root_remedy was is
    ++ flat_map (sub_remedy was.uid (moves was is) is.sub_devices) was.sub_devices ++ label_remedy was.uid was.label is.label

abbrev pub remedies_if_there : Kept → Option Kept → List Remedy
remedies_if_there was None = []
remedies_if_there was (Some is) = remedies_of was is

unfoldable pub remedies_among : List Kept → Kept → List Remedy
remedies_among now was = remedies_if_there was (fixture_of was.uid now)

-- Those of each fixture that is in both surveys, in the order of the first.
abbrev pub remedies : List Kept → List Kept → List Remedy
remedies was is = flat_map (remedies_among is) was
