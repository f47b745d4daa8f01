-- The parameter with a name is the one that has it.
use Rattle.std.proofs.Common.{◌≡◌, ℕ, ◌↔◌, Bool, true, false, cond, List, [], ◌∷◌, Option, Some, None, ◌⊎◌, inl, inr, refl, subst}
use Rattle.std.specs.Prelude.{find}
use Rattle.std.specs.Str.{bytes_eq}
use Rattle.std.proofs.lemmas.Option.{same_Some}
use Rattle.std.proofs.lemmas.Slice.Eq.{bytes_eq-Decides}
use Rattle.rdm_table.specs.declared.kind.Kind.{Kind}
use Rattle.rdm_table.specs.declared.kind.Kind.TheVariants.{QueuedMessage, StatusMessages, StatusIdDescription, ClearStatusId, SubDeviceStatusReportThreshold, SupportedParameters, DeviceInfo, DeviceModelDescription, ManufacturerLabel, DeviceLabel, FactoryDefaults, LanguageCapabilities, Language, SoftwareVersionLabel, BootSoftwareVersionId, BootSoftwareVersionLabel, DmxPersonality, DmxPersonalityDescription, DmxStartAddress, SlotInfo, SlotDescription, DefaultSlotValue, SensorDefinition, SensorValue, RecordSensors, DeviceHours, LampHours, LampStrikes, LampState, LampOnMode, DevicePowerCycles, DisplayInvert, DisplayLevel, PanInvert, TiltInvert, PanTiltSwap, IdentifyDevice, PowerState, PerformSelfTest, SelfTestDescription, PresetPlayback}
use Rattle.rdm_table.specs.Table.Kinds.{name_of, kinds, kind_named}

-- the first one, where its test holds, or one of the others
first_or_later : (b : Bool) (first : Kind) (later : Option Kind) (kind : Kind) → cond b (Some first) later ≡ Some kind → ((b ≡ true) × (first ≡ kind)) ⊎ (later ≡ Some kind)
first_or_later true first later kind e = inl (refl, same_Some first kind e)
first_or_later false first later kind e = inr e

has_it : (name : List ℕ) (rows : List Kind) (kind : Kind) → find (λ k. bytes_eq (name_of k) name) rows ≡ Some kind → name_of kind ≡ name
has_it name [] kind e = let never : None ≡ Some kind = e in cc
has_it name (k ∷ rows) kind e =
    elim (first_or_later (bytes_eq (name_of k) name) k (find (λ l. bytes_eq (name_of l) name) rows) kind e) [
      | inl found ↦ subst (λ l. name_of l ≡ name) found.1 ((bytes_eq-Decides (name_of k) name).0 found.0)
      | inr later ↦ has_it name rows kind later
    ]

-- each name is found, and no other parameter has it
own_name : (kind : Kind) → kind_named (name_of kind) ≡ Some kind
unfolding kind_named
own_name QueuedMessage = refl
own_name StatusMessages = refl
own_name StatusIdDescription = refl
own_name ClearStatusId = refl
own_name SubDeviceStatusReportThreshold = refl
own_name SupportedParameters = refl
own_name DeviceInfo = refl
own_name DeviceModelDescription = refl
own_name ManufacturerLabel = refl
own_name DeviceLabel = refl
own_name FactoryDefaults = refl
own_name LanguageCapabilities = refl
own_name Language = refl
own_name SoftwareVersionLabel = refl
own_name BootSoftwareVersionId = refl
own_name BootSoftwareVersionLabel = refl
own_name DmxPersonality = refl
own_name DmxPersonalityDescription = refl
own_name DmxStartAddress = refl
own_name SlotInfo = refl
own_name SlotDescription = refl
own_name DefaultSlotValue = refl
own_name SensorDefinition = refl
own_name SensorValue = refl
own_name RecordSensors = refl
own_name DeviceHours = refl
own_name LampHours = refl
own_name LampStrikes = refl
own_name LampState = refl
own_name LampOnMode = refl
own_name DevicePowerCycles = refl
own_name DisplayInvert = refl
own_name DisplayLevel = refl
own_name PanInvert = refl
own_name TiltInvert = refl
own_name PanTiltSwap = refl
own_name IdentifyDevice = refl
own_name PowerState = refl
own_name PerformSelfTest = refl
own_name SelfTestDescription = refl
own_name PresetPlayback = refl

pub named_is : (name : List ℕ) (kind : Kind) → (kind_named name ≡ Some kind) ↔ (name_of kind ≡ name)
unfolding kind_named
named_is name kind = (has_it name kinds kind, λ e. subst (λ n. kind_named n ≡ Some kind) e (own_name kind))
