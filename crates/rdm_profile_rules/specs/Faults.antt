-- The rules of a profile, one by one, and which is the first that it breaks. E1.20 sections 9 and 10.
use Rattle.std.specs.Prelude.{◌≢◌, ℕ, ◌<◌, ◌≤◌, List, length, All, AllPairs, IsTrue}
use Rattle.rdm_profile.specs.declared.profile.Profile.{Profile}
use Rattle.rdm_profile.specs.declared.profile.choices.ChoiceName.{ChoiceName}
use Rattle.rdm_profile.specs.declared.profile.own.ParameterDef.{ParameterDef}
use Rattle.rdm_profile.specs.declared.profile.particulars.Particular.{Particular}
use Rattle.rdm_profile.specs.declared.profile.Unit.{Unit as DeviceUnit}
use Rattle.rdm_profile_rules.specs.declared.faults.ProfileFault.{ProfileFault}
use Rattle.rdm_profile_rules.specs.declared.faults.ProfileFault.TheVariants.{SubDevices, Presets, Personalities, Start, RootFootprint, SubFootprint, Languages, TestNumber, TwinTests, TwinStatusTexts, LeftOut, LeftOutNeeded, ParameterCount, ParameterPid, ParameterLimits, ParameterStart, ParameterOrder, ParameterFields, ParameterStandard, ParameterNames, ParameterLocks, ParameterLockState, ParameterLocked, BindingUid, ModeCount, ModeFootprint, ModeSlots}
use Rattle.rdm_profile.specs.LeftOut.{leave_no_need}
use Rattle.rdm_profile.specs.Modes.{has_slots, mode_shapes}
use Rattle.rdm_profile.specs.MuteReply.{can_bind}
use Rattle.rdm_profile.specs.Profiles.{root_slots, AreGoodLocks, AreGoodParameters, AreOptional, HaveFreePids, HaveLimits, HaveStarts, Ascend, HaveFields, FollowStandards, Agree, HaveStates, CanOpen, CanHold, MayBeLeftOut}

-- The start address is one of DMX512. Section 10.6.3.
abbrev pub IsStart : DeviceUnit → Type 0
IsStart u = (1 ≤ u.start) × (u.start ≤ 512)

-- The rule that each fault names, kept.
abbrev pub Keeps : ProfileFault → Profile → Type 0
Keeps SubDevices p = p.subs ≤ 512
Keeps Presets p = p.presets < 65535
Keeps Personalities p = (0 < length p.root.personalities.items) × (0 < length p.sub.personalities.items)
Keeps Start p = IsStart p.root × IsStart p.sub
Keeps RootFootprint p = All (λ m. m.footprint ≤ root_slots p) p.root.personalities.items
Keeps SubFootprint p = All (λ m. m.footprint ≤ 512) p.sub.personalities.items
Keeps Languages p = 0 < length p.languages.items
Keeps TestNumber p = All (λ t. (0 < t.number) × (t.number < 255)) p.tests.items
Keeps TwinTests p = AllPairs (λ s t. s.number ≢ t.number) p.tests.items
Keeps TwinStatusTexts p = AllPairs (λ s t. s.id ≢ t.id) p.status_texts.items
Keeps LeftOut p = AreOptional p.particulars.without.items
Keeps LeftOutNeeded p = IsTrue (leave_no_need p.particulars.without.items)
Keeps ParameterCount p = length p.particulars.own ≤ 32
Keeps ParameterPid p = HaveFreePids p.particulars.own
Keeps ParameterLimits p = HaveLimits p.particulars.own
Keeps ParameterStart p = HaveStarts p.particulars.own
Keeps ParameterOrder p = Ascend p.particulars.own
Keeps ParameterFields p = HaveFields p.particulars.own
Keeps ParameterStandard p = FollowStandards p.particulars.own
Keeps ParameterNames p = Agree p.particulars.own p.particulars.choices
Keeps ParameterLocks p = HaveStates p.particulars.own p.particulars.locks
Keeps ParameterLockState p = CanOpen p.particulars.own
Keeps ParameterLocked p = CanHold p.particulars.without.items p.particulars.own p.particulars.locks
Keeps BindingUid p = IsTrue (can_bind p.particulars.mute_reply.binding)
Keeps ModeCount p = length (mode_shapes p) ≤ 247
Keeps ModeFootprint p = All (λ s. s.footprint ≤ 512) (mode_shapes p)
Keeps ModeSlots p = All (λ s. IsTrue (has_slots (length p.root.personalities.items) (mode_shapes p) s)) (mode_shapes p)

-- the rules that don't speak of parameters, kept
abbrev pub KeepsOthers : Profile → Type 0
KeepsOthers p =
    Keeps SubDevices p × Keeps Presets p × Keeps Personalities p × Keeps Start p × Keeps RootFootprint p × Keeps SubFootprint p
    × Keeps Languages p × Keeps TestNumber p × Keeps TwinTests p × Keeps TwinStatusTexts p

-- those, and the rules of the parameters that are left out
abbrev pub KeepsLeftOut : Profile → Type 0
KeepsLeftOut p = KeepsOthers p × Keeps LeftOut p × Keeps LeftOutNeeded p

-- those, and the rules of the parameters of the maker's own but for what their slots say
abbrev pub KeepsListed : Profile → Type 0
KeepsListed p =
    KeepsLeftOut p × Keeps ParameterCount p × Keeps ParameterPid p × Keeps ParameterLimits p × Keeps ParameterStart p
    × Keeps ParameterOrder p

-- those, and the rules of what the slots of these parameters say and of their names
abbrev pub KeepsNamed : Profile → Type 0
KeepsNamed p = KeepsListed p × Keeps ParameterFields p × Keeps ParameterStandard p × Keeps ParameterNames p

-- those, and the rules of locks: all that speak of parameters
abbrev pub KeepsParameters : Profile → Type 0
KeepsParameters p = KeepsNamed p × Keeps ParameterLocks p × Keeps ParameterLockState p × Keeps ParameterLocked p

-- those, and the rule of the binding UID: all that don't speak of modes
abbrev pub KeepsBinding : Profile → Type 0
KeepsBinding p = KeepsParameters p × Keeps BindingUid p

-- the rules before it, kept
abbrev pub KeepsBefore : ProfileFault → Profile → Type 0
KeepsBefore SubDevices p = Unit {0}
KeepsBefore Presets p = Keeps SubDevices p
KeepsBefore Personalities p = Keeps SubDevices p × Keeps Presets p
KeepsBefore Start p = Keeps SubDevices p × Keeps Presets p × Keeps Personalities p
KeepsBefore RootFootprint p = Keeps SubDevices p × Keeps Presets p × Keeps Personalities p × Keeps Start p
KeepsBefore SubFootprint p = Keeps SubDevices p × Keeps Presets p × Keeps Personalities p × Keeps Start p × Keeps RootFootprint p
KeepsBefore Languages p =
    Keeps SubDevices p × Keeps Presets p × Keeps Personalities p × Keeps Start p × Keeps RootFootprint p × Keeps SubFootprint p
KeepsBefore TestNumber p =
    Keeps SubDevices p × Keeps Presets p × Keeps Personalities p × Keeps Start p × Keeps RootFootprint p × Keeps SubFootprint p
    × Keeps Languages p
KeepsBefore TwinTests p =
    Keeps SubDevices p × Keeps Presets p × Keeps Personalities p × Keeps Start p × Keeps RootFootprint p × Keeps SubFootprint p
    × Keeps Languages p × Keeps TestNumber p
KeepsBefore TwinStatusTexts p =
    Keeps SubDevices p × Keeps Presets p × Keeps Personalities p × Keeps Start p × Keeps RootFootprint p × Keeps SubFootprint p
    × Keeps Languages p × Keeps TestNumber p × Keeps TwinTests p
KeepsBefore LeftOut p = KeepsOthers p
KeepsBefore LeftOutNeeded p = KeepsOthers p × Keeps LeftOut p
KeepsBefore ParameterCount p = KeepsLeftOut p
KeepsBefore ParameterPid p = KeepsLeftOut p × Keeps ParameterCount p
KeepsBefore ParameterLimits p = KeepsLeftOut p × Keeps ParameterCount p × Keeps ParameterPid p
KeepsBefore ParameterStart p = KeepsLeftOut p × Keeps ParameterCount p × Keeps ParameterPid p × Keeps ParameterLimits p
KeepsBefore ParameterOrder p =
    KeepsLeftOut p × Keeps ParameterCount p × Keeps ParameterPid p × Keeps ParameterLimits p × Keeps ParameterStart p
KeepsBefore ParameterFields p = KeepsListed p
KeepsBefore ParameterStandard p = KeepsListed p × Keeps ParameterFields p
KeepsBefore ParameterNames p = KeepsListed p × Keeps ParameterFields p × Keeps ParameterStandard p
KeepsBefore ParameterLocks p = KeepsNamed p
KeepsBefore ParameterLockState p = KeepsNamed p × Keeps ParameterLocks p
KeepsBefore ParameterLocked p = KeepsNamed p × Keeps ParameterLocks p × Keeps ParameterLockState p
KeepsBefore BindingUid p = KeepsParameters p
KeepsBefore ModeCount p = KeepsBinding p
KeepsBefore ModeFootprint p = KeepsBinding p × Keeps ModeCount p
KeepsBefore ModeSlots p = KeepsBinding p × Keeps ModeCount p × Keeps ModeFootprint p

-- It is the first rule that the profile breaks.
abbrev pub IsFirstBroken : ProfileFault → Profile → Type 0
IsFirstBroken fault p = KeepsBefore fault p × ¬ Keeps fault p

-- the rules that speak of the parameters of the maker's own alone, kept by these
abbrev pub KeepsOwn : List ParameterDef → Type 0
KeepsOwn ds =
    (length ds ≤ 32) × HaveFreePids ds × HaveLimits ds × HaveStarts ds × Ascend ds × HaveFields ds × FollowStandards ds

-- what of this speaks of parameters keeps the rules: those that are left out, those of the maker's own with their names, and the locks
abbrev pub AreGood : Particular → Type 0
AreGood x = MayBeLeftOut x.without.items × AreGoodParameters x.own x.choices × AreGoodLocks x.without.items x.own x.locks

-- a profile with so many slots beside those that it describes
abbrev pub with_slots : Profile → ℕ → Profile
with_slots p more_slots = record p { particulars = record p.particulars { more_slots = more_slots } }

-- the same with these parameters left out, these of the maker's own, and these names of choices
abbrev pub with_parameters : Profile → ℕ → List ℕ → List ParameterDef → List ChoiceName → Profile
with_parameters p more_slots without own choices =
    record p { particulars = record p.particulars { own = own; choices = choices; without = record { items = without }; more_slots = more_slots } }
