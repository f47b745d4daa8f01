-- The rules of a profile, judged in parts: without parameters of the maker's own, these alone, and what the things of choices are called.
use Rattle.std.proofs.Common.{◌≡◌, sym, ℕ, ◌≤◌, ◌<◌, List, [], Option, Some, None, IfSome, IsTrue, length, map, subst, arith}
use Rattle.std.specs.Prelude.{All}
use Rattle.rdm_profile.specs.declared.profile.Profile.{Profile}
use Rattle.rdm_profile.specs.declared.profile.choices.ChoiceName.{ChoiceName}
use Rattle.rdm_profile.specs.declared.profile.locks.Lock.{Lock}
use Rattle.rdm_profile.specs.declared.profile.modes.Mode.{Mode}
use Rattle.rdm_profile.specs.declared.profile.modes.ModeShape.{ModeShape}
use Rattle.rdm_profile.specs.declared.profile.own.ParameterDef.{ParameterDef}
use Rattle.rdm_profile.specs.declared.profile.particulars.Particular.{Particular}
use Rattle.rdm_profile_rules.specs.declared.faults.ProfileFault.{ProfileFault}
use Rattle.rdm_profile_rules.specs.declared.faults.ProfileFault.TheVariants.{SubDevices, Presets, Personalities, Start, RootFootprint, SubFootprint, Languages, TestNumber, TwinTests, TwinStatusTexts, LeftOut, LeftOutNeeded, ParameterCount, ParameterPid, ParameterLimits, ParameterStart, ParameterOrder, ParameterFields, ParameterStandard, ParameterNames, ParameterLocks, ParameterLockState, ParameterLocked, BindingUid, ModeCount, ModeFootprint, ModeSlots}
use Rattle.rdm_profile_rules.specs.Faults.{Keeps, KeepsBefore, KeepsBinding, KeepsLeftOut, KeepsOwn, KeepsParameters, IsFirstBroken, with_parameters}
use Rattle.rdm_profile.specs.Profiles.{Agree, AreGoodLocks, AreGoodModes, AreGoodParameters, CanBeMade, CanHold, CanOpen, HaveStates}
use Rattle.std.proofs.lemmas.List.Elements.{All-from_recursion}
use Rattle.rdm_profile.specs.Locks.{can_hold}
use Rattle.rdm_profile.specs.Modes.{has_slots, mode_shapes, shape_of}
use Rattle.rdm_profile.specs.MuteReply.{can_bind}
use Rattle.rdm_profile.proofs.DemoLemmas.{no_modes, none_good, none_locked}
use Rattle.rdm_profile_rules.proofs.FirstFaults.{keeps_before, keeps_others, made}
use Rattle.rdm_c.specs.Parameters.{HasOwn}

-- no lock is one that can't hold
none_held : (without : List ℕ) → CanHold without [] []
none_held without = All-from_recursion (λ (l : Lock). IsTrue (can_hold without [] l)) [] tt

-- the first rule that a profile breaks without parameters of the maker's own, locks and modes is the first that it breaks with what sets it
-- apart
pub still_first : (f : ProfileFault) (p : Profile) (x : Particular) → p.particulars.locks ≡ [] → IsTrue (can_bind p.particulars.mute_reply.binding) → p.particulars.modes ≡ [] → IsFirstBroken f (with_parameters p x.more_slots x.without.items [] []) → IsFirstBroken f (record p { particulars = x })
still_first SubDevices p x none binds plain h = h
still_first Presets p x none binds plain h = h
still_first Personalities p x none binds plain h = h
still_first Start p x none binds plain h = h
still_first RootFootprint p x none binds plain h = h
still_first SubFootprint p x none binds plain h = h
still_first Languages p x none binds plain h = h
still_first TestNumber p x none binds plain h = h
still_first TwinTests p x none binds plain h = h
still_first TwinStatusTexts p x none binds plain h = h
still_first LeftOut p x none binds plain h = h
still_first LeftOutNeeded p x none binds plain h = h
still_first ParameterCount p x none binds plain h = absurd (h.1 none_good.count)
still_first ParameterPid p x none binds plain h = absurd (h.1 none_good.pids)
still_first ParameterLimits p x none binds plain h = absurd (h.1 none_good.limits)
still_first ParameterStart p x none binds plain h = absurd (h.1 none_good.starts)
still_first ParameterOrder p x none binds plain h = absurd (h.1 none_good.ascending)
still_first ParameterFields p x none binds plain h = absurd (h.1 none_good.fields)
still_first ParameterStandard p x none binds plain h = absurd (h.1 none_good.standards)
still_first ParameterNames p x none binds plain h = absurd (h.1 none_good.agree)
still_first ParameterLocks p x none binds plain h = absurd (h.1 (subst (λ (ls : List Lock). HaveStates [] ls) (sym none) none_locked.states))
still_first ParameterLockState p x none binds plain h = absurd (h.1 none_locked.opened)
still_first ParameterLocked p x none binds plain h = absurd (h.1 (subst (λ (ls : List Lock). CanHold x.without.items [] ls) (sym none) (none_held x.without.items)))
still_first BindingUid p x none binds plain h = absurd (h.1 binds)
still_first ModeCount p x none binds plain h = absurd (h.1 (subst (λ (ms : List Mode). length (map shape_of ms) ≤ 247) (sym plain) (no_modes 0).count))
still_first ModeFootprint p x none binds plain h = absurd (h.1 (subst (λ (ms : List Mode). All (λ (s : ModeShape). s.footprint ≤ 512) (map shape_of ms)) (sym plain) (no_modes 0).footprints))
still_first ModeSlots p x none binds plain h =
    let units = length p.root.personalities.items in
    absurd (h.1 (subst (λ (ms : List Mode). All (λ (s : ModeShape). IsTrue (has_slots units (map shape_of ms) s)) (map shape_of ms)) (sym plain) (no_modes units).slots))

pub still_first_if : (result : Option ProfileFault) (p : Profile) (x : Particular) → p.particulars.locks ≡ [] → IsTrue (can_bind p.particulars.mute_reply.binding) → p.particulars.modes ≡ [] → IfSome result (λ f. IsFirstBroken f (with_parameters p x.more_slots x.without.items [] [])) → IfSome result (λ f. IsFirstBroken f (record p { particulars = x }))
still_first_if None p x none binds plain h = tt
still_first_if (Some f) p x none binds plain h = still_first f p x none binds plain h

-- if it breaks none without them, it keeps the rules that don't speak of them
pub keeps_left_out : (p : Profile) (x : Particular) → CanBeMade (with_parameters p x.more_slots x.without.items [] []) → KeepsLeftOut (record p { particulars = x })
keeps_left_out p x can =
    let left_out = can.1.without in
    (keeps_others p x.more_slots x.without.items [] [] can, left_out.optional, left_out.needs)

-- the parameters of the maker's own are good, with their names and locks
abbrev pub HasGoodOwn : Profile → Type 0
HasGoodOwn p = AreGoodParameters p.particulars.own p.particulars.choices × AreGoodLocks p.particulars.without.items p.particulars.own p.particulars.locks

-- the rules before that of the binding UID
pub before_binding : (p : Profile) → KeepsLeftOut p → HasGoodOwn p → KeepsParameters p
before_binding p h good =
    keeps_before p p.particulars.more_slots p.particulars.without.items p.particulars.own p.particulars.choices h.0 (record { optional = h.1; needs = h.2 }, good.0, good.1)

-- parameters of the maker's own are good exactly if they keep the rules that speak of them, and their names are those of their choices
pub good_own : (ds : List ParameterDef) (cs : List ChoiceName) → KeepsOwn ds → Agree ds cs → AreGoodParameters ds cs
good_own ds cs h agree =
    record { count = h.0; pids = h.1; limits = h.2; starts = h.3; ascending = h.4; fields = h.5; standards = h.6; agree = agree }

pub keeps_own : (ds : List ParameterDef) (cs : List ChoiceName) → AreGoodParameters ds cs → KeepsOwn ds
keeps_own ds cs good = (good.count, good.pids, good.limits, good.starts, good.ascending, good.fields, good.standards)

-- a device can be made with a profile that keeps the rules before those of modes, and whose modes are good
pub made_with : (p : Profile) → KeepsBinding p → AreGoodModes (length p.root.personalities.items) (mode_shapes p) → CanBeMade p
made_with p h modes =
    let named = h.0.0 in
    let listed = named.0 in
    let own = good_own p.particulars.own p.particulars.choices (listed.1, listed.2, listed.3, listed.4, listed.5, named.1, named.2) named.3 in
    made p p.particulars.more_slots p.particulars.without.items p.particulars.own p.particulars.choices listed.0.0 (
      record { optional = listed.0.1; needs = listed.0.2 },
      own,
      record { states = h.0.1; opened = h.0.2; held = h.0.3 },
    ) h.1 modes

-- the rules before that of names
pub before_names : (p : Profile) (ds : List ParameterDef) → p.particulars.own ≡ ds → KeepsLeftOut p → KeepsOwn ds → KeepsBefore ParameterNames p
before_names p ds same h own =
    let kept : KeepsOwn p.particulars.own = subst (λ (es : List ParameterDef). KeepsOwn es) (sym same) own in
    ((h, kept.0, kept.1, kept.2, kept.3, kept.4), kept.5, kept.6)

-- a profile with too many parameters of the maker's own
pub too_many : (p : Profile) (ds : List ParameterDef) → p.particulars.own ≡ ds → KeepsLeftOut p → 32 < length ds → IsFirstBroken ParameterCount p
too_many p ds same h many =
    (h, λ few. absurd (omega (arith, subst (λ (es : List ParameterDef). length es ≤ 32) same few, many)))

-- the rule of names, and that of locks, are the first that is broken
pub names_first : (p : Profile) (ds : List ParameterDef) (cs : List ChoiceName) (ls : List Lock) (without : List ℕ) → HasOwn p ds cs ls without → KeepsBefore ParameterNames p → (¬ Agree ds cs) → IsFirstBroken ParameterNames p
names_first p ds cs ls without has before broken =
    (before, subst (λ (es : List ParameterDef). ¬ Agree es p.particulars.choices) (sym has.0) (subst (λ (ns : List ChoiceName). ¬ Agree ds ns) (sym has.1) broken))

-- names that agree keep the rules before those of locks
pub before_locks : (p : Profile) (ds : List ParameterDef) (cs : List ChoiceName) (ls : List Lock) (without : List ℕ) → HasOwn p ds cs ls without → KeepsBefore ParameterNames p → Agree ds cs → KeepsBefore ParameterLocks p
before_locks p ds cs ls without has before agree =
    let agrees : Agree p.particulars.own p.particulars.choices = subst (λ (es : List ParameterDef). Agree es p.particulars.choices) (sym has.0) (subst (λ (ns : List ChoiceName). Agree ds ns) (sym has.1) agree) in
    (before.0, before.1, before.2, agrees)

-- what lists make true is so of a profile that has them
abbrev of_lists : (P : List ParameterDef → List Lock → List ℕ → Type 0) → Profile → Type 0
of_lists P p = P p.particulars.own p.particulars.locks p.particulars.without.items

from_lists : (P : List ParameterDef → List Lock → List ℕ → Type 0) (p : Profile) (ds : List ParameterDef) (cs : List ChoiceName) (ls : List Lock) (without : List ℕ) → HasOwn p ds cs ls without → P ds ls without → of_lists P p
from_lists P p ds cs ls without has holds =
    subst (λ (es : List ParameterDef). P es p.particulars.locks p.particulars.without.items) (sym has.0) (subst (λ (ks : List Lock). P ds ks p.particulars.without.items) (sym has.2) (subst (λ (pids : List ℕ). P ds ls pids) (sym has.3) holds))

pub locks_first : (p : Profile) (ds : List ParameterDef) (cs : List ChoiceName) (ls : List Lock) (without : List ℕ) → HasOwn p ds cs ls without → KeepsBefore ParameterLocks p → (¬ HaveStates ds ls) → IsFirstBroken ParameterLocks p
locks_first p ds cs ls without has before broken =
    (before, from_lists (λ es ks pids. ¬ HaveStates es ks) p ds cs ls without has broken)

pub lock_state_first : (p : Profile) (ds : List ParameterDef) (cs : List ChoiceName) (ls : List Lock) (without : List ℕ) → HasOwn p ds cs ls without → KeepsBefore ParameterLocks p → HaveStates ds ls → (¬ CanOpen ds) → IsFirstBroken ParameterLockState p
lock_state_first p ds cs ls without has before states broken =
    ((before, from_lists (λ es ks pids. HaveStates es ks) p ds cs ls without has states), from_lists (λ es ks pids. ¬ CanOpen es) p ds cs ls without has broken)

pub locked_first : (p : Profile) (ds : List ParameterDef) (cs : List ChoiceName) (ls : List Lock) (without : List ℕ) → HasOwn p ds cs ls without → KeepsBefore ParameterLocks p → HaveStates ds ls → CanOpen ds → (¬ CanHold without ds ls) → IsFirstBroken ParameterLocked p
locked_first p ds cs ls without has before states opened broken =
    ((before, from_lists (λ es ks pids. HaveStates es ks) p ds cs ls without has states, from_lists (λ es ks pids. CanOpen es) p ds cs ls without has opened), from_lists (λ es ks pids. ¬ CanHold pids es ks) p ds cs ls without has broken)

-- no device can be made with a profile that breaks a rule
pub keeps_each : (f : ProfileFault) (p : Profile) → CanBeMade p → Keeps f p
keeps_each SubDevices p can = can.0
keeps_each Presets p can = can.1.presets
keeps_each Personalities p can = (can.1.root.personality, can.1.sub.personality)
keeps_each Start p can = ((can.1.root.start_least, can.1.root.start_greatest), (can.1.sub.start_least, can.1.sub.start_greatest))
keeps_each RootFootprint p can = can.1.root.footprints
keeps_each SubFootprint p can = can.1.sub.footprints
keeps_each Languages p can = can.1.language
keeps_each TestNumber p can = can.1.test_numbers
keeps_each TwinTests p can = can.1.tests_differ
keeps_each TwinStatusTexts p can = can.1.statuses_differ
keeps_each LeftOut p can = can.1.without.optional
keeps_each LeftOutNeeded p can = can.1.without.needs
keeps_each ParameterCount p can = can.1.own.count
keeps_each ParameterPid p can = can.1.own.pids
keeps_each ParameterLimits p can = can.1.own.limits
keeps_each ParameterStart p can = can.1.own.starts
keeps_each ParameterOrder p can = can.1.own.ascending
keeps_each ParameterFields p can = can.1.own.fields
keeps_each ParameterStandard p can = can.1.own.standards
keeps_each ParameterNames p can = can.1.own.agree
keeps_each ParameterLocks p can = can.1.locks.states
keeps_each ParameterLockState p can = can.1.locks.opened
keeps_each ParameterLocked p can = can.1.locks.held
keeps_each BindingUid p can = can.1.binding
keeps_each ModeCount p can = can.1.modes.count
keeps_each ModeFootprint p can = can.1.modes.footprints
keeps_each ModeSlots p can = can.1.modes.slots
