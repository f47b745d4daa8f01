-- Which rule of profiles is broken, as the header numbers the rules.
use Rattle.std.specs.Prelude.{ℕ, ◌==◌, if◌then◌else◌, Option, Some, None}
use Rattle.rdm_profile_rules.specs.declared.faults.ProfileFault.{ProfileFault}
use Rattle.rdm_profile_rules.specs.declared.faults.ProfileFault.TheVariants.{SubDevices, Presets, Personalities, Start, RootFootprint, SubFootprint, Languages, TestNumber, TwinTests, TwinStatusTexts, LeftOut, LeftOutNeeded, ParameterCount, ParameterPid, ParameterLimits, ParameterStart, ParameterOrder, ParameterFields, ParameterStandard, ParameterNames, ParameterLocks, ParameterLockState, ParameterLocked, BindingUid, ModeCount, ModeFootprint, ModeSlots}

-- the rule of a number; 0 stands for none
abbrev pub fault_in : ℕ → Option ProfileFault
fault_in number =
    if number == 1 then Some SubDevices
    else if number == 2 then Some Presets
    else if number == 3 then Some Personalities
    else if number == 4 then Some Start
    else if number == 5 then Some RootFootprint
    else if number == 6 then Some SubFootprint
    else if number == 7 then Some Languages
    else if number == 8 then Some TestNumber
    else if number == 9 then Some TwinTests
    else if number == 10 then Some TwinStatusTexts
    else if number == 11 then Some LeftOut
    else if number == 12 then Some LeftOutNeeded
    else if number == 13 then Some ParameterCount
    else if number == 14 then Some ParameterPid
    else if number == 15 then Some ParameterLimits
    else if number == 16 then Some ParameterStart
    else if number == 17 then Some ParameterOrder
    else if number == 18 then Some ParameterFields
    else if number == 19 then Some ParameterStandard
    else if number == 20 then Some ParameterNames
    else if number == 21 then Some ParameterLocks
    else if number == 22 then Some ParameterLockState
    else if number == 23 then Some ParameterLocked
    else if number == 24 then Some BindingUid
    else if number == 25 then Some ModeCount
    else if number == 26 then Some ModeFootprint
    else if number == 27 then Some ModeSlots else None
