-- The rules of a profile: all of them, and one by one.
use Rattle.std.proofs.Common.{◌≡◌, ℕ, List, ap, ◌∙◌}
use Rattle.std.specs.Prelude.{IsTrue, length}
use Rattle.rdm_profile.specs.declared.profile.Profile.{Profile}
use Rattle.rdm_profile.specs.declared.profile.choices.ChoiceName.{ChoiceName}
use Rattle.rdm_profile.specs.declared.profile.own.ParameterDef.{ParameterDef}
use Rattle.rdm_profile.specs.Modes.{mode_shapes}
use Rattle.rdm_profile.specs.MuteReply.{can_bind}
use Rattle.rdm_profile_rules.specs.Faults.{KeepsOthers, KeepsParameters, with_parameters, with_slots}
use Rattle.rdm_profile.specs.Profiles.{CanBeMade, MayBeLeftOut, AreGoodParameters, AreGoodLocks, AreGoodModes}

-- a profile that keeps the rules which don't speak of parameters, with good ones
pub made : (p : Profile) (more_slots : ℕ) (without : List ℕ) (own : List ParameterDef) (choices : List ChoiceName) → KeepsOthers (with_slots p more_slots) → MayBeLeftOut without × AreGoodParameters own choices × AreGoodLocks without own p.particulars.locks → IsTrue (can_bind p.particulars.mute_reply.binding) → AreGoodModes (length p.root.personalities.items) (mode_shapes p) → CanBeMade (with_parameters p more_slots without own choices)
made p more_slots without own choices h good binding modes = (
  h.0,
  record {
    root = record { personality = h.2.0; start_least = h.3.0.0; start_greatest = h.3.0.1; footprints = h.4 };
    sub = record { personality = h.2.1; start_least = h.3.1.0; start_greatest = h.3.1.1; footprints = h.5 };
    language = h.6;
    test_numbers = h.7;
    tests_differ = h.8;
    statuses_differ = h.9;
    presets = h.1;
    own = good.1;
    without = good.0;
    locks = good.2;
    binding = binding;
    modes = modes;
  },
)

-- what a profile keeps that a device can be made with
pub keeps_others : (p : Profile) (more_slots : ℕ) (without : List ℕ) (own : List ParameterDef) (choices : List ChoiceName) → CanBeMade (with_parameters p more_slots without own choices) → KeepsOthers (with_slots p more_slots)
keeps_others p more_slots without own choices can =
    let good = can.1 in
    (can.0, good.presets, (good.root.personality, good.sub.personality), ((good.root.start_least, good.root.start_greatest), (good.sub.start_least, good.sub.start_greatest)), good.root.footprints, good.sub.footprints, good.language, good.test_numbers, good.tests_differ, good.statuses_differ)

pub keeps_parameters : (p : Profile) (more_slots : ℕ) (without : List ℕ) (own : List ParameterDef) (choices : List ChoiceName) → CanBeMade (with_parameters p more_slots without own choices) → MayBeLeftOut without × AreGoodParameters own choices × AreGoodLocks without own p.particulars.locks
keeps_parameters p more_slots without own choices can = (can.1.without, can.1.own, can.1.locks)

pub keeps_binding : (p : Profile) (more_slots : ℕ) (without : List ℕ) (own : List ParameterDef) (choices : List ChoiceName) → CanBeMade (with_parameters p more_slots without own choices) → IsTrue (can_bind p.particulars.mute_reply.binding)
keeps_binding p more_slots without own choices can = can.1.binding

pub keeps_modes : (p : Profile) (more_slots : ℕ) (without : List ℕ) (own : List ParameterDef) (choices : List ChoiceName) → CanBeMade (with_parameters p more_slots without own choices) → AreGoodModes (length p.root.personalities.items) (mode_shapes p)
keeps_modes p more_slots without own choices can = can.1.modes

-- one that keeps all rules but that of its binding UID
pub keeps_before : (p : Profile) (more_slots : ℕ) (without : List ℕ) (own : List ParameterDef) (choices : List ChoiceName) → KeepsOthers (with_slots p more_slots) → MayBeLeftOut without × AreGoodParameters own choices × AreGoodLocks without own p.particulars.locks → KeepsParameters (with_parameters p more_slots without own choices)
keeps_before p more_slots without own choices h good =
    ((((h, good.0.optional, good.0.needs), good.1.count, good.1.pids, good.1.limits, good.1.starts, good.1.ascending), good.1.fields, good.1.standards, good.1.agree), good.2.states, good.2.opened, good.2.held)

-- a profile with its own slots and parameters, and without those that it leaves out
pub same_profile : (p : Profile) (more_slots : ℕ) (without : List ℕ) (own : List ParameterDef) (choices : List ChoiceName) → more_slots ≡ p.particulars.more_slots → without ≡ p.particulars.without.items → own ≡ p.particulars.own → choices ≡ p.particulars.choices → with_parameters p more_slots without own choices ≡ p
same_profile p more_slots without own choices d e f g =
    ap (λ (n : ℕ). with_parameters p n without own choices) d ∙ ap (λ (pids : List ℕ). with_parameters p p.particulars.more_slots pids own choices) e ∙ ap (λ (ds : List ParameterDef). with_parameters p p.particulars.more_slots p.particulars.without.items ds choices) f ∙ ap (λ (cs : List ChoiceName). with_parameters p p.particulars.more_slots p.particulars.without.items p.particulars.own cs) g
