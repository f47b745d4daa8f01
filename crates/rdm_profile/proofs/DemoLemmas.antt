-- The demo profile keeps the rules of a profile.
use Rattle.std.proofs.Common.{◌≢◌, ℕ, ◌<◌, ◌≤◌, [], ◌∷◌, refl, IsTrue, arith, lit<, lit≤}
use Rattle.std.specs.List.{AllPairs}
use Rattle.std.proofs.lemmas.List.Elements.{All-from_recursion}
use Rattle.std.proofs.lemmas.List.Kept.{AllPairs-cons}
use Rattle.rdm_profile.specs.declared.profile.Personality.{Personality}
use Rattle.rdm_profile.specs.declared.profile.SelfTest.{SelfTest}
use Rattle.rdm_profile.specs.declared.profile.StatusText.{StatusText}
use Rattle.rdm_profile.specs.Demo.{demo, demo_root, demo_sub, demo_slots, demo_tests, demo_statuses}
use Rattle.rdm_profile.specs.declared.profile.choices.ChoiceName.{ChoiceName}
use Rattle.rdm_profile.specs.declared.profile.locks.Lock.{Lock}
use Rattle.rdm_profile.specs.declared.profile.modes.ModeShape.{ModeShape}
use Rattle.rdm_profile.specs.declared.profile.own.ParameterDef.{ParameterDef}
use Rattle.rdm_profile.specs.LeftOut.{is_optional}
use Rattle.rdm_profile.specs.Locks.{has_state, can_open, can_hold}
use Rattle.rdm_profile.specs.OwnParameters.{is_addable, has_limits, can_start, has_good_fields}
use Rattle.rdm_profile.specs.Choices.{agrees, is_needed, comes_before}
use Rattle.rdm_profile.specs.Standards.{follows}
use Rattle.rdm_profile.specs.Modes.{has_slots}
use Rattle.rdm_profile.specs.Profiles.{CanBeMade, AreGoodParameters, AreGoodLocks, AreGoodModes, MayBeLeftOut, root_slots}

none_differ : {X : Type 0} (R : X → X → Type 0) → AllPairs R []
none_differ R i j d lt within = absurd (omega arith)

pub two_differ : {X : Type 0} (R : X → X → Type 0) (a b : X) → R a b → AllPairs R (a ∷ b ∷ [])
two_differ R a b differ =
    AllPairs-cons R a (b ∷ []) (All-from_recursion (R a) (b ∷ []) (differ, tt)) (AllPairs-cons R b [] (All-from_recursion (R b) [] tt) (none_differ R))

-- no parameters of the maker's own are good, and none can be left out
pub none_good : AreGoodParameters [] []
none_good = record {
  count = lit≤ tt;
  pids = (All-from_recursion (λ (d : ParameterDef). IsTrue (is_addable d.pid)) [] tt, none_differ (λ (s t : ParameterDef). s.pid ≢ t.pid));
  limits = All-from_recursion (λ (d : ParameterDef). IsTrue (has_limits d.shape d.low d.high)) [] tt;
  starts = All-from_recursion (λ (d : ParameterDef). IsTrue (can_start d)) [] tt;
  ascending = none_differ (λ (s t : ParameterDef). s.pid < t.pid);
  fields = All-from_recursion (λ (d : ParameterDef). IsTrue (has_good_fields d)) [] tt;
  standards = All-from_recursion (λ (d : ParameterDef). IsTrue (follows d)) [] tt;
  agree = record {
    count = lit≤ tt;
    parameters = All-from_recursion (λ (d : ParameterDef). IsTrue (agrees [] [] d)) [] tt;
    names = All-from_recursion (λ (c : ChoiceName). IsTrue (is_needed [] c)) [] tt;
    ascending = none_differ (λ (c e : ChoiceName). IsTrue (comes_before c e));
  };
}

pub none_left_out : MayBeLeftOut []
none_left_out = record { optional = (lit≤ tt, All-from_recursion (λ (pid : ℕ). IsTrue (is_optional pid)) [] tt); needs = refl }

-- without parameters of the maker's own, no locks are good
pub none_locked : AreGoodLocks [] [] []
none_locked = record {
  states = All-from_recursion (λ (l : Lock). IsTrue (has_state [] l)) [] tt;
  opened = All-from_recursion (λ (d : ParameterDef). IsTrue (can_open [] d)) [] tt;
  held = All-from_recursion (λ (l : Lock). IsTrue (can_hold [] [] l)) [] tt;
}

-- without modes, they are good
pub no_modes : (units : ℕ) → AreGoodModes units []
no_modes units = record {
  count = lit≤ tt;
  footprints = All-from_recursion (λ (s : ModeShape). s.footprint ≤ 512) [] tt;
  slots = All-from_recursion (λ (s : ModeShape). IsTrue (has_slots units [] s)) [] tt;
}

pub demo_can_be_made : (subs : ℕ) → subs ≤ 512 → CanBeMade (demo subs)
unfolding demo demo_root demo_sub demo_slots demo_tests demo_statuses
demo_can_be_made subs few = (
  few,
  record {
    root = record { personality = lit< tt; start_least = lit≤ tt; start_greatest = lit≤ tt; footprints = All-from_recursion (λ (m : Personality). m.footprint ≤ root_slots (demo subs)) demo_root.personalities.items (lit≤ tt, (lit≤ tt, tt)) };
    sub = record { personality = lit< tt; start_least = lit≤ tt; start_greatest = lit≤ tt; footprints = All-from_recursion (λ (m : Personality). m.footprint ≤ 512) demo_sub.personalities.items (lit≤ tt, tt) };
    language = lit< tt;
    test_numbers = All-from_recursion (λ (t : SelfTest). (0 < t.number) × (t.number < 255)) demo_tests ((lit< tt, lit< tt), ((lit< tt, lit< tt), tt));
    tests_differ = two_differ (λ (s t : SelfTest). s.number ≢ t.number) _ _ (λ e. absurd (omega (arith, e)));
    statuses_differ = two_differ (λ (s t : StatusText). s.id ≢ t.id) _ _ (λ e. absurd (omega (arith, e)));
    presets = lit< tt;
    own = none_good;
    without = none_left_out;
    locks = none_locked;
    binding = refl;
    modes = no_modes 2;
  },
)
