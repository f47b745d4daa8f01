-- A device can be made with the profile.
use Rattle.std.proofs.Common.{◌≢◌, ℕ, ◌<◌, ◌≤◌, Bool, true, false, [], refl, IsTrue, arith, lit<, lit≤}
use Rattle.std.proofs.lemmas.List.Elements.{All-from_recursion}
use Rattle.rdm_profile.specs.declared.profile.own.ParameterDef.{ParameterDef}
use Rattle.rdm_profile.specs.Choices.{agrees}
use Rattle.rdm_profile.specs.Demo.{demo}
use Rattle.rdm_profile.specs.declared.profile.locks.Lock.{Lock}
use Rattle.rdm_profile.specs.Locks.{can_hold, can_open, has_state}
use Rattle.rdm_profile.specs.OwnParameters.{is_addable, has_limits, can_start, has_good_fields}
use Rattle.rdm_profile.specs.Standards.{follows}
use Rattle.rdm_profile.specs.Profiles.{AreGoodParameters, CanBeMade}
use Rattle.rdm_profile.proofs.DemoLemmas.{demo_can_be_made, none_good, two_differ}
use Rattle.rdm_bench.specs.Device.{own_numbers, bench_profile}

numbers_good : AreGoodParameters own_numbers []
numbers_good = record {
  count = lit≤ tt;
  pids = (All-from_recursion (λ (d : ParameterDef). IsTrue (is_addable d.pid)) own_numbers (refl, (refl, tt)), two_differ (λ (s t : ParameterDef). s.pid ≢ t.pid) _ _ (λ e. absurd (omega (arith, e))));
  limits = All-from_recursion (λ (d : ParameterDef). IsTrue (has_limits d.shape d.low d.high)) own_numbers (refl, (refl, tt));
  starts = All-from_recursion (λ (d : ParameterDef). IsTrue (can_start d)) own_numbers (refl, (refl, tt));
  ascending = two_differ (λ (s t : ParameterDef). s.pid < t.pid) _ _ (lit< tt);
  fields = All-from_recursion (λ (d : ParameterDef). IsTrue (has_good_fields d)) own_numbers (refl, (refl, tt));
  standards = All-from_recursion (λ (d : ParameterDef). IsTrue (follows d)) own_numbers (refl, (refl, tt));
  agree = record {
    count = lit≤ tt;
    parameters = All-from_recursion (λ (d : ParameterDef). IsTrue (agrees own_numbers [] d)) own_numbers (refl, (refl, tt));
    names = none_good.agree.names;
    ascending = none_good.agree.ascending;
  };
}

pub bench_can_be_made : (own : Bool) (subs : ℕ) → subs ≤ 512 → CanBeMade (bench_profile own subs)
unfolding demo
bench_can_be_made true subs few =
    let (fits, good) = demo_can_be_made subs few in (
      fits,
      record {
        root = good.root;
        sub = good.sub;
        language = good.language;
        test_numbers = good.test_numbers;
        tests_differ = good.tests_differ;
        statuses_differ = good.statuses_differ;
        presets = good.presets;
        own = numbers_good;
        without = good.without;
        locks = record {
          states = All-from_recursion (λ (l : Lock). IsTrue (has_state own_numbers l)) [] tt;
          opened = All-from_recursion (λ (d : ParameterDef). IsTrue (can_open own_numbers d)) own_numbers (refl, (refl, tt));
          held = All-from_recursion (λ (l : Lock). IsTrue (can_hold [] own_numbers l)) [] tt;
        };
        binding = good.binding;
        modes = good.modes;
      },
    )
bench_can_be_made false subs few = demo_can_be_made subs few
