use Rattle.std.proofs.Common.{◌==◌, rules, tests}
use Rattle.std.proofs.lemmas.Iterator.{YieldsList-from_slice}
use Rattle.std.proofs.lemmas.Iterator.Search.{any_from_yields_List}
use Rattle.rdm_profile.specs.declared.profile.SelfTest.{SelfTest}
use Rattle.rdm_device.proofs.columns.ranges.has_test.Goals as goal

pub returns : goal.returns
returns c = any_from_yields_List (λ (t : SelfTest). t.number == c.args.number) _ _ _ c.any.ensures.ran (YieldsList-from_slice c.args.tests.now cc) (λ x b q k. search (rules, tests))
