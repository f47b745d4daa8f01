use Rattle.std.proofs.Common.{◌==◌, rules, tests}
use Rattle.std.proofs.lemmas.Iterator.{YieldsList-from_slice}
use Rattle.std.proofs.lemmas.Iterator.Search.{find_from_yields_List}
use Rattle.rdm_profile.specs.declared.profile.SelfTest.{SelfTest}
use Rattle.rdm_device.proofs.columns.replies.test_of.Goals as goal

pub returns : goal.returns
returns c = find_from_yields_List (λ (t : SelfTest). t.number == c.args.number) _ _ c.find.result c.find.ensures.ran (YieldsList-from_slice c.args.tests.now cc) (λ x b q k. search (rules, tests))
