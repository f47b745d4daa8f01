use Rattle.std.proofs.Common.{◌==◌, rules, tests}
use Rattle.std.proofs.lemmas.Iterator.{YieldsList-from_slice}
use Rattle.std.proofs.lemmas.Iterator.Search.{find_from_yields_List}
use Rattle.rdm_profile.specs.declared.profile.StatusText.{StatusText}
use Rattle.rdm_device.proofs.columns.replies.status_of.Goals as goal

pub returns : goal.returns
returns c = find_from_yields_List (λ (t : StatusText). t.id == c.args.id) _ _ c.find.result c.find.ensures.ran (YieldsList-from_slice c.args.texts.now cc) (λ x b q k. search (rules, tests))
