use Rattle.std.proofs.Common.{sym, ◌∙◌}
use Rattle.rdm_script.proofs.ScriptSpellings.{script_read}
use Rattle.rdm_script.proofs.laws.text_is_one_script.Goals as goal

pub returns : goal.returns
returns c = λ dev text s t a b one other. ((script_read dev text s a one).says.setup_is ∙ sym (script_read dev text t b other).says.setup_is, (script_read dev text s a one).says.in_order ∙ sym (script_read dev text t b other).says.in_order)
