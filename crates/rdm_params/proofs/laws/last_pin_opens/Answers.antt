use Rattle.rdm_params.proofs.PinSteps.{kept_pin_opens, new_pin_is_kept}
use Rattle.rdm_params.proofs.laws.last_pin_opens.Goals as goal

pub returns-clause-opens : goal.returns-clause-opens
returns-clause-opens c = kept_pin_opens

pub returns-clause-kept : goal.returns-clause-kept
returns-clause-kept c = new_pin_is_kept
