use Rattle.rdm_saved.proofs.Back.{values_back}
use Rattle.rdm_saved.proofs.Refusing.{saved_accepted}
use Rattle.rdm_saved.proofs.laws.saved_is_restored.Goals as goal

pub returns : goal.returns
returns c = λ maker now saved root added subs make. (saved_accepted maker now saved root added subs make, values_back maker now saved root added subs make)
