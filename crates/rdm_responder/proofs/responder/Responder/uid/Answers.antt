use Rattle.std.proofs.Common.{ap, ◌∙◌}
use Rattle.rdm_responder.specs.StandsFor.{State}
use Rattle.rdm_responder.proofs.Accounts.{uid_of_history}
use Rattle.rdm_responder.proofs.responder.Responder.uid.Goals as goal

pub returns : goal.returns
returns c h stands = ap (λ (s : State). s.uid) c.self.view_is ∙ uid_of_history c.args.self.now h stands
