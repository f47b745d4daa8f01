use Rattle.std.proofs.Common.{◌∙◌}
use Rattle.rdm_responder.proofs.Choices.{chosen_after_set}
use Rattle.rdm_responder.proofs.responder.Responder.answer_set.Goals as goal

pub invariant_of-self : goal.invariant_of-self
invariant_of-self c =
    c.carry_out-stepped.ensures.workers
    ∙ chosen_after_set _ c.self.inside.devices _ c.request.inside.sub c.request.inside.pid c.request.inside.body.now c.self.invariant c.set_into-answer.ensures.after
