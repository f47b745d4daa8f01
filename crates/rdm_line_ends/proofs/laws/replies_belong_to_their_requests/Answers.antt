use Rattle.rdm_line_ends.proofs.Replying.{branches_are_answered, replies_are_responses, replies_belong}
use Rattle.rdm_line_ends.proofs.Wires.{on_the_wire}
use Rattle.rdm_line_ends.proofs.laws.replies_belong_to_their_requests.Goals as goal

pub returns-clause-responses : goal.returns-clause-responses
returns-clause-responses c = replies_are_responses

pub returns-clause-branches : goal.returns-clause-branches
returns-clause-branches c = branches_are_answered

pub returns-clause-belong : goal.returns-clause-belong
returns-clause-belong c = replies_belong

pub returns-clause-wire : goal.returns-clause-wire
returns-clause-wire c = on_the_wire
