use Rattle.rdm_responder.proofs.Room.{lawful_histories_have_room}
use Rattle.rdm_responder.proofs.Shown.{lawful_histories_can_be_shown, lawful_histories_have_one_state}
use Rattle.rdm_responder.proofs.laws.lawful_histories_have_one_state.Goals as goal

pub returns-clause-shown : goal.returns-clause-shown
returns-clause-shown c = lawful_histories_can_be_shown

pub returns-clause-state : goal.returns-clause-state
returns-clause-state c = lawful_histories_have_one_state

pub returns-clause-room : goal.returns-clause-room
returns-clause-room c = lawful_histories_have_room
