-- When a responder's state is what a history comes to.
use Rattle.std.specs.Prelude.{◌≡◌, Bool}
use Rattle.rdm_frame.specs.declared.uid.Uid.{Uid}
use Rattle.rdm_params.specs.Device.Parameters.{Parameters}
use Rattle.rdm_outbox.specs.Shows as outbox
use Rattle.rdm_outbox.specs.State as outbox_state
use Rattle.rdm_responder.specs.History.{History}
use Rattle.rdm_responder.specs.Rules.{Account, account_of, is_muted}

-- What a contract sees of a responder.
pub record State : Type 0 where
  pub uid : Uid
  pub parameters : Parameters
  pub muted : Bool
  pub outbox : outbox_state.State

-- The state has the UID, the values and the jobs and messages of the account, and is muted if its last muting is a
-- mute.
pub record Shows (state : State) (account : Account) : Type 0 where
  pub uid : state.uid ≡ account.setup.uid
  pub parameters : state.parameters ≡ account.parameters
  pub muted : state.muted ≡ is_muted account.mutings
  pub outbox : outbox.Shows state.outbox account.outbox

-- The responder is in the state that this history leads to.
abbrev pub StandsFor : State → History → Type 0
StandsFor state h = Shows state (account_of h)
