-- What a history comes to, one event after another.
use Rattle.std.proofs.Common.{◌≡◌, ◌↔◌, ℕ, List, [], ◌∷◌, Option, refl, sym, ap, subst, ◌∙◌}
use Rattle.std.specs.Prelude.{fold}
use Rattle.std.proofs.lemmas.List.Sums.{fold_push}
use Rattle.rdm_frame.specs.declared.frame.Frame.{Frame}
use Rattle.rdm_frame.specs.Reading.{frame_in}
use Rattle.rdm_responder.specs.History.{Setup, Event, Heard, Arrived, Changed, Placed, Noted, Restored, Dropped, History, empty_history, then_event}
use Rattle.rdm_responder.specs.Requests.{Request, Ignored, Branch, Muting, Get, Set, request_in}
use Rattle.rdm_responder.specs.Rules.{Account, account_of, account_before, account_after, account_with}
use Rattle.rdm_responder.specs.StandsFor.{State, Shows, StandsFor}

account_of-empty : (setup : Setup) → account_of (empty_history setup) ≡ account_before setup
unfolding account_of
account_of-empty setup = refl

pub account_of-then : (h : History) (event : Event) → account_of (then_event h event) ≡ account_after (account_of h) event
unfolding account_of
account_of-then h event = fold_push account_after (account_before h.setup) h.events event

pub stands_for_empty : (state : State) (setup : Setup) → Shows state (account_before setup) → StandsFor state (empty_history setup)
stands_for_empty state setup shows = rw account_of-empty shows

-- the state after an event is that of the history with it
pub stands_for_event : (new : State) (h : History) (event : Event) → Shows new (account_after (account_of h) event) → StandsFor new (then_event h event)
stands_for_event new h event shows = rw account_of-then shows

-- the state after a frame, or after bytes that are none, is that of the history with those bytes
pub stands_for_then : (new : State) (h : History) (bytes : List ℕ) (found : Option Frame) → found ≡ frame_in bytes → Shows new (account_with (account_of h) (request_in (account_of h).setup.uid found)) → StandsFor new (then_event h (Heard bytes))
stands_for_then new h bytes found read shows =
    stands_for_event new h (Heard bytes) (subst (λ (f : Option Frame). Shows new (account_with (account_of h) (request_in (account_of h).setup.uid f))) read shows)

-- the values of the state are the same exactly if those of the history are
pub same_values : {Told : Type 0} (before after : State) (h later : History) → StandsFor before h → StandsFor after later → (Told ↔ (after.parameters ≡ before.parameters)) → (Told ↔ ((account_of later).parameters ≡ (account_of h).parameters))
same_values before after h later stands_before stands_after same = (
  λ told. sym stands_after.parameters ∙ same.0 told ∙ stands_before.parameters,
  λ e. same.1 (stands_after.parameters ∙ e ∙ sym stands_before.parameters),
)

setup_with : (a : Account) (r : Request) → (account_with a r).setup ≡ a.setup
setup_with a Ignored = refl
setup_with a (Branch lower upper) = refl
setup_with a (Muting muted f) = refl
setup_with a (Get f) = refl
setup_with a (Set f) = refl

setup_after : (a : Account) (event : Event) → (account_after a event).setup ≡ a.setup
setup_after a (Heard bytes) = setup_with a (request_in a.setup.uid (frame_in bytes))
setup_after a (Arrived report) = refl
setup_after a (Changed change) = refl
setup_after a (Placed sub pid bytes) = refl
setup_after a (Noted entry) = refl
setup_after a (Restored image) = refl
setup_after a Dropped = refl

setup_after_all : (a : Account) (events : List Event) → (fold account_after a events).setup ≡ a.setup
setup_after_all a [] = refl
setup_after_all a (event ∷ events) = setup_after_all (account_after a event) events ∙ setup_after a event

-- whatever happens, the setup stays
setup_stays : (h : History) → (account_of h).setup ≡ h.setup
unfolding account_of
setup_stays h = setup_after_all (account_before h.setup) h.events

-- the UID of the state is that of the history
pub uid_of_history : (state : State) (h : History) → StandsFor state h → state.uid ≡ h.setup.uid
uid_of_history state h shows = shows.uid ∙ ap (λ (s : Setup). s.uid) (setup_stays h)
