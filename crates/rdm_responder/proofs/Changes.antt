-- A change at the fixture's own menu, a value that is placed, an entry that is noted, values that are restored and a message
-- that is dropped, and what they make of an account.
use Rattle.std.proofs.Common.{◌≡◌, ℕ, Bool, List, Option, None, Result, Ok, Err, refl, sym, ap, subst, ◌∙◌}
use Rattle.std.specs.Prelude.{IsOk, OnOk, OnErr}
use Rattle.std.specs.Result.{result_err}
use Rattle.rdm_frame.specs.declared.message.Message.{Message}
use Rattle.rdm_frame.specs.declared.status.Entry.{Entry as StatusEntry}
use Rattle.rdm_commands.specs.declared.panel.Change.{Change}
use Rattle.rdm_params.specs.Commands.Panel.{after_change, change_message}
use Rattle.rdm_params.specs.Commands.Placing.{after_place}
use Rattle.rdm_params.specs.Commands.Saving.{powered_on}
use Rattle.rdm_saved.specs.Restoring.{restored}
use Rattle.rdm_params.specs.Device.Parameters.{Parameters}
use Rattle.rdm_outbox.specs.Messages.{after_drop}
use Rattle.rdm_outbox.specs.Shows as outbox_state
use Rattle.rdm_outbox.specs.State as state
use Rattle.rdm_responder.specs.History.{Placed, Noted, Restored, Dropped}
use Rattle.rdm_responder.specs.Rules.{Account, account_after, account_after_change, newest_only, after_entry, after_message}
use Rattle.rdm_responder.specs.StandsFor.{State, Shows}

pub shows_change : (old new : State) (a : Account) (change : Change) (m : Option Message) (newest : Bool) → Shows old a → newest ≡ newest_only old.parameters → m ≡ change_message old.parameters change → new.uid ≡ old.uid → new.parameters ≡ after_change old.parameters change → new.muted ≡ old.muted → outbox_state.Shows new.outbox (after_message newest a.outbox m) → Shows new (account_after_change a change)
shows_change old new a change m newest shows is_newest message uid parameters muted outbox = record {
  uid = uid ∙ shows.uid;
  parameters = parameters ∙ ap (λ (p : Parameters). after_change p change) shows.parameters;
  muted = muted ∙ shows.muted;
  outbox =
      subst (λ (b : Bool). outbox_state.Shows new.outbox (after_message b a.outbox (change_message a.parameters change))) (is_newest ∙ ap newest_only shows.parameters)
      (subst (λ (n : Option Message). outbox_state.Shows new.outbox (after_message newest a.outbox n)) (message ∙ ap (λ (p : Parameters). change_message p change) shows.parameters) outbox);
}

pub shows_place : (old new : State) (a : Account) (sub pid : ℕ) (bytes : List ℕ) → Shows old a → new.uid ≡ old.uid → new.parameters ≡ after_place old.parameters sub pid bytes → new.muted ≡ old.muted → new.outbox ≡ old.outbox → Shows new (account_after a (Placed sub pid bytes))
shows_place old new a sub pid bytes shows uid parameters muted outbox = record {
  uid = uid ∙ shows.uid;
  parameters = parameters ∙ ap (λ (p : Parameters). after_place p sub pid bytes) shows.parameters;
  muted = muted ∙ shows.muted;
  outbox = subst (λ (o : state.State). outbox_state.Shows o a.outbox) (sym outbox) shows.outbox;
}

pub shows_dropping : (old new : State) (a : Account) → Shows old a → new.uid ≡ old.uid → new.parameters ≡ old.parameters → new.muted ≡ old.muted → outbox_state.Shows new.outbox (after_drop a.outbox) → Shows new (account_after a Dropped)
shows_dropping old new a shows uid parameters muted outbox = record {
  uid = uid ∙ shows.uid;
  parameters = parameters ∙ shows.parameters;
  muted = muted ∙ shows.muted;
  outbox = outbox;
}

pub shows_note : (old new : State) (a : Account) (entry : StatusEntry) → Shows old a → new.uid ≡ old.uid → new.parameters ≡ old.parameters → new.muted ≡ old.muted → outbox_state.Shows new.outbox (after_entry old.parameters a.outbox entry) → Shows new (account_after a (Noted entry))
shows_note old new a entry shows uid parameters muted outbox = record {
  uid = uid ∙ shows.uid;
  parameters = parameters ∙ shows.parameters;
  muted = muted ∙ shows.muted;
  outbox = subst (λ (p : Parameters). outbox_state.Shows new.outbox (after_entry p a.outbox entry)) shows.parameters outbox;
}

pub shows_restore : (old new : State) (a : Account) (image : List ℕ) → Shows old a → new.uid ≡ old.uid → new.parameters ≡ powered_on (restored old.parameters image) → new.muted ≡ old.muted → new.outbox ≡ old.outbox → Shows new (account_after a (Restored image))
shows_restore old new a image shows uid parameters muted outbox = record {
  uid = uid ∙ shows.uid;
  parameters = parameters ∙ ap (λ (p : Parameters). powered_on (restored p image)) shows.parameters;
  muted = muted ∙ shows.muted;
  outbox = subst (λ (o : state.State). outbox_state.Shows o a.outbox) (sym outbox) shows.outbox;
}

-- what isn't refused is Ok, and what is Ok isn't refused
pub ok_unless_refused : {E : Type 0} (r : Result (Unit {0}) E) → (IsOk r → result_err r ≡ None) × (result_err r ≡ None → IsOk r)
ok_unless_refused (Ok u) = (λ ok. refl, λ none. refl)
ok_unless_refused (Err e) = (λ ok. absurd cc, λ none. absurd cc)

pub always_ok : {E : Type 0} (r : Result (Unit {0}) E) (P : Type 0) → P → OnOk r P
always_ok (Ok u) P so = so
always_ok (Err e) P so = tt

pub on_err : {E : Type 0} (r : Result (Unit {0}) E) (P Q : Type 0) → (P → Q) → OnErr r P → OnErr r Q
on_err (Ok u) P Q so err = tt
on_err (Err e) P Q so err = so err

pub on_ok : {E : Type 0} (r : Result (Unit {0}) E) (P Q : Type 0) → (P → Q) → OnOk r P → OnOk r Q
on_ok (Ok u) P Q so ok = so ok
on_ok (Err e) P Q so ok = tt
