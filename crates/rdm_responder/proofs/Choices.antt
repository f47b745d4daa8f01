-- The choice of workers stays that of the devices' profile, whatever is set, placed, changed and restored, and whatever jobs end.
use Rattle.std.proofs.Common.{◌≡◌, ℕ, List, Result, Ok, Err, refl, sym, ap, ◌∙◌}
use Rattle.std.specs.Prelude.{OnOk, OnErr}
use Rattle.rdm_frame.specs.Reading.{frame_in}
use Rattle.rdm_profile.specs.declared.profile.Profile.{Profile}
use Rattle.rdm_commands.specs.declared.jobs.outcome.Outcome.{Outcome}
use Rattle.rdm_commands.specs.declared.jobs.work.Work.{Work}
use Rattle.rdm_commands.specs.declared.panel.Change.{Change}
use Rattle.rdm_params.specs.Commands.Commands.{after_set}
use Rattle.rdm_params.specs.Commands.Panel.{after_change}
use Rattle.rdm_params.specs.Commands.Placing.{after_place}
use Rattle.rdm_params.specs.Commands.Saving.{powered_on}
use Rattle.rdm_params.specs.Device.Parameters.{Parameters, parameters_of}
use Rattle.rdm_params.specs.Jobs.Commit.{after_commit}
use Rattle.rdm_params.specs.Jobs.Laws.{SameDevices}
use Rattle.rdm_params.specs.Jobs.Work.{Choice}
use Rattle.rdm_params.proofs.StaysAccepted.{set_keeps_devices, commit_keeps_devices, panel_keeps_devices, place_keeps_devices}
use Rattle.rdm_responder.proofs.Accounts.{account_of-then}
use Rattle.rdm_responder.specs.History.{Event, Heard, Arrived, Changed, Placed, Noted, Restored, Dropped, History, then_event}
use Rattle.rdm_responder.specs.Requests.{Request, Ignored, Branch, Muting, Get, Set, request_in}
use Rattle.rdm_responder.specs.Rules.{Account, account_of, account_after, account_with, newest_only}
use Rattle.rdm_saved.specs.Restoring.{restored}
use Rattle.rdm_saved.proofs.Stays.{restored_profile}

same_choice : (ws : Choice) (p q new : Parameters) → ws ≡ p.profile.workers → SameDevices p q → new ≡ q → ws ≡ new.profile.workers
same_choice ws p q new before same after =
    before ∙ sym (ap (λ (x : Parameters). x.profile.workers) after ∙ ap (λ (x : Profile). x.workers) same.profile)

pub profile_at_first : (p : Profile) → (parameters_of p).profile ≡ p
unfolding parameters_of
profile_at_first p = refl

pub chosen_after_set : (ws : Choice) (p new : Parameters) (sub pid : ℕ) (bytes : List ℕ) → ws ≡ p.profile.workers → new ≡ after_set p sub pid bytes → ws ≡ new.profile.workers
chosen_after_set ws p new sub pid bytes before after = same_choice ws p (after_set p sub pid bytes) new before (set_keeps_devices p sub pid bytes) after

pub chosen_after_commit : (ws : Choice) (p new : Parameters) (work : Work) (outcome : Outcome) → ws ≡ p.profile.workers → new ≡ after_commit p work outcome → ws ≡ new.profile.workers
chosen_after_commit ws p new work outcome before after = same_choice ws p (after_commit p work outcome) new before (commit_keeps_devices p work outcome) after

pub chosen_after_change : (ws : Choice) (p new : Parameters) (change : Change) → ws ≡ p.profile.workers → new ≡ after_change p change → ws ≡ new.profile.workers
chosen_after_change ws p new change before after = same_choice ws p (after_change p change) new before (panel_keeps_devices p change) after

pub chosen_after_place : (ws : Choice) (p new : Parameters) (sub pid : ℕ) (bytes : List ℕ) → ws ≡ p.profile.workers → new ≡ after_place p sub pid bytes → ws ≡ new.profile.workers
chosen_after_place ws p new sub pid bytes before after = same_choice ws p (after_place p sub pid bytes) new before (place_keeps_devices p sub pid bytes) after

pub profile_restored : (p : Parameters) (image : List ℕ) → (powered_on (restored p image)).profile ≡ p.profile
unfolding powered_on
profile_restored p image = restored_profile p image

pub chosen_after_restore : {E : Type 0} (r : Result (Unit {0}) E) (ws : Choice) (p new : Parameters) (image : List ℕ) → ws ≡ p.profile.workers → OnOk r (new ≡ powered_on (restored p image)) → OnErr r (new ≡ p) → ws ≡ new.profile.workers
chosen_after_restore (Ok u) ws p new image before after same =
    before ∙ sym (ap (λ (x : Parameters). x.profile.workers) after ∙ ap (λ (x : Profile). x.workers) (profile_restored p image))
chosen_after_restore (Err e) ws p new image before after same = before ∙ sym (ap (λ (x : Parameters). x.profile.workers) same)

-- ---- the profile itself

profile_with : (a : Account) (r : Request) → (account_with a r).parameters.profile ≡ a.parameters.profile
profile_with a Ignored = refl
profile_with a (Branch lower upper) = refl
profile_with a (Muting muted f) = refl
profile_with a (Get f) = refl
profile_with a (Set f) = (set_keeps_devices a.parameters f.sub f.pid f.body).profile

-- whatever happens, the profile stays
pub profile_after : (a : Account) (event : Event) → (account_after a event).parameters.profile ≡ a.parameters.profile
profile_after a (Heard bytes) = profile_with a (request_in a.setup.uid (frame_in bytes))
profile_after a (Arrived report) = (commit_keeps_devices a.parameters report.job.work report.outcome).profile
profile_after a (Changed change) = (panel_keeps_devices a.parameters change).profile
profile_after a (Placed sub pid bytes) = (place_keeps_devices a.parameters sub pid bytes).profile
profile_after a (Noted entry) = refl
profile_after a (Restored image) = profile_restored a.parameters image
profile_after a Dropped = refl

pub profile_stays : (h : History) (event : Event) → (account_of (then_event h event)).parameters.profile ≡ (account_of h).parameters.profile
profile_stays h event = ap (λ (a : Account). a.parameters.profile) (account_of-then h event) ∙ profile_after (account_of h) event

-- so what it says of the messages of changes does
pub newest_then : (h : History) (event : Event) → newest_only (account_of (then_event h event)).parameters ≡ newest_only (account_of h).parameters
newest_then h event = ap (λ (p : Profile). p.particulars.newest_only) (profile_stays h event)
