-- Two histories of one fixture leave devices of one make: its profile, and as many sub-devices.
use Rattle.std.proofs.Common.{◌≡◌, ℕ, suc, List, [], ◌∷◌, length, refl, sym, ap, ◌∙◌}
use Rattle.std.specs.Prelude.{fold, drop}
use Rattle.rdm_frame.specs.Reading.{frame_in}
use Rattle.rdm_added.specs.Map.{Entry}
use Rattle.rdm_params.specs.Device.Parameters.{Parameters, parameters_of}
use Rattle.rdm_params.specs.Commands.Saving.{powered_on}
use Rattle.rdm_params.specs.Jobs.Laws.{SameDevices}
use Rattle.rdm_params.proofs.StaysAccepted.{set_keeps_devices, commit_keeps_devices, panel_keeps_devices, place_keeps_devices}
use Rattle.rdm_profile.specs.declared.profile.Profile.{Profile}
use Rattle.rdm_saved.specs.Restoring.{restored}
use Rattle.rdm_saved.proofs.Stays.{restored_profile, restored_subs}
use Rattle.rdm_responder.specs.History.{Event, Heard, Arrived, Changed, Placed, Noted, Restored, Dropped, History}
use Rattle.rdm_responder.specs.Requests.{Request, Ignored, Branch, Muting, Get, Set, request_in}
use Rattle.rdm_responder.specs.Rules.{Account, account_after, account_before, account_of, account_with}
use Rattle.rdm_judge.specs.Judging.{OfOneFixture}

same_as_itself : (p : Parameters) → SameDevices p p
same_as_itself p = record { profile = refl; subs = refl }

then_same : (p q r : Parameters) → SameDevices p q → SameDevices q r → SameDevices p r
then_same p q r first second = record { profile = second.profile ∙ first.profile; subs = second.subs ∙ first.subs }

restore_keeps : (p : Parameters) (image : List ℕ) → SameDevices p (powered_on (restored p image))
unfolding powered_on
restore_keeps p image = record { profile = restored_profile p image; subs = restored_subs p image }

-- An account stays that of its setup, with devices of the same make.
record Stays (a b : Account) : Type 0 where
  setup : b.setup ≡ a.setup
  devices : SameDevices a.parameters b.parameters

request_keeps : (a : Account) (r : Request) → Stays a (account_with a r)
request_keeps a Ignored = record { setup = refl; devices = same_as_itself a.parameters }
request_keeps a (Branch lower upper) = record { setup = refl; devices = same_as_itself a.parameters }
request_keeps a (Muting muted f) = record { setup = refl; devices = same_as_itself a.parameters }
request_keeps a (Get f) = record { setup = refl; devices = same_as_itself a.parameters }
request_keeps a (Set f) = record { setup = refl; devices = set_keeps_devices a.parameters f.sub f.pid f.body }

event_keeps : (a : Account) (e : Event) → Stays a (account_after a e)
event_keeps a (Heard bytes) = request_keeps a (request_in a.setup.uid (frame_in bytes))
event_keeps a (Arrived report) = record { setup = refl; devices = commit_keeps_devices a.parameters report.job.work report.outcome }
event_keeps a (Changed change) = record { setup = refl; devices = panel_keeps_devices a.parameters change }
event_keeps a (Placed sub pid bytes) = record { setup = refl; devices = place_keeps_devices a.parameters sub pid bytes }
event_keeps a (Noted entry) = record { setup = refl; devices = same_as_itself a.parameters }
event_keeps a (Restored image) = record { setup = refl; devices = restore_keeps a.parameters image }
event_keeps a Dropped = record { setup = refl; devices = same_as_itself a.parameters }

events_keep : (es : List Event) (a : Account) → Stays a (fold account_after a es)
events_keep [] a = record { setup = refl; devices = same_as_itself a.parameters }
events_keep (e ∷ es) a =
    let first = event_keeps a e in
    let later = events_keep es (account_after a e) in
    record { setup = later.setup ∙ first.setup; devices = then_same a.parameters (account_after a e).parameters (fold account_after (account_after a e) es).parameters first.devices later.devices }

pub setup_stays : (h : History) → (account_of h).setup ≡ h.setup
unfolding account_of
setup_stays h = (events_keep h.events (account_before h.setup)).setup

devices_stay : (h : History) → SameDevices (parameters_of h.setup.profile) (account_of h).parameters
unfolding account_of
devices_stay h = (events_keep h.events (account_before h.setup)).devices

made_alike : (p q : Profile) → q ≡ p → SameDevices (parameters_of p) (parameters_of q)
made_alike p q e = record { profile = ap (λ (x : Profile). (parameters_of x).profile) e; subs = ap (λ (x : Profile). length (parameters_of x).subs) e }

turned : (p q : Parameters) → SameDevices p q → SameDevices q p
turned p q same = record { profile = sym same.profile; subs = sym same.subs }

pub same_devices : (h k : History) → OfOneFixture h k → SameDevices (account_of h).parameters (account_of k).parameters
same_devices h k one =
    then_same (account_of h).parameters (parameters_of h.setup.profile) (account_of k).parameters (turned (parameters_of h.setup.profile) (account_of h).parameters (devices_stay h))
    (then_same (parameters_of h.setup.profile) (parameters_of k.setup.profile) (account_of k).parameters (made_alike h.setup.profile k.setup.profile one.profile) (devices_stay k))
