-- No message that left a device's queue is lost but the last. E1.20 section 10.3.1.
use Rattle.std.specs.Prelude.{◌≡◌, Bool, true, false, List, [], ◌∷◌, ◌++◌, map}
use Rattle.rdm_collector.specs.declared.any_device.collected.Collected.{Collected}
use Rattle.rdm_collector.specs.AnyDevice.Collecting.{DeviceState}
use Rattle.rdm_collector.specs.AnyDevice.Devices.{Device, Event, IsRun, after_all, arrived, device_after_all}
use Rattle.rdm_collector.specs.AnyDevice.Items.{Item, item_of, same_item}
use Rattle.rdm_collector.specs.AnyDevice.Joining.{join}

-- Each of the first list is in the second, in its order, or one that says the same.
pub data IsSubsequence : List Item → List Item → Type 0 where
  Nothing : (ys : List Item) → IsSubsequence [] ys
  Skips : (xs : List Item) (y : Item) (ys : List Item) → IsSubsequence xs ys → IsSubsequence xs (y ∷ ys)
  Takes : (x y : Item) (xs ys : List Item) → same_item x y ≡ true → IsSubsequence xs ys → IsSubsequence (x ∷ xs) (y ∷ ys)

-- all but the last element, if there is one
abbrev pub but_last : List Item → List Item
but_last [] = []
but_last (x ∷ []) = []
but_last (x ∷ y ∷ ys) = x ∷ but_last (y ∷ ys)

-- The no-loss law of `Recording`, of any device. Joined, all that was given was recorded, in its order, if the last poll is answered;
-- else all but its last message.
pub record NoLossLaw (unanswered : Bool) (given recorded : List Item) : Type 0 where
  pub all : unanswered ≡ false → IsSubsequence (join same_item given) (join same_item recorded)
  pub but_one : unanswered ≡ true → IsSubsequence (but_last (join same_item given)) (join same_item recorded)

-- ---- what was given

-- What was given is what left the queue: it and what waits now are what waited before and what has arrived since.
abbrev pub AreGiven : DeviceState → Device → List Event → List Item → Type 0
AreGiven s d events given = given ++ (device_after_all s d events).waiting ≡ d.waiting ++ arrived events

-- ---- the law

pub record NoneIsLost (s : DeviceState) (d : Device) (events : List Event) : Type 0 where
  pub given : List Item
  pub are_given : AreGiven s d events given
  pub recorded : List Collected
  pub is_recorded : (after_all s events).recorded ≡ s.recorded ++ recorded
  pub no_loss : NoLossLaw (after_all s events).unanswered given (map item_of recorded)

-- It is so against any device that keeps a queue and a last message, whatever response types its replies have, whichever requests
-- and replies are lost or altered, and however many in a row.
abbrev pub NoneIsLostOfAnyDevice : Type 0
NoneIsLostOfAnyDevice = (s : DeviceState) (d : Device) (events : List Event) → IsRun s d events → NoneIsLost s d events

-- What the law rules out, of any two messages that don't say the same: a collector that goes on after a loss, so that what left the
-- queue before is missing.
abbrev pub LosingIsRefused : Type 0
LosingIsRefused =
    (u : Bool) (lost next : Item) → same_item lost next ≡ false → ¬ NoLossLaw u (lost ∷ next ∷ []) (next ∷ [])
