-- The requests of a search. E1.20 sections 7.5 and 7.6.
use Rattle.std.specs.Prelude.{ℕ, List, [], ◌++◌}
use Rattle.rdm_frame.specs.declared.uid.Uid.{Uid}
use Rattle.rdm_frame.specs.declared.frame.Frame.{Frame}
use Rattle.rdm_frame.specs.FrameText.{uid_slots, IsUid}
use Rattle.rdm_frame.specs.Addressing.{all_devices}
use Rattle.rdm_search.specs.declared.request.Request.{Request}
use Rattle.rdm_search.specs.declared.request.Request.TheVariants.{UnMute, UniqueBranch, Mute}

-- a DISCOVERY_COMMAND from this controller to the root of a device, or of all, in the transaction with this number
abbrev pub discovery : Uid → ℕ → Uid → ℕ → List ℕ → Frame
discovery source tn destination pid body =
    record { dst = destination; src = source; tn = tn; port = 1; count = 0; sub = 0; class = 0x10; pid = pid; body = body }

-- The bounds of a branch fit their slots: of others the frame doesn't say which they are.
abbrev pub IsRequest : Request → Type 0
IsRequest UnMute = Unit {0}
IsRequest (UniqueBranch low high) = IsUid low × IsUid high
IsRequest (Mute uid) = Unit {0}

-- The frame of each request: DISC_UN_MUTE and DISC_UNIQUE_BRANCH go to all, DISC_MUTE to one device.
abbrev pub request_frame : Uid → ℕ → Request → Frame
request_frame source tn UnMute = discovery source tn all_devices 0x0003 []
request_frame source tn (UniqueBranch low high) = discovery source tn all_devices 0x0001 (uid_slots low ++ uid_slots high)
request_frame source tn (Mute uid) = discovery source tn uid 0x0002 []
