-- What C is told of a search.
use Rattle.std.specs.Prelude.{◌≡◌, ℕ, List, length, take, Option, Some, None, Result, Ok, Err}
use Rattle.rdm_frame.specs.declared.uid.Uid.{Uid}
use Rattle.rdm_frame.specs.declared.frame.Frame.{Frame}
use Rattle.rdm_frame.specs.FrameText.{frame_text}
use Rattle.rdm_search.specs.declared.error.SearchError.{SearchError}
use Rattle.rdm_search.specs.declared.error.SearchError.TheVariants as error
use Rattle.rdm_search.specs.declared.found.Found.{Found}
use Rattle.rdm_c.specs.declared.found.FoundNumbers.{FoundNumbers}
use Rattle.rdm_c.specs.declared.status.Status.{Status}
use Rattle.rdm_c.specs.declared.status.Status.TheVariants as status
use Rattle.rdm_c.specs.Statuses.{code_of}

-- A fixture that was found, as the numbers that C has of it. If it told no binding UID, that one is 0000:00000000.
abbrev pub found_with : Found → ℕ → Uid → FoundNumbers
found_with f there binding = record {
  device = f.uid.device;
  binding_device = binding.device;
  maker = f.uid.maker;
  binding_maker = binding.maker;
  control = f.control;
  has_binding = there;
}

abbrev pub bound_with : Found → Option Uid → FoundNumbers
bound_with f None = found_with f 0 (record { maker = 0; device = 0 })
bound_with f (Some uid) = found_with f 1 uid

abbrev pub found_numbers : Found → FoundNumbers
found_numbers f = bound_with f f.binding

-- A device of which the UID alone is known: no answer of it was valid.
abbrev pub heard_of : Uid → Found
heard_of uid = record { uid = uid; control = 0; binding = None }

-- what it is called that a search has no request
abbrev pub of_error : SearchError → Status
of_error error.Limit = status.Limit
of_error error.OutOfMemory = status.OutOfMemory

-- What the call for the next request answers, as C is told it: the text of the frame at the front; or that the search has ended;
-- or that no transaction is left for it.
abbrev pub NextTold : ℕ → ℕ → List ℕ → Result (Option Frame) SearchError → Type 0
NextTold code count request (Ok (Some frame)) =
    (code ≡ code_of status.Done) × (count ≡ length (frame_text frame)) × (take count request ≡ frame_text frame)
NextTold code count request (Ok None) = code ≡ code_of status.NoMore
NextTold code count request (Err e) = code ≡ code_of (of_error e)

-- What C is told of a fixture among those that were found, or of a device among those that are unsure: its numbers, or that there
-- is none with this index.
abbrev pub FoundTold : ℕ → FoundNumbers → Option Found → Type 0
FoundTold code n None = code ≡ code_of status.NoMore
FoundTold code n (Some f) = (code ≡ code_of status.Done) × (n ≡ found_numbers f)
