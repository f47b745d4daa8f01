-- What a search asks next, and what it notes.
use Rattle.std.specs.Prelude.{ℕ, Bool, false, not, nat_lt, ◌==◌, ◌&&◌, List, [], ◌∷◌, ◌++◌, length, Option, Some, None, is_some, Result, Ok, Err, if◌then◌else◌}
use Rattle.std.specs.List.{list_any}
use Rattle.std.specs.Option.{option_to_list}
use Rattle.rdm_frame.specs.declared.uid.Uid.{Uid}
use Rattle.rdm_frame.specs.declared.frame.Frame.{Frame}
use Rattle.rdm_search.specs.declared.found.Found.{Found}
use Rattle.rdm_search.specs.declared.error.SearchError.{SearchError}
use Rattle.rdm_search.specs.declared.error.SearchError.TheVariants.{Limit}
use Rattle.rdm_search.specs.declared.request.Request.{Request}
use Rattle.rdm_search.specs.declared.stage.Stage.{Stage}
use Rattle.rdm_search.specs.declared.stage.Stage.TheVariants.{Start, Asking, Muting, Ended}
use Rattle.rdm_search.specs.Requests.{request_frame}
use Rattle.rdm_frame.specs.Addressing.{same_uid}
use Rattle.rdm_search.specs.Answers.{knows, mute_answer, newcomer}

-- the frame of a request if a transaction is left for it
abbrev pub next_of : Uid → ℕ → Option Request → ℕ → Result (Option Frame) SearchError
next_of source tn None left = Ok None
next_of source tn (Some request) left = if left == 0 then Err Limit else Ok (Some (request_frame source tn request))

-- The answer of a device to its mute is noted, if it is the first of that device.
abbrev pub found_after : Stage → List Found → List ℕ → List Found
found_after Start found heard = found
found_after (Asking r) found heard = found
found_after (Muting r uid) found heard = found ++ option_to_list (newcomer found uid heard)
found_after Ended found heard = found

-- ---- a mute whose answer isn't valid

-- Bytes came after the mute of a device that wasn't found before, and they aren't its answer.
abbrev pub is_doubtful : List Found → Uid → List ℕ → Bool
is_doubtful found uid heard = not (length heard == 0) && (not (knows found uid) && not (is_some (mute_answer uid heard)))

abbrev pub is_in_doubt : Stage → List Found → List ℕ → Bool
is_in_doubt Start found heard = false
is_in_doubt (Asking r) found heard = false
is_in_doubt (Muting r uid) found heard = is_doubtful found uid heard
is_in_doubt Ended found heard = false

-- It is sent again, where it was sent again so many times: 8 times at most.
abbrev pub is_repeated : Stage → List Found → ℕ → List ℕ → Bool
is_repeated stage found again heard = is_in_doubt stage found heard && nat_lt again 8

-- with this UID, once
abbrev pub named : List Uid → Uid → List Uid
named unsure uid = if list_any (λ u. same_uid u uid) unsure then unsure else unsure ++ uid ∷ []

-- the UIDs that sounded after each mute, though no answer was valid
abbrev pub unsure_after : Stage → List Found → List Uid → List ℕ → List Uid
unsure_after Start found unsure heard = unsure
unsure_after (Asking r) found unsure heard = unsure
unsure_after (Muting r uid) found unsure heard = if is_doubtful found uid heard then named unsure uid else unsure
unsure_after Ended found unsure heard = unsure
