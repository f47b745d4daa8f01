-- A line that loses requests and answers, and alters answers.
use Rattle.std.specs.Prelude.{◌≡◌, ◌≢◌, ℕ, Bool, not, ◌==◌, List, [], ◌∷◌, length, ◌⊎◌, Contains, None, is_some, if◌then◌else◌}
use Rattle.rdm_search.specs.declared.request.Request.{Request}
use Rattle.rdm_search.specs.declared.request.Request.TheVariants.{UnMute, UniqueBranch, Mute}
use Rattle.rdm_frame.specs.declared.frame.Frame.{Frame}
use Rattle.rdm_search.specs.Answers.{mute_answer}
use Rattle.rdm_search.specs.Line.{Fixture, IsAnswer, uids, after_mute, after_un_mute, after_request}

-- Valid bytes answer the request in a frame: for a mute the answer of that device, and for the others any that aren't none.
abbrev pub is_answered : Frame → List ℕ → Bool
is_answered f heard = if f.pid == 0x0002 then is_some (mute_answer f.dst heard) else not (length heard == 0)

-- No valid answer was heard: nothing was, or the answer of a device to its mute was altered on its way. Altered answers to a mute
-- are told by their checksum: they are never the answer of that device.
abbrev pub IsVoid : Request → List Fixture → List ℕ → Type 0
IsVoid UnMute line heard = heard ≡ []
IsVoid (UniqueBranch low high) line heard = heard ≡ []
IsVoid (Mute uid) line heard = (mute_answer uid heard ≡ None) × (heard ≢ [] → Contains (uids line) uid)

-- a fixture that carried a request out
abbrev pub carried_out : Request → Fixture → Fixture
carried_out UnMute = after_un_mute
carried_out (UniqueBranch low high) = λ f. f
carried_out (Mute uid) = after_mute uid

-- Each fixture is as it was, or has carried the request out.
abbrev pub IsPartly : Request → List Fixture → List Fixture → Type 0
IsPartly request [] [] = Unit {0}
IsPartly request [] (g ∷ after) = ⊥
IsPartly request (f ∷ line) [] = ⊥
IsPartly request (f ∷ line) (g ∷ after) = ((g ≡ f) ⊎ (g ≡ carried_out request f)) × IsPartly request line after

-- Nothing was lost: all have carried the request out, and what they answered was heard, if it is to a branch also altered, or noise after
-- a mute for nobody. So many answers were altered before and after.
abbrev pub IsKept : Request → List Fixture → List ℕ → List Fixture → ℕ → ℕ → Type 0
IsKept request line heard after altered altered' =
    IsAnswer request line heard altered altered' × (after ≡ after_request request line)

-- The request was lost on its way to some or all, or the answer was, or the answer to a mute was altered.
abbrev pub IsLost : Request → List Fixture → List ℕ → List Fixture → Type 0
IsLost request line heard after = IsVoid request line heard × IsPartly request line after
