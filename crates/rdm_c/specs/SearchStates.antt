-- What a contract sees of a search, and what the calls make of one.
use Rattle.std.specs.Prelude.{◌≡◌, ℕ, ◌+◌, ◌-◌, ◌%◌, true, false, List, [], Option, Result}
use Rattle.rdm_frame.specs.declared.frame.Frame.{Frame}
use Rattle.rdm_frame.specs.declared.uid.Uid.{Uid}
use Rattle.rdm_search.specs.declared.error.SearchError.{SearchError}
use Rattle.rdm_search.specs.declared.found.Found.{Found}
use Rattle.rdm_search.specs.declared.stage.Stage.{Stage}
use Rattle.rdm_search.specs.declared.stage.Stage.TheVariants.{Start, Asking}
use Rattle.rdm_search.specs.Answers.{found_uids}
use Rattle.rdm_search.specs.Searches.{found_after, is_repeated, next_of, unsure_after}
use Rattle.rdm_search.specs.Stages.{Hears, request_of, whole}

-- the controller's UID, the number of the next transaction, how many are left, where the search stands, what it found, how many
-- times the mute at hand was sent again, and whose answers to mutes weren't valid
pub record SearchState : Type 0 where
  pub source : Uid
  pub tn : ℕ
  pub left : ℕ
  pub stage : Stage
  pub found : List Found
  pub again : ℕ
  pub unsure : List Uid

-- a search for all fixtures by this controller, in N transactions
abbrev pub IsNewSearch : Uid → ℕ → SearchState → Type 0
IsNewSearch source limit s = (s.source ≡ source) × (s.left ≡ limit) × (s.stage ≡ Start) × (s.found ≡ []) × (s.again ≡ 0)
    × (s.unsure ≡ [])

-- what it sends next, if it hasn't ended
abbrev pub next_in : SearchState → Result (Option Frame) SearchError
next_in s = next_of s.source s.tn (request_of s.stage) s.left

-- What hearing these bytes makes of a search: it comes nearer to its end, on every line; it notes the answer of a device to its
-- mute; it has one transaction fewer, and the next one's number. A mute whose answer isn't valid is sent again, and is unsure at last.
abbrev pub HasHeard : SearchState → List ℕ → SearchState → Type 0
HasHeard s heard after =
    Hears s.stage (found_uids s.found) heard after.stage (found_uids after.found)
    × (after.found ≡ found_after s.stage s.found heard)
    × (after.left ≡ s.left - 1) × (after.tn ≡ (s.tn + 1) % 256) × (after.source ≡ s.source)
    × (is_repeated s.stage s.found s.again heard ≡ true
    → (after.stage ≡ s.stage) × (after.again ≡ s.again + 1) × (after.unsure ≡ s.unsure))
    × (is_repeated s.stage s.found s.again heard ≡ false
    → (after.again ≡ 0) × (after.unsure ≡ unsure_after s.stage s.found s.unsure heard))

-- It asks everywhere again, in N transactions, and knows what it found.
abbrev pub resumed : SearchState → ℕ → SearchState
resumed s limit = record s { stage = Asking whole; left = limit; again = 0 }
