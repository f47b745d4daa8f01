-- A search at one end of a line, and a rig at the other: what is found is the rig. E1.20 sections 7.5 and 7.6.
use Rattle.std.specs.Prelude.{◌≡◌, ◌≢◌, ℕ, List, [], ◌++◌, map, All, AllPairs, unwrap_or}
use Rattle.rdm_frame.specs.declared.uid.Uid.{Uid}
use Rattle.rdm_frame.specs.FrameText.{frame_text}
use Rattle.rdm_search.specs.Line.{IsDevice, IsFound}
use Rattle.rdm_search.specs.Requests.{request_frame}
use Rattle.rdm_line.specs.Line.{State, uids_of}
use Rattle.rdm_line.specs.Searching.{fixture_of}
use Rattle.rdm_messages.specs.Ends.{End}
use Rattle.rdm_messages.specs.Framing.{bytes_of}
use Rattle.rdm_messages.specs.Serving.{IsServed, after_turns, answers}
use Rattle.rdm_widget.specs.declared.live_fixture.LiveFixture.{LiveFixture}
use Rattle.rdm_widget.specs.Rigs.{Rig, histories, rig_hearing}
use Rattle.rdm_interface.specs.Answers.{request_message}
use Rattle.rdm_interface.specs.Askings.{AreDevices, AreHeardOf, Asking, FindsAll, IsAsking, Situation}
use Rattle.rdm_line_ends.specs.Ends.{Asked, AreAnswered, heard_in, read_for, requests_in}
use Rattle.rdm_line_ends.specs.Replies.{AreBytes}

-- The askings of a search are these requests, and what was heard of them.
pub record AreAskings (source : Uid) (askings : List Asking) (xs : List Asked) : Type 0 where
  pub each : All (IsAsking source) askings
  pub requests : requests_in xs ≡ map (λ x. frame_text (request_frame source x.tn x.request)) askings
  pub heard : map (λ came. unwrap_or came []) (heard_in xs) ≡ map (λ x. x.heard) askings

-- a rig as a search sees it, of whose askings and answers none is lost or altered
abbrev pub standing : Rig → Situation
standing rig = record { fixtures = map fixture_of (histories rig.fixtures); lost = 0; altered = 0 }

-- the UIDs of a rig are those of devices, and no two have one
pub record HasUids (rig : Rig) : Type 0 where
  pub devices : All (λ u. IsDevice u) (uids_of (histories rig.fixtures))
  pub differ : AllPairs (λ u v. u ≢ v) (uids_of (histories rig.fixtures))

-- A search is made so from one end, and `serve` serves a rig at the other, as in `IsHeard`. What is heard of it may be heard of the
-- fixtures of the rig, with nothing lost or altered. So if the search finds all on every line where this may be heard, as
-- `discover_through` does, it finds the fixtures of the rig, each once.
abbrev pub RigIsFound : {C E : Type 0} → (C → ℕ → C → Type 0) → (E → ℕ → E → Type 0) → Type 0
RigIsFound {C} {E} tells times =
    (limit : ℕ) (before after : End C) (xs : List Asked) (asked : AreAnswered tells limit before xs after) → before.held ≡ []
    → (start end : End E) (rig : Rig) (d : State LiveFixture) (served : IsServed times rig_hearing start end rig d)
    → HasUids rig → served.input ≡ bytes_of (map request_message (requests_in xs))
    → (rest later : List ℕ) → AreBytes (answers rig_hearing rig served.turns)
    → read_for tells limit before xs after asked ++ rest ≡ answers rig_hearing rig served.turns ++ later
    → (source : Uid) (askings : List Asking) → AreAskings source askings xs
    → AreHeardOf 0 (standing rig) askings (standing (after_turns rig_hearing rig served.turns))
    × ((retries : ℕ) (found : List Uid) → FindsAll retries AreDevices found askings
    → IsFound found (standing (after_turns rig_hearing rig served.turns)).fixtures)
