-- A search through a port that is one end of a line, and a rig at the other. E1.20 sections 7.5 and 7.6.
use Rattle.std.specs.Prelude.{◌≡◌, ℕ, List, [], ◌∷◌, ◌++◌, map, Option}
use Rattle.rdm_frame.specs.declared.uid.Uid.{Uid}
use Rattle.rdm_frame.specs.FrameText.{frame_text}
use Rattle.rdm_search.specs.Line.{IsFound}
use Rattle.rdm_search.specs.Requests.{request_frame}
use Rattle.rdm_line.specs.Line.{State}
use Rattle.rdm_messages.specs.Ends.{End}
use Rattle.rdm_messages.specs.Framing.{bytes_of}
use Rattle.rdm_messages.specs.Serving.{IsServed, after_turns, answers}
use Rattle.rdm_widget.specs.declared.live_fixture.LiveFixture.{LiveFixture}
use Rattle.rdm_widget.specs.Rigs.{Rig, rig_hearing}
use Rattle.rdm_interface.specs.Answers.{request_message}
use Rattle.rdm_interface.specs.Askings.{AreAsked, AreDevices, Asking, FindsAll, HasAsked}
use Rattle.rdm_interface.specs.Exchanges.{CameInTime, IsExchanged}
use Rattle.rdm_interface.specs.Sessions.{read_in}
use Rattle.rdm_line_ends.specs.Ends.{Asked, AreAnswered, read_for, requests_in}
use Rattle.rdm_line_ends.specs.Replies.{AreBytes}
use Rattle.rdm_line_ends.specs.Searches.{AreAskings, HasUids, standing}

-- ---- a port that is an end of a line

-- The states of a port show an end of a line and a limit: what it hears is what an exchange there says, and the limit stays. An
-- `Interface` is such a port, and so is one that passes all on to it.
pub record IsEnd {P C : Type 0} (hears : P → List ℕ → Option (List ℕ) → P → Type 0) (tells : C → ℕ → C → Type 0) (end_of : P → End C) (limit_of : P → ℕ) : Type 0 where
  pub exchanged : (before after : P) (request : List ℕ) (heard : Option (List ℕ)) → hears before request heard after
      → IsExchanged tells (limit_of before) (end_of before) (end_of after) request heard
  pub stays : (before after : P) (request : List ℕ) (heard : Option (List ℕ)) → hears before request heard after → limit_of after ≡ limit_of before

-- ---- what was asked through it

-- the requests of a search that were sent, and what was heard of each
abbrev pub asked_in : {P : Type 0} (hears : P → List ℕ → Option (List ℕ) → P → Type 0) (source : Uid) (before : P) (askings : List Asking) (after : P) → AreAsked hears source before askings after → List Asked
asked_in hears source before [] after sent = []
asked_in hears source before (x ∷ xs) after sent =
    record { request = frame_text (request_frame source x.tn x.request); heard = sent.2.0 } ∷ asked_in hears source sent.0 xs after sent.3

-- The answer to each of them comes before the limit is over, and its end, if it has one.
abbrev pub AllCameInTime : {P C : Type 0} (hears : P → List ℕ → Option (List ℕ) → P → Type 0) (tells : C → ℕ → C → Type 0) (end_of : P → End C) (limit_of : P → ℕ) (line : IsEnd hears tells end_of limit_of) (source : Uid) (before : P) (askings : List Asking) (after : P) → AreAsked hears source before askings after → Type 0
AllCameInTime hears tells end_of limit_of line source before [] after sent = Unit {0}
AllCameInTime hears tells end_of limit_of line source before (x ∷ xs) after sent =
    CameInTime (line.exchanged before sent.0 (frame_text (request_frame source x.tn x.request)) sent.2.0 sent.2.1) × AllCameInTime hears tells end_of limit_of line source sent.0 xs after sent.3

-- the bytes that were read for them
abbrev pub read_by : {P C : Type 0} (hears : P → List ℕ → Option (List ℕ) → P → Type 0) (tells : C → ℕ → C → Type 0) (end_of : P → End C) (limit_of : P → ℕ) (line : IsEnd hears tells end_of limit_of) (source : Uid) (before : P) (askings : List Asking) (after : P) → AreAsked hears source before askings after → List ℕ
read_by hears tells end_of limit_of line source before [] after sent = []
read_by hears tells end_of limit_of line source before (x ∷ xs) after sent =
    read_in (line.exchanged before sent.0 (frame_text (request_frame source x.tn x.request)) sent.2.0 sent.2.1) ++ read_by hears tells end_of limit_of line source sent.0 xs after sent.3

-- They were asked by the port's end of the line, one after another and each answered in time.
pub record IsRunOf {P C : Type 0} (hears : P → List ℕ → Option (List ℕ) → P → Type 0) (tells : C → ℕ → C → Type 0) (end_of : P → End C) (limit_of : P → ℕ) (line : IsEnd hears tells end_of limit_of) (source : Uid) (before : P) (askings : List Asking) (after : P) (sent : AreAsked hears source before askings after) : Type 0 where
  pub asked : AreAnswered tells (limit_of before) (end_of before) (asked_in hears source before askings after sent) (end_of after)
  pub read : read_for tells (limit_of before) (end_of before) (asked_in hears source before askings after sent) (end_of after) asked ≡ read_by hears tells end_of limit_of line source before askings after sent
  pub askings_are : AreAskings source askings (asked_in hears source before askings after sent)

-- ---- laws

-- What a search asks through such a port, if each answer comes in time, its end of the line asks so.
abbrev pub RunsAreAsked : {P C : Type 0} → (P → List ℕ → Option (List ℕ) → P → Type 0) → (C → ℕ → C → Type 0) → Type 0
RunsAreAsked {P} {C} hears tells =
    (end_of : P → End C) (limit_of : P → ℕ) (line : IsEnd hears tells end_of limit_of) (source : Uid) (before after : P) (askings : List Asking) (sent : AreAsked hears source before askings after)
    → AllCameInTime hears tells end_of limit_of line source before askings after sent → IsRunOf hears tells end_of limit_of line source before askings after sent

-- A search through such a port, of which the clause `found` of `discover_through` is so, and whose answers come in time. At the other
-- end `serve` serves a rig: it reads the messages of the requests alone, and what was read for them, and the rest that isn't read yet, are
-- the bytes that `serve` writes for them, and then later ones. Then what is found is the fixtures of the rig, each once.
abbrev pub RigIsFoundThrough : {P C E : Type 0} → (P → List ℕ → Option (List ℕ) → P → Type 0) → (C → ℕ → C → Type 0) → (E → ℕ → E → Type 0) → Type 0
RigIsFoundThrough {P} {C} {E} hears tells times =
    (end_of : P → End C) (limit_of : P → ℕ) (line : IsEnd hears tells end_of limit_of) (before after : P) (source : Uid) (retries most : ℕ) (found : List Uid)
    → (run : HasAsked hears source most before after (FindsAll retries AreDevices found))
    → (end_of before).held ≡ [] → AllCameInTime hears tells end_of limit_of line source before run.askings after run.sent
    → (start end : End E) (rig : Rig) (d : State LiveFixture) (served : IsServed times rig_hearing start end rig d) → HasUids rig
    → served.input ≡ bytes_of (map request_message (requests_in (asked_in hears source before run.askings after run.sent)))
    → (rest later : List ℕ) → AreBytes (answers rig_hearing rig served.turns)
    → read_by hears tells end_of limit_of line source before run.askings after run.sent ++ rest ≡ answers rig_hearing rig served.turns ++ later
    → IsFound found (standing (after_turns rig_hearing rig served.turns)).fixtures
