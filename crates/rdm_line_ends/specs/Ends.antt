-- A host at one end of a line, and fixtures at the other: what the contracts of both ends come to together.
use Rattle.std.specs.Prelude.{◌≡◌, ◌≢◌, ℕ, ◌≤◌, List, [], ◌∷◌, ◌++◌, length, map, Option, AllPairs}
use Rattle.std.specs.Io.KnownBytes.{Appends, Consumes}
use Rattle.rdm_line.specs.Line.{uids_of}
use Rattle.rdm_responder.specs.Rules.{reply_of}
use Rattle.rdm_messages.specs.Ends.{End}
use Rattle.rdm_messages.specs.Framing.{bytes_of, message_bytes}
use Rattle.rdm_messages.specs.Hearing.{Hearing}
use Rattle.rdm_messages.specs.Serving.{Turn, IsServed, answers, replies_in}
use Rattle.rdm_widget.specs.declared.live_fixture.LiveFixture.{LiveFixture}
use Rattle.rdm_widget.specs.LiveFixtures.{Situation, fixture_hearing, ready}
use Rattle.rdm_widget.specs.Rigs.{histories, rig_hearing}
use Rattle.rdm_interface.specs.Answers.{request_message}
use Rattle.rdm_interface.specs.Exchanges.{CameInTime, IsExchanged}
use Rattle.rdm_interface.specs.Sessions.{read_in}
use Rattle.rdm_line_ends.specs.Replies.{AreBytes}

-- ---- the host

-- a request that was sent, and what was heard of it
pub record Asked : Type 0 where
  pub request : List ℕ
  pub heard : Option (List ℕ)

abbrev pub requests_in : List Asked → List (List ℕ)
requests_in xs = map (λ x. x.request) xs

abbrev pub heard_in : List Asked → List (Option (List ℕ))
heard_in xs = map (λ x. x.heard) xs

-- A request, which has as many bytes as a frame at most, is sent as `Interface::send` promises. The answer comes before the limit is
-- over, and its end, if it has one.
pub record IsAnswered {C : Type 0} (tells : C → ℕ → C → Type 0) (limit : ℕ) (before after : End C) (x : Asked) : Type 0 where
  pub bytes : AreBytes x.request
  pub fits : length x.request ≤ 257
  pub exchanged : IsExchanged tells limit before after x.request x.heard
  pub in_time : CameInTime exchanged

-- These requests are sent so, one after another.
abbrev pub AreAnswered : {C : Type 0} → (C → ℕ → C → Type 0) → ℕ → End C → List Asked → End C → Type 0
AreAnswered tells limit before [] after = after ≡ before
AreAnswered {C} tells limit before (x ∷ xs) after = (mid : End C) × IsAnswered tells limit before mid x × AreAnswered tells limit mid xs after

-- the bytes that the host read for them
abbrev pub read_for : {C : Type 0} (tells : C → ℕ → C → Type 0) (limit : ℕ) (before : End C) (xs : List Asked) (after : End C) → AreAnswered tells limit before xs after → List ℕ
read_for tells limit before [] after is = []
read_for tells limit before (x ∷ xs) after is = read_in is.1.exchanged ++ read_for tells limit is.0 xs after is.2

-- They are a front of what there was to read, where that is known.
abbrev pub AnswersAreRead : {C : Type 0} → (C → ℕ → C → Type 0) → Type 0
AnswersAreRead {C} tells =
    (limit : ℕ) (before after : End C) (xs : List Asked) (asked : AreAnswered tells limit before xs after)
    → Consumes before.unread after.unread (read_for tells limit before xs after asked)

-- Just the messages of the requests are written.
abbrev pub RequestsAreWritten : {C : Type 0} → (C → ℕ → C → Type 0) → Type 0
RequestsAreWritten {C} tells =
    (limit : ℕ) (before after : End C) (xs : List Asked) → AreAnswered tells limit before xs after
    → Appends before.written after.written (bytes_of (map request_message (requests_in xs)))

-- ---- both ends

-- What is heard of each request is what came from the line for it, and what comes later is all that is left over: what the host holds,
-- and what it hasn't read.
pub record AreHeard {C D S : Type 0} (line : Hearing D S) (after : End C) (xs : List Asked) (s : S) (turns : List Turn) (rest later : List ℕ) : Type 0 where
  pub heard : heard_in xs ≡ replies_in line s turns
  pub left : after.held ++ rest ≡ later

-- At the other end, on a line in such a situation, `serve` reads the messages of these requests alone. What the host read, and the rest
-- that it hasn't read, are the bytes that `serve` writes for them, and then later ones. Then they are heard so.
abbrev pub IsHeard : {C E D S : Type 0} → (C → ℕ → C → Type 0) → (E → ℕ → E → Type 0) → Hearing D S → (S → Type 0) → Type 0
IsHeard {C} {E} {D} {S} tells times line IsSuch =
    (limit : ℕ) (before after : End C) (xs : List Asked) (asked : AreAnswered tells limit before xs after) → before.held ≡ []
    → (start end : End E) (s : S) (d : D) (served : IsServed times line start end s d)
    → IsSuch s → served.input ≡ bytes_of (map request_message (requests_in xs))
    → (rest later : List ℕ) → AreBytes (answers line s served.turns)
    → read_for tells limit before xs after asked ++ rest ≡ answers line s served.turns ++ later
    → AreHeard line after xs s served.turns rest later

-- of a fixture, in any situation
abbrev pub FixtureIsHeard : {C E : Type 0} → (C → ℕ → C → Type 0) → (E → ℕ → E → Type 0) → Type 0
FixtureIsHeard tells times = IsHeard tells times fixture_hearing (λ s. Unit {0})

-- of a rig, whose fixtures have different UIDs
abbrev pub RigIsHeard : {C E : Type 0} → (C → ℕ → C → Type 0) → (E → ℕ → E → Type 0) → Type 0
RigIsHeard tells times = IsHeard tells times rig_hearing (λ rig. AllPairs (λ u v. u ≢ v) (uids_of (histories rig.fixtures)))

-- One request to a fixture: what is heard is the reply by the reply rules, after all that happened to the fixture before and the
-- reports of the jobs that have ended by the time that the clock tells for it.
abbrev pub OneIsHeard : {C E : Type 0} → (C → ℕ → C → Type 0) → (E → ℕ → E → Type 0) → Type 0
OneIsHeard {C} {E} tells times =
    (limit : ℕ) (before after : End C) (x : Asked) (asked : IsAnswered tells limit before after x) → before.held ≡ []
    → (start end : End E) (s : Situation) (d : LiveFixture) (served : IsServed times fixture_hearing start end s d)
    → served.input ≡ message_bytes (request_message x.request)
    → (rest later : List ℕ) → AreBytes (answers fixture_hearing s served.turns)
    → read_in asked.exchanged ++ rest ≡ answers fixture_hearing s served.turns ++ later
    → (now : ℕ) × times start.clock now end.clock × (x.heard ≡ reply_of (ready now s).history x.request)
