-- A rig: fixtures on one line, each with a history of its own.
use Rattle.std.specs.Prelude.{◌≡◌, ℕ, List, [], map, Option, Some, None}
use Rattle.std.specs.List.{AllZip}
use Rattle.rdm_responder.specs.History.{History}
use Rattle.rdm_line.specs.declared.collision.Collision.{Collision}
use Rattle.rdm_line.specs.declared.on_wire.OnWire.{OnWire}
use Rattle.rdm_line.specs.declared.on_wire.OnWire.TheVariants.{Nothing, Reply, Collision as Collided}
use Rattle.rdm_line.specs.Collisions.{on_wire}
use Rattle.rdm_line.specs.Hearing.{answers, heard_by}
use Rattle.rdm_line.specs.Line.{State, uids_of}
use Rattle.rdm_widget.specs.declared.live_fixture.LiveFixture.{LiveFixture}
use Rattle.rdm_messages.specs.Hearing.{Hearing}
use Rattle.rdm_widget.specs.LiveFixtures.{Situation, IsIn, ready}

-- What is on the line if several answer at once, and in which situation each fixture is, in the order of their UIDs.
pub record Rig : Type 0 where
  pub rule : Collision
  pub fixtures : List Situation

-- the histories of fixtures
abbrev pub histories : List Situation → List History
histories fixtures = map (λ s. s.history) fixtures

-- bytes are on the line of a fixture, which hears them if they address it
abbrev pub after_line : List ℕ → Situation → Situation
after_line bytes s = record s { history = heard_by bytes s.history }

-- what comes from the line: nothing, or bytes, be they a reply or a collision
abbrev pub from_wire : OnWire × List ℕ → Option (List ℕ)
from_wire (Nothing, bytes) = None
from_wire (Reply, bytes) = Some bytes
from_wire (Collided, bytes) = Some bytes

-- The line has the fixtures of a rig, each in its situation.
pub record IsRig (line : State LiveFixture) (rig : Rig) : Type 0 where
  pub rule : line.rule ≡ rig.rule
  pub uids : uids_of (histories rig.fixtures) ≡ line.uids
  pub each : AllZip IsIn line.devices rig.fixtures

-- A rig on a line: before a request is heard, all fixtures are made ready.
abbrev pub rig_hearing : Hearing (State LiveFixture) Rig
rig_hearing = record {
  is_in = IsRig;
  reply = λ now rig bytes. from_wire (on_wire rig.rule [] (answers bytes (histories (map (ready now) rig.fixtures))));
  heard = λ now rig bytes. record rig { fixtures = map (after_line bytes) (map (ready now) rig.fixtures) };
}
