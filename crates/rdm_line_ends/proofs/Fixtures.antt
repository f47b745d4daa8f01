-- Fixtures and rigs reply with what belongs to the request.
use Rattle.std.proofs.Common.{◌≡◌, ◌≢◌, ℕ, List, [], ◌∷◌, ◌++◌, append-nil, map, Option, Some, refl, sym, ap, subst, ◌∙◌}
use Rattle.std.specs.Prelude.{AllPairs}
use Rattle.rdm_frame.specs.declared.uid.Uid.{Uid}
use Rattle.rdm_responder.specs.History.{History}
use Rattle.rdm_responder.specs.Rules.{reply_of}
use Rattle.rdm_line.specs.declared.collision.Collision.{Collision}
use Rattle.rdm_line.specs.declared.on_wire.OnWire.{OnWire}
use Rattle.rdm_line.specs.declared.on_wire.OnWire.TheVariants.{Nothing, Reply, Collision as Collided}
use Rattle.rdm_line.specs.Collisions.{on_wire}
use Rattle.rdm_line.specs.Hearing.{answers, hears}
use Rattle.rdm_line.specs.Line.{uids_of}
use Rattle.rdm_line.proofs.Unheard.{uid_stays}
use Rattle.rdm_messages.specs.Framing.{Message, bytes_of, message_bytes}
use Rattle.rdm_messages.specs.Serving.{Turn, Tells, messages_in, replies_in, times_of}
use Rattle.rdm_interface.specs.Answers.{request_message}
use Rattle.rdm_interface.specs.Sessions.{IsReplyTo, read_in}
use Rattle.rdm_widget.specs.LiveFixtures.{Situation, fixture_hearing, ready}
use Rattle.rdm_widget.specs.Rigs.{Rig, after_line, from_wire, histories, rig_hearing}
use Rattle.rdm_widget.proofs.Rigs.{ready_uids}
use Rattle.rdm_line_ends.specs.Ends.{Asked, AreAnswered, FixtureIsHeard, OneIsHeard, RigIsHeard, requests_in}
use Rattle.rdm_line_ends.specs.Replies.{AreBytes}
use Rattle.rdm_line_ends.proofs.Asking.{all_sent}
use Rattle.rdm_line_ends.proofs.Replying.{replies_belong}
use Rattle.rdm_line_ends.proofs.Streams.{IsFair, message_is}
use Rattle.rdm_line_ends.proofs.Together.{heard, turns_are}
use Rattle.rdm_line_ends.proofs.Wires.{on_the_wire}

-- ---- a fixture

abbrev IsAny : Situation → Type 0
IsAny s = Unit {0}

fixture_is_fair : IsFair fixture_hearing IsAny
fixture_is_fair = record {
  belongs = λ now s request bytes such asked are e. replies_belong (ready now s).history request bytes asked are e;
  stays = λ now s request such. tt;
}

pub fixture_is_heard : {C E : Type 0} (tells : C → ℕ → C → Type 0) (times : E → ℕ → E → Type 0) → FixtureIsHeard tells times
fixture_is_heard tells times = heard tells times fixture_hearing IsAny fixture_is_fair

-- ---- one request to a fixture

head_is : (x y : Option (List ℕ)) (xs ys : List (Option (List ℕ))) → x ∷ xs ≡ y ∷ ys → x ≡ y
head_is x y xs ys e = cc

one_turn : {E : Type 0} (times : E → ℕ → E → Type 0) (start end : E) (s : Situation) (turns : List Turn) (request : List ℕ) (x : Option (List ℕ)) → messages_in turns ≡ request_message request ∷ []
    → Tells times start (times_of turns) end → x ∷ [] ≡ replies_in fixture_hearing s turns → (now : ℕ) × times start now end × (x ≡ reply_of (ready now s).history request)
one_turn times start end s [] request x messages told replies = absurd cc
one_turn times start end s (turn ∷ t ∷ turns) request x messages told replies = absurd cc
one_turn {E} times start end s (turn ∷ []) request x messages told replies =
    let body : turn.message.body ≡ request = ap (λ (m : Message). m.body) (message_is turn.message (request_message request) [] [] messages) in (
      turn.at,
      subst (λ (c : E). times start turn.at c) (sym told.1.1) told.1.0,
      head_is x (reply_of (ready turn.at s).history turn.message.body) [] [] replies ∙ ap (λ (l : List ℕ). reply_of (ready turn.at s).history l) body,
    )

pub one_is_heard : {C E : Type 0} (tells : C → ℕ → C → Type 0) (times : E → ℕ → E → Type 0) → OneIsHeard tells times
one_is_heard tells times limit before after x asked held start end s d served read rest later bytes stream =
    let xs : List Asked = x ∷ [] in
    let all : AreAnswered tells limit before xs after = (after, asked, refl) in
    let whole : served.input ≡ bytes_of (map request_message (requests_in xs)) = read ∙ sym (append-nil (message_bytes (request_message x.request))) in
    let turns = turns_are (requests_in xs) served.input (messages_in served.turns) (all_sent tells limit before after xs all) (record { rest = end.held; begins = served.begins; unfinished = served.unfinished }) whole in
    one_turn times start.clock end.clock s served.turns x.request x.heard turns served.times
    (fixture_is_heard tells times limit before after xs all held start end s d served tt whole rest later bytes
    (ap (λ (l : List ℕ). l ++ rest) (append-nil (read_in asked.exchanged)) ∙ stream)).heard

-- ---- a rig

abbrev DifferInUid : Rig → Type 0
DifferInUid rig = AllPairs (λ u v. u ≢ v) (uids_of (histories rig.fixtures))

is_some : (x y : List ℕ) → Some x ≡ Some y → x ≡ y
is_some x y e = cc

reply_is_something : Reply ≢ Nothing
reply_is_something none = cc

collision_is_something : Collided ≢ Nothing
collision_is_something none = cc

wire_belongs : (hs : List History) (rule : Collision) (request bytes : List ℕ) (w : OnWire × List ℕ) → AllPairs (λ u v. u ≢ v) (uids_of hs) → AreBytes request → AreBytes bytes
    → on_wire rule [] (answers request hs) ≡ w → from_wire w ≡ Some bytes → IsReplyTo request (Some bytes)
wire_belongs hs rule request bytes (Nothing, xs) apart asked are wire e = absurd cc
wire_belongs hs rule request bytes (Reply, xs) apart asked are wire e =
    on_the_wire hs rule request [] bytes Reply apart asked are reply_is_something (wire ∙ ap (λ (l : List ℕ). (Reply, l)) (is_some xs bytes e))
wire_belongs hs rule request bytes (Collided, xs) apart asked are wire e =
    on_the_wire hs rule request [] bytes Collided apart asked are collision_is_something (wire ∙ ap (λ (l : List ℕ). (Collided, l)) (is_some xs bytes e))

-- what a fixture hears leaves its UID
pub line_uids : (request : List ℕ) (ss : List Situation) → uids_of (histories (map (after_line request) ss)) ≡ uids_of (histories ss)
line_uids request [] = refl
line_uids request (s ∷ ss) =
    ap (λ (u : Uid). u ∷ uids_of (histories (map (after_line request) ss))) (uid_stays s.history request (hears s.history.setup.uid request) refl)
    ∙ ap (λ (us : List Uid). s.history.setup.uid ∷ us) (line_uids request ss)

rig_is_fair : IsFair rig_hearing DifferInUid
rig_is_fair = record {
  belongs = λ now rig request bytes such asked are e.
      wire_belongs (histories (map (ready now) rig.fixtures)) rig.rule request bytes
      (on_wire rig.rule [] (answers request (histories (map (ready now) rig.fixtures))))
      (subst (λ (us : List Uid). AllPairs (λ u v. u ≢ v) us) (sym (ready_uids now rig.fixtures)) such) asked are refl e;
  stays = λ now rig request such.
      subst (λ (us : List Uid). AllPairs (λ u v. u ≢ v) us)
      (sym (line_uids request (map (ready now) rig.fixtures) ∙ ready_uids now rig.fixtures)) such;
}

pub rig_is_heard : {C E : Type 0} (tells : C → ℕ → C → Type 0) (times : E → ℕ → E → Type 0) → RigIsHeard tells times
rig_is_heard tells times = heard tells times rig_hearing DifferInUid rig_is_fair
