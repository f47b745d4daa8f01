-- A search finds the rig at the other end of the line.
use Rattle.std.proofs.Common.{◌≡◌, ◌≢◌, ℕ, zero, suc, Bool, true, ◌||◌, ◌==◌, List, [], ◌∷◌, map, Option, Some, None, refl, sym, ap, subst, ◌∙◌, inl, inr, arith}
use Rattle.std.specs.Prelude.{All, AllPairs, unwrap_or}
use Rattle.std.proofs.lemmas.Bool.{cond-true}
use Rattle.std.proofs.lemmas.List.Elements.{All-nil, All-cons, All-head, All-tail}
use Rattle.rdm_frame.specs.declared.uid.Uid.{Uid}
use Rattle.rdm_frame.specs.FrameText.{frame_text}
use Rattle.rdm_frame.specs.Reading.{frame_in}
use Rattle.rdm_outbox.specs.Jobs.{outstanding_count}
use Rattle.rdm_responder.specs.History.{History, Arrived}
use Rattle.rdm_responder.specs.Rules.{Account, account_of, is_muted}
use Rattle.rdm_responder.specs.Runs.{outbox_of}
use Rattle.rdm_responder.proofs.Accounts.{account_of-then}
use Rattle.rdm_search.specs.Line.{Fixture, IsDevice, IsHeard, after_request}
use Rattle.rdm_search.specs.Requests.{request_frame}
use Rattle.rdm_line.specs.declared.collision.Collision.{Collision}
use Rattle.rdm_line.specs.Collisions.{on_wire}
use Rattle.rdm_line.specs.Hearing.{answers as answers_of, heard_by}
use Rattle.rdm_line.specs.Line.{uids_of}
use Rattle.rdm_line.specs.Searching.{fixture_of}
use Rattle.rdm_line.proofs.Searching.{requests_are_heard, requests_mute}
use Rattle.rdm_messages.specs.Framing.{Message}
use Rattle.rdm_messages.specs.Protocol.{after_message}
use Rattle.rdm_messages.specs.Serving.{Turn, after_turns, messages_in, replies_in}
use Rattle.rdm_widget.specs.LiveFixtures.{Situation as Standing, after_ended, after_next, after_several, first_ended, ready, report_of, up_to_date}
use Rattle.rdm_widget.specs.Rigs.{Rig, after_line, from_wire, histories, rig_hearing}
use Rattle.rdm_widget.proofs.Rigs.{ready_uids}
use Rattle.rdm_interface.specs.Answers.{request_message}
use Rattle.rdm_interface.specs.Askings.{AreDevices, AreHeardOf, Asking, IsAsking, IsHeardOf, Situation}
use Rattle.rdm_line_ends.specs.Ends.{requests_in}
use Rattle.rdm_line_ends.specs.Searches.{HasUids, RigIsFound, standing}
use Rattle.rdm_line_ends.proofs.Asking.{all_sent}
use Rattle.rdm_line_ends.proofs.Coming.{come_fixture}
use Rattle.rdm_line_ends.proofs.Fixtures.{line_uids, rig_is_heard}
use Rattle.rdm_line_ends.proofs.Streams.{message_is, messages_are, no_messages, some_messages}
use Rattle.rdm_line_ends.proofs.Together.{label_is, turns_are}

-- ---- reports mute nobody

abbrev is_mute_of : History → Bool
is_mute_of h = is_muted (account_of h).mutings

ended_muted : (s : Standing) (o : _) → is_mute_of (after_ended s o).history ≡ is_mute_of s.history
ended_muted s None = refl
ended_muted s (Some e) = ap (λ (a : Account). is_muted a.mutings) (account_of-then s.history (Arrived (report_of s e.job)))

abbrev fixture : Uid → Bool → Fixture
fixture uid muted = record { uid = uid; muted = muted }

ended_fixture : (s : Standing) (o : _) → fixture_of (after_ended s o).history ≡ fixture_of s.history
ended_fixture s None = refl
ended_fixture s (Some e) = ap (λ (m : Bool). fixture s.history.setup.uid m) (ended_muted s (Some e))

several_fixture : (n now : ℕ) (s : Standing) → fixture_of (after_several n now s).history ≡ fixture_of s.history
several_fixture zero now s = refl
several_fixture (suc n) now s = several_fixture n now (after_next now s) ∙ ended_fixture s (first_ended now s)

two_fixtures : (f g : Fixture) (fs gs : List Fixture) → f ≡ g → fs ≡ gs → f ∷ fs ≡ g ∷ gs
two_fixtures f g fs gs e e' = rw (e, e') refl

ready_fixtures : (now : ℕ) (ss : List Standing) → map fixture_of (histories (map (ready now) ss)) ≡ map fixture_of (histories ss)
ready_fixtures now [] = refl
ready_fixtures now (s ∷ ss) =
    two_fixtures _ _ _ _
    (several_fixture (outstanding_count (outbox_of (up_to_date now s).history)) now (up_to_date now s) ∙ come_fixture s.looked now s.notices s.courses s.history)
    (ready_fixtures now ss)

line_fixtures : (bytes : List ℕ) (ss : List Standing) → map fixture_of (histories (map (after_line bytes) ss)) ≡ map fixture_of (map (heard_by bytes) (histories ss))
line_fixtures bytes [] = refl
line_fixtures bytes (s ∷ ss) = ap (λ (fs : List Fixture). fixture_of (heard_by bytes s.history) ∷ fs) (line_fixtures bytes ss)

-- ---- one request

wire_bytes : (rule : Collision) (replies : List (List ℕ)) → unwrap_or (from_wire (on_wire rule [] replies)) [] ≡ (on_wire rule [] replies).1
wire_bytes rule [] = refl
wire_bytes rule (a ∷ []) = refl
wire_bytes rule (a ∷ b ∷ replies) = refl

-- the rig after a request
abbrev next : ℕ → Rig → List ℕ → Rig
next now rig bytes = rig_hearing.heard now rig bytes

uids_next : (now : ℕ) (rig : Rig) (bytes : List ℕ) → uids_of (histories (next now rig bytes).fixtures) ≡ uids_of (histories rig.fixtures)
uids_next now rig bytes = line_uids bytes (map (ready now) rig.fixtures) ∙ ready_uids now rig.fixtures

has_uids : (rig other : Rig) → uids_of (histories other.fixtures) ≡ uids_of (histories rig.fixtures) → HasUids rig → HasUids other
has_uids rig other e has = record {
  devices = subst (λ (us : List Uid). All (λ u. IsDevice u) us) (sym e) has.devices;
  differ = subst (λ (us : List Uid). AllPairs (λ u v. u ≢ v) us) (sym e) has.differ;
}

ready_rig : (now : ℕ) (rig : Rig) → HasUids rig → HasUids (record rig { fixtures = map (ready now) rig.fixtures })
ready_rig now rig has = has_uids rig (record rig { fixtures = map (ready now) rig.fixtures }) (ready_uids now rig.fixtures) has

kept : (now : ℕ) (rig : Rig) (source : Uid) (x : Asking) → HasUids rig → IsAsking source x
    → x.heard ≡ unwrap_or (rig_hearing.reply now rig (frame_text (request_frame source x.tn x.request))) []
    → IsHeardOf 0 (standing rig) x (standing (next now rig (frame_text (request_frame source x.tn x.request))))
kept now rig source x has asking heard =
    let bytes : List ℕ = frame_text (request_frame source x.tn x.request) in
    let ss : List Standing = map (ready now) rig.fixtures in
    let there = ready_rig now rig has in
    let same : map fixture_of (histories ss) ≡ map fixture_of (histories rig.fixtures) = ready_fixtures now rig.fixtures in
    let made : IsHeard x.request (map fixture_of (histories ss)) (on_wire rig.rule [] (answers_of bytes (histories ss))).1 =
    requests_are_heard (histories ss) rig.rule x.request source x.tn there.devices there.differ asking.0 asking.1 in
    let told : IsHeard x.request (map fixture_of (histories rig.fixtures)) x.heard =
    subst (λ (h : List ℕ). IsHeard x.request (map fixture_of (histories rig.fixtures)) h) (sym (heard ∙ wire_bytes rig.rule (answers_of bytes (histories ss))))
    (subst (λ (l : List Fixture). IsHeard x.request l (on_wire rig.rule [] (answers_of bytes (histories ss))).1) same made) in
    let after : map fixture_of (histories (map (after_line bytes) ss)) ≡ after_request x.request (map fixture_of (histories rig.fixtures)) =
    line_fixtures bytes ss ∙ requests_mute (histories ss) x.request source x.tn asking.0 asking.1 ∙ ap (λ (l : List Fixture). after_request x.request l) same in
    inl ((inl (told, inl refl), after), refl)

-- ---- all of them

reply_head : (r s : List ℕ) (rs ss : List (List ℕ)) → r ∷ rs ≡ s ∷ ss → r ≡ s
reply_head r s rs ss e = cc

reply_tail : (r s : List ℕ) (rs ss : List (List ℕ)) → r ∷ rs ≡ s ∷ ss → rs ≡ ss
reply_tail r s rs ss e = cc

abbrev bytes_of_asking : Uid → Asking → List ℕ
bytes_of_asking source x = frame_text (request_frame source x.tn x.request)

abbrev or_none : Option (List ℕ) → List ℕ
or_none came = unwrap_or came []

served_by : (source : Uid) (rig : Rig) (turns : List Turn) (askings : List Asking) → HasUids rig → All (IsAsking source) askings
    → messages_in turns ≡ map request_message (map (bytes_of_asking source) askings) → map or_none (replies_in rig_hearing rig turns) ≡ map (λ x. x.heard) askings
    → AreHeardOf 0 (standing rig) askings (standing (after_turns rig_hearing rig turns))
served_by source rig [] [] has each messages heard = refl
served_by source rig [] (x ∷ askings) has each messages heard = absurd (no_messages _ _ messages)
served_by source rig (turn ∷ turns) [] has each messages heard = absurd (some_messages turn.message (messages_in turns) messages)
served_by source rig (turn ∷ turns) (x ∷ askings) has each messages heard =
    let m : Message = turn.message in
    let bytes : List ℕ = bytes_of_asking source x in
    let is : m ≡ request_message bytes = message_is m (request_message bytes) (messages_in turns) (map request_message (map (bytes_of_asking source) askings)) messages in
    let own : m.body ≡ bytes = ap (λ (n : Message). n.body) is in
    let label : ((m.label == 7) || (m.label == 11)) ≡ true = ap (λ (n : Message). (n.label == 7) || (n.label == 11)) is ∙ label_is (frame_in bytes) in
    let after : after_message rig_hearing turn.at rig m ≡ next turn.at rig bytes =
    cond-true ((m.label == 7) || (m.label == 11)) (next turn.at rig m.body) rig label ∙ ap (λ (l : List ℕ). next turn.at rig l) own in
    let reply : x.heard ≡ or_none (rig_hearing.reply turn.at rig bytes) =
    sym (reply_head _ _ _ _ heard) ∙ ap (λ (l : List ℕ). or_none (rig_hearing.reply turn.at rig l)) own in (
      standing (next turn.at rig bytes),
      kept turn.at rig source x has (All-head (IsAsking source) x askings each) reply,
      subst (λ (r : Rig). AreHeardOf 0 (standing r) askings (standing (after_turns rig_hearing (after_message rig_hearing turn.at rig m) turns))) after
          (served_by source (after_message rig_hearing turn.at rig m) turns askings
          (subst HasUids (sym after) (has_uids rig (next turn.at rig bytes) (uids_next turn.at rig bytes) has))
          (All-tail (IsAsking source) x askings each)
          (messages_are m (request_message bytes) (messages_in turns) (map request_message (map (bytes_of_asking source) askings)) messages)
          (reply_tail _ _ _ _ heard)),
    )

-- ---- what a search finds

-- what may be heard with nothing lost may be heard where something may be
once_more : (most : ℕ) (a : Situation) (x : Asking) (b : Situation) → IsHeardOf 0 a x b → IsHeardOf most a x b
once_more most a x b (inl k) = inl k
once_more most a x b (inr l) = inr (l.0, l.1, omega (arith, l.2), l.3)

more : (most : ℕ) (a : Situation) (xs : List Asking) (b : Situation) → AreHeardOf 0 a xs b → AreHeardOf most a xs b
more most a [] b h = h
more most a (x ∷ xs) b h = (h.0, once_more most a x h.0 h.1, more most h.0 xs b h.2)

are_devices : (hs : List History) → All (λ u. IsDevice u) (uids_of hs) → AreDevices (map fixture_of hs)
are_devices [] all = All-nil (λ (f : Fixture). IsDevice f.uid)
are_devices (h ∷ hs) all =
    All-cons (λ (f : Fixture). IsDevice f.uid) (fixture_of h) (map fixture_of hs) (All-head (λ (u : Uid). IsDevice u) h.setup.uid (uids_of hs) all)
    (are_devices hs (All-tail (λ (u : Uid). IsDevice u) h.setup.uid (uids_of hs) all))

pub rig_is_found : {C E : Type 0} (tells : C → ℕ → C → Type 0) (times : E → ℕ → E → Type 0) → RigIsFound tells times
rig_is_found tells times limit before after xs asked held start end rig d served has read rest later bytes stream source askings are =
    let both = rig_is_heard tells times limit before after xs asked held start end rig d served has.differ read rest later bytes stream in
    let turns = turns_are (requests_in xs) served.input (messages_in served.turns) (all_sent tells limit before after xs asked) (record { rest = end.held; begins = served.begins; unfinished = served.unfinished }) read in
    let heard =
    served_by source rig served.turns askings has are.each (turns ∙ ap (map request_message) are.requests)
    (ap (map or_none) (sym both.heard) ∙ are.heard) in (
      heard,
      λ retries found finds. finds (standing rig) (standing (after_turns rig_hearing rig served.turns)) (are_devices (histories rig.fixtures) has.devices)
          (more retries (standing rig) askings (standing (after_turns rig_hearing rig served.turns)) heard),
    )
