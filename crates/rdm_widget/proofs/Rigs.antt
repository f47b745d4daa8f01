-- Rigs, fixture by fixture.
use Rattle.std.proofs.Common.{◌≡◌, ◌∙◌, ℕ, zero, suc, Bool, true, false, if◌then◌else◌, List, [], ◌∷◌, ◌++◌, map, drop, get_or, Option, Some, None, refl, sym, ap, subst}
use Rattle.std.specs.List.{AllZip}
use Rattle.std.specs.Option.{option_to_list}
use Rattle.rdm_frame.specs.declared.uid.Uid.{Uid}
use Rattle.rdm_outbox.specs.declared.job.Job.{Job}
use Rattle.rdm_outbox.specs.Jobs.{outstanding_count}
use Rattle.rdm_outcomes.specs.Outcomes.{HasEnded}
use Rattle.rdm_outcomes.specs.declared.planned.Planned.{Planned}
use Rattle.rdm_responder.specs.History.{Setup, History, Heard, then_event}
use Rattle.rdm_responder.specs.Rules.{reply_of}
use Rattle.rdm_responder.specs.Runs.{outbox_of}
use Rattle.rdm_responder.specs.StandsFor.{StandsFor}
use Rattle.rdm_line.specs.declared.collision.Collision.{Collision}
use Rattle.rdm_line.specs.Collisions.{on_wire}
use Rattle.rdm_line.specs.Hearing.{answers, hears, heard_by}
use Rattle.rdm_line.specs.Line.{State, StandFor, uids_of}
use Rattle.rdm_widget.specs.declared.live_fixture.LiveFixture.{LiveFixture}
use Rattle.rdm_widget.specs.declared.live_fixture.ending.Ended.{Ended}
use Rattle.rdm_widget.specs.LiveFixtures.{Situation, IsIn, reported_in, first_ended, after_ended, after_next, after_several, up_to_date, ready}
use Rattle.rdm_widget.specs.Rigs.{Rig, IsRig, histories, after_line, from_wire}
use Rattle.rdm_widget.specs.Timing.{Timing, timing_of}
use Rattle.rdm_widget.proofs.Measured.{come_setup}
use Rattle.rdm_widget.proofs.Reports.{reported-heard}

-- ---- what the clock does

ended_setup : (s : Situation) (o : Option Ended) → (after_ended s o).history.setup ≡ s.history.setup
ended_setup s None = refl
ended_setup s (Some e) = refl

several_setup : (n now : ℕ) (s : Situation) → (after_several n now s).history.setup ≡ s.history.setup
several_setup zero now s = refl
several_setup (suc n) now s = several_setup n now (after_next now s) ∙ ended_setup s (first_ended now s)

-- the UIDs stay
pub ready_uids : (now : ℕ) (ss : List Situation) → uids_of (histories (map (ready now) ss)) ≡ uids_of (histories ss)
ready_uids now [] = refl
ready_uids now (s ∷ ss) =
    ap (λ (setup : Setup). setup.uid ∷ uids_of (histories (map (ready now) ss)))
    (several_setup (outstanding_count (outbox_of (up_to_date now s).history)) now (up_to_date now s) ∙ come_setup s.looked now s.notices s.courses s.history)
    ∙ ap (λ (l : List Uid). s.history.setup.uid ∷ l) (ready_uids now ss)

-- what the clock makes of a fixture
abbrev pub MakesReady : ℕ → LiveFixture → LiveFixture → Type 0
MakesReady now before after = (s : Situation) → IsIn before s → IsIn after (ready now s)

made_ready : (now : ℕ) (ds es : List LiveFixture) (ss : List Situation) → AllZip (MakesReady now) ds es → AllZip IsIn ds ss → AllZip IsIn es (map (ready now) ss)
made_ready now [] [] [] does each = each
made_ready now [] [] (s ∷ ss) does each = absurd each
made_ready now [] (e ∷ es) ss does each = absurd does
made_ready now (d ∷ ds) [] ss does each = absurd does
made_ready now (d ∷ ds) (e ∷ es) [] does each = absurd each
made_ready now (d ∷ ds) (e ∷ es) (s ∷ ss) does each = (does.0 s each.0, made_ready now ds es ss does.1 each.1)

-- ---- what the line does

-- what a line sees of a fixture
abbrev pub Stands : LiveFixture → History → Type 0
Stands d h = StandsFor d.responder h × (d.uid ≡ h.setup.uid)

pub all_stand : (ds : List LiveFixture) (ss : List Situation) → AllZip IsIn ds ss → AllZip Stands ds (histories ss)
all_stand [] [] each = each
all_stand [] (s ∷ ss) each = each
all_stand (d ∷ ds) [] each = each
all_stand (d ∷ ds) (s ∷ ss) each = ((each.0.responder, each.0.uid), all_stand ds ss each.1)

-- once all are ready, each stands for its history
pub stand : (now : ℕ) (line mid : State LiveFixture) (rig : Rig) → IsRig line rig → AllZip (MakesReady now) line.devices mid.devices → mid.uids ≡ line.uids
    → StandFor Stands mid (histories (map (ready now) rig.fixtures))
stand now line mid rig is does uids = record {
  each = all_stand mid.devices (map (ready now) rig.fixtures) (made_ready now line.devices mid.devices rig.fixtures does is.each);
  uids = ready_uids now rig.fixtures ∙ is.uids ∙ sym uids;
}

heard_uids : (bytes : List ℕ) (ss : List Situation) → uids_of (histories (map (after_line bytes) ss)) ≡ uids_of (map (heard_by bytes) (histories ss))
heard_uids bytes [] = refl
heard_uids bytes (s ∷ ss) = ap (λ (l : List Uid). (heard_by bytes s.history).setup.uid ∷ l) (heard_uids bytes ss)

-- a fixture hears bytes, or it doesn't
heard_if : (d e : LiveFixture) (s : Situation) (bytes : List ℕ) (b : Bool) → IsIn d s → StandsFor e.responder (if b then then_event s.history (Heard bytes) else s.history)
    → e.uid ≡ (if b then then_event s.history (Heard bytes) else s.history).setup.uid → timing_of e ≡ timing_of d
    → IsIn e (record s { history = if b then then_event s.history (Heard bytes) else s.history })
heard_if d e s bytes true is stands uid kept = record {
  uid = uid;
  responder = stands;
  planned =
      subst (λ (p : Planned). HasEnded p s.rules (reported_in (s.history.events ++ Heard bytes ∷ []))) (sym (ap (λ (t : Timing). t.planned) kept))
      (subst (λ (l : List Job). HasEnded d.planned s.rules l) (sym (reported-heard s.history.events bytes)) is.planned);
  first = ap (λ (t : Timing). t.first_since) kept ∙ is.first;
  second = ap (λ (t : Timing). t.second_since) kept ∙ is.second;
  courses = ap (λ (t : Timing). t.courses) kept ∙ is.courses;
  notices = ap (λ (t : Timing). t.notices) kept ∙ is.notices;
  looked = ap (λ (t : Timing). t.looked) kept ∙ is.looked;
}
heard_if d e s bytes false is stands uid kept = record {
  uid = uid;
  responder = stands;
  planned = subst (λ (p : Planned). HasEnded p s.rules (reported_in s.history.events)) (sym (ap (λ (t : Timing). t.planned) kept)) is.planned;
  first = ap (λ (t : Timing). t.first_since) kept ∙ is.first;
  second = ap (λ (t : Timing). t.second_since) kept ∙ is.second;
  courses = ap (λ (t : Timing). t.courses) kept ∙ is.courses;
  notices = ap (λ (t : Timing). t.notices) kept ∙ is.notices;
  looked = ap (λ (t : Timing). t.looked) kept ∙ is.looked;
}

all_heard : (bytes : List ℕ) (ds es : List LiveFixture) (ss : List Situation) → AllZip IsIn ds ss → AllZip Stands es (map (heard_by bytes) (histories ss)) → map timing_of es ≡ map timing_of ds
    → AllZip IsIn es (map (after_line bytes) ss)
all_heard bytes [] [] [] each stands kept = each
all_heard bytes [] (e ∷ es) [] each stands kept = absurd stands
all_heard bytes [] es (s ∷ ss) each stands kept = absurd each
all_heard bytes (d ∷ ds) es [] each stands kept = absurd each
all_heard bytes (d ∷ ds) [] (s ∷ ss) each stands kept = absurd stands
all_heard bytes (d ∷ ds) (e ∷ es) (s ∷ ss) each stands kept = (
  heard_if d e s bytes (hears s.history.setup.uid bytes) each.0 stands.0.0 stands.0.1 (ap (λ (l : List Timing). get_or l 0 (timing_of d)) kept),
  all_heard bytes ds es ss each.1 stands.1 (ap (λ (l : List Timing). drop 1 l) kept),
)

-- the rig after a request
pub rig_heard : (now : ℕ) (bytes : List ℕ) (line mid new : State LiveFixture) (rig : Rig) → IsRig line rig → AllZip (MakesReady now) line.devices mid.devices
    → mid.rule ≡ line.rule → StandFor Stands new (map (heard_by bytes) (histories (map (ready now) rig.fixtures))) → new.rule ≡ mid.rule → map timing_of new.devices ≡ map timing_of mid.devices
    → IsRig new (record rig { fixtures = map (after_line bytes) (map (ready now) rig.fixtures) })
rig_heard now bytes line mid new rig is does rule stands rule' kept = record {
  rule = rule' ∙ rule ∙ is.rule;
  uids = heard_uids bytes (map (ready now) rig.fixtures) ∙ stands.uids;
  each =
      all_heard bytes mid.devices new.devices (map (ready now) rig.fixtures) (made_ready now line.devices mid.devices rig.fixtures does is.each) stands.each kept;
}

-- ---- what is on the wire

-- what comes from it doesn't depend on what stood there before
pub same_wire : (rule : Collision) (before : List ℕ) (told : List (List ℕ)) → from_wire (on_wire rule before told) ≡ from_wire (on_wire rule [] told)
same_wire rule before [] = refl
same_wire rule before (a ∷ []) = refl
same_wire rule before (a ∷ (b ∷ more)) = refl

one_told : (rule : Collision) (o : Option (List ℕ)) → from_wire (on_wire rule [] (option_to_list o ++ [])) ≡ o
one_told rule None = refl
one_told rule (Some bytes) = refl

-- of one fixture
pub one_replies : (now : ℕ) (rule : Collision) (s : Situation) (bytes : List ℕ)
    → from_wire (on_wire rule [] (answers bytes (histories (map (ready now) (s ∷ []))))) ≡ reply_of (ready now s).history bytes
one_replies now rule s bytes = one_told rule (reply_of (ready now s).history bytes)
