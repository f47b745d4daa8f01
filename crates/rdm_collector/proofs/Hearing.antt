-- What the answers to polls and to commands are heard as.
use Rattle.std.proofs.Common.{◌≡◌, ℕ, ◌+◌, ◌==◌, ◌&&◌, Bool, true, false, cond, List, Option, Some, None, refl, sym, ap, subst, ◌∙◌, true≢false}
use Rattle.std.specs.Bool.{Decides}
use Rattle.std.specs.Option.{option_map, option_map_or}
use Rattle.std.proofs.lemmas.Bool.Decides.{Decides-eqb, Decides-and, Decides-or, Decides-like}
use Rattle.rdm_frame.specs.declared.uid.Uid.{Uid}
use Rattle.rdm_frame.specs.declared.frame.Frame.{Frame}
use Rattle.rdm_frame.specs.Addressing.{same_uid}
use Rattle.rdm_frame.specs.FrameText.{frame_text, IsFrame}
use Rattle.rdm_frame.specs.Reading.{frame_in}
use Rattle.rdm_collector.specs.declared.command.Command.{Command}
use Rattle.rdm_collector.specs.declared.transaction.Heard.{Heard}
use Rattle.rdm_collector.specs.declared.transaction.Heard.TheVariants.{Message, Reply, Ignored}
use Rattle.rdm_collector.specs.Answers.{is_message, is_reply}
use Rattle.rdm_collector.specs.Collecting.{State, after_ask, after_poll, command_request, poll_request, heard_as, heard_in}
use Rattle.rdm_collector.specs.Hearing.{IsAnswer, IsAcknowledgement, IsResponseTo, IsMessage, IsReplyTo, IsHeardAs, PollsAreAnswered, CommandsAreAnswered}
use Rattle.rdm_collector.proofs.ReadBack.{read_as_itself}

some_frame : (f g : Frame) → Some f ≡ Some g → f ≡ g
some_frame f g e = cc

some_bytes : (a b : List ℕ) → Some a ≡ Some b → a ≡ b
some_bytes a b e = cc

none_is_some : (b : List ℕ) → None ≡ Some b → ⊥
none_is_some b e = cc

none_is_frame : (f : Frame) → None ≡ Some f → ⊥
none_is_frame f e = cc

abbrev uid : ℕ → ℕ → Uid
uid m d = record { maker = m; device = d }

uid_same : (m m' d d' : ℕ) → (m ≡ m') × (d ≡ d') → uid m d ≡ uid m' d'
uid_same m m' d d' e = rw (e.0, e.1) refl

uid_decides : (u v : Uid) → Decides (same_uid u v) (u ≡ v)
uid_decides u v =
    Decides-like (same_uid u v) (uid_same u.maker v.maker u.device v.device) (λ e. (ap (λ (w : Uid). w.maker) e, ap (λ (w : Uid). w.device) e))
    (Decides-and (u.maker == v.maker) (u.device == v.device) (Decides-eqb u.maker v.maker) (Decides-eqb u.device v.device))

-- An answer of which this holds besides.
abbrev Answered : Uid → Uid → ℕ → List ℕ → (Frame → Type 0) → Type 0
Answered device controller n bytes P = (f : Frame) × IsAnswer device controller n bytes f × P f

-- What two tests of a frame decide: whether it is such an answer.
data Told (answered : Type 0) (wanted is : Heard) : Type 0 where
  Yes : is ≡ wanted → answered → Told answered wanted is
  No : is ≡ Ignored → ¬ answered → Told answered wanted is

module _ (device controller : Uid) (n : ℕ) (bytes : List ℕ) (P : Frame → Type 0) (wanted : Heard) where
  tests : (f : Frame) (a b : Bool) → frame_in bytes ≡ Some f → Decides a ((f.src ≡ device) × (f.dst ≡ controller)) → Decides b ((f.tn ≡ n) × P f)
      → Told (Answered device controller n bytes P) wanted (cond a (cond b wanted Ignored) Ignored)
  tests f true true e da db =
      Yes refl (f, record { text = e; source = (da.0 refl).0; destination = (da.0 refl).1; number_is = (db.0 refl).0 }, (db.0 refl).1)
  tests f true false e da db = No refl (λ (g, answer, p).
      let same : g ≡ f = some_frame g f (sym answer.text ∙ e) in
      true≢false (sym (db.1 (subst (λ (h : Frame). (h.tn ≡ n) × P h) same (answer.number_is, p)))))
  tests f false b e da db = No refl (λ (g, answer, p).
      let same : g ≡ f = some_frame g f (sym answer.text ∙ e) in
      true≢false (sym (da.1 (subst (λ (h : Frame). (h.src ≡ device) × (h.dst ≡ controller)) same (answer.source, answer.destination)))))

  unread : frame_in bytes ≡ None → ¬ Answered device controller n bytes P
  unread e (g, answer, p) = none_is_frame g (sym e ∙ answer.text)

pub from_both : (f : Frame) (device controller : Uid) → Decides (same_uid f.src device && same_uid f.dst controller) ((f.src ≡ device) × (f.dst ≡ controller))
from_both f device controller = Decides-and _ _ (uid_decides f.src device) (uid_decides f.dst controller)

message_decides : (n : ℕ) (f : Frame) → Decides (is_message n f) ((f.tn ≡ n) × IsAcknowledgement f)
message_decides n f =
    Decides-like (is_message n f) (λ x. (x.0.0, (x.0.1, x.1))) (λ x. ((x.0, x.1.0), x.1.1))
    (Decides-and _ _ (Decides-and _ _ (Decides-eqb f.tn n) (Decides-or _ _ (Decides-eqb f.class 0x21) (Decides-eqb f.class 0x31))) (Decides-eqb f.port 0))

reply_decides : (n : ℕ) (request f : Frame) → Decides (is_reply n request.class request.sub request.pid f) ((f.tn ≡ n) × IsResponseTo request f)
reply_decides n request f =
    Decides-like (is_reply n request.class request.sub request.pid f) (λ x. (x.0.0.0, (x.0.0.1, x.0.1, x.1))) (λ x. (((x.0, x.1.0), x.1.1), x.1.2))
    (Decides-and _ _ (Decides-and _ _ (Decides-and _ _ (Decides-eqb f.tn n) (Decides-eqb f.class (request.class + 1))) (Decides-eqb f.sub request.sub)) (Decides-eqb f.pid request.pid))

-- ---- polls

told_message : (device controller : Uid) (n : ℕ) (sent bytes : List ℕ) (is : Heard) → Told (IsMessage device controller n bytes) Message is
    → IsHeardAs device controller n sent true (Some bytes) (Some is)
told_message device controller n sent bytes is (Yes e message) =
    subst (λ (h : Heard). IsHeardAs device controller n sent true (Some bytes) (Some h)) (sym e) (bytes, refl, refl, message)
told_message device controller n sent bytes is (No e none) =
    subst (λ (h : Heard). IsHeardAs device controller n sent true (Some bytes) (Some h)) (sym e) (bytes, refl, λ _. none, λ p. absurd (true≢false p))

poll_frame : (t : State) (sent bytes : List ℕ) (o : Option Frame) → frame_in bytes ≡ o
    → IsHeardAs t.target t.uid t.tn sent true (Some bytes) (Some (option_map_or (heard_as (after_poll t)) o Ignored))
poll_frame t sent bytes None e = told_message t.target t.uid t.tn sent bytes Ignored (No refl (unread t.target t.uid t.tn bytes IsAcknowledgement Message e))
poll_frame t sent bytes (Some f) e =
    told_message t.target t.uid t.tn sent bytes _ (tests t.target t.uid t.tn bytes IsAcknowledgement Message f _ _ e (from_both f t.target t.uid) (message_decides t.tn f))

pub poll_heard : (t : State) (sent : List ℕ) (c : Option (List ℕ)) → IsHeardAs t.target t.uid t.tn sent true c (option_map (heard_in (after_poll t)) c)
poll_heard t sent None = refl
poll_heard t sent (Some bytes) = poll_frame t sent bytes (frame_in bytes) refl

-- ---- commands

told_reply : (device controller : Uid) (n : ℕ) (sent bytes : List ℕ) (request : Frame) (is : Heard) → frame_in sent ≡ Some request
    → Told (Answered device controller n bytes (IsResponseTo request)) Reply is
    → IsHeardAs device controller n sent false (Some bytes) (Some is)
told_reply device controller n sent bytes request is text (Yes e reply) =
    subst (λ (h : Heard). IsHeardAs device controller n sent false (Some bytes) (Some h)) (sym e) (bytes, refl, refl, (request, text, reply))
told_reply device controller n sent bytes request is text (No e none) =
    subst (λ (h : Heard). IsHeardAs device controller n sent false (Some bytes) (Some h)) (sym e) (
      bytes,
      refl,
      λ p. absurd (true≢false (sym p)),
      λ _. λ (asked, text', reply).
          none (subst (λ (g : Frame). Answered device controller n bytes (IsResponseTo g)) (some_frame asked request (sym text' ∙ text)) reply),
    )

command_frame : (t : State) (c : Command) (bytes : List ℕ) (o : Option Frame) → IsFrame (command_request t c) → frame_in bytes ≡ o
    → IsHeardAs t.target t.uid t.tn (frame_text (command_request t c)) false (Some bytes) (Some (option_map_or (heard_as (after_ask t c)) o Ignored))
command_frame t c bytes None fits e =
    told_reply t.target t.uid t.tn _ bytes (command_request t c) Ignored (read_as_itself _ fits) (No refl (unread t.target t.uid t.tn bytes (IsResponseTo (command_request t c)) Reply e))
command_frame t c bytes (Some f) fits e =
    let request : Frame = command_request t c in
    told_reply t.target t.uid t.tn _ bytes request _ (read_as_itself _ fits)
    (tests t.target t.uid t.tn bytes (IsResponseTo request) Reply f _ _ e (from_both f t.target t.uid) (reply_decides t.tn request f))

pub command_heard : (t : State) (c : Command) (came : Option (List ℕ)) → IsFrame (command_request t c)
    → IsHeardAs t.target t.uid t.tn (frame_text (command_request t c)) false came (option_map (heard_in (after_ask t c)) came)
command_heard t c None fits = refl
command_heard t c (Some bytes) fits = command_frame t c bytes (frame_in bytes) fits refl

-- ---- it is heard as nothing else

module _ (device controller : Uid) (n : ℕ) (sent : List ℕ) (poll : Bool) (c : Option (List ℕ)) where
  abbrev As : Option Heard → Type 0
  As h = IsHeardAs device controller n sent poll c h

  nothing_came : (bytes : List ℕ) → c ≡ None → c ≡ Some bytes → ⊥
  nothing_came bytes e e' = none_is_some bytes (sym e ∙ e')

  both_polls : poll ≡ true → poll ≡ false → ⊥
  both_polls e e' = true≢false (sym e ∙ e')

  no_message : As (Some Message) → As (Some Ignored) → ⊥
  no_message (bytes, at, is, message) (bytes', at', not_message, not_reply) =
      not_message is (subst (IsMessage device controller n) (some_bytes bytes bytes' (sym at ∙ at')) message)

  no_reply : As (Some Reply) → As (Some Ignored) → ⊥
  no_reply (bytes, at, is, reply) (bytes', at', not_message, not_reply) =
      not_reply is (subst (IsReplyTo device controller n sent) (some_bytes bytes bytes' (sym at ∙ at')) reply)

  pub one_alone : (h h' : Option Heard) → As h → As h' → h ≡ h'
  one_alone None None p q = refl
  one_alone None (Some Message) p q = absurd (nothing_came q.0 p q.1)
  one_alone None (Some Reply) p q = absurd (nothing_came q.0 p q.1)
  one_alone None (Some Ignored) p q = absurd (nothing_came q.0 p q.1)
  one_alone (Some Message) None p q = absurd (nothing_came p.0 q p.1)
  one_alone (Some Message) (Some Message) p q = refl
  one_alone (Some Message) (Some Reply) p q = absurd (both_polls p.2 q.2)
  one_alone (Some Message) (Some Ignored) p q = absurd (no_message p q)
  one_alone (Some Reply) None p q = absurd (nothing_came p.0 q p.1)
  one_alone (Some Reply) (Some Message) p q = absurd (both_polls q.2 p.2)
  one_alone (Some Reply) (Some Reply) p q = refl
  one_alone (Some Reply) (Some Ignored) p q = absurd (no_reply p q)
  one_alone (Some Ignored) None p q = absurd (nothing_came p.0 q p.1)
  one_alone (Some Ignored) (Some Message) p q = absurd (no_message q p)
  one_alone (Some Ignored) (Some Reply) p q = absurd (no_reply q p)
  one_alone (Some Ignored) (Some Ignored) p q = refl

-- ---- the laws

some_heard : (h h' : Heard) → Some h ≡ Some h' → h ≡ h'
some_heard h h' e = cc

pub polls : PollsAreAnswered
polls s bytes h =
    let sent : List ℕ = frame_text (poll_request s) in
    let is : IsHeardAs s.target s.uid s.tn sent true (Some bytes) (Some (heard_in (after_poll s) bytes)) = poll_heard s sent (Some bytes) in (
      λ e. subst (λ (x : Heard). IsHeardAs s.target s.uid s.tn sent true (Some bytes) (Some x)) e is,
      λ other. some_heard _ h (one_alone s.target s.uid s.tn sent true (Some bytes) (Some (heard_in (after_poll s) bytes)) (Some h) is other),
    )

pub commands : CommandsAreAnswered
commands s c bytes h fits =
    let sent : List ℕ = frame_text (command_request s c) in
    let is : IsHeardAs s.target s.uid s.tn sent false (Some bytes) (Some (heard_in (after_ask s c) bytes)) = command_heard s c (Some bytes) fits in (
      λ e. subst (λ (x : Heard). IsHeardAs s.target s.uid s.tn sent false (Some bytes) (Some x)) e is,
      λ other. some_heard _ h (one_alone s.target s.uid s.tn sent false (Some bytes) (Some (heard_in (after_ask s c) bytes)) (Some h) is other),
    )
