-- Who isn't addressed: such a device could hear the bytes all the same, and answers nothing.
use Rattle.std.proofs.Common.{◌≡◌, ℕ, ◌<◌, ◌≤◌, Bool, true, false, List, [], ◌∷◌, ◌++◌, length, map, fold, Option, Some, None, refl, sym, ap, subst, ◌∙◌, cond, arith}
use Rattle.std.specs.Prelude.{◌&&◌, nat_le}
use Rattle.std.specs.Option.{option_to_list}
use Rattle.std.specs.List.{AllByRecursion}
use Rattle.std.specs.Str.{bytes_eq}
use Rattle.std.proofs.lemmas.Bool.{le-leb, lt-leb, and_left}
use Rattle.std.proofs.lemmas.List.{map-append, append-nil}
use Rattle.std.proofs.lemmas.Grind.{flat_map-append}
use Rattle.std.proofs.lemmas.Slice.Eq.{bytes_eq-Decides}
use Rattle.rdm_frame.specs.declared.uid.Uid.{Uid}
use Rattle.rdm_frame.specs.declared.frame.Frame.{Frame}
use Rattle.rdm_frame.specs.Addressing.{is_addressed}
use Rattle.rdm_frame.specs.FrameText.{frame_text, head_slots}
use Rattle.rdm_frame.specs.Reading.{frame_in, frame_of, uid_at}
use Rattle.rdm_responder.specs.History.{Setup, Event, Heard, Arrived, Changed, Placed, Noted, Restored, Dropped, History, then_event}
use Rattle.rdm_responder.specs.Requests.{Request, Ignored, Branch, Muting, Get, Set, request_in, request_of}
use Rattle.rdm_responder.specs.Rules.{Account, account_of, account_before, account_after, account_with, answer_to, reply_of}
use Rattle.rdm_responder.proofs.Accounts.{account_of-then}
use Rattle.rdm_line.specs.Line.{uids_of}
use Rattle.rdm_line.specs.Hearing.{hears, heard_by, answers}

-- ---- the setup stays

request_keeps : (a : Account) (r : Request) → (account_with a r).setup ≡ a.setup
request_keeps a Ignored = refl
request_keeps a (Branch low high) = refl
request_keeps a (Muting muted f) = refl
request_keeps a (Get f) = refl
request_keeps a (Set f) = refl

event_keeps : (a : Account) (e : Event) → (account_after a e).setup ≡ a.setup
event_keeps a (Heard bytes) = request_keeps a (request_in a.setup.uid (frame_in bytes))
event_keeps a (Arrived report) = refl
event_keeps a (Changed change) = refl
event_keeps a (Placed sub pid bytes) = refl
event_keeps a (Noted entry) = refl
event_keeps a (Restored image) = refl
event_keeps a Dropped = refl

events_keep : (a : Account) (es : List Event) → (fold account_after a es).setup ≡ a.setup
events_keep a [] = refl
events_keep a (e ∷ es) = events_keep (account_after a e) es ∙ event_keeps a e

pub setup_of : (h : History) → (account_of h).setup ≡ h.setup
unfolding account_of
setup_of h = events_keep (account_before h.setup) h.events

-- ---- a frame for others

text_long : (f : Frame) → 9 ≤ length (frame_text f)
unfolding frame_text head_slots
text_long f = omega arith

dst_at : (t : List ℕ) → (frame_of t).dst ≡ uid_at t 3
unfolding frame_of
dst_at t = refl

-- what a frame's text says of its destination
pub record IsRead (t : List ℕ) (f : Frame) : Type 0 where
  pub long : 9 ≤ length t
  pub dst : f.dst ≡ uid_at t 3

none_is : (f : Frame) → None ≡ Some f → ⊥
none_is f e = cc

is_some : (f g : Frame) → Some f ≡ Some g → f ≡ g
is_some f g e = cc

read_by : (t : List ℕ) (f : Frame) (b : Bool) → bytes_eq t (frame_text (frame_of t)) ≡ b → cond b (Some (frame_of t)) None ≡ Some f → IsRead t f
read_by t f true same e =
    let text : t ≡ frame_text (frame_of t) = (bytes_eq-Decides t (frame_text (frame_of t))).0 same in
    record {
      long = subst (λ (xs : List ℕ). 9 ≤ length xs) (sym text) (text_long (frame_of t));
      dst = ap (λ (g : Frame). g.dst) (sym (is_some (frame_of t) f e)) ∙ dst_at t;
    }
read_by t f false same e = absurd (none_is f e)

pub frame_read : (t : List ℕ) (f : Frame) → frame_in t ≡ Some f → IsRead t f
unfolding frame_in
frame_read t f e = read_by t f (bytes_eq t (frame_text (frame_of t))) refl e

not_addressed : (own : Uid) (t : List ℕ) → hears own t ≡ false → 9 ≤ length t → is_addressed own (uid_at t 3) ≡ false
not_addressed own t deaf long =
    let le : nat_le 9 (length t) ≡ true = le-leb 9 (length t) long in
    ap (λ (b : Bool). b && is_addressed own (uid_at t 3)) (sym le) ∙ deaf

ignored_at : (own : Uid) (f : Frame) → is_addressed own f.dst ≡ false → request_of own f ≡ Ignored
ignored_at own f e = rw e refl

ignored : (own : Uid) (t : List ℕ) (found : Option Frame) → frame_in t ≡ found → hears own t ≡ false → request_in own found ≡ Ignored
ignored own t None e deaf = refl
ignored own t (Some f) e deaf =
    let is = frame_read t f e in
    ignored_at own f (ap (is_addressed own) is.dst ∙ not_addressed own t deaf is.long)

request_ignored : (h : History) (bytes : List ℕ) → hears h.setup.uid bytes ≡ false → request_in (account_of h).setup.uid (frame_in bytes) ≡ Ignored
request_ignored h bytes deaf =
    ap (λ (s : Setup). request_in s.uid (frame_in bytes)) (setup_of h) ∙ ignored h.setup.uid bytes (frame_in bytes) refl deaf

pub unanswered : (h : History) (bytes : List ℕ) → hears h.setup.uid bytes ≡ false → reply_of h bytes ≡ None
unanswered h bytes deaf = ap (answer_to (account_of h)) (request_ignored h bytes deaf)

pub unchanged : (h : History) (bytes : List ℕ) → hears h.setup.uid bytes ≡ false → account_of (then_event h (Heard bytes)) ≡ account_of h
unchanged h bytes deaf = account_of-then h (Heard bytes) ∙ ap (account_with (account_of h)) (request_ignored h bytes deaf)

-- ---- a line of those

abbrev pub Deaf : List ℕ → List History → Type 0
Deaf bytes hs = AllByRecursion (λ (h : History). hears h.setup.uid bytes ≡ false) hs

pub heard_as : (h : History) (bytes : List ℕ) (b : Bool) → hears h.setup.uid bytes ≡ b → heard_by bytes h ≡ cond b (then_event h (Heard bytes)) h
heard_as h bytes b e = ap (λ (x : Bool). cond x (then_event h (Heard bytes)) h) e

pub deaf_same : (bytes : List ℕ) (hs : List History) → Deaf bytes hs → map (heard_by bytes) hs ≡ hs
deaf_same bytes [] deaf = refl
deaf_same bytes (h ∷ hs) deaf =
    rw (heard_as h bytes false deaf.0, deaf_same bytes hs deaf.1) refl

pub deaf_silent : (bytes : List ℕ) (hs : List History) → Deaf bytes hs → answers bytes hs ≡ []
deaf_silent bytes [] deaf = refl
deaf_silent bytes (h ∷ hs) deaf =
    ap (λ (o : Option (List ℕ)). option_to_list o ++ answers bytes hs) (unanswered h bytes deaf.0) ∙ deaf_silent bytes hs deaf.1

-- one that hears, among those
pub one_heard : (bytes : List ℕ) (before : List History) (h : History) (after : List History) → Deaf bytes before → Deaf bytes after → hears h.setup.uid bytes ≡ true → map (heard_by bytes) (before ++ h ∷ after) ≡ before ++ then_event h (Heard bytes) ∷ after
one_heard bytes before h after deaf deaf' hearing =
    map-append (heard_by bytes) before (h ∷ after)
    ∙ rw (deaf_same bytes before deaf, deaf_same bytes after deaf', heard_as h bytes true hearing) refl

pub one_answers : (bytes : List ℕ) (before : List History) (h : History) (after : List History) → Deaf bytes before → Deaf bytes after → answers bytes (before ++ h ∷ after) ≡ option_to_list (reply_of h bytes)
one_answers bytes before h after deaf deaf' =
    flat_map-append (λ (k : History). option_to_list (reply_of k bytes)) before (h ∷ after)
    ∙ rw (deaf_silent bytes before deaf, deaf_silent bytes after deaf') (append-nil (option_to_list (reply_of h bytes)))

pub short_deaf : (bytes : List ℕ) (hs : List History) → length bytes < 9 → Deaf bytes hs
short_deaf bytes [] short = tt
short_deaf bytes (h ∷ hs) short =
    (and_left (nat_le 9 (length bytes)) (is_addressed h.setup.uid (uid_at bytes 3)) (lt-leb 9 (length bytes) short), short_deaf bytes hs short)

-- whether it hears, from what was tested
pub hearing : (own other dst : Uid) (bytes : List ℕ) (b c : Bool) → 9 ≤ length bytes → other ≡ own → dst ≡ uid_at bytes 3 → b ≡ is_addressed other dst → b ≡ c → hears own bytes ≡ c
hearing own other dst bytes b c long e d t k =
    ap (λ (x : Bool). x && is_addressed own (uid_at bytes 3)) (le-leb 9 (length bytes) long)
    ∙ ap (λ (u : Uid). is_addressed u (uid_at bytes 3)) (sym e) ∙ ap (is_addressed other) (sym d) ∙ sym t ∙ k

-- ---- the UIDs stay

pub uid_stays : (h : History) (bytes : List ℕ) (b : Bool) → hears h.setup.uid bytes ≡ b → (heard_by bytes h).setup.uid ≡ h.setup.uid
uid_stays h bytes true e = ap (λ (k : History). k.setup.uid) (heard_as h bytes true e)
uid_stays h bytes false e = ap (λ (k : History). k.setup.uid) (heard_as h bytes false e)

pub uids_stay : (bytes : List ℕ) (hs : List History) → uids_of (map (heard_by bytes) hs) ≡ uids_of hs
uids_stay bytes [] = refl
uids_stay bytes (h ∷ hs) = rw (uid_stays h bytes (hears h.setup.uid bytes) refl, uids_stay bytes hs) refl
