-- A reply belongs to its request.
use Rattle.std.proofs.Common.{◌≡◌, ◌⊎◌, ℕ, ◌+◌, ◌^◌, ◌<◌, ◌≤◌, ◌==◌, ◌&&◌, ◌||◌, Bool, true, false, cond, List, ◌∷◌, length, Option, Some, None, refl, sym, ap, subst, ◌∙◌, inl, inr, arith}
use Rattle.std.specs.Prelude.{not}
use Rattle.std.specs.Option.{option_map_or}
use Rattle.std.proofs.lemmas.Bool.{and_left, and_right, and_parts, and_from, both_ways, cases_Bool, cond_both, eqb-true, eq-eqb, lt-ltb, or_left}
use Rattle.rdm_frame.specs.declared.frame.Frame.{Frame}
use Rattle.rdm_frame.specs.declared.uid.Uid.{Uid}
use Rattle.rdm_frame.specs.Addressing.{is_addressed, is_broadcast, same_uid}
use Rattle.rdm_frame.specs.Discovery.{branch_reply}
use Rattle.rdm_frame.specs.FrameText.{frame_text, IsFrame, IsUid}
use Rattle.rdm_frame.specs.Reading.{frame_in}
use Rattle.rdm_commands.specs.declared.verdict.Verdict.{Verdict}
use Rattle.rdm_params.specs.Commands.Commands.{got, answer_to_set}
use Rattle.rdm_responder.specs.History.{History, Setup}
use Rattle.rdm_responder.specs.Requests.{Request, Ignored, Branch, Muting, Get, Set, discovery_of, get_of, request_of, request_in}
use Rattle.rdm_responder.specs.Rules.{Account, Response, account_of, answer_to, answer_with, is_muted, is_between, reply_of, response_of}
use Rattle.rdm_line.proofs.Alone.{uid_decides}
use Rattle.rdm_line.proofs.Unheard.{setup_of}
use Rattle.rdm_messages.specs.Protocol.{from_line}
use Rattle.rdm_interface.specs.Answers.{belongs, comes_from, has_response, is_branch, is_fetch, is_response, responds_to, wanted_for}
use Rattle.rdm_line_ends.specs.Replies.{AreBytes, RepliesAreResponses, BranchesAreAnswered, RepliesBelong}
use Rattle.rdm_line_ends.proofs.Messages.{AreResponses, messages_are_responses}
use Rattle.rdm_line_ends.proofs.Rereading.{each_byte, few_data, fits_read, found_fits, read_back, text_read, text_size}
use Rattle.rdm_line_ends.proofs.Responding.{Fits, Responds, framed, get_responds, is_any, own_responds, set_responds}

-- ---- what a request comes from

abbrev Stems : Frame → Request → Type 0
Stems f Ignored = Unit {0}
Stems f (Branch low high) = is_branch f ≡ true
Stems f (Muting muted g) = (g ≡ f) × (is_branch f ≡ false)
Stems f (Get g) = (g ≡ f) × ((is_branch f ≡ false) × (f.class ≡ 0x20))
Stems f (Set g) = (g ≡ f) × (is_branch f ≡ false)

a_branch : (f : Frame) → f.class ≡ 0x10 → f.pid ≡ 0x0001 → is_branch f ≡ true
a_branch f class pid = and_from (f.class == 0x10) (f.pid == 0x0001) (eq-eqb f.class 0x10 class) (eq-eqb f.pid 0x0001 pid)

no_branch : (f : Frame) (n : ℕ) → f.pid ≡ n → (n == 0x0001) ≡ false → is_branch f ≡ false
no_branch f n pid other = and_right (f.class == 0x10) (f.pid == 0x0001) (ap (λ k. k == 0x0001) pid ∙ other)

of_class : (f : Frame) (n : ℕ) → f.class ≡ n → (n == 0x10) ≡ false → is_branch f ≡ false
of_class f n class other = and_left (f.class == 0x10) (f.pid == 0x0001) (ap (λ k. k == 0x10) class ∙ other)

stems_discovery : (f : Frame) → f.class ≡ 0x10 → Stems f (discovery_of f)
unfolding discovery_of
stems_discovery f class =
    cond_both (f.sub == 0) _ _ (Stems f)
    (λ root.
    cond_both ((f.pid == 0x0001) && (length f.body == 12)) _ _ (Stems f) (λ t. a_branch f class (eqb-true f.pid 0x0001 (and_parts (f.pid == 0x0001) (length f.body == 12) t).0))
    (λ other.
    cond_both ((f.pid == 0x0002) && (length f.body == 0)) _ _ (Stems f) (λ t. (refl, no_branch f 0x0002 (eqb-true f.pid 0x0002 (and_parts (f.pid == 0x0002) (length f.body == 0) t).0) refl))
    (λ no_mute.
    cond_both ((f.pid == 0x0003) && (length f.body == 0)) _ _ (Stems f) (λ t. (refl, no_branch f 0x0003 (eqb-true f.pid 0x0003 (and_parts (f.pid == 0x0003) (length f.body == 0) t).0) refl))
    (λ none. tt))))
    (λ sub. tt)

stems_get : (f : Frame) → f.class ≡ 0x20 → Stems f (get_of f)
stems_get f class = cond_both (is_broadcast f.dst) _ _ (Stems f) (λ all. tt) (λ single. (refl, (of_class f 0x20 class refl, class)))

-- what is addressed to the device
abbrev taken_up : Frame → Request
taken_up f = cond (f.class == 0x10) (discovery_of f) (cond (f.class == 0x20) (get_of f) (cond (f.class == 0x30) (Set f) Ignored))

stems : (f : Frame) → Stems f (taken_up f)
stems f =
    cond_both (f.class == 0x10) _ _ (Stems f) (λ t. stems_discovery f (eqb-true f.class 0x10 t))
    (λ other.
    cond_both (f.class == 0x20) _ _ (Stems f) (λ t. stems_get f (eqb-true f.class 0x20 t))
    (λ no_get. cond_both (f.class == 0x30) _ _ (Stems f) (λ t. (refl, of_class f 0x30 (eqb-true f.class 0x30 t) refl)) (λ none. tt)))

-- ---- what is answered

-- the reply is the text of this frame, from who was asked to who did
record IsText (f : Frame) (reply : List ℕ) : Type 0 where
  frame : Frame
  text : reply ≡ frame_text frame
  number : frame.tn ≡ f.tn
  device : frame.src ≡ f.dst
  controller : frame.dst ≡ f.src
  fits : Fits f frame

abbrev IsAnswer : Uid → Frame → List ℕ → Type 0
IsAnswer own f reply = ((is_branch f ≡ true) × (reply ≡ branch_reply own)) ⊎ ((is_branch f ≡ false) × IsText f reply)

-- who is addressed alone is the destination
own_uid : (own dst : Uid) → is_broadcast dst ≡ false → is_addressed own dst ≡ true → own ≡ dst
own_uid own dst single addressed =
    elim (cases_Bool (same_uid dst own)) [
      | inl same ↦ sym ((uid_decides dst own).0 same)
      | inr other ↦
          (
          let apart : Bool = (dst.maker == 0xFFFF) || (dst.maker == own.maker) in
          absurd (both_ways (is_addressed own dst) (ap (λ s. s || (is_broadcast dst && apart)) other ∙ ap (λ s. s && apart) single) addressed)
          )
    ]

is_some : (x y : List ℕ) → Some x ≡ Some y → x ≡ y
is_some x y e = cc

-- it is answered to one device alone
to_one : (all : Bool) (x reply : List ℕ) → cond all None (Some x) ≡ Some reply → (all ≡ false) × (reply ≡ x)
to_one true x reply e = absurd cc
to_one false x reply e = (refl, sym (is_some x reply e))

responded : (own : Uid) (f : Frame) (count : ℕ) (r : Response) (reply : List ℕ) → is_addressed own f.dst ≡ true → Responds f r → answer_with own f count r ≡ Some reply → IsText f reply
unfolding answer_with
responded own f count r reply addressed responds e =
    let is = to_one (is_broadcast f.dst) (frame_text (framed own f count r)) reply e in
    record {
      frame = framed own f count r;
      text = is.1;
      number = refl;
      device = own_uid own f.dst is.0 addressed;
      controller = refl;
      fits = responds own count;
    }

-- the request is the frame itself
of_itself : (f g : Frame) (reply : List ℕ) → g ≡ f → is_branch f ≡ false → IsText g reply → (is_branch f ≡ false) × IsText f reply
of_itself f g reply same other is = (other, subst (λ (x : Frame). IsText x reply) same is)

addressed_too : (own : Uid) (f g : Frame) → g ≡ f → is_addressed own f.dst ≡ true → is_addressed own g.dst ≡ true
addressed_too own f g same = subst (λ (x : Frame). is_addressed own x.dst ≡ true) (sym same)

branched : (own : Uid) (f : Frame) (may : Bool) (reply : List ℕ) → is_branch f ≡ true → cond may (Some (branch_reply own)) None ≡ Some reply → (is_branch f ≡ true) × (reply ≡ branch_reply own)
branched own f true reply branch e = (branch, sym (is_some (branch_reply own) reply e))
branched own f false reply branch e = absurd cc

answered_with : (a : Account) (f : Frame) (q : Request) (reply : List ℕ) → AreResponses a.outbox → is_addressed a.setup.uid f.dst ≡ true → Stems f q → answer_to a q ≡ Some reply → IsAnswer a.setup.uid f reply
answered_with a f Ignored reply are addressed stem e = absurd cc
answered_with a f (Branch low high) reply are addressed stem e = inl (branched a.setup.uid f (not (is_muted a.mutings) && is_between low a.setup.uid high) reply stem e)
answered_with a f (Muting muted g) reply are addressed stem e =
    inr (of_itself f g reply stem.0 stem.1 (responded a.setup.uid g 0 _ reply (addressed_too a.setup.uid f g stem.0 addressed) (own_responds g _ refl refl refl) e))
answered_with a f (Get g) reply are addressed stem e =
    let v : Verdict = got a.parameters g.sub g.pid g.body in
    inr (of_itself f g reply stem.0 stem.1.0
    (responded a.setup.uid g _ (response_of a.parameters.profile a.outbox g v) reply (addressed_too a.setup.uid f g stem.0 addressed)
    (get_responds a.parameters a.outbox g v (ap (λ (x : Frame). x.class) stem.0 ∙ stem.1.1) are refl) e))
answered_with a f (Set g) reply are addressed stem e =
    let v : Verdict = answer_to_set a.parameters g.sub g.pid g.body in
    inr (of_itself f g reply stem.0 stem.1
    (responded a.setup.uid g _ (response_of a.parameters.profile a.outbox g v) reply (addressed_too a.setup.uid f g stem.0 addressed) (set_responds a.parameters a.outbox g v refl) e))

answer_at : (a : Account) (f : Frame) (here : Bool) (reply : List ℕ) → is_addressed a.setup.uid f.dst ≡ here → AreResponses a.outbox → answer_to a (cond here (taken_up f) Ignored) ≡ Some reply → IsAnswer a.setup.uid f reply
answer_at a f true reply e are is = answered_with a f (taken_up f) reply are e (stems f) is
answer_at a f false reply e are is = absurd cc

replied : (h : History) (request reply : List ℕ) (f : Frame) → frame_in request ≡ Some f → reply_of h request ≡ Some reply → IsAnswer h.setup.uid f reply
replied h request reply f found e =
    let a : Account = account_of h in
    let heard : answer_to a (request_of a.setup.uid f) ≡ Some reply =
    sym (ap (λ (o : Option Frame). answer_to a (request_in a.setup.uid o)) found) ∙ e in
    subst (λ (s : Setup). IsAnswer s.uid f reply) (setup_of h)
    (answer_at a f (is_addressed a.setup.uid f.dst) reply refl (messages_are_responses h) heard)

-- ---- the laws of replies

from_and_to : (f g : Frame) → g.tn ≡ f.tn → g.src ≡ f.dst → g.dst ≡ f.src → ((g.tn == f.tn) && comes_from f.dst g.src && same_uid g.dst f.src) ≡ true
from_and_to f g number device controller =
    let asked : comes_from f.dst g.src ≡ true = or_left (same_uid g.src f.dst) (is_broadcast f.dst) ((uid_decides g.src f.dst).1 device) in
    and_from _ _ (and_from _ _ (eq-eqb g.tn f.tn number) asked) ((uid_decides g.dst f.src).1 controller)

pub replies_are_responses : RepliesAreResponses
replies_are_responses h request reply f found other e =
    elim (replied h request reply f found e) [
      | inl branch ↦ absurd (both_ways (is_branch f) other branch.0)
      | inr is ↦ (is.1.frame, is.1.text, is.1.device, and_from _ _ (from_and_to f is.1.frame is.1.number is.1.device is.1.controller) is.1.fits.responds)
    ]

pub branches_are_answered : BranchesAreAnswered
branches_are_answered h request reply f found branch e =
    elim (replied h request reply f found e) [
      | inl is ↦ is.1
      | inr is ↦ absurd (both_ways (is_branch f) is.0 branch)
    ]

-- ---- who hears a reply

pub branch_size : (u : Uid) → length (branch_reply u) ≡ 24
unfolding branch_reply
branch_size u = refl

-- what is waited for after a frame is one of two things
pub if_first : {W : Type 0} (t : Bool) (a b : W) (test : W → Bool) → t ≡ true → test (cond t a b) ≡ test a
if_first t a b test e = ap (λ x. test (cond x a b)) e

pub if_second : {W : Type 0} (t : Bool) (a b : W) (test : W → Bool) → t ≡ false → test (cond t a b) ≡ test b
if_second t a b test e = ap (λ x. test (cond x a b)) e

-- bytes that answer DISC_UNIQUE_BRANCH are waited for
pub branch_belongs : (f : Frame) (bytes : List ℕ) → is_branch f ≡ true → length bytes ≡ 24 → (length bytes ≤ 257) × (belongs (wanted_for (Some f)) (from_line bytes) ≡ true)
branch_belongs f bytes branch size = (
  omega (arith, size),
  if_first (is_branch f) _ _ (λ w. belongs w (from_line bytes)) branch
      ∙ lt-ltb 1 (length (0x00 ∷ bytes)) (omega (arith, size)),
)

-- a response is read as one
read_response : (f g : Frame) → IsFrame f → g.tn ≡ f.tn → g.src ≡ f.dst → g.dst ≡ f.src → Fits f g → option_map_or (is_response f) (frame_in (frame_text g)) false ≡ true
read_response f g fit number device controller fits =
    let dst : IsUid g.dst = subst IsUid (sym controller) fit.src in
    let src : IsUid g.src = subst IsUid (sym device) fit.dst in
    let from : ((g.tn == f.tn) && comes_from f.dst g.src && same_uid g.dst f.src) ≡ true = from_and_to f g number device controller in
    elim (cases_Bool (is_fetch f)) [
      | inl fetch ↦
          (
          let any : Bool = is_any g.class in
          let own : Bool = (g.class == f.class + 1) && (g.sub == f.sub) && (g.pid == f.pid) in
          let back : Bool = (g.class == f.class + 1) && ((read_back g).sub == f.sub) && ((read_back g).pid == f.pid) in
          let tested : any ≡ true = sym (ap (λ t. cond t any own) fetch) ∙ fits.responds in
          let responds : responds_to f (read_back g) ≡ true = ap (λ t. cond t any back) fetch ∙ tested in
          ap (λ (o : Option Frame). option_map_or (is_response f) o false) (text_read g dst src) ∙ and_from _ _ from responds
          )
      | inr other ↦
          (
          let same = fits.same other in
          let read = fits_read g dst src (subst (λ n. n < 2 ^ 16) (sym same.0) fit.sub) (subst (λ n. n < 2 ^ 16) (sym same.1) fit.pid) in
          ap (λ (o : Option Frame). option_map_or (is_response f) o false) read ∙ and_from _ _ from fits.responds
          )
    ]

response_belongs : (f : Frame) (request reply : List ℕ) → AreBytes request → AreBytes reply → frame_in request ≡ Some f → is_branch f ≡ false → IsText f reply
    → (length reply ≤ 257) × (belongs (wanted_for (Some f)) (from_line reply) ≡ true)
response_belongs f request reply asked are found other is =
    let g : Frame = is.frame in
    let bytes : AreBytes (frame_text g) = subst AreBytes is.text are in
    let size : length reply ≡ 26 + length g.body = ap (λ (l : List ℕ). length l) is.text ∙ text_size g in
    let read = read_response f g (found_fits request f asked found) is.number is.device is.controller is.fits in (
      omega (arith, size, few_data g (each_byte (frame_text g) bytes)),
      if_second (is_branch f) _ _ (λ w. belongs w (from_line reply)) other
          ∙ or_left (has_response f (from_line reply)) _ (ap (λ (l : List ℕ). option_map_or (is_response f) (frame_in l) false) is.text ∙ read),
    )

none_heard : (a : Account) (reply : List ℕ) → answer_to a (request_in a.setup.uid None) ≡ Some reply → ⊥
none_heard a reply e = cc

belongs_to : (h : History) (request reply : List ℕ) (o : Option Frame) → frame_in request ≡ o → AreBytes request → AreBytes reply → reply_of h request ≡ Some reply
    → (length reply ≤ 257) × (belongs (wanted_for o) (from_line reply) ≡ true)
belongs_to h request reply None found asked are e =
    absurd (none_heard (account_of h) reply (sym (ap (λ (o : Option Frame). answer_to (account_of h) (request_in (account_of h).setup.uid o)) found) ∙ e))
belongs_to h request reply (Some f) found asked are e =
    elim (replied h request reply f found e) [
      | inl branch ↦ branch_belongs f reply branch.0 (ap (λ (l : List ℕ). length l) branch.1 ∙ branch_size h.setup.uid)
      | inr is ↦ response_belongs f request reply asked are found is.0 is.1
    ]

pub replies_belong : RepliesBelong
replies_belong h request reply asked are e = belongs_to h request reply (frame_in request) refl asked are e
