-- A search through a port finds the rig at the other end of the line.
use Rattle.std.proofs.Common.{◌≡◌, ℕ, ◌≤◌, List, [], ◌∷◌, ◌++◌, length, map, Option, refl, sym, ap, ap₂, subst, ◌∙◌}
use Rattle.std.specs.Prelude.{All, unwrap_or}
use Rattle.std.proofs.lemmas.List.Elements.{All-nil, All-cons}
use Rattle.rdm_frame.specs.declared.uid.Uid.{Uid}
use Rattle.rdm_frame.specs.FrameText.{frame_text}
use Rattle.rdm_search.specs.Requests.{request_frame}
use Rattle.rdm_messages.specs.Ends.{End}
use Rattle.rdm_interface.specs.Askings.{AreAsked, Asking, IsAsking}
use Rattle.rdm_interface.specs.Exchanges.{CameInTime, IsExchanged}
use Rattle.rdm_interface.specs.Sessions.{read_in}
use Rattle.rdm_line_ends.specs.Ends.{Asked, AreAnswered, IsAnswered, heard_in, read_for, requests_in}
use Rattle.rdm_line_ends.specs.Replies.{AreBytes}
use Rattle.rdm_line_ends.specs.Through.{AllCameInTime, IsEnd, asked_in, read_by, RigIsFoundThrough, RunsAreAsked}
use Rattle.rdm_line_ends.proofs.Finding.{rig_is_found}
use Rattle.rdm_line_ends.proofs.Texts.{text_bytes, text_fits}

-- ---- what was asked

one_answered : {C : Type 0} (tells : C → ℕ → C → Type 0) (span limit : ℕ) (before after : End C) (x : Asked) → span ≡ limit → AreBytes x.request → length x.request ≤ 257
    → (e : IsExchanged tells span before after x.request x.heard) → CameInTime e → (one : IsAnswered tells limit before after x) × (read_in one.exchanged ≡ read_in e)
one_answered tells span limit before after x same bytes fits e came =
    subst (λ (n : ℕ). (one : IsAnswered tells n before after x) × (read_in one.exchanged ≡ read_in e)) same
    (record { bytes = bytes; fits = fits; exchanged = e; in_time = came }, refl)

answered : {P C : Type 0} (hears : P → List ℕ → Option (List ℕ) → P → Type 0) (tells : C → ℕ → C → Type 0) (end_of : P → End C) (limit_of : P → ℕ) (line : IsEnd hears tells end_of limit_of) (source : Uid) (limit : ℕ) (before after : P) (askings : List Asking)
    (sent : AreAsked hears source before askings after) → limit_of before ≡ limit → AllCameInTime hears tells end_of limit_of line source before askings after sent
    → (asked : AreAnswered tells limit (end_of before) (asked_in hears source before askings after sent) (end_of after))
    × (read_for tells limit (end_of before) (asked_in hears source before askings after sent) (end_of after) asked ≡ read_by hears tells end_of limit_of line source before askings after sent)
answered {P} {C} hears tells end_of limit_of line source limit before after [] sent same came = (ap (λ (p : P). end_of p) sent, refl)
answered {P} {C} hears tells end_of limit_of line source limit before after (x ∷ xs) sent same came =
    let mid : P = sent.0 in
    let frame = request_frame source x.tn x.request in
    let one =
    one_answered tells (limit_of before) limit (end_of before) (end_of mid) (record { request = frame_text frame; heard = sent.2.0 }) same
    (text_bytes frame sent.1.1) (text_fits frame sent.1.1) (line.exchanged before mid (frame_text frame) sent.2.0 sent.2.1) came.0 in
    let rest = answered hears tells end_of limit_of line source limit mid after xs sent.3 (line.stays before mid (frame_text frame) sent.2.0 sent.2.1 ∙ same) came.1 in
    ((end_of mid, one.0, rest.0), ap₂ (λ (a b : List ℕ). a ++ b) one.1 rest.1)

-- ---- they are the askings of a search

are_each : {P : Type 0} (hears : P → List ℕ → Option (List ℕ) → P → Type 0) (source : Uid) (before after : P) (askings : List Asking) → AreAsked hears source before askings after → All (IsAsking source) askings
are_each hears source before after [] sent = All-nil (IsAsking source)
are_each hears source before after (x ∷ xs) sent = All-cons (IsAsking source) x xs sent.1 (are_each hears source sent.0 after xs sent.3)

requests_are : {P : Type 0} (hears : P → List ℕ → Option (List ℕ) → P → Type 0) (source : Uid) (before after : P) (askings : List Asking) (sent : AreAsked hears source before askings after)
    → requests_in (asked_in hears source before askings after sent) ≡ map (λ x. frame_text (request_frame source x.tn x.request)) askings
requests_are hears source before after [] sent = refl
requests_are hears source before after (x ∷ xs) sent =
    ap (λ (l : List (List ℕ)). frame_text (request_frame source x.tn x.request) ∷ l) (requests_are hears source sent.0 after xs sent.3)

heard_are : {P : Type 0} (hears : P → List ℕ → Option (List ℕ) → P → Type 0) (source : Uid) (before after : P) (askings : List Asking) (sent : AreAsked hears source before askings after)
    → map (λ came. unwrap_or came []) (heard_in (asked_in hears source before askings after sent)) ≡ map (λ x. x.heard) askings
heard_are hears source before after [] sent = refl
heard_are hears source before after (x ∷ xs) sent =
    ap₂ (λ (h : List ℕ) (l : List (List ℕ)). h ∷ l) (sym sent.2.2) (heard_are hears source sent.0 after xs sent.3)

-- ---- the laws

pub runs_are_asked : {P C : Type 0} (hears : P → List ℕ → Option (List ℕ) → P → Type 0) (tells : C → ℕ → C → Type 0) → RunsAreAsked hears tells
runs_are_asked hears tells end_of limit_of line source before after askings sent came =
    let run = answered hears tells end_of limit_of line source (limit_of before) before after askings sent refl came in
    record {
      asked = run.0;
      read = run.1;
      askings_are = record {
        each = are_each hears source before after askings sent;
        requests = requests_are hears source before after askings sent;
        heard = heard_are hears source before after askings sent;
      };
    }

pub found_through : {P C E : Type 0} (hears : P → List ℕ → Option (List ℕ) → P → Type 0) (tells : C → ℕ → C → Type 0) (times : E → ℕ → E → Type 0) → RigIsFoundThrough hears tells times
found_through hears tells times end_of limit_of line before after source retries most found run held came start end rig d served has read rest later bytes stream =
    let xs : List Asked = asked_in hears source before run.askings after run.sent in
    let so = runs_are_asked hears tells end_of limit_of line source before after run.askings run.sent came in
    (rig_is_found tells times (limit_of before) (end_of before) (end_of after) xs so.asked held start end rig d served has read rest later bytes
    (ap (λ (l : List ℕ). l ++ rest) so.read ∙ stream) source run.askings so.askings_are).1 retries found run.is_so
