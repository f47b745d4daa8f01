-- What a GET or a SET comes to responds to it.
use Rattle.std.proofs.Common.{◌≡◌, ℕ, ◌+◌, ◌==◌, ◌&&◌, ◌||◌, Bool, true, false, cond, List, [], ◌∷◌, refl, sym, ap, subst, ◌∙◌, inl, inr}
use Rattle.std.proofs.lemmas.Bool.{and_parts, and_from, both_ways, cases_Bool, eqb-true, eq-eqb}
use Rattle.rdm_frame.specs.declared.frame.Frame.{Frame}
use Rattle.rdm_frame.specs.declared.uid.Uid.{Uid}
use Rattle.rdm_commands.specs.declared.jobs.ask.Ask.{Ask}
use Rattle.rdm_commands.specs.declared.jobs.ask.Ask.TheVariants as asks
use Rattle.rdm_commands.specs.declared.verdict.Verdict.{Verdict}
use Rattle.rdm_commands.specs.declared.verdict.Verdict.TheVariants.{Reply, Start, Queue, Status, Clear, Refuse}
use Rattle.rdm_params.specs.Commands.Commands.{got, answer_to_set}
use Rattle.rdm_params.specs.Device.Parameters.{Parameters}
use Rattle.rdm_params.specs.Jobs.Asks.{ask_of}
use Rattle.rdm_params.proofs.Fetches.{get_queues, get_statuses, set_fetches_nothing}
use Rattle.rdm_outbox.specs.Account as outbox
use Rattle.rdm_outbox.specs.Jobs.{has_room}
use Rattle.rdm_outbox.specs.Messages.{is_last, dispensed, last_of, status_dispensed}
use Rattle.rdm_outbox.specs.Statuses.{status_now}
use Rattle.rdm_responder.specs.Rules.{Response, ack_message, own_response, response_of}
use Rattle.rdm_interface.specs.Answers.{asks_again, is_fetch, responds_to}
use Rattle.rdm_line_ends.proofs.Messages.{AreResponses, dispensed_is, status_is}
use Rattle.rdm_line_ends.proofs.StatusAsks.{status_asked}

-- of the command class of a response to a GET or a SET
abbrev pub is_any : ℕ → Bool
is_any class = (class == 0x21) || (class == 0x31)

-- The command of a response fits its request; and so do its sub-device and its parameter, but where a message is fetched.
pub record Fits (request f : Frame) : Type 0 where
  pub responds : responds_to request f ≡ true
  pub same : is_fetch request ≡ false → (f.sub ≡ request.sub) × (f.pid ≡ request.pid)

-- the frame with a response
abbrev pub framed : Uid → Frame → ℕ → Response → Frame
framed own f count r = record { dst = f.src; src = own; tn = f.tn; port = r.port; count = count; sub = r.sub; class = r.class; pid = r.pid; body = r.body }

abbrev pub Responds : Frame → Response → Type 0
Responds f r = (own : Uid) (count : ℕ) → Fits f (framed own f count r)

-- ---- of which command

fetch_class : (f : Frame) → is_fetch f ≡ true → f.class ≡ 0x20
fetch_class f fetch = eqb-true f.class 0x20 (and_parts (f.class == 0x20) _ fetch).0

-- what fetches a message is answered with, and what another request
if_fetch : (f g : Frame) → is_fetch f ≡ true → is_any g.class ≡ true → responds_to f g ≡ true
if_fetch f g fetch any = ap (λ t. cond t (is_any g.class) ((g.class == f.class + 1) && (g.sub == f.sub) && (g.pid == f.pid))) fetch ∙ any

if_own : (f g : Frame) → is_fetch f ≡ false → g.class ≡ f.class + 1 → g.sub ≡ f.sub → g.pid ≡ f.pid → responds_to f g ≡ true
if_own f g other class sub pid =
    ap (λ t. cond t (is_any g.class) ((g.class == f.class + 1) && (g.sub == f.sub) && (g.pid == f.pid))) other
    ∙ and_from _ _ (and_from _ _ (eq-eqb g.class (f.class + 1) class) (eq-eqb g.sub f.sub sub)) (eq-eqb g.pid f.pid pid)

any_of_get : (f : Frame) (class : ℕ) → f.class ≡ 0x20 → class ≡ f.class + 1 → is_any class ≡ true
any_of_get f class get e = ap is_any (e ∙ ap (λ n. n + 1) get)

-- ---- a response to the request itself, and one with a message

pub own_responds : (f : Frame) (r : Response) → r.class ≡ f.class + 1 → r.sub ≡ f.sub → r.pid ≡ f.pid → Responds f r
own_responds f r class sub pid own count = record {
  responds =
      elim (cases_Bool (is_fetch f)) [
        | inl fetch ↦ if_fetch f (framed own f count r) fetch (any_of_get f r.class (fetch_class f fetch) class)
        | inr other ↦ if_own f (framed own f count r) other class sub pid
      ];
  same = λ other. (sub, pid);
}

fetched : (f : Frame) (r : Response) → is_fetch f ≡ true → is_any r.class ≡ true → Responds f r
fetched f r fetch any own count = record {
  responds = if_fetch f (framed own f count r) fetch any;
  same = λ other. absurd (both_ways (is_fetch f) other fetch);
}

either : (f : Frame) (t : Bool) (r s : Response) → Responds f r → Responds f s → Responds f (cond t r s)
either f true r s one other = one
either f false r s one other = other

-- ---- a GET

-- GET QUEUED_MESSAGE fetches a message, and so does GET STATUS_MESSAGES of the last message again
queue_fetches : (f : Frame) → f.class ≡ 0x20 → f.pid ≡ 0x0020 → is_fetch f ≡ true
queue_fetches f class pid =
    and_from (f.class == 0x20) _ (eq-eqb f.class 0x20 class) (ap (λ t. t || ((f.pid == 0x0030) && asks_again f.body)) (eq-eqb f.pid 0x0020 pid))

last_fetches : (f : Frame) → f.class ≡ 0x20 → f.pid ≡ 0x0030 → asks_again f.body ≡ true → is_fetch f ≡ true
last_fetches f class pid again =
    and_from (f.class == 0x20) _ (eq-eqb f.class 0x20 class) (ap (λ n. (n == 0x0020) || ((n == 0x0030) && asks_again f.body)) pid ∙ again)

-- who asks for the last message asks with the byte 01
asks_last : (none last advisory warning : Bool) → is_last (cond none asks.None (cond last asks.Last (cond advisory asks.Advisory (cond warning asks.Warning asks.Error)))) ≡ true → last ≡ true
asks_last true last advisory warning e = absurd cc
asks_last false true advisory warning e = refl
asks_last false false true warning e = absurd cc
asks_last false false false true e = absurd cc
asks_last false false false false e = absurd cc

again_is : (bytes : List ℕ) (n : ℕ) (ask : Ask) → bytes ≡ n ∷ [] → ask ≡ ask_of n → is_last ask ≡ true → asks_again bytes ≡ true
again_is bytes n ask body is last =
    let one : (n == 0x01) ≡ true = asks_last (n == 0x00) (n == 0x01) (n == 0x02) (n == 0x03) (ap is_last (sym is) ∙ last) in
    ap asks_again body ∙ one

status_responds : (b : outbox.Account) (f : Frame) (ask : Ask) (last : Bool) → is_last ask ≡ last → f.class ≡ 0x20 → f.pid ≡ 0x0030 → f.sub ≡ 0
    → (is_last ask ≡ true → asks_again f.body ≡ true) → AreResponses b → Responds f (ack_message (status_dispensed b ask))
status_responds b f ask true e class pid sub again are =
    fetched f (ack_message (status_dispensed b ask)) (last_fetches f class pid (again e)) (status_is b ask are)
status_responds b f ask false e class pid sub again are =
    subst (λ t. Responds f (ack_message (cond t (last_of b) (status_now b ask)))) (sym e)
    (own_responds f (ack_message (status_now b ask)) (sym (ap (λ n. n + 1) class)) (sym sub) (sym pid))

pub get_responds : (p : Parameters) (b : outbox.Account) (f : Frame) (v : Verdict) → f.class ≡ 0x20 → AreResponses b → got p f.sub f.pid f.body ≡ v → Responds f (response_of p.profile b f v)
get_responds p b f (Refuse nack) class are e = own_responds f (response_of p.profile b f (Refuse nack)) refl refl refl
get_responds p b f (Start work) class are e =
    either f (has_room b work) _ _ (own_responds f (own_response f 1 _) refl refl refl) (own_responds f (own_response f 2 _) refl refl refl)
get_responds p b f (Queue ask) class are e =
    fetched f (ack_message (dispensed b ask)) (queue_fetches f class (get_queues p f.sub f.pid f.body ask e).0) (dispensed_is b ask are)
get_responds p b f (Status ask) class are e =
    let asked = status_asked p f.sub f.pid f.body ask e in
    let pid = get_statuses p f.sub f.pid f.body ask e in
    status_responds b f ask (is_last ask) refl class pid asked.root (again_is f.body asked.byte ask asked.body asked.ask_is) are
get_responds p b f Clear class are e = own_responds f (response_of p.profile b f Clear) refl refl refl
get_responds p b f (Reply bytes) class are e = own_responds f (response_of p.profile b f (Reply bytes)) refl refl refl

-- ---- a SET

pub set_responds : (p : Parameters) (b : outbox.Account) (f : Frame) (v : Verdict) → answer_to_set p f.sub f.pid f.body ≡ v → Responds f (response_of p.profile b f v)
set_responds p b f (Refuse nack) e = own_responds f (response_of p.profile b f (Refuse nack)) refl refl refl
set_responds p b f (Start work) e =
    either f (has_room b work) _ _ (own_responds f (own_response f 1 _) refl refl refl) (own_responds f (own_response f 2 _) refl refl refl)
set_responds p b f (Queue ask) e = absurd ((set_fetches_nothing p f.sub f.pid f.body ask).0 e)
set_responds p b f (Status ask) e = absurd ((set_fetches_nothing p f.sub f.pid f.body ask).1 e)
set_responds p b f Clear e = own_responds f (response_of p.profile b f Clear) refl refl refl
set_responds p b f (Reply bytes) e = own_responds f (response_of p.profile b f (Reply bytes)) refl refl refl
