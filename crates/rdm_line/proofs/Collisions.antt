-- Only answers to DISC_UNIQUE_BRANCH collide.
use Rattle.std.proofs.Common.{◌≡◌, ◌≢◌, ℕ, zero, suc, ◌<◌, ◌≤◌, true, false, List, [], ◌∷◌, ◌++◌, length, get_or, Option, Some, None, refl, sym, ap, subst, ◌∙◌, inl, inr, arith}
use Rattle.std.specs.Prelude.{◌&&◌, ◌==◌, AllPairs}
use Rattle.std.specs.Option.{option_to_list}
use Rattle.std.specs.Bool.{⊤}
use Rattle.std.proofs.lemmas.Bool.{cond_both, cond-true, and_parts, eqb-true, cases_Bool, both_ways}
use Rattle.std.proofs.lemmas.List.{append-nil, length-map}
use Rattle.rdm_frame.specs.declared.uid.Uid.{Uid}
use Rattle.rdm_frame.specs.declared.frame.Frame.{Frame}
use Rattle.rdm_frame.specs.Addressing.{is_broadcast, is_addressed, same_uid}
use Rattle.rdm_frame.specs.Reading.{frame_in, uid_at}
use Rattle.rdm_responder.specs.History.{History}
use Rattle.rdm_responder.specs.Requests.{Request, Ignored, Branch, Muting, Get, Set, discovery_of, get_of, request_of, request_in}
use Rattle.rdm_responder.specs.Rules.{Account, Response, account_of, answer_to, answer_with, reply_of}
use Rattle.rdm_line.specs.Hearing.{answers}
use Rattle.rdm_line.specs.Laws.{UnheardBytesChangeNothing, IsBranch, BroadcastsAreUnanswered, OneDeviceAnswers, OnlyBranchesCollide}
use Rattle.rdm_line.specs.Line.{uids_of}
use Rattle.rdm_line.proofs.Alone.{Others, others, others_deaf, uid_decides}
use Rattle.rdm_line.proofs.Unheard.{Deaf, deaf_silent, frame_read, unanswered, unchanged}

pub unheard : UnheardBytesChangeNothing
unheard h bytes deaf = (unanswered h bytes deaf, unchanged h bytes deaf)

-- ---- what a request comes from

abbrev Fits : Frame → Request → Type 0
Fits f Ignored = ⊤
Fits f (Branch low high) = (f.class ≡ 0x10) × (f.pid ≡ 0x0001)
Fits f (Muting muted g) = g ≡ f
Fits f (Get g) = (g ≡ f) × (is_broadcast f.dst ≡ false)
Fits f (Set g) = g ≡ f

fits_discovery : (f : Frame) → f.class ≡ 0x10 → Fits f (discovery_of f)
unfolding discovery_of
fits_discovery f class =
    cond_both (f.sub == 0) _ _ (Fits f)
    (λ root.
    cond_both ((f.pid == 0x0001) && (length f.body == 12)) _ _ (Fits f) (λ t. (class, eqb-true f.pid 0x0001 (and_parts (f.pid == 0x0001) (length f.body == 12) t).0))
    (λ other.
    cond_both ((f.pid == 0x0002) && (length f.body == 0)) _ _ (Fits f) (λ t. refl)
    (λ no_mute. cond_both ((f.pid == 0x0003) && (length f.body == 0)) _ _ (Fits f) (λ t. refl) (λ none. tt))))
    (λ sub. tt)

fits_get : (f : Frame) → Fits f (get_of f)
fits_get f = cond_both (is_broadcast f.dst) _ _ (Fits f) (λ all. tt) (λ single. (refl, single))

pub fits_request : (own : Uid) (f : Frame) → Fits f (request_of own f)
fits_request own f =
    cond_both (is_addressed own f.dst) _ _ (Fits f)
    (λ addressed.
    cond_both (f.class == 0x10) _ _ (Fits f) (λ t. fits_discovery f (eqb-true f.class 0x10 t))
    (λ other. cond_both (f.class == 0x20) _ _ (Fits f) (λ t. fits_get f) (λ no_get. cond_both (f.class == 0x30) _ _ (Fits f) (λ t. refl) (λ none. tt))))
    (λ apart. tt)

pub no_answer : (own : Uid) (f g : Frame) (count : ℕ) (r : Response) → g ≡ f → is_broadcast f.dst ≡ true → answer_with own g count r ≡ None
unfolding answer_with
no_answer own f g count r e all = cond-true (is_broadcast g.dst) _ _ (ap (λ (x : Frame). is_broadcast x.dst) e ∙ all)

no_reply : (a : Account) (f : Frame) (r : Request) → Fits f r → is_broadcast f.dst ≡ true → ((f.class ≡ 0x10) × (f.pid ≡ 0x0001) → ⊥) → answer_to a r ≡ None
no_reply a f Ignored fits all other = refl
no_reply a f (Branch low high) fits all other = absurd (other fits)
no_reply a f (Muting muted g) fits all other = no_answer _ f g _ _ fits all
no_reply a f (Get g) fits all other = absurd (both_ways (is_broadcast f.dst) fits.1 all)
no_reply a f (Set g) fits all other = no_answer _ f g _ _ fits all

-- ---- who answers

pub silent_all : (hs : List History) (bytes : List ℕ) → ((h : History) → reply_of h bytes ≡ None) → answers bytes hs ≡ []
silent_all [] bytes none = refl
silent_all (h ∷ hs) bytes none = ap (λ (o : Option (List ℕ)). option_to_list o ++ answers bytes hs) (none h) ∙ silent_all hs bytes none

pub broadcasts : BroadcastsAreUnanswered
broadcasts hs bytes f e all other =
    silent_all hs bytes
    (λ h.
    ap (λ (o : Option Frame). answer_to (account_of h) (request_in (account_of h).setup.uid o)) e
    ∙ no_reply (account_of h) f (request_of (account_of h).setup.uid f) (fits_request (account_of h).setup.uid f) all (λ is. other (f, e, is.0, is.1)))

-- the devices behind one have other UIDs
later : (h : History) (hs : List History) (dst : Uid) → AllPairs (λ u v. u ≢ v) (uids_of (h ∷ hs)) → h.setup.uid ≡ dst → Others dst hs
later h hs dst apart e = others dst hs (λ j lt is. apart 0 (suc j) dst (omega arith) (omega (arith, lt)) (e ∙ sym is))

tail_apart : (h : History) (hs : List History) → AllPairs (λ u v. u ≢ v) (uids_of (h ∷ hs)) → AllPairs (λ u v. u ≢ v) (uids_of hs)
tail_apart h hs apart i j d lt within = apart (suc i) (suc j) d (omega (arith, lt)) (omega (arith, within))

-- the answers, where those behind are silent
alone_answer : (h : History) (hs : List History) (bytes : List ℕ) → Deaf bytes hs → answers bytes (h ∷ hs) ≡ option_to_list (reply_of h bytes)
alone_answer h hs bytes deaf = ap (λ (xs : List (List ℕ)). option_to_list (reply_of h bytes) ++ xs) (deaf_silent bytes hs deaf) ∙ append-nil _

few : (o : Option (List ℕ)) → length (option_to_list o) ≤ 1
few None = omega arith
few (Some x) = omega arith

-- Bytes for one device have one answer at most.
at_most_one : (hs : List History) (bytes : List ℕ) → AllPairs (λ u v. u ≢ v) (uids_of hs) → is_broadcast (uid_at bytes 3) ≡ false → length (answers bytes hs) ≤ 1
at_most_one [] bytes apart single = omega arith
at_most_one (h ∷ hs) bytes apart single =
    elim (cases_Bool (same_uid h.setup.uid (uid_at bytes 3))) [
      | inl same ↦
          (
          let deaf = others_deaf bytes hs single (later h hs (uid_at bytes 3) apart ((uid_decides h.setup.uid (uid_at bytes 3)).0 same)) in
          subst (λ (xs : List (List ℕ)). length xs ≤ 1) (sym (alone_answer h hs bytes deaf)) (few (reply_of h bytes))
          )
      | inr other ↦
          (
          let apart_from : h.setup.uid ≢ uid_at bytes 3 = λ e. both_ways _ other ((uid_decides h.setup.uid (uid_at bytes 3)).1 e) in
          let deaf = others_deaf bytes (h ∷ []) single (apart_from, tt) in
          subst (λ (o : Option (List ℕ)). length (option_to_list o ++ answers bytes hs) ≤ 1) (sym (unanswered h bytes deaf.0)) (at_most_one hs bytes (tail_apart h hs apart) single)
          )
    ]

by_frame : (hs : List History) (bytes : List ℕ) (found : Option Frame) → frame_in bytes ≡ found → AllPairs (λ u v. u ≢ v) (uids_of hs) → (IsBranch bytes → ⊥) → length (answers bytes hs) ≤ 1
by_frame hs bytes None e apart other =
    let none : answers bytes hs ≡ [] = silent_all hs bytes (λ h. ap (λ (o : Option Frame). answer_to (account_of h) (request_in (account_of h).setup.uid o)) e) in
    subst (λ (xs : List (List ℕ)). length xs ≤ 1) (sym none) (omega arith)
by_frame hs bytes (Some f) e apart other =
    elim (cases_Bool (is_broadcast f.dst)) [
      | inl all ↦ subst (λ (xs : List (List ℕ)). length xs ≤ 1) (sym (broadcasts hs bytes f e all other)) (omega arith)
      | inr single ↦ at_most_one hs bytes apart (ap is_broadcast (sym (frame_read bytes f e).dst) ∙ single)
    ]

pub collide : OnlyBranchesCollide
collide hs bytes apart other = by_frame hs bytes (frame_in bytes) refl apart other

-- a later device has another UID than the first
uid_later : (hs : List History) (h : History) (i : ℕ) (d : Uid) → i < length hs → get_or hs i h ≡ h → get_or (uids_of hs) i d ≡ h.setup.uid
uid_later [] h i d lt at = absurd (omega (arith, lt))
uid_later (k ∷ hs) h zero d lt at = ap (λ (x : History). x.setup.uid) at
uid_later (k ∷ hs) h (suc i) d lt at = uid_later hs h i d (omega (arith, lt)) at

apart_head : (k : History) (hs : List History) (h : History) (i : ℕ) (dst : Uid) → AllPairs (λ u v. u ≢ v) (uids_of (k ∷ hs)) → i < length hs → get_or hs i h ≡ h → h.setup.uid ≡ dst → k.setup.uid ≡ dst → ⊥
apart_head k hs h i dst apart lt at own e =
    let n = length-map hs (λ (x : History). x.setup.uid) in
    apart 0 (suc i) dst (omega arith) (omega (arith, lt, n)) (e ∙ sym own ∙ sym (uid_later hs h i dst lt at))

one_there : (hs : List History) (h : History) (i : ℕ) (bytes : List ℕ) → AllPairs (λ u v. u ≢ v) (uids_of hs) → i < length hs → get_or hs i h ≡ h → is_broadcast (uid_at bytes 3) ≡ false → h.setup.uid ≡ uid_at bytes 3 → answers bytes hs ≡ option_to_list (reply_of h bytes)
one_there [] h i bytes apart lt at single own = absurd (omega (arith, lt))
one_there (k ∷ hs) h zero bytes apart lt at single own =
    let same : k.setup.uid ≡ uid_at bytes 3 = ap (λ (x : History). x.setup.uid) at ∙ own in
    alone_answer k hs bytes (others_deaf bytes hs single (later k hs (uid_at bytes 3) apart same)) ∙ ap (λ (x : History). option_to_list (reply_of x bytes)) at
one_there (k ∷ hs) h (suc i) bytes apart lt at single own =
    let rest = one_there hs h i bytes (tail_apart k hs apart) (omega (arith, lt)) at single own in
    let apart_from : k.setup.uid ≢ uid_at bytes 3 = λ e. apart_head k hs h i (uid_at bytes 3) apart (omega (arith, lt)) at own e in
    let deaf = others_deaf bytes (k ∷ []) single (apart_from, tt) in
    ap (λ (o : Option (List ℕ)). option_to_list o ++ answers bytes hs) (unanswered k bytes deaf.0) ∙ rest

pub one_answers : OneDeviceAnswers
one_answers hs h bytes f apart there e single own =
    let dst = (frame_read bytes f e).dst in
    one_there hs h there.0 bytes apart there.1 there.2 (ap is_broadcast (sym dst) ∙ single) (own ∙ dst)
