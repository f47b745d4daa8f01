-- What the devices of a line keep of bytes that were on it.
use Rattle.std.proofs.Common.{◌≡◌, ◌≢◌, ◌<◌, ◌≤◌, ◌+◌, ◌∷◌, ◌++◌, [], List, ℕ, zero, suc, length, map, take, drop, get_or, Bool, true, false, Option, refl, sym, ap, subst, ◌∙◌, arith, below_more}
use Rattle.std.specs.Prelude.{◌↔◌, None, is_some, IfSome, IsSomeAnd}
use Rattle.std.specs.List.{AllZip}
use Rattle.std.proofs.lemmas.Bool.{true≢false}
use Rattle.std.proofs.lemmas.List.{get_or_default, get_or-drop}
use Rattle.std.proofs.lemmas.Slice.Zip.{AllZip-long}
use Rattle.rdm_frame.specs.Reading.{frame_in}
use Rattle.rdm_params.specs.Commands.Changed.{change_of}
use Rattle.rdm_params.specs.Device.Parameters.{Parameters}
use Rattle.rdm_responder.specs.declared.stepped.Stepped.{Stepped}
use Rattle.rdm_responder.specs.History.{History, Heard, then_event}
use Rattle.rdm_responder.specs.Rules.{account_of, answered, job_of, reply_of}
use Rattle.rdm_responder.specs.StandsFor.{State, StandsFor}
use Rattle.rdm_responder.specs.Started.{job_in, IsAsInProfile}
use Rattle.rdm_line.specs.Hearing.{hears, heard_by}
use Rattle.rdm_line.specs.Keeping.{CameTo, HasKept, HaveKept}
use Rattle.rdm_line.proofs.Loops.{sofar, place, round}
use Rattle.rdm_line.proofs.Unheard.{Deaf}
use Rattle.rdm_line.proofs.Zips.{Cut, cut}

-- It replied exactly if there is a reply.
pub replied_as : (b : Bool) (w : List ℕ) (reply : Option (List ℕ)) → answered b w ≡ reply → b ≡ is_some reply
replied_as true w reply a = ap is_some a
replied_as false w reply a = ap is_some a

-- What a responder says of its step is what the bytes came to.
pub came : (state : State) (h : History) (bytes w : List ℕ) (stepped : Stepped) → StandsFor state h → answered stepped.replied w ≡ reply_of h bytes → job_in stepped.started ≡ job_of h bytes
    → IfSome stepped.started (IsAsInProfile state.parameters.profile)
    → (stepped.changed ≡ None) ↔ ((account_of (then_event h (Heard bytes))).parameters ≡ (account_of h).parameters)
    → IfSome stepped.changed (λ c. IsSomeAnd (frame_in bytes) (λ f. c ≡ change_of f.sub f.pid))
    → CameTo h bytes stepped
came state h bytes w stepped stands reply job table unchanged what = record {
  replied = replied_as stepped.replied w (reply_of h bytes) reply;
  job = job;
  table = subst (λ (p : Parameters). IfSome stepped.started (IsAsInProfile p.profile)) stands.parameters table;
  unchanged = unchanged;
  what = what;
}

-- ---- one device

pub kept_heard : {D : Type 0} (came_to : D → Option Stepped) (bytes : List ℕ) (h : History) (before after : D) → hears h.setup.uid bytes ≡ true → IfSome (came_to after) (CameTo h bytes) → HasKept came_to bytes h before after
kept_heard came_to bytes h before after hearing came =
    record { heard = λ _. came; unheard = λ deaf. absurd (true≢false (sym hearing ∙ deaf)) }

pub kept_unheard : {D : Type 0} (came_to : D → Option Stepped) (bytes : List ℕ) (h : History) (d : D) → hears h.setup.uid bytes ≡ false → HasKept came_to bytes h d d
kept_unheard came_to bytes h d deaf =
    record { heard = λ hearing. absurd (true≢false (sym hearing ∙ deaf)); unheard = λ _. refl }

-- ---- a line of those

abbrev Same : {D : Type 0} → List D → List D → ℕ → Type 0
Same {D} before after j = (d : D) → get_or after j d ≡ get_or before j d

-- None of them has heard the bytes.
pub none_kept : {D : Type 0} (R : D → History → Type 0) (came_to : D → Option Stepped) (bytes : List ℕ) (hs : List History) (ds es : List D) → AllZip R ds hs → length es ≡ length ds → ((j : ℕ) → Same ds es j) → Deaf bytes hs → HaveKept came_to bytes hs ds es
none_kept R came_to bytes [] [] es all long same deaf = tt
none_kept R came_to bytes [] (d ∷ ds) es all long same deaf = absurd all
none_kept R came_to bytes (h ∷ hs) [] es all long same deaf = absurd all
none_kept R came_to bytes (h ∷ hs) (d ∷ ds) [] all long same deaf = absurd (omega (arith, long))
none_kept {D} R came_to bytes (h ∷ hs) (d ∷ ds) (e ∷ es) all long same deaf = (
  subst (λ (x : D). HasKept came_to bytes h d x) (sym (same 0 d)) (kept_unheard came_to bytes h d deaf.0),
  none_kept R came_to bytes hs ds es all.1 (omega (arith, long)) (λ j. same (suc j)) deaf.1,
)

-- One of them has heard the bytes.
pub one_kept : {D : Type 0} (R : D → History → Type 0) (came_to : D → Option Stepped) (bytes : List ℕ) (before : List History) (h : History) (after : List History) (ds es : List D) (i : ℕ)
    → length before ≡ i → AllZip R ds (before ++ h ∷ after) → length es ≡ length ds → ((j : ℕ) (d : D) → j ≢ i → get_or es j d ≡ get_or ds j d)
    → Deaf bytes before → Deaf bytes after → ((d e : D) → HasKept came_to bytes h e (get_or es i d))
    → HaveKept came_to bytes (before ++ h ∷ after) ds es
one_kept R came_to bytes [] h after [] es i e all long others deaf deaf' kept = absurd all
one_kept R came_to bytes (k ∷ before) h after [] es i e all long others deaf deaf' kept = absurd all
one_kept R came_to bytes before h after (d ∷ ds) [] i e all long others deaf deaf' kept = absurd (omega (arith, long))
one_kept R came_to bytes [] h after (d ∷ ds) (x ∷ es) zero e all long others deaf deaf' kept =
    (kept d d, none_kept R came_to bytes after ds es all.1 (omega (arith, long)) (λ j a. others (suc j) a (omega arith)) deaf')
one_kept R came_to bytes [] h after (d ∷ ds) (x ∷ es) (suc i) e all long others deaf deaf' kept = absurd (omega (arith, e))
one_kept R came_to bytes (k ∷ before) h after (d ∷ ds) (x ∷ es) zero e all long others deaf deaf' kept = absurd (omega (arith, e))
one_kept {D} R came_to bytes (k ∷ before) h after (d ∷ ds) (x ∷ es) (suc i) e all long others deaf deaf' kept = (
  subst (λ (y : D). HasKept came_to bytes k d y) (sym (others 0 d (omega arith))) (kept_unheard came_to bytes k d deaf.0),
  one_kept R came_to bytes before h after ds es i (omega (arith, e)) all.1 (omega (arith, long)) (λ j a other. others (suc j) a (omega (arith, other))) deaf.1 deaf' kept,
)

-- ---- one after another

abbrev pub KeptAt : {D : Type 0} → (D → Option Stepped) → List ℕ → List History → List D → List D → ℕ → Type 0
KeptAt {D} came_to bytes hs before after j = (h : History) (d e : D) → HasKept came_to bytes (get_or hs j h) (get_or before j d) (get_or after j e)

-- what holds at each place
pub all_kept : {D : Type 0} (R : D → History → Type 0) (came_to : D → Option Stepped) (bytes : List ℕ) (hs : List History) (before after : List D) → AllZip R before hs → length after ≡ length before
    → ((j : ℕ) → j < length before → KeptAt came_to bytes hs before after j) → HaveKept came_to bytes hs before after
all_kept R came_to bytes [] [] after all e each = tt
all_kept R came_to bytes [] (d ∷ ds) after all e each = absurd all
all_kept R came_to bytes (h ∷ hs) [] after all e each = absurd all
all_kept R came_to bytes (h ∷ hs) (d ∷ ds) [] all e each = absurd (omega (arith, e))
all_kept R came_to bytes (h ∷ hs) (d ∷ ds) (x ∷ xs) all e each =
    (each 0 (omega arith) h d x, all_kept R came_to bytes hs ds xs all.1 (omega (arith, e)) (λ j lt k a b. each (suc j) (omega (arith, lt)) k a b))

cut_at : (hs : List History) (i : ℕ) (c : Cut hs i) (h : History) → get_or hs i h ≡ c.item
cut_at hs i c h = ap (λ (j : ℕ). get_or hs j h) (omega arith) ∙ sym (get_or-drop i hs 0 h) ∙ ap (λ (ks : List History). get_or ks 0 h) c.rest

-- The next device has heard the bytes too.
pub next_kept : {D : Type 0} (R : D → History → Type 0) (came_to : D → Option Stepped) (bytes : List ℕ) (initial now later : List D) (hs : List History) (i : ℕ) → AllZip R initial hs → i < length initial → AllZip R now (sofar bytes hs i)
    → ((j : ℕ) (d : D) → i ≤ j → get_or now j d ≡ get_or initial j d) → ((j : ℕ) (d : D) → j ≢ i → get_or later j d ≡ get_or now j d)
    → ((j : ℕ) → j < i → KeptAt came_to bytes hs initial now j)
    → ((before after : List History) (h : History) → length before ≡ i → AllZip R now (before ++ h ∷ after) → (d : D) → HasKept came_to bytes h (get_or now i d) (get_or later i d))
    → (j : ℕ) → j < i + 1 → KeptAt came_to bytes hs initial later j
next_kept {D} R came_to bytes initial now later hs i all within stands left others done step =
    let c = cut hs i (omega (arith, AllZip-long R initial hs all)) in
    below_more (λ (j : ℕ). KeptAt came_to bytes hs initial later j) i
    (λ j lt h d e. (let other : j ≢ i = omega arith in
    subst (λ (x : D). HasKept came_to bytes (get_or hs j h) (get_or initial j d) x) (sym (others j e other)) (done j lt h d e)))
    (λ h d e.
    subst (λ (k : History). HasKept came_to bytes k (get_or initial i d) (get_or later i e)) (sym (cut_at hs i c h))
    (subst (λ (x : D). HasKept came_to bytes c.item x (get_or later i e)) (left i e (omega arith) ∙ get_or_default initial i e d within)
    (step (map (heard_by bytes) (take i hs)) (drop (suc i) hs) c.item (place bytes hs i c) (subst (AllZip R now) (round bytes hs i c) stands) e)))
