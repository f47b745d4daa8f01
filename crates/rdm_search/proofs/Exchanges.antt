-- What a port hears, exchange after exchange.
use Rattle.std.proofs.Common.{◌≡◌, ℕ, List, [], ◌∷◌, ◌++◌, map, Option, Some, None, refl, sym, ap, ◌∙◌, subst, inl, inr, arith}
use Rattle.std.specs.Prelude.{All, Contains}
use Rattle.std.specs.Option.{option_to_list}
use Rattle.std.proofs.lemmas.Bool.{cases_Bool, cond-true, cond-false}
use Rattle.std.proofs.lemmas.List.{append-nil, append_assoc, map-append}
use Rattle.std.proofs.lemmas.List.Elements.{All-nil, All-cons, All-append, Contains-append_left, Contains-append_right}
use Rattle.rdm_frame.specs.declared.uid.Uid.{Uid}
use Rattle.rdm_frame.specs.declared.frame.Frame.{Frame}
use Rattle.rdm_search.specs.declared.found.Found.{Found}
use Rattle.rdm_search.specs.declared.request.Request.{Request}
use Rattle.rdm_search.specs.declared.request.Request.TheVariants.{Mute}
use Rattle.rdm_search.specs.declared.stage.Stage.{Stage}
use Rattle.rdm_search.specs.declared.stage.Stage.TheVariants.{Start, Asking, Muting, Ended}
use Rattle.rdm_search.specs.Answers.{mute_answer, knows, newcomer}
use Rattle.rdm_search.specs.Exchanges.{Exchange, IsRun, IsAsked, IsSaid, HasHeard}
use Rattle.rdm_search.specs.Requests.{request_frame}
use Rattle.rdm_search.specs.Searches.{found_after}
use Rattle.rdm_search.specs.Stages.{request_of}
use Rattle.rdm_search.proofs.Hearings.{answer_of}

abbrev Relation : Type 0 → Type 1
Relation P = P → Frame → List ℕ → P → Type 0

-- ---- runs

pub run_then : {P : Type 0} (hears : Relation P) (xs ys : List Exchange) (a b c : P) → IsRun hears xs a b → IsRun hears ys b c → IsRun hears (xs ++ ys) a c
run_then hears [] ys a b c e later = subst (λ p. IsRun hears ys p c) e later
run_then hears (x ∷ xs) ys a b c first later = (first.0, first.1, run_then hears xs ys first.0 b c first.2 later)

-- A frame that is sent once.
pub once : {P : Type 0} (hears : Relation P) (a b : P) (frame : Frame) (heard : List ℕ) → hears a frame heard b → IsAsked hears a frame heard b
once hears a b frame heard h = ([], (b, h, refl))

abbrev pub sends : Frame → List ℕ → Exchange
sends frame heard = record { frame = frame; heard = heard }

-- It is sent again.
pub asked_again : {P : Type 0} (hears : Relation P) (a b c : P) (frame : Frame) (heard last : List ℕ) → IsAsked hears a frame heard b → hears b frame last c → IsAsked hears a frame last c
asked_again hears a b c frame heard last before h = (
  before.0 ++ heard ∷ [],
  subst (λ (xs : List Exchange). IsRun hears xs a c) (sym (map-append (sends frame) (before.0 ++ heard ∷ []) (last ∷ [])))
      (run_then hears (map (sends frame) (before.0 ++ heard ∷ [])) (sends frame last ∷ []) a b c before.1 (c, h, refl)),
)

-- ---- what was said

pub nothing_said : {P : Type 0} (hears : Relation P) (source : Uid) (run : List Exchange) (a b : P) (known found : List Found) → IsRun hears run a b → found ≡ known → HasHeard hears source a b known found
nothing_said hears source run a b known found took e =
    record { run = run; took = took; more = []; behind = e ∙ sym (append-nil known); said = All-nil (IsSaid run source) }

said_before : (xs ys : List Exchange) (source : Uid) (x : Found) → IsSaid xs source x → IsSaid (xs ++ ys) source x
said_before xs ys source x said =
    record { tn = said.tn; heard = said.heard; muted = Contains-append_left xs ys _ said.muted; answer = said.answer }

said_later : (xs ys : List Exchange) (source : Uid) (x : Found) → IsSaid ys source x → IsSaid (xs ++ ys) source x
said_later xs ys source x said =
    record { tn = said.tn; heard = said.heard; muted = Contains-append_right xs ys _ said.muted; answer = said.answer }

-- One after another.
pub heard_then : {P : Type 0} (hears : Relation P) (source again : Uid) (a b c : P) (k l m : List Found) → HasHeard hears source a b k l → again ≡ source → HasHeard hears again b c l m → HasHeard hears source a c k m
heard_then {P} hears source again a b c k l m first e so =
    let later = subst (λ (s : Uid). HasHeard hears s b c l m) e so in
    record {
      run = first.run ++ later.run;
      took = run_then hears first.run later.run a b c first.took later.took;
      more = first.more ++ later.more;
      behind = later.behind ∙ ap (λ (xs : List Found). xs ++ later.more) first.behind ∙ append_assoc k first.more later.more;
      said =
          All-append (IsSaid (first.run ++ later.run) source) first.more later.more
          (λ i d lt. said_before first.run later.run source _ (first.said i d lt))
          (λ i d lt. said_later first.run later.run source _ (later.said i d lt));
    }

-- The same, of what is called otherwise.
pub heard_as : {P : Type 0} (hears : Relation P) (source other : Uid) (a b : P) (known before found after : List Found) → HasHeard hears other a b before after → other ≡ source → before ≡ known → found ≡ after → HasHeard hears source a b known found
heard_as hears source other a b known before found after heard same from_ to =
    subst (λ (s : Uid). HasHeard hears s a b known found) same
    (subst (λ (k : List Found). HasHeard hears other a b k found) from_
    (subst (λ (f : List Found). HasHeard hears other a b before f) (sym to) heard))

-- ---- one request

newcomer_said : (found : List Found) (u : Uid) (heard : List ℕ) (x : Found) → newcomer found u heard ≡ Some x → mute_answer u heard ≡ Some x
newcomer_said found u heard x e =
    elim (cases_Bool (knows found u)) [
      | inl k ↦
          let none : None ≡ Some x = sym (cond-true (knows found u) None (mute_answer u heard) k) ∙ e in
          absurd cc
      | inr n ↦ sym (cond-false (knows found u) None (mute_answer u heard) n) ∙ e
    ]

all_of : (P : Found → Type 0) (o : Option Found) → ((x : Found) → o ≡ Some x → P x) → All P (option_to_list o)
all_of P None each = All-nil P
all_of P (Some x) each = All-cons P x [] (each x refl) (All-nil P)

last_there : (frame : Frame) (others : List (List ℕ)) (heard : List ℕ) → Contains (map (sends frame) (others ++ heard ∷ [])) (sends frame heard)
last_there frame others heard =
    subst (λ (xs : List Exchange). Contains xs (sends frame heard)) (sym (map-append (sends frame) others (heard ∷ [])))
    (Contains-append_right (map (sends frame) others) (sends frame heard ∷ []) (sends frame heard) (0, omega arith, refl))

is_said : (source u : Uid) (tn : ℕ) (others : List (List ℕ)) (heard : List ℕ) (x : Found) → mute_answer u heard ≡ Some x → IsSaid (map (sends (request_frame source tn (Mute u))) (others ++ heard ∷ [])) source x
is_said source u tn others heard x e =
    let own = answer_of u heard x e in
    record {
      tn = tn;
      heard = heard;
      muted = subst (λ (v : Uid). Contains (map (sends (request_frame source tn (Mute u))) (others ++ heard ∷ [])) (sends (request_frame source tn (Mute v)) heard)) (sym own) (last_there (request_frame source tn (Mute u)) others heard);
      answer = subst (λ (v : Uid). mute_answer v heard ≡ Some x) (sym own) e;
    }

mute_said : {P : Type 0} (hears : Relation P) (source u : Uid) (tn : ℕ) (a b : P) (found found' : List Found) (heard : List ℕ) → IsAsked hears a (request_frame source tn (Mute u)) heard b → found' ≡ found ++ option_to_list (newcomer found u heard) → HasHeard hears source a b found found'
mute_said hears source u tn a b found found' heard asked e = record {
  run = map (sends (request_frame source tn (Mute u))) (asked.0 ++ heard ∷ []);
  took = asked.1;
  more = option_to_list (newcomer found u heard);
  behind = e;
  said =
      all_of (IsSaid (map (sends (request_frame source tn (Mute u))) (asked.0 ++ heard ∷ [])) source) (newcomer found u heard)
      (λ x is. is_said source u tn asked.0 heard x (newcomer_said found u heard x is));
}

-- A request is asked, and what its answer says is noted.
pub asked_said : {P : Type 0} (hears : Relation P) (source : Uid) (tn : ℕ) (stage : Stage) (request : Request) (a b : P) (found found' : List Found) (heard : List ℕ) → request_of stage ≡ Some request
    → IsAsked hears a (request_frame source tn request) heard b → found' ≡ found_after stage found heard → HasHeard hears source a b found found'
asked_said hears source tn Start request a b found found' heard e asked noted = nothing_said hears source _ a b found found' asked.1 noted
asked_said hears source tn (Asking r) request a b found found' heard e asked noted = nothing_said hears source _ a b found found' asked.1 noted
asked_said hears source tn (Muting r u) request a b found found' heard e asked noted =
    let this : request ≡ Mute u = cc in
    mute_said hears source u tn a b found found' heard (subst (λ (q : Request). IsAsked hears a (request_frame source tn q) heard b) this asked) noted
asked_said hears source tn Ended request a b found found' heard e asked noted = nothing_said hears source _ a b found found' asked.1 noted
