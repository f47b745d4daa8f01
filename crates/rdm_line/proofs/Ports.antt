-- A line as the port of a search.
use Rattle.std.proofs.Common.{◌≡◌, ◌≢◌, ℕ, zero, suc, ◌%◌, ◌^◌, ◌<◌, Bool, List, [], ◌∷◌, length, get_or, map, refl, sym, ap, subst, ◌∙◌, inl, inr, arith}
use Rattle.std.specs.Prelude.{◌==◌, zip, IsSome, All, AllPairs}
use Rattle.std.specs.List.{AllZip}
use Rattle.std.proofs.Props.{props}
use Rattle.std.proofs.lemmas.Bool.{false_from_ne_true}
use Rattle.std.proofs.lemmas.Bool.Decides.{Decides-eqb}
use Rattle.std.proofs.lemmas.List.{length-map}
use mathlib.Core.Logic.{∥∥₁_elim, ∥∥₁_map}
use Rattle.rdm_frame.specs.declared.uid.Uid.{Uid}
use Rattle.rdm_frame.specs.Discovery.{branch_reply}
use Rattle.rdm_frame.specs.FrameText.{frame_text, IsFrame}
use Rattle.rdm_frame.specs.UidNumber.{uid_number}
use Rattle.rdm_search.specs.declared.request.Request.{Request}
use Rattle.rdm_search.specs.declared.request.Request.TheVariants.{UnMute, UniqueBranch, Mute}
use Rattle.rdm_search.specs.Answers.{mute_answer}
use Rattle.rdm_search.specs.Line.{Fixture, IsCalled, IsDevice, IsHeard, after_request, callers, uids}
use Rattle.rdm_search.specs.Requests.{request_frame, IsRequest}
use Rattle.rdm_responder.specs.History.{History}
use Rattle.rdm_responder.specs.Rules.{account_of, is_muted}
use Rattle.rdm_line.specs.declared.on_wire.OnWire.{OnWire}
use Rattle.rdm_line.specs.Collisions.{on_wire}
use Rattle.rdm_line.specs.Hearing.{answers, heard_by}
use Rattle.rdm_line.specs.Line.{State, StandFor, AreInOrder, uid_of, uids_of}
use Rattle.rdm_line.specs.Searching.{fixture_of, fixtures_of, HasHistories}
use Rattle.rdm_line.proofs.Searches.{at_map, number_again}
use Rattle.rdm_line.proofs.Searching.{requests_mute, requests_are_heard, branch_answers, branch_reply_of, called, there_or_not}

-- ---- the UIDs of a line

single_uid : (n : ℕ) → n < 2 ^ 48 → n % 2 ^ 32 < 0xFFFFFFFF → IsDevice (uid_of n)
single_uid n fits single = record {
  fits = record { maker = omega (arith, fits); device = omega arith };
  one = false_from_ne_true (n % 2 ^ 32 == 0xFFFFFFFF) (λ t. (let e = (Decides-eqb (n % 2 ^ 32) 0xFFFFFFFF).0 t in omega (arith, e, single)));
}

pub all_devices_of : (ns : List ℕ) → AreInOrder ns → All (λ u. IsDevice u) (map uid_of ns)
all_devices_of ns order k d lt =
    let within : k < length ns = omega (arith, length-map ns uid_of, lt) in
    subst IsDevice (sym (at_map ns k 0 d within)) (single_uid (get_or ns k 0) (order.fit k within) (order.single k within))

pub all_differ : (ns : List ℕ) → AreInOrder ns → AllPairs (λ u v. u ≢ v) (map uid_of ns)
all_differ ns order i j d lt within e =
    let here : j < length ns = omega (arith, length-map ns uid_of, within) in
    let there : i < length ns = omega (arith, here, lt) in
    let same : get_or ns i 0 ≡ get_or ns j 0 =
    sym (number_again (get_or ns i 0)) ∙ ap uid_number (sym (at_map ns i 0 d there) ∙ e ∙ at_map ns j 0 d here) ∙ number_again (get_or ns j 0) in
    omega (arith, order.rise i j lt here, same)

-- ---- the fixtures of a line

-- A device is muted if its history says so.
abbrev pub Mutings : {D : Type 0} → (D → History → Type 0) → (D → Bool) → Type 0
Mutings {D} stands muted = (d : D) (h : History) → stands d h → muted d ≡ is_muted (account_of h).mutings

abbrev pairs : {D : Type 0} → (D → Bool) → List Uid → List D → List Fixture
pairs muted us ds = map (λ x. record { uid = x.0; muted = muted x.1 }) (zip us ds)

fixtures_zip : {D : Type 0} (stands : D → History → Type 0) (muted : D → Bool) → Mutings stands muted → (ds : List D) (hs : List History) → AllZip stands ds hs → map fixture_of hs ≡ pairs muted (uids_of hs) ds
fixtures_zip stands muted says [] [] zip = refl
fixtures_zip stands muted says [] (h ∷ hs) zip = absurd zip
fixtures_zip stands muted says (d ∷ ds) [] zip = absurd zip
fixtures_zip stands muted says (d ∷ ds) (h ∷ hs) zip = rw (says d h zip.0, fixtures_zip stands muted says ds hs zip.1) refl

pub fixtures_are : {D : Type 0} (stands : D → History → Type 0) (muted : D → Bool) → Mutings stands muted → (line : State D) (hs : List History) → StandFor stands line hs → map fixture_of hs ≡ fixtures_of muted line
fixtures_are stands muted says line hs stand =
    fixtures_zip stands muted says line.devices hs stand.each ∙ ap (λ (us : List Uid). pairs muted us line.devices) stand.uids

all_pairs : {D : Type 0} (muted : D → Bool) (us : List Uid) (ds : List D) → All (λ u. IsDevice u) us → All (λ f. IsDevice f.uid) (pairs muted us ds)
all_pairs muted [] ds all k f lt = absurd (omega (arith, lt))
all_pairs muted (u ∷ us) [] all k f lt = absurd (omega (arith, lt))
all_pairs muted (u ∷ us) (d ∷ ds) all zero f lt = all 0 u (omega arith)
all_pairs muted (u ∷ us) (d ∷ ds) all (suc k) f lt = all_pairs muted us ds (λ j v below. all (suc j) v (omega (arith, below))) k f (omega (arith, lt))

pub devices_of : {D : Type 0} (muted : D → Bool) (line : State D) → All (λ u. IsDevice u) line.uids → All (λ f. IsDevice f.uid) (fixtures_of muted line)
devices_of muted line all = all_pairs muted line.uids line.devices all

-- ---- a request of a search

-- what is known when a line was asked
pub record Asked {D : Type 0} (stands : D → History → Type 0) (muted : D → Bool) (old new : State D) (bytes wire : List ℕ) (told : OnWire) : Type 0 where
  pub says : Mutings stands muted
  pub alive : HasHistories stands old
  pub line : (hs : List History) → StandFor stands old hs → (told, wire) ≡ on_wire old.rule [] (answers bytes hs)
  pub after : (hs : List History) → StandFor stands old hs → StandFor stands new (map (heard_by bytes) hs)
  pub devices : All (λ u. IsDevice u) old.uids
  pub differ : AllPairs (λ u v. u ≢ v) old.uids

pub lives_on : {D : Type 0} (stands : D → History → Type 0) (muted : D → Bool) (old new : State D) (bytes wire : List ℕ) (told : OnWire) → Asked stands muted old new bytes wire told → HasHistories stands new
lives_on stands muted old new bytes wire told is = ∥∥₁_map is.alive (λ p. (map (heard_by bytes) p.0, is.after p.0 p.1))

fixtures_set : (fs gs : List Fixture) → IsProp (fs ≡ gs)
fixtures_set = hlevel props

pub muted_after : {D : Type 0} (stands : D → History → Type 0) (muted : D → Bool) (old new : State D) (wire : List ℕ) (told : OnWire) (request : Request) (source : Uid) (tn : ℕ) → IsRequest request → IsFrame (request_frame source tn request)
    → Asked stands muted old new (frame_text (request_frame source tn request)) wire told → fixtures_of muted new ≡ after_request request (fixtures_of muted old)
muted_after stands muted old new wire told request source tn is fits asked =
    ∥∥₁_elim asked.alive (fixtures_set _ _) (λ p.
    sym (fixtures_are stands muted asked.says new _ (asked.after p.0 p.1)) ∙ requests_mute p.0 request source tn is fits
    ∙ ap (after_request request) (fixtures_are stands muted asked.says old p.0 p.1))

-- of these histories
heard_of : {D : Type 0} (stands : D → History → Type 0) (muted : D → Bool) (old new : State D) (wire : List ℕ) (told : OnWire) (request : Request) (source : Uid) (tn : ℕ) → IsRequest request → IsFrame (request_frame source tn request)
    → Asked stands muted old new (frame_text (request_frame source tn request)) wire told → (hs : List History) → StandFor stands old hs → IsHeard request (fixtures_of muted old) wire
heard_of stands muted old new wire told request source tn is fits asked hs stand =
    subst (λ (fs : List Fixture). IsHeard request fs wire) (fixtures_are stands muted asked.says old hs stand)
    (subst (IsHeard request (map fixture_of hs)) (sym (ap (λ x. x.1) (asked.line hs stand)))
    (requests_are_heard hs old.rule request source tn
    (subst (λ (us : List Uid). All (λ u. IsDevice u) us) (sym stand.uids) asked.devices)
    (subst (λ (us : List Uid). AllPairs (λ u v. u ≢ v) us) (sym stand.uids) asked.differ) is fits))

-- what a branch sounds like
branch_heard : {D : Type 0} (stands : D → History → Type 0) (muted : D → Bool) (old new : State D) (wire : List ℕ) (told : OnWire) (low high : Uid) (source : Uid) (tn : ℕ) → IsRequest (UniqueBranch low high) → IsFrame (request_frame source tn (UniqueBranch low high))
    → Asked stands muted old new (frame_text (request_frame source tn (UniqueBranch low high))) wire told → (hs : List History) → StandFor stands old hs
    → wire ≡ (on_wire old.rule [] (map branch_reply (callers low high (fixtures_of muted old)))).1
branch_heard stands muted old new wire told low high source tn is fits asked hs stand =
    ap (λ x. x.1) (asked.line hs stand)
    ∙ ap (λ (xs : List (List ℕ)). (on_wire old.rule [] xs).1) (branch_answers low high _ (branch_reply_of source tn low high is.0 is.1 fits) hs)
    ∙ ap (λ (fs : List Fixture). (on_wire old.rule [] (map branch_reply (callers low high fs))).1) (fixtures_are stands muted asked.says old hs stand)

pub asked_is_heard : {D : Type 0} (stands : D → History → Type 0) (muted : D → Bool) (old new : State D) (wire : List ℕ) (told : OnWire) (request : Request) (source : Uid) (tn : ℕ) → IsRequest request → IsFrame (request_frame source tn request)
    → Asked stands muted old new (frame_text (request_frame source tn request)) wire told → IsHeard request (fixtures_of muted old) wire
asked_is_heard stands muted old new wire told UnMute source tn is fits asked =
    ∥∥₁_elim asked.alive (hlevel props) (λ p. heard_of stands muted old new wire told UnMute source tn is fits asked p.0 p.1)
asked_is_heard stands muted old new wire told (UniqueBranch low high) source tn is fits asked =
    subst (IsCalled (callers low high (fixtures_of muted old)))
    (sym (∥∥₁_elim asked.alive (hlevel props) (λ p. branch_heard stands muted old new wire told low high source tn is fits asked p.0 p.1)))
    (called old.rule (callers low high (fixtures_of muted old)))
asked_is_heard stands muted old new wire told (Mute uid) source tn is fits asked =
    elim (there_or_not (uids (fixtures_of muted old)) uid) [
      | inl there ↦
          let some : IsSome (mute_answer uid wire) = ∥∥₁_elim asked.alive (hlevel props) (λ p. (heard_of stands muted old new wire told (Mute uid) source tn is fits asked p.0 p.1).0.1 there) in
          ((λ _. there, λ _. some), λ _. some)
      | inr gone ↦
          let none : IsSome (mute_answer uid wire) → ⊥ = λ some. ∥∥₁_elim asked.alive (hlevel props) (λ p. gone ((heard_of stands muted old new wire told (Mute uid) source tn is fits asked p.0 p.1).0.0 some)) in
          let silent : wire ≢ [] → ⊥ = λ sounds. ∥∥₁_elim asked.alive (hlevel props) (λ p. none ((heard_of stands muted old new wire told (Mute uid) source tn is fits asked p.0 p.1).1 sounds)) in
          ((λ some. absurd (none some), λ there. absurd (gone there)), λ sounds. absurd (silent sounds))
    ]
