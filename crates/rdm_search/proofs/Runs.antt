-- A search that is run.
use Rattle.std.proofs.Common.{◌≡◌, ◌≢◌, ℕ, zero, suc, ◌+◌, ◌-◌, ◌*◌, ◌^◌, ◌<◌, ◌≤◌, Bool, true, false, ◌&&◌, cond, not, eqb, List, [], ◌∷◌, length, Option, Some, None, Result, Ok, Err, refl, sym, ap, ◌∙◌, subst, inl, inr, arith}
use Rattle.std.specs.Prelude.{All, AllPairs, Contains, OnErr}
use Rattle.std.proofs.Math.Nat.{suc-mul}
use Rattle.std.proofs.lemmas.Bool.{cases_eq, ne_eqb, eq-eqb, cond-true, cond-false}
use Rattle.std.proofs.lemmas.List.Elements.{All-nil, All-contains}
use Rattle.rdm_frame.specs.declared.uid.Uid.{Uid}
use Rattle.rdm_frame.specs.declared.frame.Frame.{Frame}
use Rattle.rdm_search.specs.declared.error.SearchError.{SearchError}
use Rattle.rdm_search.specs.declared.error.SearchError.TheVariants.{Limit}
use Rattle.rdm_search.specs.declared.found.Found.{Found}
use Rattle.rdm_search.specs.Answers.{found_uids}
use Rattle.rdm_search.specs.declared.request.Request.{Request}
use Rattle.rdm_search.specs.declared.request.Request.TheVariants.{UnMute, UniqueBranch, Mute}
use Rattle.rdm_search.specs.declared.stage.Stage.{Stage}
use Rattle.rdm_search.specs.declared.stage.Stage.TheVariants.{Start, Asking, Muting, Ended}
use Rattle.rdm_search.specs.Requests.{request_frame, IsRequest}
use Rattle.rdm_search.specs.Line.{Fixture, IsDevice, IsHeard, IsAltered, IsCounted, IsAnswer, IsFound, uids, unmuted, after_request}
use Rattle.rdm_search.specs.Ranges.{uid_of, low, high, place}
use Rattle.rdm_search.specs.Searches.{next_of}
use Rattle.rdm_search.specs.Stages.{when, request_of, IsStage, count, price, IsReal, Stands, Leads, Strays, whole}
use Rattle.rdm_frame.specs.FrameText.{IsUid}
use Rattle.rdm_search.proofs.Places.{width_pos, range_fits}
use Rattle.rdm_search.proofs.Mutes.{same_uids}
use Rattle.rdm_search.proofs.Hearings.{un_muted_uids}

-- ---- the same fixtures

pub request_keeps : (request : Request) (line : List Fixture) → uids (after_request request line) ≡ uids line
request_keeps UnMute line = un_muted_uids line
request_keeps (UniqueBranch a b) line = refl
request_keeps (Mute u) line = same_uids u line

-- ---- what was heard, altered or not

-- From this stage a search has come to another one, where it stands, and this many answers were altered.
abbrev pub Comes : Stage → List Fixture → Stage → List Uid → List Fixture → ℕ → ℕ → Type 0
Comes stage line stage' found' line' n n' = Stands stage' found' line' × (price stage' line' + 2 + 3 * n ≤ price stage line + 3 * n')

pub counted_more : (request : Request) (line : List Fixture) (n n' : ℕ) → IsCounted request line n n' → n ≤ n'
counted_more request line n n' (inl e) = omega (arith, e)
counted_more request line n n' (inr h) = h.1

pub answer_leads : (stage stage' : Stage) (found found' : List Uid) (request : Request) (line : List Fixture) (heard : List ℕ) (n n' : ℕ)
    → (IsHeard request line heard → Leads stage line stage' found' (after_request request line)) × (IsAltered request line heard → Strays stage line stage' found' (after_request request line))
    → IsAnswer request line heard n n' → Comes stage line stage' found' (after_request request line) n n'
answer_leads stage stage' found found' request line heard n n' leads (inl h) = let on = leads.0 h.0 in let more = counted_more request line n n' h.1 in (on.0, omega (arith, on.1, more))
answer_leads stage stage' found found' request line heard n n' leads (inr h) = let on = leads.1 h.0 in let more = counted_more request line (suc n) n' h.1 in (on.0, omega (arith, on.1, more))

pub altered_more : (request : Request) (line : List Fixture) (heard : List ℕ) (n n' : ℕ) → IsAnswer request line heard n n' → n ≤ n'
altered_more request line heard n n' (inl h) = counted_more request line n n' h.1
altered_more request line heard n n' (inr h) = let more = counted_more request line (suc n) n' h.1 in omega (arith, more)

-- ---- the end

on_line : (u : Uid) (line : List Fixture) (P : Uid → Type 0) → All (λ f. P f.uid) line → Contains (uids line) u → P u
on_line u [] P all (k, h, e) = absurd (omega arith)
on_line u (f ∷ line) P all (zero, h, e) = subst P e (all zero f (omega arith))
on_line u (f ∷ line) P all (suc k, h, e) = on_line u line P (λ j d l. all (suc j) d (omega arith)) (k, omega arith, e)

found_at_end : (found : List Uid) (line : List Fixture) → Stands Ended found line → IsFound found line
found_at_end found line end = record {
  same = λ u. (λ there. All-contains (Contains (uids line)) found u end.0.real there, λ there. on_line u line (Contains found) (λ k d h. end.1 k d h (end.2 k d h)) there);
  once = end.0.once;
  muted = end.2;
}

pub ended : (stage : Stage) (found : List Uid) (line : List Fixture) → request_of stage ≡ None → Stands stage found line → IsFound found line
ended Start found line e stands = absurd cc
ended (Asking r) found line e stands = absurd cc
ended (Muting r u) found line e stands = absurd cc
ended Ended found line e stands = found_at_end found line stands

-- ---- what is left

four : (n d : ℕ) → d ≤ 48 → 1 ≤ n → 4 ≤ n * (148 - 3 * d)
four zero d h some = absurd (omega arith)
four (suc n) d h some = let e = suc-mul n (148 - 3 * d) in omega (arith, e)

pub costs : (stage : Stage) (found : List Uid) (line : List Fixture) (request : Request) → IsStage stage → request_of stage ≡ Some request → Stands stage found line → 2 ≤ price stage line
costs Start found line request fits e stands = omega arith
costs (Asking r) found line request fits e stands = omega arith
costs (Muting r u) found line request fits e stands =
    let least = four (count r.depth r.index line) r.depth fits.0 stands.1.some in
    omega arith
costs Ended found line request fits e stands = absurd cc

-- ---- what is next

abbrev pub Same : Result (Option Frame) SearchError → Result (Option Frame) SearchError → Type 0
Same a b = a ≡ b

next_by : (source : Uid) (tn : ℕ) (o : Option Request) (left : ℕ) (frame : Frame) → next_of source tn o left ≡ Ok (Some frame) → (request : Request) × (o ≡ Some request) × (frame ≡ request_frame source tn request) × (0 < left)
next_by source tn None left frame e = absurd cc
next_by source tn (Some request) left frame e =
    elim (cases_eq left 0) [
      | inl none ↦
          let now : Same (Err Limit) (Ok (Some frame)) = sym (cond-true (eqb left 0) (Err Limit) (Ok (Some (request_frame source tn request))) (eq-eqb _ _ none)) ∙ e in absurd cc
      | inr some ↦
          let now : Same (Ok (Some (request_frame source tn request))) (Ok (Some frame)) = sym (cond-false (eqb left 0) (Err Limit) (Ok (Some (request_frame source tn request))) (ne_eqb _ _ some)) ∙ e in
          let same : request_frame source tn request ≡ frame = cc in
          (request, refl, sym same, omega arith)
    ]

pub next_frame : (source : Uid) (tn : ℕ) (o : Option Request) (left : ℕ) (frame : Frame) → Same (Ok (Some frame)) (next_of source tn o left) → (request : Request) × (o ≡ Some request) × (frame ≡ request_frame source tn request) × (0 < left)
next_frame source tn o left frame e = next_by source tn o left frame (sym e)

pub next_none : (source : Uid) (tn : ℕ) (o : Option Request) (left : ℕ) → Same (Ok None) (next_of source tn o left) → o ≡ None
next_none source tn None left e = refl
next_none source tn (Some request) left e =
    elim (cases_eq left 0) [
      | inl none ↦
          let now : Same (Ok None) (Err Limit) = e ∙ cond-true (eqb left 0) (Err Limit) (Ok (Some (request_frame source tn request))) (eq-eqb _ _ none) in absurd cc
      | inr some ↦
          let now : Same (Ok None) (Ok (Some (request_frame source tn request))) = e ∙ cond-false (eqb left 0) (Err Limit) (Ok (Some (request_frame source tn request))) (ne_eqb _ _ some) in absurd cc
    ]

pub next_err : (source : Uid) (tn : ℕ) (o : Option Request) (left : ℕ) (fault : SearchError) → Same (Err fault) (next_of source tn o left) → (request : Request) × (o ≡ Some request) × (left ≡ 0)
next_err source tn None left fault e = absurd cc
next_err source tn (Some request) left fault e =
    elim (cases_eq left 0) [
      | inl none ↦ (request, refl, none)
      | inr some ↦
          let now : Same (Err fault) (Ok (Some (request_frame source tn request))) = e ∙ cond-false (eqb left 0) (Err Limit) (Ok (Some (request_frame source tn request))) (ne_eqb _ _ some) in absurd cc
    ]

uid_fits : (n : ℕ) → n < 2 ^ 48 → IsUid (uid_of n)
uid_fits n h = record { maker = omega arith; device = omega arith }

pub request_fits : (stage : Stage) (request : Request) → IsStage stage → request_of stage ≡ Some request → IsRequest request
request_fits Start request fits e = let this : UnMute ≡ request = cc in subst IsRequest this tt
request_fits (Asking r) request fits e =
    let this : UniqueBranch (low r) (high r) ≡ request = cc in
    let within = range_fits r.depth r.index fits.0 fits.1 in
    let some = width_pos r.depth in
    subst IsRequest this (uid_fits _ (omega arith), uid_fits _ (omega arith))
request_fits (Muting r u) request fits e = let this : Mute u ≡ request = cc in subst IsRequest this tt
request_fits Ended request fits e = absurd cc

-- ---- the beginning

pub none_found : (line : List Fixture) → All (λ f. IsDevice f.uid) line → IsReal [] line
none_found line devices = record {
  devices = devices;
  real = All-nil (Contains (uids line));
  once = λ i j d below in'. absurd (omega arith);
}

pub some_found : (found : List Uid) (line : List Fixture) → All (λ f. IsDevice f.uid) line → All (λ f. f.muted ≡ true → Contains found f.uid) line → All (λ u. Contains (uids line) u) found → AllPairs (λ u v. u ≢ v) found → Stands (Asking whole) found line
some_found found line devices known real once = record {
  real = record { devices = devices; real = real; once = once };
  known = known;
  covered = λ k d h m. omega arith;
}

kept : (m b : Bool) (f : Fixture) (line : List Fixture) → when (not m && b) 1 + length (unmuted line) ≤ length (cond (not m) (f ∷ unmuted line) (unmuted line))
kept true b f line = omega arith
kept false true f line = omega arith
kept false false f line = omega arith

few : (line : List Fixture) → count 0 0 line ≤ length (unmuted line)
few [] = omega arith
few (f ∷ line) = let rest = few line in let here = kept f.muted (eqb (place 0 f.uid) 0) f line in omega arith

pub price_of_more : (line : List Fixture) → price (Asking whole) line ≤ 148 * length (unmuted line) + 2
price_of_more line = let h = few line in omega arith

pub begins : (stage : Stage) (found : List Found) (line : List Fixture) → stage ≡ Start → found ≡ [] → All (λ f. IsDevice f.uid) line → Stands stage (found_uids found) line
begins stage found line e e' devices =
    subst (λ (s : Stage). Stands s (found_uids found) line) (sym e) (subst (λ (xs : List Found). IsReal (found_uids xs) line) (sym e') (none_found line devices))

pub price_of_all : (stage : Stage) (line : List Fixture) → stage ≡ Start → price stage line ≡ 4 + 148 * length line
price_of_all stage line e = ap (λ (s : Stage). price s line) e

pub goes_on : (stage : Stage) (found before : List Found) (line : List Fixture) → stage ≡ Asking whole → found ≡ before → All (λ f. IsDevice f.uid) line → All (λ f. f.muted ≡ true → Contains (found_uids before) f.uid) line → All (λ u. Contains (uids line) u) (found_uids before) → AllPairs (λ u v. u ≢ v) (found_uids before) → Stands stage (found_uids found) line
goes_on stage found before line e e' devices known real once =
    subst (λ (s : Stage). Stands s (found_uids found) line) (sym e) (subst (λ (xs : List Found). Stands (Asking whole) (found_uids xs) line) (sym e') (some_found (found_uids before) line devices known real once))

pub price_of_rest : (stage : Stage) (line : List Fixture) → stage ≡ Asking whole → price stage line ≤ 148 * length (unmuted line) + 2
price_of_rest stage line e = subst (λ (s : Stage). price s line ≤ 148 * length (unmuted line) + 2) (sym e) (price_of_more line)

pub on_err : (r : Result Bool SearchError) (P : Type 0) → P → OnErr r P
on_err (Ok b) P p = tt
on_err (Err e) P p = p
