-- What was heard leads on.
use Rattle.std.proofs.Common.{◌≡◌, ◌≢◌, ◌↔◌, ℕ, zero, suc, Bool, true, false, not, ◌&&◌, cond, List, [], ◌∷◌, ◌++◌, map, length, Option, Some, None, refl, sym, ap, ◌∙◌, subst, inl, inr, arith}
use Rattle.std.specs.Prelude.{All, Contains, IsSome, is_some, ◌==◌}
use Rattle.std.specs.Option.{option_to_list, option_and_then}
use Rattle.std.proofs.lemmas.Bool.{cases_Bool, or_cases, or_parts, and_parts, and_from, eq-eqb, false≢true, cond-true, cond-false}
use Rattle.std.proofs.lemmas.List.{map-append, length-map, append-nil}
use Rattle.std.proofs.lemmas.List.Elements.{All-map}
use Rattle.rdm_frame.specs.declared.uid.Uid.{Uid}
use Rattle.rdm_frame.specs.declared.frame.Frame.{Frame}
use Rattle.rdm_frame.specs.Addressing.{same_uid}
use Rattle.rdm_frame.specs.Reading.{frame_in}
use Rattle.rdm_search.specs.declared.found.Found.{Found}
use Rattle.rdm_search.specs.declared.range.Range.{Range}
use Rattle.rdm_search.specs.declared.stage.Stage.{Stage}
use Rattle.rdm_search.specs.declared.stage.Stage.TheVariants.{Start, Asking, Muting, Ended}
use Rattle.rdm_search.specs.declared.request.Request.{Request}
use Rattle.rdm_search.specs.declared.request.Request.TheVariants.{UnMute, UniqueBranch, Mute}
use Rattle.rdm_search.specs.Line.{Fixture, IsDevice, IsHeard, IsAltered, IsCalled, callers, uids, after_mute, after_un_mute, after_request}
use Rattle.rdm_search.specs.Answers.{is_mute_answer, found_in, mute_answer, found_uids, knows, newcomer}
use Rattle.rdm_search.specs.Ranges.{low, high, IsRange}
use Rattle.rdm_search.specs.Searches.{found_after, is_in_doubt}
use Rattle.rdm_search.specs.Stages.{Hears, IsReal, IsLeft, Stands, Leads, Strays, stage_of_mute, halved, whole}
use Rattle.rdm_search.proofs.Prices.{at_most}
use Rattle.rdm_search.proofs.Standing.{IsKnown, IsCovered}
use Rattle.rdm_search.proofs.Mutes.{same, newly, again, sent_again, given_up}

-- ---- what is known

itself : (u : Uid) → same_uid u u ≡ true
itself u = and_from _ _ (eq-eqb u.maker u.maker refl) (eq-eqb u.device u.device refl)

pub known : (found : List Found) (u : Uid) → knows found u ≡ true → Contains (found_uids found) u
known [] u h = absurd cc
known (x ∷ found) u h =
    elim (or_cases (same_uid x.uid u) (knows found u) h) [
      | inl s ↦ (0, omega arith, same x.uid u s)
      | inr rest ↦ (let there = known found u rest in (suc there.0, omega (arith, there.1), there.2))
    ]

pub unknown : (found : List Found) (u : Uid) → knows found u ≡ false → Contains (found_uids found) u → ⊥
unknown [] u h (k, lt, e) = omega arith
unknown (x ∷ found) u h (zero, lt, e) = false≢true (sym (or_parts _ _ h).0 ∙ ap (λ (v : Uid). same_uid v u) e ∙ itself u)
unknown (x ∷ found) u h (suc k, lt, e) = unknown found u (or_parts _ _ h).1 (k, omega arith, e)

-- ---- the answer to a mute

answered_by : (u : Uid) (o : Option Frame) (x : Found) → option_and_then (λ f. cond (is_mute_answer u f) (Some (found_in f)) None) o ≡ Some x → x.uid ≡ u
answered_by u None x e = absurd cc
answered_by u (Some f) x e =
    elim (cases_Bool (is_mute_answer u f)) [
      | inl t ↦
          let now : Some (found_in f) ≡ Some x = sym (cond-true (is_mute_answer u f) (Some (found_in f)) None t) ∙ e in
          let one : found_in f ≡ x = cc in
          let last = (and_parts (f.port == 0x00) (same_uid f.src u) (and_parts (f.pid == 0x0002) ((f.port == 0x00) && same_uid f.src u) (and_parts (f.class == 0x11) ((f.pid == 0x0002) && ((f.port == 0x00) && same_uid f.src u)) t).1).1).1 in
          sym (ap (λ (y : Found). y.uid) one) ∙ same f.src u last
      | inr n ↦
          let now : None ≡ Some x = sym (cond-false (is_mute_answer u f) (Some (found_in f)) None n) ∙ e in
          absurd cc
    ]

pub answer_of : (u : Uid) (heard : List ℕ) (x : Found) → mute_answer u heard ≡ Some x → x.uid ≡ u
answer_of u heard x e = answered_by u (frame_in heard) x e

pub push_uid : (found : List Found) (x : Found) (u : Uid) → x.uid ≡ u → found_uids (found ++ x ∷ []) ≡ found_uids found ++ u ∷ []
push_uid found x u e = map-append (λ (y : Found). y.uid) found (x ∷ []) ∙ ap (λ (v : Uid). found_uids found ++ v ∷ []) e

abbrev Goal : Range → Uid → List Found → List Fixture → Option Found → Type 0
Goal r u found line new =
    Leads (Muting r u) line (stage_of_mute r new) (found_uids (found ++ option_to_list new)) (map (after_mute u) line)

abbrev Stray : Range → Uid → List Found → List Fixture → Option Found → Type 0
Stray r u found line new =
    Strays (Muting r u) line (stage_of_mute r new) (found_uids (found ++ option_to_list new)) (map (after_mute u) line)

none_new : (r : Range) (u : Uid) (found : List Found) (line : List Fixture) → IsRange r → Stands (Muting r u) (found_uids found) line → (Contains (uids line) u → Contains (found_uids found) u) → Goal r u found line None
none_new r u found line fits stands there =
    subst (λ (us : List Uid). Leads (Muting r u) line (stage_of_mute r None) us (map (after_mute u) line)) (sym (ap found_uids (append-nil found))) (again r fits u (found_uids found) line stands there)

heard_by : (r : Range) (u : Uid) (found : List Found) (line : List Fixture) → IsRange r → Stands (Muting r u) (found_uids found) line → knows found u ≡ false → (o : Option Found) → ((x : Found) → o ≡ Some x → x.uid ≡ u) → (IsSome o ↔ Contains (uids line) u) → Goal r u found line o
heard_by r u found line fits stands new None is called =
    none_new r u found line fits stands (λ there. absurd (false≢true (called.1 there)))
heard_by r u found line fits stands new (Some x) is called =
    subst (λ (us : List Uid). Leads (Muting r u) line (Asking r) us (map (after_mute u) line)) (sym (push_uid found x u (is x refl))) (newly r fits u (found_uids found) line stands (called.0 refl) (unknown found u new))

pub mute_leads : (r : Range) (u : Uid) (found : List Found) (heard : List ℕ) → IsRange r → (line : List Fixture) → Stands (Muting r u) (found_uids found) line → (IsSome (mute_answer u heard) ↔ Contains (uids line) u) → Goal r u found line (newcomer found u heard)
mute_leads r u found heard fits line stands called =
    elim (cases_Bool (knows found u)) [
      | inl k ↦ subst (Goal r u found line) (sym (cond-true (knows found u) None (mute_answer u heard) k)) (none_new r u found line fits stands (λ there. known found u k))
      | inr n ↦ subst (Goal r u found line) (sym (cond-false (knows found u) None (mute_answer u heard) n)) (heard_by r u found line fits stands n (mute_answer u heard) (answer_of u heard) called)
    ]

-- ---- no fixture answered it, and noise was heard

no_one : (b : Bool) (o : Option Found) → o ≡ None → cond b None o ≡ None
no_one true o e = refl
no_one false o e = e

stray_leads : (r : Range) (u : Uid) (found : List Found) (heard : List ℕ) → IsRange r → (line : List Fixture) → Stands (Muting r u) (found_uids found) line → IsAltered (Mute u) line heard → Stray r u found line (newcomer found u heard)
stray_leads r u found heard fits line stands noise =
    let none : newcomer found u heard ≡ None = no_one (knows found u) (mute_answer u heard) noise.2 in
    let on = given_up r fits u (found_uids found) line stands noise.0 in
    subst (Stray r u found line) (sym none) (subst (λ (us : List Uid). Strays (Muting r u) line (halved r) us (map (after_mute u) line)) (sym (ap found_uids (append-nil found))) on)

-- ---- all are un-muted

pub un_muted_uids : (line : List Fixture) → uids (map after_un_mute line) ≡ uids line
un_muted_uids [] = refl
un_muted_uids (f ∷ line) = ap (λ (us : List Uid). f.uid ∷ us) (un_muted_uids line)

pub start_leads : (found : List Uid) (line : List Fixture) → IsReal found line → Leads Start line (Asking whole) found (map after_un_mute line)
start_leads found line real =
    let after = map after_un_mute line in
    let now : IsReal found after = record {
      devices = All-map (λ (f : Fixture). IsDevice f.uid) after_un_mute line real.devices;
      real = subst (λ (us : List Uid). All (Contains us) found) (sym (un_muted_uids line)) real.real;
      once = real.once;
    } in
    let left : IsLeft 0 0 found after = record {
      real = now;
      known = All-map (IsKnown found) after_un_mute line (λ k d h m. absurd (false≢true m));
      covered = All-map (IsCovered 0 0) after_un_mute line (λ k d h m. omega arith);
    } in
    let few = at_most 0 0 after in
    let n : length after ≡ length line = simp length-map in
    (left, omega arith)

-- ---- each stage

abbrev After : Stage → List Uid → List ℕ → Stage → List Uid → List Fixture → Request → Type 0
After stage found heard stage' found' line request =
    (IsHeard request line heard → Leads stage line stage' found' (after_request request line))
    × (IsAltered request line heard → Strays stage line stage' found' (after_request request line))

pub start_hears : (found : List Uid) (heard : List ℕ) → Hears Start found heard (Asking whole) found
start_hears found heard request line e stands =
    let this : UnMute ≡ request = cc in
    subst (After Start found heard (Asking whole) found line) this (λ h. start_leads found line stands, λ h. absurd h)

abbrev pub Branched : Range → List Uid → List ℕ → Stage → List Fixture → Type 0
Branched r found heard next line =
    (IsCalled (callers (low r) (high r) line) heard → Leads (Asking r) line next found line)
    × (IsAltered (UniqueBranch (low r) (high r)) line heard → Strays (Asking r) line next found line)

pub branch_hears : (r : Range) (found : List Uid) (heard : List ℕ) (next : Stage) → ((line : List Fixture) → Stands (Asking r) found line → Branched r found heard next line) → Hears (Asking r) found heard next found
branch_hears r found heard next leads request line e stands =
    let this : UniqueBranch (low r) (high r) ≡ request = cc in
    subst (After (Asking r) found heard next found line) this (leads line stands)

abbrev Here : Range → Uid → List Found → List ℕ → Stage → List Found → Type 0
Here r u found heard next found' = Hears (Muting r u) (found_uids found) heard next (found_uids found')

pub mute_hears : (r : Range) (u : Uid) (found found' : List Found) (heard : List ℕ) (next : Stage) → IsRange r → next ≡ stage_of_mute r (newcomer found u heard) → found' ≡ found ++ option_to_list (newcomer found u heard) → Here r u found heard next found'
mute_hears r u found found' heard next fits e e' =
    let new = newcomer found u heard in
    let here : Here r u found heard (stage_of_mute r new) (found ++ option_to_list new) = λ request line is stands. (
    let this : Mute u ≡ request = cc in
    subst (After (Muting r u) (found_uids found) heard (stage_of_mute r new) (found_uids (found ++ option_to_list new)) line) this (λ h. mute_leads r u found heard fits line stands h.0, λ noise. stray_leads r u found heard fits line stands noise)) in
    subst (λ (stage : Stage). Here r u found heard stage found') (sym e) (subst (λ (after : List Found). Here r u found heard (stage_of_mute r new) after) (sym e') here)

-- ---- a mute that is in doubt

sounds : (heard : List ℕ) → not (length heard == 0) ≡ true → heard ≢ []
sounds heard h e = false≢true (sym (ap (λ (xs : List ℕ). not (length xs == 0)) e) ∙ h)

not_some : (b : Bool) → not b ≡ true → b ≡ true → ⊥
not_some b h e = false≢true (sym (ap not e) ∙ h)

no_new : (o : Option Found) → not (is_some o) ≡ true → o ≡ None
no_new None h = refl
no_new (Some x) h = absurd (false≢true h)

-- the stage after noise, on each line where the search stands
doubt_leads : (r : Range) (u : Uid) (next : Stage) (found : List Found) (heard : List ℕ) → true ≡ is_in_doubt (Muting r u) found heard
    → ((line : List Fixture) → Stands (Muting r u) (found_uids found) line → (Contains (uids line) u → ⊥) → Strays (Muting r u) line next (found_uids found) (map (after_mute u) line))
    → Hears (Muting r u) (found_uids found) heard next (found_uids found)
doubt_leads r u next found heard h on request line e stands =
    let parts = and_parts (not (length heard == 0)) (not (knows found u) && not (is_some (mute_answer u heard))) (sym h) in
    let none = and_parts (not (knows found u)) (not (is_some (mute_answer u heard))) parts.1 in
    let this : Mute u ≡ request = cc in
    subst (After (Muting r u) (found_uids found) heard next (found_uids found) line) this
    (λ is. absurd (not_some (is_some (mute_answer u heard)) none.1 (is.1 (sounds heard parts.0))), λ noise. on line stands noise.0)

-- the same mute is sent again
pub doubt_repeats : (stage : Stage) (found : List Found) (heard : List ℕ) → true ≡ is_in_doubt stage found heard → Hears stage (found_uids found) heard stage (found_uids found)
doubt_repeats Start found heard h = absurd (false≢true (sym h))
doubt_repeats (Asking r) found heard h = absurd (false≢true (sym h))
doubt_repeats Ended found heard h = absurd (false≢true (sym h))
doubt_repeats (Muting r u) found heard h = doubt_leads r u (Muting r u) found heard h (λ line stands gone. sent_again r u (found_uids found) line stands gone)

-- the search goes on without its answer
pub doubt_goes_on : (stage next : Stage) (r : Range) (u : Uid) (found : List Found) (heard : List ℕ) → stage ≡ Muting r u → IsRange r → next ≡ halved r → true ≡ is_in_doubt stage found heard → Hears stage (found_uids found) heard next (found_uids found)
doubt_goes_on stage next r u found heard e fits e' h =
    let here : Hears (Muting r u) (found_uids found) heard (halved r) (found_uids found) =
    doubt_leads r u (halved r) found heard (h ∙ ap (λ (s : Stage). is_in_doubt s found heard) e) (λ line stands gone. given_up r fits u (found_uids found) line stands gone) in
    subst (λ (s : Stage). Hears s (found_uids found) heard next (found_uids found)) (sym e) (subst (λ (n : Stage). Hears (Muting r u) (found_uids found) heard n (found_uids found)) (sym e') here)

pub doubt_found : (stage : Stage) (found : List Found) (heard : List ℕ) → true ≡ is_in_doubt stage found heard → found_after stage found heard ≡ found
doubt_found Start found heard h = refl
doubt_found (Asking r) found heard h = refl
doubt_found Ended found heard h = refl
doubt_found (Muting r u) found heard h =
    let parts = and_parts (not (length heard == 0)) (not (knows found u) && not (is_some (mute_answer u heard))) (sym h) in
    let none = and_parts (not (knows found u)) (not (is_some (mute_answer u heard))) parts.1 in
    let new : newcomer found u heard ≡ None = no_one (knows found u) (mute_answer u heard) (no_new (mute_answer u heard) none.1) in
    ap (λ (o : Option Found). found ++ option_to_list o) new ∙ append-nil found

pub ended_hears : (found : List Uid) (heard : List ℕ) (next : Stage) (found' : List Uid) → Hears Ended found heard next found'
ended_hears found heard next found' request line e stands = absurd cc
