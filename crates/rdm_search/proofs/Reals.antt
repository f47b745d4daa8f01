-- What was found is on the line, whatever is lost.
use Rattle.std.proofs.Common.{◌≡◌, ℕ, ◌+◌, ◌-◌, ◌*◌, ◌<◌, ◌≤◌, false, List, [], ◌∷◌, ◌++◌, Option, Some, None, refl, sym, ap, ◌∙◌, subst, inl, inr, ◌⊎◌, arith}
use Rattle.std.specs.Prelude.{All, Contains, IsSome}
use Rattle.std.specs.Option.{option_to_list}
use Rattle.std.proofs.Math.Nat.{mul-add}
use Rattle.std.proofs.lemmas.Bool.{cases_Bool, cond-true, cond-false}
use Rattle.std.proofs.lemmas.List.{append-nil}
use Rattle.std.proofs.lemmas.List.Elements.{All-nil, All-cons, All-head, All-tail}
use Rattle.rdm_frame.specs.declared.uid.Uid.{Uid}
use Rattle.rdm_search.specs.declared.found.Found.{Found}
use Rattle.rdm_search.specs.declared.request.Request.{Request}
use Rattle.rdm_search.specs.declared.request.Request.TheVariants.{Mute}
use Rattle.rdm_search.specs.declared.stage.Stage.{Stage}
use Rattle.rdm_search.specs.declared.stage.Stage.TheVariants.{Start, Asking, Muting, Ended}
use Rattle.rdm_search.specs.Answers.{mute_answer, found_uids, knows, newcomer}
use Rattle.rdm_search.specs.Line.{Fixture, IsDevice, IsAnswer, uids}
use Rattle.rdm_search.specs.Losses.{IsKept, IsLost}
use Rattle.rdm_search.specs.Searches.{found_after}
use Rattle.rdm_search.specs.Stages.{IsReal, request_of}
use Rattle.rdm_search.proofs.Runs.{request_keeps, none_found}
use Rattle.rdm_search.proofs.Mutes.{real_push}
use Rattle.rdm_search.proofs.Hearings.{answer_of, push_uid, unknown}
use Rattle.rdm_search.proofs.Losses.{Asked, no_answer, partly_uids}

-- ---- the fixtures stay

abbrev Devices : List Fixture → Type 0
Devices line = All (λ f. IsDevice f.uid) line

still_devices : (line after : List Fixture) → uids after ≡ uids line → Devices line → Devices after
still_devices line [] e devices = All-nil (λ (f : Fixture). IsDevice f.uid)
still_devices [] (g ∷ after) e devices = absurd cc
still_devices (f ∷ line) (g ∷ after) e devices =
    let one : g.uid ≡ f.uid = cc in
    let rest : uids after ≡ uids line = cc in
    All-cons (λ (x : Fixture). IsDevice x.uid) g after (subst IsDevice (sym one) (All-head (λ (x : Fixture). IsDevice x.uid) f line devices)) (still_devices line after rest (All-tail (λ (x : Fixture). IsDevice x.uid) f line devices))

still_real : (found : List Uid) (line after : List Fixture) → uids after ≡ uids line → IsReal found line → IsReal found after
still_real found line after e real = record {
  devices = still_devices line after e real.devices;
  real = subst (λ (us : List Uid). All (λ u. Contains us u) found) (sym e) real.real;
  once = real.once;
}

-- nothing was lost, however many answers were altered, or it was
abbrev pub Answered : Request → List Fixture → List ℕ → List Fixture → Type 0
Answered request line heard after = ((n : ℕ) × (n' : ℕ) × IsKept request line heard after n n') ⊎ IsLost request line heard after

pub same_fixtures : (request : Request) (line : List Fixture) (heard : List ℕ) (after : List Fixture) → Answered request line heard after → uids after ≡ uids line
same_fixtures request line heard after (inl kept) = ap uids kept.2.1 ∙ request_keeps request line
same_fixtures request line heard after (inr lost) = partly_uids request line after lost.1

-- ---- an answer to a mute is that of a fixture

answered_so : (u : Uid) (line : List Fixture) (heard : List ℕ) (n n' : ℕ) → IsAnswer (Mute u) line heard n n' → IsSome (mute_answer u heard) → Contains (uids line) u
answered_so u line heard n n' (inl h) some = h.0.0.0 some
answered_so u line heard n n' (inr h) some = absurd (no_answer u heard h.0.2 some)

on_line : (u : Uid) (line : List Fixture) (heard : List ℕ) (after : List Fixture) → Answered (Mute u) line heard after → (x : Found) → mute_answer u heard ≡ Some x → Contains (uids line) u
on_line u line heard after (inl kept) x e = answered_so u line heard kept.0 kept.1 kept.2.0 (subst IsSome (sym e) refl)
on_line u line heard after (inr lost) x e =
    let none : None ≡ Some x = sym lost.0.0 ∙ e in
    absurd cc

abbrev Pushed : List Found → List Fixture → Option Found → Type 0
Pushed found line new = IsReal (found_uids (found ++ option_to_list new)) line

pushed : (u : Uid) (found : List Found) (line : List Fixture) → IsReal (found_uids found) line → knows found u ≡ false → (o : Option Found) → ((x : Found) → o ≡ Some x → (x.uid ≡ u) × Contains (uids line) u) → Pushed found line o
pushed u found line real new None is = subst (λ (xs : List Found). IsReal (found_uids xs) line) (sym (append-nil found)) real
pushed u found line real new (Some x) is =
    let it = is x refl in
    subst (λ (us : List Uid). IsReal us line) (sym (push_uid found x u it.0)) (real_push u (found_uids found) line real it.1 (unknown found u new))

muted_real : (u : Uid) (found : List Found) (line : List Fixture) (heard : List ℕ) (after : List Fixture) → IsReal (found_uids found) line → Answered (Mute u) line heard after → Pushed found line (newcomer found u heard)
muted_real u found line heard after real answered =
    elim (cases_Bool (knows found u)) [
      | inl k ↦
          let none : newcomer found u heard ≡ None = cond-true (knows found u) None (mute_answer u heard) k in
          subst (Pushed found line) (sym none) (subst (λ (xs : List Found). IsReal (found_uids xs) line) (sym (append-nil found)) real)
      | inr n ↦
          let some : newcomer found u heard ≡ mute_answer u heard = cond-false (knows found u) None (mute_answer u heard) n in
          subst (Pushed found line) (sym some) (pushed u found line real n (mute_answer u heard) (λ x e. (answer_of u heard x e, on_line u line heard after answered x e)))
    ]

heard_real : (stage : Stage) (found : List Found) (line : List Fixture) (heard : List ℕ) (after : List Fixture) (request : Request) → request_of stage ≡ Some request → IsReal (found_uids found) line → Answered request line heard after → IsReal (found_uids (found_after stage found heard)) line
heard_real Start found line heard after request e real answered = real
heard_real (Asking r) found line heard after request e real answered = real
heard_real (Muting r u) found line heard after request e real answered =
    let this : request ≡ Mute u = cc in
    muted_real u found line heard after real (subst (λ (q : Request). Answered q line heard after) this answered)
heard_real Ended found line heard after request e real answered = real

pub stays_real : (stage : Stage) (found found' : List Found) (line : List Fixture) (heard : List ℕ) (after : List Fixture) (request : Request) → request_of stage ≡ Some request → found' ≡ found_after stage found heard → IsReal (found_uids found) line → Answered request line heard after → IsReal (found_uids found') after
stays_real stage found found' line heard after request e e' real answered =
    still_real (found_uids found') line after (same_fixtures request line heard after answered) (subst (λ (xs : List Found). IsReal (found_uids xs) line) (sym e') (heard_real stage found line heard after request e real answered))

pub keeps_real : (found : List Found) (line : List Fixture) (heard : List ℕ) (after : List Fixture) (request : Request) → IsReal (found_uids found) line → Answered request line heard after → IsReal (found_uids found) after
keeps_real found line heard after request real answered = still_real (found_uids found) line after (same_fixtures request line heard after answered) real

-- ---- counts

pub without_count : (request : Request) (line : List Fixture) (heard : List ℕ) (after : List Fixture) (least lost n n' : ℕ) → Asked request line heard after least lost n n' → Answered request line heard after
without_count request line heard after least lost n n' (inl x) = inl (n, n', x)
without_count request line heard after least lost n n' (inr x) = inr x.0

pub one_paid : (c left : ℕ) → 0 < left → c * (left - 1) + c ≡ c * left
one_paid c left some =
    let e : left - 1 + 1 ≡ left = omega arith in
    let same : c * (left - 1 + 1) ≡ c * left = ap (λ (n : ℕ). c * n) e in
    let sum = mul-add c (left - 1) 1 in
    omega (arith, same, sum)

-- ---- the beginning

pub begins_real : (found : List Found) (line : List Fixture) → found ≡ [] → Devices line → IsReal (found_uids found) line
begins_real found line e devices = subst (λ (xs : List Found). IsReal (found_uids xs) line) (sym e) (none_found line devices)
