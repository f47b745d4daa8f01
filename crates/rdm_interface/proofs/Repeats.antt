-- A request that is asked until it is answered, on a line that loses requests and answers.
use Rattle.std.proofs.Common.{◌≡◌, ◌⊎◌, ℕ, suc, ◌+◌, ◌≤◌, false, List, [], ◌∷◌, ◌++◌, length, map, refl, sym, ◌∙◌, subst, inl, inr, arith}
use Rattle.std.specs.List.{AllByRecursion}
use Rattle.std.proofs.lemmas.List.{map-append}
use Rattle.rdm_frame.specs.declared.uid.Uid.{Uid}
use Rattle.rdm_frame.specs.declared.frame.Frame.{Frame}
use Rattle.rdm_search.specs.declared.request.Request.{Request}
use Rattle.rdm_search.specs.Line.{Fixture}
use Rattle.rdm_search.specs.Losses.{is_answered, IsKept, IsLost}
use Rattle.rdm_search.specs.Requests.{request_frame}
use Rattle.rdm_search.proofs.Losses.{IsUnanswered as IsVain, Asked, unanswered, void_is, kept_kept, kept_lost, lost_kept, lost_lost, once_more}
use Rattle.rdm_search.proofs.Reals.{Answered}
use Rattle.rdm_interface.specs.Askings.{Asking, Situation, IsHeardOf, AreHeardOf}

-- ---- askings

abbrev pub asking : Request → ℕ → List ℕ → Asking
asking request tn heard = record { request = request; tn = tn; heard = heard }

-- none of these answers the frame
abbrev pub AllVain : Frame → List (List ℕ) → Type 0
AllVain frame heard = AllByRecursion (λ h. is_answered frame h ≡ false) heard

pub heard_apart : (most : ℕ) (xs ys : List Asking) (a c : Situation) → AreHeardOf most a (xs ++ ys) c → (b : Situation) × AreHeardOf most a xs b × AreHeardOf most b ys c
heard_apart most [] ys a c h = (a, refl, h)
heard_apart most (x ∷ xs) ys a c h = let rest = heard_apart most xs ys h.0 c h.2 in (rest.0, (h.0, h.1, rest.1), rest.2)

-- what was heard of the last of them, and before
record LastHeard (most : ℕ) (request : Request) (tn : ℕ) (others : List (List ℕ)) (heard : List ℕ) (before after : Situation) : Type 0 where
  mid : Situation
  vain : AreHeardOf most before (map (asking request tn) others) mid
  last : IsHeardOf most mid (asking request tn heard) after

last_heard : (most : ℕ) (request : Request) (tn : ℕ) (others : List (List ℕ)) (heard : List ℕ) (before after : Situation)
    → AreHeardOf most before (map (asking request tn) (others ++ heard ∷ [])) after → LastHeard most request tn others heard before after
last_heard most request tn others heard before after h =
    let parts = heard_apart most (map (asking request tn) others) (asking request tn heard ∷ []) before after
    (subst (λ (xs : List Asking). AreHeardOf most before xs after) (map-append (asking request tn) others (heard ∷ [])) h) in
    record {
      mid = parts.0;
      vain = parts.1;
      last = subst (λ (s : Situation). IsHeardOf most parts.0 (asking request tn heard) s) (sym parts.2.2) parts.2.1;
    }

-- ---- what was asked in vain, and then once more

-- nothing has happened yet, or the request has come to this, and no answer
abbrev SoFar : Request → List Fixture → List Fixture → Type 0
SoFar request line after = (after ≡ line) ⊎ ((heard : List ℕ) × IsVain request heard × Answered request line heard after)

-- the same, counted from another number
pub recount : (request : Request) (line : List Fixture) (heard : List ℕ) (after : List Fixture) (m m' n : ℕ) → IsKept request line heard after m m' → (n' : ℕ) × IsKept request line heard after n n'
recount request line heard after m m' n (inl h, e) = (n, (inl (h.0, inl refl), e))
recount request line heard after m m' n (inr h, e) = (suc n, (inr (h.0, inl refl), e))

then_answered : (request : Request) (line mid after : List Fixture) (heard : List ℕ) → SoFar request line mid → Answered request mid heard after → Answered request line heard after
then_answered request line mid after heard (inl e) now = subst (λ (l : List Fixture). Answered request l heard after) e now
then_answered request line mid after heard (inr (h, vain, inl k)) (inl k') =
    let r = recount request mid heard after k'.0 k'.1 k.1 k'.2 in
    inl (k.0, r.0, kept_kept request line mid h heard after k.0 k.1 r.0 vain k.2 r.1)
then_answered request line mid after heard (inr (h, vain, inl k)) (inr l') = inl (k.0, k.1, kept_lost request line mid h heard after k.0 k.1 k.1 vain k.2 l' refl)
then_answered request line mid after heard (inr (h, vain, inr l)) (inl k') = inl (k'.0, k'.1, lost_kept request line mid h heard after k'.0 k'.0 k'.1 l refl k'.2)
then_answered request line mid after heard (inr (h, vain, inr l)) (inr l') = inr (lost_lost request line mid h heard after l l')

answered_once : (most : ℕ) (request : Request) (tn : ℕ) (heard : List ℕ) (before after : Situation) → IsHeardOf most before (asking request tn heard) after → Answered request before.fixtures heard after.fixtures
answered_once most request tn heard before after (inl k) = inl (before.altered, after.altered, k.0)
answered_once most request tn heard before after (inr l) = inr l.0

vain_lossy : (most : ℕ) (request : Request) (source : Uid) (tn : ℕ) (others : List (List ℕ)) (line : List Fixture) (mid after : Situation) → AllVain (request_frame source tn request) others
    → SoFar request line mid.fixtures → AreHeardOf most mid (map (asking request tn) others) after → SoFar request line after.fixtures
vain_lossy most request source tn [] line mid after vain so h = subst (λ (s : Situation). SoFar request line s.fixtures) (sym h) so
vain_lossy most request source tn (heard ∷ others) line mid after vain so h =
    vain_lossy most request source tn others line h.0 after vain.1
    (inr (
      heard,
      unanswered request source tn heard vain.0,
      then_answered request line mid.fixtures h.0.fixtures heard so (answered_once most request tn heard mid h.0 h.1),
    )) h.2

-- All of them came to what one asking may come to.
pub answered_of : (most : ℕ) (request : Request) (source : Uid) (tn : ℕ) (others : List (List ℕ)) (heard : List ℕ) (before after : Situation) → AllVain (request_frame source tn request) others
    → AreHeardOf most before (map (asking request tn) (others ++ heard ∷ [])) after → Answered request before.fixtures heard after.fixtures
answered_of most request source tn others heard before after vain h =
    let l = last_heard most request tn others heard before after h in
    then_answered request before.fixtures l.mid.fixtures after.fixtures heard
    (vain_lossy most request source tn others before.fixtures before l.mid vain (inl refl) l.vain)
    (answered_once most request tn heard l.mid after l.last)

-- ---- the same where no more askings in a row are lost than so many

-- one asking came to this
abbrev IsStep : Request → List Fixture → List ℕ → List Fixture → ℕ → ℕ → ℕ → ℕ → Type 0
IsStep request line heard after lost lost' m m' = (IsKept request line heard after m m' × (lost' ≡ 0)) ⊎ (IsLost request line heard after × (lost' ≡ suc lost) × (m' ≡ m))

-- nothing has happened yet, or all is as if it had been asked once, or it was lost each time
abbrev InVain : Request → List Fixture → List Fixture → ℕ → ℕ → ℕ → ℕ → Type 0
InVain request line after n lost a m = ((n ≡ 0) × (after ≡ line) × (m ≡ a)) ⊎ ((heard : List ℕ) × IsVain request heard × Asked request line heard after n lost a m)

first_step : (request : Request) (line : List Fixture) (heard : List ℕ) (after : List Fixture) (n lost lost' a m m' : ℕ) → n ≡ 0 → m ≡ a → IsStep request line heard after lost lost' m m' → Asked request line heard after (n + 1) lost' a m'
first_step request line heard after n lost lost' a m m' none e (inl k) = inl (subst (λ (i : ℕ). IsKept request line heard after i m') e k.0)
first_step request line heard after n lost lost' a m m' none e (inr l) = inr (l.0, omega (arith, none, l.1), l.2 ∙ e)

then_step : (request : Request) (line mid after : List Fixture) (heard : List ℕ) (n lost lost' a m m' : ℕ) → InVain request line mid n lost a m → IsStep request mid heard after lost lost' m m' → Asked request line heard after (n + 1) lost' a m'
then_step request line mid after heard n lost lost' a m m' (inl e) step =
    first_step request line heard after n lost lost' a m m' e.0 e.2 (subst (λ (l : List Fixture). IsStep request l heard after lost lost' m m') e.1 step)
then_step request line mid after heard n lost lost' a m m' (inr (h, vain, asked)) step = once_more request line mid h heard after n (n + 1) lost lost' a m m' (omega arith) vain asked step

then_kept : (request : Request) (line mid after : List Fixture) (heard : List ℕ) (n lost a m m' : ℕ) → InVain request line mid n lost a m → IsKept request mid heard after m m' → IsKept request line heard after a m'
then_kept request line mid after heard n lost a m m' (inl e) now =
    subst (λ (l : List Fixture). IsKept request l heard after a m') e.1 (subst (λ (i : ℕ). IsKept request mid heard after i m') e.2 now)
then_kept request line mid after heard n lost a m m' (inr (h, vain, inl k)) now = kept_kept request line mid h heard after a m m' vain k now
then_kept request line mid after heard n lost a m m' (inr (h, vain, inr l)) now = lost_kept request line mid h heard after a m m' l.0 l.2 now

step_of : (most : ℕ) (request : Request) (tn : ℕ) (heard : List ℕ) (before after : Situation) → IsHeardOf most before (asking request tn heard) after → IsStep request before.fixtures heard after.fixtures before.lost after.lost before.altered after.altered
step_of most request tn heard before after (inl k) = inl k
step_of most request tn heard before after (inr l) = inr (l.0, l.1, l.3)

vain_so : (most : ℕ) (request : Request) (source : Uid) (tn : ℕ) (others : List (List ℕ)) (line : List Fixture) (n a : ℕ) (mid after : Situation) → AllVain (request_frame source tn request) others
    → InVain request line mid.fixtures n mid.lost a mid.altered → AreHeardOf most mid (map (asking request tn) others) after → InVain request line after.fixtures (n + length others) after.lost a after.altered
vain_so most request source tn [] line n a mid after vain so h =
    let none : n ≡ n + 0 = omega arith in
    subst (λ (k : ℕ). InVain request line after.fixtures k after.lost a after.altered) none
    (subst (λ (s : Situation). InVain request line s.fixtures n s.lost a s.altered) (sym h) so)
vain_so most request source tn (heard ∷ others) line n a mid after vain so h =
    let one : (n + 1) + length others ≡ n + length (heard ∷ others) = omega arith in
    subst (λ (k : ℕ). InVain request line after.fixtures k after.lost a after.altered) one
    (vain_so most request source tn others line (n + 1) a h.0 after vain.1
    (inr (
      heard,
      unanswered request source tn heard vain.0,
      then_step request line mid.fixtures h.0.fixtures heard n mid.lost h.0.lost a mid.altered h.0.altered so (step_of most request tn heard mid h.0 h.1),
    )) h.2)

-- it wasn't lost each time
not_all_lost : (request : Request) (line : List Fixture) (heard : List ℕ) (after : List Fixture) (n most lost a m : ℕ) → n ≡ most → lost ≤ most → Asked request line heard after (n + 1) lost a m → IsKept request line heard after a m
not_all_lost request line heard after n most lost a m all within (inl k) = k
not_all_lost request line heard after n most lost a m all within (inr l) = absurd (omega (arith, all, within, l.1))

last_step : (most : ℕ) (request : Request) (source : Uid) (tn : ℕ) (heard : List ℕ) (line : List Fixture) (n a : ℕ) (mid after : Situation) → (is_answered (request_frame source tn request) heard ≡ false → n ≡ most)
    → InVain request line mid.fixtures n mid.lost a mid.altered → IsHeardOf most mid (asking request tn heard) after → IsKept request line heard after.fixtures a after.altered
last_step most request source tn heard line n a mid after all vain (inl k) = then_kept request line mid.fixtures after.fixtures heard n mid.lost a mid.altered after.altered vain k.0
last_step most request source tn heard line n a mid after all vain (inr l) =
    not_all_lost request line heard after.fixtures n most after.lost a after.altered (all (void_is request source tn mid.fixtures heard l.0.0)) l.2
    (then_step request line mid.fixtures after.fixtures heard n mid.lost after.lost a mid.altered after.altered vain (step_of most request tn heard mid after (inr l)))

-- If one more was asked than may be lost in a row, they came to what one asking comes to of which nothing is lost.
pub kept_of : (most : ℕ) (request : Request) (source : Uid) (tn : ℕ) (others : List (List ℕ)) (heard : List ℕ) (before after : Situation) → AllVain (request_frame source tn request) others
    → (is_answered (request_frame source tn request) heard ≡ false → length others ≡ most)
    → AreHeardOf most before (map (asking request tn) (others ++ heard ∷ [])) after → IsKept request before.fixtures heard after.fixtures before.altered after.altered
kept_of most request source tn others heard before after vain all h =
    let l = last_heard most request tn others heard before after h in
    last_step most request source tn heard before.fixtures (0 + length others) before.altered l.mid after (λ none. omega (arith, all none))
    (vain_so most request source tn others before.fixtures 0 before.altered before l.mid vain (inl (refl, refl, refl)) l.vain)
    l.last
