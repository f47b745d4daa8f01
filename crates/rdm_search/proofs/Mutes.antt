-- What a mute tells.
use Rattle.std.proofs.Common.{◌≡◌, ◌≢◌, ℕ, zero, suc, ◌+◌, ◌-◌, ◌*◌, ◌<◌, ◌≤◌, Bool, true, false, not, ltb, ◌&&◌, ◌||◌, List, [], ◌∷◌, ◌++◌, map, length, get_or, refl, sym, ap, ◌∙◌, subst, inl, inr, ◌⊎◌, arith}
use Rattle.std.specs.Prelude.{All, Contains}
use Rattle.std.proofs.lemmas.Bool.{cases_Bool, cases_eq, cases_lt, or_cases, or_parts, and_parts, and_from, eq-eqb, eqb-true, lt-ltb, le-ltb, false≢true}
use Rattle.std.proofs.lemmas.List.{get_or-map, length-map}
use Rattle.std.proofs.lemmas.List.Elements.{All-head, All-tail, All-map, All-push, Contains-get_or, Contains-append_left, Contains-push}
use Rattle.std.proofs.lemmas.List.Quantifiers.{all_pairs_push}
use Rattle.rdm_frame.specs.declared.uid.Uid.{Uid}
use Rattle.rdm_frame.specs.UidNumber.{uid_number}
use Rattle.rdm_frame.specs.Addressing.{is_addressed, same_uid, is_broadcast}
use Rattle.rdm_search.specs.declared.range.Range.{Range}
use Rattle.rdm_search.specs.declared.stage.Stage.{Stage}
use Rattle.rdm_search.specs.declared.stage.Stage.TheVariants.{Asking, Muting}
use Rattle.rdm_search.specs.Line.{Fixture, IsDevice, uids, after_mute}
use Rattle.rdm_search.specs.Ranges.{place, IsRange}
use Rattle.rdm_search.specs.Stages.{when, count, busy, is_unmuted, is_astray, stage_after, halved, IsReal, IsLeft, IsDue, IsUnmuted, Stands, Leads, Strays}
use Rattle.rdm_search.proofs.Places.{one_number, last_place}
use Rattle.rdm_search.proofs.Counts.{fewer, no_more, counted, addressed_itself}
use Rattle.rdm_search.proofs.Prices.{later_less, busy_one_less, mute_pays, stray_pays}
use Rattle.rdm_search.proofs.Standing.{IsKnown, IsCovered, IsPast, behind, lower, single}

abbrev pub fixture : Uid → Bool → Fixture
fixture u m = record { uid = u; muted = m }

pub two : (f g : Fixture) (line after : List Fixture) → g ≡ f → after ≡ line → g ∷ after ≡ f ∷ line
two f g line after e e' = rw (e, e') refl

abbrev uid : ℕ → ℕ → Uid
uid m d = record { maker = m; device = d }

uid_same : (m m' d d' : ℕ) → m ≡ m' → d ≡ d' → uid m d ≡ uid m' d'
uid_same m m' d d' e1 e2 = rw (e1, e2) refl

pub same : (u v : Uid) → same_uid u v ≡ true → u ≡ v
same u v h = let p = and_parts _ _ h in uid_same u.maker v.maker u.device v.device (eqb-true _ _ p.0) (eqb-true _ _ p.1)

-- a mute for a device addresses no other one
one_addressed : (own u : Uid) → IsDevice u → is_addressed own u ≡ true → own ≡ u
one_addressed own u device h =
    elim (or_cases (same_uid u own) _ h) [
      | inl s ↦ sym (same u own s)
      | inr b ↦ absurd (false≢true (sym device.one ∙ (and_parts (is_broadcast u) _ b).0))
    ]

pub same_uids : (u : Uid) (line : List Fixture) → uids (map (after_mute u) line) ≡ uids line
same_uids u [] = refl
same_uids u (f ∷ line) = ap (λ (us : List Uid). f.uid ∷ us) (same_uids u line)

pub members : (line : List Fixture) → All (λ f. Contains (uids line) f.uid) line
members line = λ k d h. subst (Contains (uids line)) (get_or-map (λ (f : Fixture). f.uid) line k d d.uid h) (Contains-get_or (uids line) k d.uid (let e : length (uids line) ≡ length line = simp length-map in omega arith))

-- a device of the line that wasn't found isn't muted
present : (u : Uid) (found : List Uid) (line : List Fixture) → All (IsKnown found) line → Contains (uids line) u → (Contains found u → ⊥) → IsUnmuted u line
present u found [] known (k, h, e) new = absurd (omega arith)
present u found (f ∷ line) known (zero, h, e) new =
    elim (cases_Bool f.muted) [
      | inl m ↦ absurd (new (subst (Contains found) e (All-head (IsKnown found) f line known m)))
      | inr m ↦ inl (e, m)
    ]
present u found (f ∷ line) known (suc k, h, e) new = inr (present u found line (All-tail (IsKnown found) f line known) (k, omega arith, e) new)

real_after : (u : Uid) (found : List Uid) (line : List Fixture) → IsReal found line → IsReal found (map (after_mute u) line)
real_after u found line real = record {
  devices = All-map (λ (f : Fixture). IsDevice f.uid) (after_mute u) line real.devices;
  real = λ k d h. subst (λ (us : List Uid). Contains us (get_or found k d)) (sym (same_uids u line)) (real.real k d h);
  once = real.once;
}

known_after : (u : Uid) → IsDevice u → (found : List Uid) (line : List Fixture) → All (IsKnown found) line → (Contains (uids line) u → Contains found u) → All (IsKnown found) (map (after_mute u) line)
known_after u device found line known there =
    All-map (IsKnown found) (after_mute u) line (λ k d h m.
    elim (or_cases _ _ m) [
      | inl muted ↦ known k d h muted
      | inr addressed ↦ (let e = one_addressed (get_or line k d).uid u device addressed in subst (Contains found) (sym e) (there (subst (Contains (uids line)) e (members line k d h))))
    ])

covered_after : (u : Uid) (d i : ℕ) (line : List Fixture) → All (IsCovered d i) line → All (IsCovered d i) (map (after_mute u) line)
covered_after u d i line covered = All-map (IsCovered d i) (after_mute u) line (λ k f h m. covered k f h (or_parts _ _ m).0)

-- ---- the UID that was heard is one of those that answered, or more than one did

not_so : (b : Bool) → not b ≡ true → b ≡ false
not_so true e = absurd (false≢true e)
not_so false e = refl

so : (b : Bool) → not b ≡ false → b ≡ true
so true e = refl
so false e = absurd (false≢true (sym e))

or_right : (a b : Bool) → b ≡ true → (a || b) ≡ true
or_right true b e = refl
or_right false b e = e

no_and : (a b : Bool) → b ≡ false → (a && b) ≡ false
no_and true b e = e
no_and false b e = refl

same_itself : (u v : Uid) → u ≡ v → same_uid u v ≡ true
same_itself u v e = and_from _ _ (eq-eqb u.maker v.maker (ap (λ (w : Uid). w.maker) e)) (eq-eqb u.device v.device (ap (λ (w : Uid). w.device) e))

is_there : (u : Uid) (line : List Fixture) → IsUnmuted u line → is_unmuted u line ≡ true
is_there u [] h = absurd h
is_there u (f ∷ line) (inl h) = ap (λ (b : Bool). b || is_unmuted u line) (and_from (same_uid f.uid u) (not f.muted) (same_itself f.uid u h.0) (ap not h.1))
is_there u (f ∷ line) (inr h) = or_right (same_uid f.uid u && not f.muted) (is_unmuted u line) (is_there u line h)

there_is : (u : Uid) (line : List Fixture) → is_unmuted u line ≡ true → IsUnmuted u line
there_is u [] h = absurd (false≢true h)
there_is u (f ∷ line) h =
    elim (or_cases (same_uid f.uid u && not f.muted) (is_unmuted u line) h) [
      | inl one ↦ (let parts = and_parts (same_uid f.uid u) (not f.muted) one in inl (same f.uid u parts.0, not_so f.muted parts.1))
      | inr rest ↦ inr (there_is u line rest)
    ]

abbrev pub IsSure : Range → Uid → List Fixture → Type 0
IsSure r u line = (2 ≤ count r.depth r.index line) ⊎ IsUnmuted u line

pub not_astray : (r : Range) (u : Uid) (line : List Fixture) → IsSure r u line → is_astray r u line ≡ false
not_astray r u line (inl two) = ap (λ (b : Bool). b && not (is_unmuted u line)) (le-ltb (count r.depth r.index line) 2 two)
not_astray r u line (inr one) = no_and (ltb (count r.depth r.index line) 2) (not (is_unmuted u line)) (ap not (is_there u line one))

sure_of : (r : Range) (u : Uid) (line : List Fixture) → is_astray r u line ≡ false → IsSure r u line
sure_of r u line e =
    elim (cases_lt (count r.depth r.index line) 2) [
      | inl few ↦ inr (there_is u line (so (is_unmuted u line) (sym (ap (λ (b : Bool). b && not (is_unmuted u line)) (lt-ltb (count r.depth r.index line) 2 few)) ∙ e)))
      | inr many ↦ inl (omega (arith, many))
    ]

pub sure_counts : (r : Range) (u : Uid) (line : List Fixture) → place r.depth u ≡ r.index → IsSure r u line → 1 ≤ count r.depth r.index line
sure_counts r u line within sure =
    elim sure [ inl two ↦ omega (arith, two) | inr one ↦ counted u r.depth r.index within line one ]

-- ---- it answered, and was new

known_push : (u : Uid) (found : List Uid) (line : List Fixture) → All (IsKnown found) line → All (IsKnown (found ++ u ∷ [])) line
known_push u found line known = λ k d h m. Contains-append_left found (u ∷ []) _ (known k d h m)

pub real_push : (u : Uid) (found : List Uid) (line : List Fixture) → IsReal found line → Contains (uids line) u → (Contains found u → ⊥) → IsReal (found ++ u ∷ []) line
real_push u found line real there new = record {
  devices = real.devices;
  real = All-push (Contains (uids line)) found u real.real there;
  once = all_pairs_push (λ (v w : Uid). v ≢ w) found u real.once (λ k d h e. new (subst (Contains found) e (Contains-get_or found k d h)));
}

pub newly : (r : Range) → IsRange r → (u : Uid) (found : List Uid) (line : List Fixture) → Stands (Muting r u) found line → Contains (uids line) u → (Contains found u → ⊥) → Leads (Muting r u) line (Asking r) (found ++ u ∷ []) (map (after_mute u) line)
newly r fits u found line stands there new =
    let left = stands.0 in let due = stands.1 in let d = r.depth in let i = r.index in
    let now = present u found line left.known there new in
    let less = fewer u d i due.within line now in
    let less_busy = busy_one_less d i fits.0 line (map (after_mute u) line) less in
    let less_later = later_less u d i line in
    let push = real_push u found line left.real there new in
    let next : IsLeft d i (found ++ u ∷ []) (map (after_mute u) line) = record {
      real = real_after u (found ++ u ∷ []) line push;
      known = known_after u due.device (found ++ u ∷ []) line (known_push u found line left.known) (λ h. Contains-push found u);
      covered = covered_after u d i line left.covered;
    } in
    (next, omega arith)

itself : (v u : Uid) → v ≡ u → is_addressed v u ≡ true
itself v u e = subst (λ (w : Uid). is_addressed w u ≡ true) (sym e) (addressed_itself u)

-- ---- it was known, or didn't answer

past_after : (u : Uid) → IsDevice u → (i : ℕ) (line : List Fixture) → All (λ f. IsDevice f.uid) line → uid_number u ≡ i → All (IsCovered 48 i) line → All (IsPast 48 i) (map (after_mute u) line)
past_after u device i line devices e covered =
    All-map (IsPast 48 i) (after_mute u) line (λ k f h m.
    let parts = or_parts _ _ m in
    let le = covered k f h parts.0 in
    let v = (get_or line k f).uid in
    elim (cases_eq (uid_number v) i) [
      | inl at ↦ absurd (false≢true (sym parts.1 ∙ itself v u (one_number v u (devices k f h).fits device.fits (at ∙ sym e))))
      | inr ne ↦ (let p = last_place v in omega arith)
    ])

due_pays : (r : Range) (u : Uid) (line : List Fixture) → place r.depth u ≡ r.index → IsSure r u line → (2 ≤ count r.depth r.index line) ⊎ (count r.depth r.index (map (after_mute u) line) + 1 ≤ count r.depth r.index line)
due_pays r u line within sure =
    elim sure [ inl two ↦ inl two | inr one ↦ inr (fewer u r.depth r.index within line one) ]

-- a halving after it is paid for
halving_pays : (r : Range) (u : Uid) (line : List Fixture) → r.depth < 48 → IsDue r u line → busy r.depth r.index (map (after_mute u) line) + 6 ≤ busy r.depth r.index line + 3 * count r.depth r.index (map (after_mute u) line) + when (is_astray r u line) 3
halving_pays r u line shallow due =
    let d = r.depth in let i = r.index in let after = map (after_mute u) line in
    let less = no_more u d i line in
    elim (cases_Bool (is_astray r u line)) [
      | inl astray ↦
          let three : when (is_astray r u line) 3 ≡ 3 = ap (λ (b : Bool). when b 3) astray in
          let pays = stray_pays d i shallow line after less due.some in
          omega (arith, pays, three)
      | inr sure ↦
          let pays = mute_pays d i shallow line after less (due_pays r u line due.within (sure_of r u line sure)) in
          omega (arith, pays)
    ]

four_each : (n d : ℕ) → d ≡ 48 → 1 ≤ n → 4 ≤ n * (148 - 3 * d)
four_each n d e some = let P : ℕ → Type 0 = λ k. 4 ≤ n * (148 - 3 * k) in let four : P 48 = omega arith in subst P (sym e) four

pub again : (r : Range) → IsRange r → (u : Uid) (found : List Uid) (line : List Fixture) → Stands (Muting r u) found line → (Contains (uids line) u → Contains found u) → Leads (Muting r u) line (halved r) found (map (after_mute u) line)
again r fits u found line stands there =
    let left = stands.0 in let due = stands.1 in let d = r.depth in let i = r.index in
    let after = map (after_mute u) line in
    let real = real_after u found line left.real in
    let known = known_after u due.device found line left.known there in
    let less_later = later_less u d i line in
    elim (cases_lt d 48) [
      | inl shallow ↦
          let now : IsLeft d i found after = record { real = real; known = known; covered = covered_after u d i line left.covered } in
          let next = lower r shallow found after now in
          let pays = halving_pays r u line shallow due in
          (next.0, omega (arith, next.1))
      | inr deep ↦
          let deepest : d ≡ 48 = omega (arith, fits.0) in
          let number : uid_number u ≡ i = sym (last_place u) ∙ ap (λ (k : ℕ). place k u) (sym deepest) ∙ due.within in
          let covered : All (IsCovered 48 i) line = subst (λ (k : ℕ). All (IsCovered k i) line) deepest left.covered in
          let ahead : All (IsPast d i) after = subst (λ (k : ℕ). All (IsPast k i) after) (sym deepest) (past_after u due.device i line left.real.devices number covered) in
          let next = behind d i fits.0 found after real known ahead in
          let four = four_each (count d i line) d deepest due.some in
          let here : Leads (Muting r u) line (stage_after d i) found after = (next.0, omega (arith, next.1)) in
          subst (λ (stage : Stage). Leads (Muting r u) line stage found after) (sym (single r deepest)) here
    ]

-- ---- nobody answers, and noise is heard

or_false : (m b : Bool) → b ≡ false → (m || b) ≡ m
or_false true b e = refl
or_false false b e = e

unaddressed : (u : Uid) → IsDevice u → (f : Fixture) → (f.uid ≡ u → ⊥) → after_mute u f ≡ f
unaddressed u device f other =
    let not_it : is_addressed f.uid u ≡ false = elim (cases_Bool (is_addressed f.uid u)) [ inl it ↦ absurd (other (one_addressed f.uid u device it)) | inr no' ↦ no' ] in
    ap (λ (m : Bool). fixture f.uid m) (or_false f.muted (is_addressed f.uid u) not_it)

-- the fixtures are as they were
nobody_muted : (u : Uid) → IsDevice u → (line : List Fixture) → (Contains (uids line) u → ⊥) → map (after_mute u) line ≡ line
nobody_muted u device [] gone = refl
nobody_muted u device (f ∷ line) gone =
    two f (after_mute u f) line (map (after_mute u) line) (unaddressed u device f (λ e. gone (0, omega arith, e))) (nobody_muted u device line (λ there. gone (suc there.0, omega (arith, there.1), there.2)))

-- the same mute is sent again
pub sent_again : (r : Range) (u : Uid) (found : List Uid) (line : List Fixture) → Stands (Muting r u) found line → (Contains (uids line) u → ⊥) → Strays (Muting r u) line (Muting r u) found (map (after_mute u) line)
sent_again r u found line stands gone =
    let here : Strays (Muting r u) line (Muting r u) found line = (stands, omega arith) in
    subst (λ (l : List Fixture). Strays (Muting r u) line (Muting r u) found l) (sym (nobody_muted u stands.1.device line gone)) here

-- the search goes on without an answer
pub given_up : (r : Range) → IsRange r → (u : Uid) (found : List Uid) (line : List Fixture) → Stands (Muting r u) found line → (Contains (uids line) u → ⊥) → Strays (Muting r u) line (halved r) found (map (after_mute u) line)
given_up r fits u found line stands gone =
    let on = again r fits u found line stands (λ there. absurd (gone there)) in
    (on.0, omega (arith, on.1))
