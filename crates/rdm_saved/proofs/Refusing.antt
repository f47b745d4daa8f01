-- Which images are refused.
use Rattle.std.proofs.Common.{◌≡◌, ◌≢◌, ℕ, ◌+◌, ◌-◌, ◌*◌, ◌%◌, ◌^◌, ◌<◌, ◌≤◌, Bool, true, false, ◌==◌, not, List, ◌++◌, length, length-append, take, drop, get_or, set, sum, Some, None, Option, refl, sym, ap, ◌∙◌, subst, arith, inl, inr, true≢false}
use Rattle.std.specs.Prelude.{slice_index, ◌⊎◌, if◌then◌else◌}
use Rattle.std.specs.Str.{bytes_eq}
use Rattle.rdm_profile.specs.declared.profile.Profile.{Profile}
use Rattle.rdm_profile.specs.Values.{word_slots}
use Rattle.std.specs.Int.{w32, from_be_bytes}
use Rattle.std.proofs.lemmas.Bool.{cases_lt, cases_Bool, eq-eqb, ne_eqb, eqb-true}
use Rattle.std.proofs.lemmas.List.{take_at, drop_at, length-map, length-take, length-drop, length-set, take-set-le, drop-set-lt, drop-set-add, get_or-take, get_or-drop, get_or-set_same}
use Rattle.std.proofs.Math.Seq.{take-set-lt}
use Rattle.std.proofs.lemmas.List.Sums.{sum_by-set}
use Rattle.std.proofs.lemmas.Nat.{from_be_bytes-to_be_bytes_4}
use Rattle.std.proofs.lemmas.Slice.Eq.{bytes_eq-Decides}
use Rattle.rdm_added.specs.declared.state.CommonValues.{CommonValues}
use Rattle.rdm_added.specs.declared.state.RootValues.{RootValues}
use Rattle.rdm_added.specs.Parameters.{Parameters}
use Rattle.rdm_added.specs.Views.State.{kept_entry}
use Rattle.rdm_saved.specs.declared.errors.RestoreError.{RestoreError}
use Rattle.rdm_saved.specs.declared.errors.RestoreError.TheVariants.{Length, Altered, OfAnother}
use Rattle.rdm_saved.specs.SavedText.{kept, profile_text, values_text, sum_text, saved_text}
use Rattle.rdm_saved.specs.Carrying.{word_at, said_len, root_place, carried}
use Rattle.rdm_saved.specs.SameProfile.{profile_size, restored_whole}
use Rattle.rdm_saved.specs.Restoring.{saved_len, is_sound, is_of_model, says_profile, wanted_len, restored, restore_refusal}
use Rattle.rdm_saved.specs.Laws.{IsWhole, AreTexts, AreWhole, AreOfOneMake}
use Rattle.rdm_saved.proofs.Back.{length_back, says_back}
use Rattle.rdm_saved.proofs.Lists.{take_take}
use Rattle.rdm_saved.proofs.Profiles.{text_size}
use Rattle.rdm_saved.proofs.Sizes.{len_is}

-- the first of three tests that fails
abbrev pub first_of : Bool → Bool → Bool → Option RestoreError
first_of a b c = if not a then Some Length else if not b then Some Altered else if not c then Some OfAnother else None

is_some : Option RestoreError → Type 0
is_some None = ⊥
is_some (Some e) = Unit {0}

record AllPass (a b c : Bool) : Type 0 where
  length : a ≡ true
  sound : b ≡ true
  model : c ≡ true

all_pass : (a b c : Bool) → first_of a b c ≡ None → AllPass a b c
unfolding is_some
all_pass true true true e = record { length = refl; sound = refl; model = refl }
all_pass true true false e = absurd (subst is_some e tt)
all_pass true false c e = absurd (subst is_some e tt)
all_pass false b c e = absurd (subst is_some e tt)

accepted : (maker : ℕ) (p : Parameters) (image : List ℕ) → restore_refusal maker p image ≡ None → AllPass (length image == wanted_len p image) (is_sound image) (is_of_model maker p image)
unfolding restore_refusal
accepted maker p image e = all_pass _ _ _ e

pub wanted_length : (maker : ℕ) (p : Parameters) (image : List ℕ) → restore_refusal maker p image ≡ None → length image ≡ wanted_len p image
wanted_length maker p image e = eqb-true (length image) (wanted_len p image) (accepted maker p image e).length

-- ---- what is saved

sound_text : (values : List ℕ) → is_sound (values ++ sum_text values) ≡ true
sound_text values =
    let k : length (values ++ sum_text values) - 4 ≡ length values = omega (arith, length-append values (sum_text values)) in
    let front : take (length (values ++ sum_text values) - 4) (values ++ sum_text values) ≡ values = take_at values (sum_text values) _ (sym k) in
    let back : drop (length (values ++ sum_text values) - 4) (values ++ sum_text values) ≡ sum_text values = drop_at values (sum_text values) _ (sym k) in
    (bytes_eq-Decides _ _).1 (back ∙ ap sum_text (sym front))

saved_is_sound : (maker : ℕ) (saved : Parameters) → is_sound (saved_text maker saved) ≡ true
unfolding saved_text
saved_is_sound maker saved = sound_text (values_text maker saved)

model_back : (maker : ℕ) (saved : Parameters) → take 4 (saved_text maker saved) ≡ word_slots maker ++ word_slots saved.profile.root.model
unfolding saved_text
model_back maker saved = refl

model_same : (maker : ℕ) (now saved : Parameters) → AreOfOneMake now saved → is_of_model maker now (saved_text maker saved) ≡ true
model_same maker now saved make =
    (bytes_eq-Decides _ _).1 (model_back maker saved ∙ ap (λ (p : Profile). word_slots maker ++ word_slots p.root.model) (sym make.profile))

pub saved_accepted : (maker : ℕ) (now saved : Parameters) → IsWhole saved.root → AreTexts saved.added → AreWhole saved.subs → AreOfOneMake now saved → restore_refusal maker now (saved_text maker saved) ≡ None
unfolding restore_refusal
saved_accepted maker now saved root added subs make =
    let sound : is_sound (saved_text maker saved) ≡ true = saved_is_sound maker saved in
    rw (says_back maker now saved make, eq-eqb (length (saved_text maker saved)) (saved_len now) (length_back maker now saved root added subs make), sound, model_same maker now saved make) refl

-- ---- what is said at the front

-- a byte within a front is one of the whole
byte_front : (n i : ℕ) (image : List ℕ) → i < n → slice_index (take n image) i ≡ slice_index image i
byte_front n i image lt = get_or-take n image i 0 lt

word_front : (n i : ℕ) (image : List ℕ) → i + 1 < n → word_at (take n image) i ≡ word_at image i
word_front n i image lt =
    let high : slice_index (drop i (take n image)) 0 ≡ slice_index (drop i image) 0 = get_or-drop i (take n image) 0 0 ∙ byte_front n (i + 0) image (omega (arith, lt)) ∙ sym (get_or-drop i image 0 0) in
    let low : slice_index (drop i (take n image)) 1 ≡ slice_index (drop i image) 1 = get_or-drop i (take n image) 1 0 ∙ byte_front n (i + 1) image lt ∙ sym (get_or-drop i image 1 0) in
    rw (high, low) refl

-- how long an image says that it is
said_front : (n : ℕ) (image : List ℕ) → 23 ≤ n → said_len (take n image) ≡ said_len image
said_front n image long =
    rw (word_front n 16 image (omega (arith, long)), word_front n 21 image (omega (arith, long)), byte_front n 18 image (omega (arith, long)), byte_front n 19 image (omega (arith, long)), byte_front n 20 image (omega (arith, long))) refl

-- ---- another byte

sum_of_text : (xs : List ℕ) → from_be_bytes w32 (sum_text xs) ≡ sum xs % 2 ^ 32
sum_of_text xs = from_be_bytes-to_be_bytes_4 (sum xs % 2 ^ 32) (omega arith)

other_sum : (xs : List ℕ) (i byte : ℕ) → i < length xs → get_or xs i 0 < 256 → byte < 256 → byte ≢ get_or xs i 0 → sum_text xs ≡ sum_text (set xs i byte) → ⊥
other_sum xs i byte lt small byte_small other e =
    let sums : sum xs % 2 ^ 32 ≡ sum (set xs i byte) % 2 ^ 32 = sym (sum_of_text xs) ∙ ap (from_be_bytes w32) e ∙ sum_of_text (set xs i byte) in
    let moved : sum (set xs i byte) + get_or xs i 0 ≡ sum xs + byte = sum_by-set (λ x. x) xs i byte 0 lt in
    other (omega (arith, sums, moved, small, byte_small))

altered_is_unsound : (image : List ℕ) (i byte : ℕ) → 4 ≤ length image → is_sound image ≡ true → i < length image → get_or image i 0 < 256 → byte < 256 → byte ≢ get_or image i 0 → is_sound (set image i byte) ≡ true → ⊥
altered_is_unsound image i byte long sound lt small byte_small other sound' =
    let k : ℕ = length image - 4 in
    let was : drop k image ≡ sum_text (take k image) = (bytes_eq-Decides _ _).0 sound in
    let same_len : length (set image i byte) - 4 ≡ k = ap (λ (n : ℕ). n - 4) (length-set image i byte) in
    let is : drop k (set image i byte) ≡ sum_text (take k (set image i byte)) = ap (λ (n : ℕ). drop n (set image i byte)) (sym same_len) ∙ (bytes_eq-Decides _ _).0 sound' ∙ ap (λ (n : ℕ). sum_text (take n (set image i byte))) same_len in
    elim (cases_lt i k) [
      | inl here ↦
          let at : get_or (take k image) i 0 ≡ get_or image i 0 = get_or-take k image i 0 here in
          let within : i < length (take k image) = omega (arith, length-take k image, here) in
          let e : sum_text (take k image) ≡ sum_text (set (take k image) i byte) = sym was ∙ sym (drop-set-lt k image i byte here) ∙ is ∙ ap sum_text (take-set-lt k image i byte here) in
          other_sum (take k image) i byte within (omega (arith, at, small)) byte_small (λ same. other (same ∙ at)) e
      | inr behind ↦
          let j : ℕ = i - k in
          let place : k + j ≡ i = omega (arith, behind) in
          let within : j < length (drop k image) = omega (arith, length-drop k image, place, lt) in
          let set_is : drop k (set image i byte) ≡ set (drop k image) j byte = ap (λ (n : ℕ). drop k (set image n byte)) (sym place) ∙ drop-set-add k image j byte in
          let e : set (drop k image) j byte ≡ drop k image = sym set_is ∙ is ∙ ap sum_text (take-set-le k image i byte behind) ∙ sym was in
          let at : get_or (drop k image) j 0 ≡ get_or image i 0 = get_or-drop k image j 0 ∙ ap (λ (n : ℕ). get_or image n 0) place in
          other (sym (get_or-set_same (drop k image) j byte 0 within) ∙ ap (λ (xs : List ℕ). get_or xs j 0) e ∙ at)
    ]

by_same : (b : Bool) (n x y : ℕ) → (if b then n == x else n == y) ≡ (n == (if b then x else y))
by_same true n x y = refl
by_same false n x y = refl

least_length : (p : Parameters) (image : List ℕ) → length image ≡ wanted_len p image → 4 ≤ length image
least_length p image len = elim (cases_Bool (says_profile p image)) [
  | inl says ↦ omega (arith, len, ap (λ (b : Bool). if b then saved_len p else said_len image) says)
  | inr silent ↦ omega (arith, len, ap (λ (b : Bool). if b then saved_len p else said_len image) silent)
]

-- ---- what a front says

-- a front that says the profile is as long as what says it
says_long : (p : Parameters) (image : List ℕ) → says_profile p image ≡ true → profile_size p.profile ≤ length image
says_long p image says =
    let s : ℕ = profile_size p.profile in
    let is : drop 2 (take s image) ≡ profile_text p.profile (length p.added) = (bytes_eq-Decides _ _).0 says in
    omega (arith, ap length is, length-drop 2 (take s image), length-take s image, text_size p.profile (length p.added))

-- an image that is shorter doesn't say it
pub says_short : (p : Profile) (kept : ℕ) (image : List ℕ) → length image < profile_size p → bytes_eq (drop 2 (take (profile_size p) image)) (profile_text p kept) ≡ false
says_short p kept image short = elim (cases_Bool (bytes_eq (drop 2 (take (profile_size p) image)) (profile_text p kept))) [
  | inl says ↦
      let is : drop 2 (take (profile_size p) image) ≡ profile_text p kept = (bytes_eq-Decides _ _).0 says in
      absurd (omega (arith, ap length is, length-drop 2 (take (profile_size p) image), length-take (profile_size p) image, text_size p kept, short))
  | inr silent ↦ silent
]

says_front : (p : Parameters) (image : List ℕ) (n : ℕ) → profile_size p.profile ≤ n → says_profile p (take n image) ≡ says_profile p image
says_front p image n long =
    let s : ℕ = profile_size p.profile in
    let sum : n ≡ s + (n - s) = omega (arith, long) in
    let front : take s (take n image) ≡ take s image = ap (λ (k : ℕ). take s (take k image)) sum ∙ take_take s (n - s) image in
    ap (λ (xs : List ℕ). bytes_eq (drop 2 xs) (profile_text p.profile (length p.added))) front

-- what is said at a place
text_at : (p : Parameters) (image : List ℕ) (i : ℕ) → says_profile p image ≡ true → i < 21 → slice_index image (2 + i) ≡ slice_index (profile_text p.profile (length p.added)) i
text_at p image i says lt =
    let s : ℕ = profile_size p.profile in
    let is : drop 2 (take s image) ≡ profile_text p.profile (length p.added) = (bytes_eq-Decides _ _).0 says in
    sym (get_or-drop 2 (take s image) i 0 ∙ byte_front s (2 + i) image (omega (arith, lt))) ∙ ap (λ (xs : List ℕ). slice_index xs i) is

-- an image that says the profile says where its values begin
place_said : (p : Parameters) (image : List ℕ) → says_profile p image ≡ true → root_place image ≡ profile_size p.profile
place_said p image says =
    let own : slice_index image 19 ≡ length p.profile.particulars.own = text_at p image 17 says (omega arith) in
    let without : slice_index image 20 ≡ length p.profile.particulars.without.items = text_at p image 18 says (omega arith) in
    rw (own, without) refl

-- ---- a cut

differs : (maker : ℕ) (p : Parameters) (image : List ℕ) → length image ≢ wanted_len p image → restore_refusal maker p image ≡ Some Length
unfolding restore_refusal
differs maker p image other = rw (ne_eqb (length image) (wanted_len p image) other) refl

pub cut_refused : (maker : ℕ) (p : Parameters) (image : List ℕ) (n : ℕ) → restore_refusal maker p image ≡ None → n < length image → restore_refusal maker p (take n image) ≡ Some Length
cut_refused maker p image n ok lt =
    let cut : List ℕ = take n image in
    let len : length image ≡ wanted_len p image = wanted_length maker p image ok in
    let short : length cut ≡ n = omega (arith, length-take n image, lt) in
    elim (cases_Bool (says_profile p cut)) [
      | inl says ↦
          let long : profile_size p.profile ≤ n = omega (arith, says_long p cut says, short) in
          let whole : says_profile p image ≡ true = sym (says_front p image n long) ∙ says in
          let all : length image ≡ saved_len p = len ∙ ap (λ (b : Bool). if b then saved_len p else said_len image) whole in
          let wanted : wanted_len p cut ≡ saved_len p = ap (λ (b : Bool). if b then saved_len p else said_len cut) says in
          differs maker p cut (λ same. omega (arith, same, short, wanted, all, lt))
      | inr silent ↦
          let wanted : wanted_len p cut ≡ said_len cut = ap (λ (b : Bool). if b then saved_len p else said_len cut) silent in
          elim (cases_lt n 23) [
            | inl few ↦ differs maker p cut (λ same. omega (arith, same, short, wanted, few))
            | inr enough ↦
                let said : said_len cut ≡ said_len image = said_front n image enough in
                elim (cases_Bool (says_profile p image)) [
                  | inl whole ↦
                      elim (cases_lt n (profile_size p.profile)) [
                        | inl within ↦ differs maker p cut (λ same. omega (arith, same, short, wanted, said, within, place_said p image whole))
                        | inr long ↦ absurd (true≢false (sym whole ∙ sym (says_front p image n long) ∙ silent))
                      ]
                  | inr other ↦
                      let all : length image ≡ said_len image = len ∙ ap (λ (b : Bool). if b then saved_len p else said_len image) other in
                      differs maker p cut (λ same. omega (arith, same, short, wanted, said, all, lt))
                ]
          ]
    ]

-- ---- another byte of an image

-- how long an image is to be, where no byte of what says the profile is another
wanted_same : (p : Parameters) (image : List ℕ) (i byte : ℕ) → profile_size p.profile ≤ i → wanted_len p (set image i byte) ≡ wanted_len p image
wanted_same p image i byte behind =
    let s : ℕ = profile_size p.profile in
    let says : says_profile p (set image i byte) ≡ says_profile p image = ap (λ (xs : List ℕ). bytes_eq (drop 2 xs) (profile_text p.profile (length p.added))) (take-set-le s image i byte behind) in
    let front : take 23 (set image i byte) ≡ take 23 image = take-set-le 23 image i byte (omega (arith, behind)) in
    let said : said_len (set image i byte) ≡ said_len image = sym (said_front 23 (set image i byte) (omega arith)) ∙ ap said_len front ∙ said_front 23 image (omega arith) in
    ap (λ (b : Bool). if b then saved_len p else said_len (set image i byte)) says ∙ ap (λ (n : ℕ). if says_profile p image then saved_len p else n) said

refused_unsound : (maker : ℕ) (p : Parameters) (image : List ℕ) → is_sound image ≡ false → (length image == wanted_len p image) ≡ true → restore_refusal maker p image ≡ Some Altered
unfolding restore_refusal
refused_unsound maker p image unsound long = rw (long, unsound) refl

refused_long : (maker : ℕ) (p : Parameters) (image : List ℕ) → (length image == wanted_len p image) ≡ false → restore_refusal maker p image ≡ Some Length
unfolding restore_refusal
refused_long maker p image long = rw long refl

pub altered_refused : (maker : ℕ) (p : Parameters) (image : List ℕ) (i byte : ℕ) → restore_refusal maker p image ≡ None → i < length image → slice_index image i < 256 → byte < 256 → byte ≢ slice_index image i → (restore_refusal maker p (set image i byte) ≡ Some Altered) ⊎ ((i < profile_size p.profile) × (restore_refusal maker p (set image i byte) ≡ Some Length))
altered_refused maker p image i byte ok lt small byte_small other =
    let now : List ℕ = set image i byte in
    let len : length image ≡ wanted_len p image = wanted_length maker p image ok in
    let least : 4 ≤ length image = least_length p image len in
    let unsound : is_sound now ≡ false = elim (cases_Bool (is_sound now)) [
      | inl sound' ↦ absurd (altered_is_unsound image i byte least (accepted maker p image ok).sound lt small byte_small other sound')
      | inr not_sound ↦ not_sound
    ] in
    elim (cases_Bool (length now == wanted_len p now)) [
      | inl long ↦ inl (refused_unsound maker p now unsound long)
      | inr long ↦
          elim (cases_lt i (profile_size p.profile)) [
            | inl within ↦ inr (within, refused_long maker p now long)
            | inr behind ↦
                let same : length now ≡ wanted_len p now = length-set image i byte ∙ len ∙ sym (wanted_same p image i byte behind) in
                absurd (true≢false (sym (eq-eqb (length now) (wanted_len p now) same) ∙ long))
          ]
    ]

-- ---- the tests, one after the other

first_same : {a a' b b' c c' : Bool} → a ≡ a' → b ≡ b' → c ≡ c' → first_of a b c ≡ first_of a' b' c'
first_same ea eb ec = rw (ea, eb, ec) refl

pub record Tested (p : Parameters) (image : List ℕ) (is_same is_long : Bool) : Type 0 where
  pub same : is_same ≡ says_profile p image
  pub fits : is_long ≡ (length image == wanted_len p image)

-- what is found of the profile and of the length
pub tested : (p : Profile) (d : CommonValues) (o : RootValues) (ds : List CommonValues) (image : List ℕ) (count : ℕ) (same fits : Bool) → count ≡ length o.added.items → same ≡ bytes_eq (drop 2 (take (profile_size p) image)) (profile_text p count) → fits ≡ (if same then length image == 88 + 4 * length p.particulars.own + 2 * length p.particulars.without.items + 2 * length o.sensors.items + 37 * length o.added.items + 46 * length ds else length image == said_len image) → Tested (kept p d o ds) image same fits
tested p d o ds image count same fits many is_same fit =
    let values : Parameters = kept p d o ds in
    let says : same ≡ says_profile values image = is_same ∙ ap (λ (n : ℕ). bytes_eq (drop 2 (take (profile_size p) image)) (profile_text p n)) (many ∙ sym (length-map o.added.items kept_entry)) in
    let long : fits ≡ (if same then length image == saved_len values else length image == said_len image) = fit ∙ ap (λ (n : ℕ). if same then length image == n else length image == said_len image) (sym (len_is p d o ds)) in
    record { same = says; fits = long ∙ by_same same (length image) (saved_len values) (said_len image) ∙ ap (λ (b : Bool). length image == (if b then saved_len values else said_len image)) says }

-- what the three tests of a program find
pub found : (maker : ℕ) (p : Parameters) (image : List ℕ) (fits sound model : Bool) → fits ≡ (length image == wanted_len p image) → sound ≡ is_sound image → model ≡ is_of_model maker p image → first_of fits sound model ≡ restore_refusal maker p image
unfolding restore_refusal
found maker p image fits sound model fit is_sound is_model = first_same fit is_sound is_model

-- that the length is the wanted one
pub long_enough : (p : Parameters) (image : List ℕ) (fits : Bool) → fits ≡ (length image == wanted_len p image) → fits ≡ true → length image ≡ wanted_len p image
long_enough p image fits fit passed = eqb-true (length image) (wanted_len p image) (sym fit ∙ passed)

-- how long an image of the same profile is
pub same_length : (p : Profile) (d : CommonValues) (o : RootValues) (ds : List CommonValues) (image : List ℕ) (b : Bool) → b ≡ says_profile (kept p d o ds) image → b ≡ true → length image ≡ wanted_len (kept p d o ds) image → length image ≡ 88 + 4 * length p.particulars.own + 2 * length p.particulars.without.items + 2 * length o.sensors.items + 37 * length o.added.items + 46 * length ds
same_length p d o ds image b is passed long =
    long ∙ ap (λ (same : Bool). if same then saved_len (kept p d o ds) else said_len image) (sym is ∙ passed) ∙ len_is p d o ds

-- what is restored from it
pub restored_same : (p : Parameters) (image : List ℕ) (b : Bool) → b ≡ says_profile p image → b ≡ true → restored_whole p image ≡ restored p image
unfolding restored
restored_same p image b is passed = ap (λ (same : Bool). if same then restored_whole p image else carried p image) (sym (sym is ∙ passed))
