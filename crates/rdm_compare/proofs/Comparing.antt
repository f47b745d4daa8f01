-- Surveys that are compared.
use Rattle.std.specs.Prelude.{IsSome}
use Rattle.std.proofs.Common.{◌≡◌, ℕ, ◌==◌, eqb, Bool, true, false, cond, List, [], ◌∷◌, ◌++◌, Option, Some, None, refl, sym, ap, ◌∙◌}
use Rattle.std.specs.List.{flat_map, AllByRecursion}
use Rattle.std.specs.Str.{bytes_eq}
use Rattle.std.proofs.lemmas.Bool.{eqb-true, eq-eqb}
use Rattle.std.proofs.lemmas.Option.{same_Some}
use Rattle.std.proofs.lemmas.Slice.Eq.{bytes_eq-Decides}
use Rattle.rdm_frame.specs.declared.uid.Uid.{Uid}
use Rattle.rdm_survey.specs.declared.row.SubDevice.{SubDevice}
use Rattle.rdm_compare.specs.declared.difference.Difference.{Difference}
use Rattle.rdm_compare.specs.declared.field.Field.{Field}
use Rattle.rdm_compare.specs.declared.field.Field.TheVariants as field
use Rattle.rdm_compare.specs.declared.field.Told.{Told}
use Rattle.rdm_compare.specs.declared.field.Told.TheVariants as told
use Rattle.rdm_compare.specs.declared.kept.Kept.{Kept}
use Rattle.rdm_compare.specs.Differences.{arrival, changed, changes, differences, fate, field_change, fixture_changes, fixture_of, new_fixture, new_sub, sub_arrival, sub_changes, sub_fate, sub_of}
use Rattle.rdm_compare.specs.Fields.{a_number, fields, same_told, told_in}
use Rattle.rdm_compare.specs.Laws.{Agree, AreOnce, SubsAgree, SubsAreOnce, SurveysAgree}

-- ---- a survey and itself

same-refl : (t : Told) → same_told t t ≡ true
same-refl (told.Text a) = (bytes_eq-Decides a a).1 refl
same-refl (told.Number n) = eq-eqb n n refl

unchanged : (uid : Uid) (sub : ℕ) (f : Field) (o : Option Told) → changed uid sub f o o ≡ []
unfolding changed
unchanged uid sub f None = refl
unchanged uid sub f (Some t) = rw (same-refl t) refl

no_change : (k : Kept) (f : Field) → field_change k k f ≡ []
unfolding field_change
no_change k f = unchanged k.uid 0 f (told_in f k)

none_in : {A : Type 0} → (g : A → List Difference) (xs : List A) → AllByRecursion (λ x. g x ≡ []) xs → flat_map g xs ≡ []
none_in g [] h = refl
none_in g (x ∷ xs) h = rw (h.0, none_in g xs h.1) refl

all_of : {A : Type 0} {P Q : A → Type 0} → ((x : A) → P x → Q x) → (xs : List A) → AllByRecursion P xs → AllByRecursion Q xs
all_of f [] h = tt
all_of f (x ∷ xs) h = (f x h.0, all_of f xs h.1)

everywhere : {A : Type 0} {P : A → Type 0} → ((x : A) → P x) → (xs : List A) → AllByRecursion P xs
everywhere f [] = tt
everywhere f (x ∷ xs) = (f x, everywhere f xs)

same_sub : (uid : Uid) (s : SubDevice) → sub_changes uid s (Some s) ≡ []
same_sub uid s = rw (unchanged uid s.number field.Address (a_number s.address), unchanged uid s.number field.Footprint (Some (told.Number s.footprint))) refl

sub_stays : (uid : Uid) (subs : List SubDevice) (s : SubDevice) → sub_of s.number subs ≡ Some s → sub_fate uid subs s ≡ []
unfolding sub_fate
sub_stays uid subs s h = ap (λ (o : Option SubDevice). sub_changes uid s o) h ∙ same_sub uid s

sub_known : (uid : Uid) (subs : List SubDevice) (s : SubDevice) → sub_of s.number subs ≡ Some s → sub_arrival uid subs s ≡ []
unfolding sub_arrival
sub_known uid subs s h = ap (λ (o : Option SubDevice). new_sub uid s o) h

same_fixture : (k : Kept) → SubsAreOnce k.sub_devices → changes k k ≡ []
same_fixture k h =
    rw (none_in (field_change k k) fields (everywhere (no_change k) fields), none_in (sub_fate k.uid k.sub_devices) k.sub_devices (all_of (sub_stays k.uid k.sub_devices) k.sub_devices h), none_in (sub_arrival k.uid k.sub_devices) k.sub_devices (all_of (sub_known k.uid k.sub_devices) k.sub_devices h)) refl

stays : (list : List Kept) (k : Kept) → (fixture_of k.uid list ≡ Some k) × SubsAreOnce k.sub_devices → fate list k ≡ []
unfolding fate
stays list k h = ap (λ (o : Option Kept). fixture_changes k o) h.0 ∙ same_fixture k h.1

known : (list : List Kept) (k : Kept) → (fixture_of k.uid list ≡ Some k) × SubsAreOnce k.sub_devices → arrival list k ≡ []
unfolding arrival
known list k h = ap (λ (o : Option Kept). new_fixture k o) h.0

pub same_survey : (list : List Kept) → AreOnce list → differences list list ≡ []
same_survey list h = rw (none_in (fate list) list (all_of (stays list) list h), none_in (arrival list) list (all_of (known list) list h)) refl

-- ---- surveys with no difference

both_nil : {A : Type 0} → (xs ys : List A) → xs ++ ys ≡ [] → (xs ≡ []) × (ys ≡ [])
both_nil [] ys h = (refl, h)
both_nil (x ∷ xs) ys h = absurd cc

each_nil : {A : Type 0} → (g : A → List Difference) (xs : List A) → flat_map g xs ≡ [] → AllByRecursion (λ x. g x ≡ []) xs
each_nil g [] h = tt
each_nil g (x ∷ xs) h = let two = both_nil (g x) (flat_map g xs) h in (two.0, each_nil g xs two.1)

same_then : (a b : Told) → same_told a b ≡ true → a ≡ b
same_then (told.Text a) (told.Text b) h = ap (λ (t : List ℕ). told.Text t) ((bytes_eq-Decides a b).0 h)
same_then (told.Number m) (told.Number n) h = ap (λ (n : ℕ). told.Number n) (eqb-true m n h)
same_then (told.Text a) (told.Number n) h = absurd cc
same_then (told.Number m) (told.Text b) h = absurd cc

quiet : (t : Bool) (d : Difference) → cond t [] (d ∷ []) ≡ [] → t ≡ true
quiet true d h = refl
quiet false d h = absurd cc

agree : (uid : Uid) (sub : ℕ) (f : Field) (x y : Option Told) → changed uid sub f x y ≡ [] → Agree x y
unfolding changed
agree uid sub f None y h a b p q = absurd cc
agree uid sub f (Some x) None h a b p q = absurd cc
agree uid sub f (Some x) (Some y) h a b p q = sym (same_Some x a p) ∙ same_then x y (quiet _ _ h) ∙ same_Some y b q

in_field : (P : Field → Type 0) → AllByRecursion P fields → (f : Field) → P f
in_field P h field.Manufacturer = h.0
in_field P h field.Model = h.1.0
in_field P h field.ModelId = h.1.1.0
in_field P h field.Label = h.1.1.1.0
in_field P h field.Software = h.1.1.1.1.0
in_field P h field.SoftwareId = h.1.1.1.1.1.0
in_field P h field.Personality = h.1.1.1.1.1.1.0
in_field P h field.PersonalityName = h.1.1.1.1.1.1.1.0
in_field P h field.Personalities = h.1.1.1.1.1.1.1.1.0
in_field P h field.Address = h.1.1.1.1.1.1.1.1.1.0
in_field P h field.Footprint = h.1.1.1.1.1.1.1.1.1.1.0
in_field P h field.Hours = h.1.1.1.1.1.1.1.1.1.1.1.0

three_nil : {A : Type 0} → (xs ys zs : List A) → xs ++ ys ++ zs ≡ [] → (xs ≡ []) × ((ys ≡ []) × (zs ≡ []))
three_nil [] ys zs h = (refl, both_nil ys zs h)
three_nil (x ∷ xs) ys zs h = absurd cc

no_changes_in : (fs : List Field) (was is : Kept)
    → flat_map (field_change was is) fs ++ flat_map (sub_fate was.uid is.sub_devices) was.sub_devices ++ flat_map (sub_arrival was.uid was.sub_devices) is.sub_devices ≡ []
    → (flat_map (field_change was is) fs ≡ []) × ((flat_map (sub_fate was.uid is.sub_devices) was.sub_devices ≡ []) × (flat_map (sub_arrival was.uid was.sub_devices) is.sub_devices ≡ []))
no_changes_in fs was is h = three_nil _ _ _ h

no_changes : (was is : Kept) → changes was is ≡ []
    → (flat_map (field_change was is) fields ≡ []) × ((flat_map (sub_fate was.uid is.sub_devices) was.sub_devices ≡ []) × (flat_map (sub_arrival was.uid was.sub_devices) is.sub_devices ≡ []))
no_changes was is h = no_changes_in fields was is h

fields_agree : (was is : Kept) → changes was is ≡ [] → (f : Field) → Agree (told_in f was) (told_in f is)
unfolding field_change
fields_agree was is h f =
    agree was.uid 0 f (told_in f was) (told_in f is) (in_field (λ f. field_change was is f ≡ []) (each_nil (field_change was is) fields (no_changes was is h).0) f)

-- what a sub-device tells
numbers_agree : (x y : Option ℕ) → Agree (a_number x) (a_number y) → Agree x y
numbers_agree None y h a b p q = absurd cc
numbers_agree (Some x) None h a b p q = absurd cc
numbers_agree (Some x) (Some y) h a b p q = sym (same_Some x a p) ∙ number_same (h (told.Number x) (told.Number y) refl refl) ∙ same_Some y b q
  where
    number_same : told.Number x ≡ told.Number y → x ≡ y
    number_same e = cc

sub_there : (uid : Uid) (s : SubDevice) (o : Option SubDevice) → sub_changes uid s o ≡ [] → IsSome o
sub_there uid s None h = absurd cc
sub_there uid s (Some t) h = refl

sub_told : (uid : Uid) (s t : SubDevice) → sub_changes uid s (Some t) ≡ [] → Agree s.address t.address × (s.footprint ≡ t.footprint)
sub_told uid s t h =
    let two = both_nil _ _ h in
    let address = agree uid s.number field.Address (a_number s.address) (a_number t.address) two.0 in
    let footprint = agree uid s.number field.Footprint (Some (told.Number s.footprint)) (Some (told.Number t.footprint)) two.1 in
    (numbers_agree s.address t.address address, numbers_agree (Some s.footprint) (Some t.footprint) footprint s.footprint t.footprint refl refl)

sub_in_both : (uid : Uid) (is : List SubDevice) (s : SubDevice) → sub_fate uid is s ≡ [] → (t : SubDevice) → sub_of s.number is ≡ Some t
    → Agree s.address t.address × (s.footprint ≡ t.footprint)
unfolding sub_fate
sub_in_both uid is s h t e = sub_told uid s t (sym (ap (λ (o : Option SubDevice). sub_changes uid s o) e) ∙ h)

sub_still : (uid : Uid) (is : List SubDevice) (s : SubDevice) → sub_fate uid is s ≡ [] → IsSome (sub_of s.number is)
unfolding sub_fate
sub_still uid is s h = sub_there uid s (sub_of s.number is) h

not_new_sub : (uid : Uid) (s : SubDevice) (o : Option SubDevice) → new_sub uid s o ≡ [] → IsSome o
not_new_sub uid s None h = absurd cc
not_new_sub uid s (Some t) h = refl

sub_was : (uid : Uid) (was : List SubDevice) (s : SubDevice) → sub_arrival uid was s ≡ [] → IsSome (sub_of s.number was)
unfolding sub_arrival
sub_was uid was s h = not_new_sub uid s (sub_of s.number was) h

subs_agree : (was is : Kept) → changes was is ≡ [] → SubsAgree was.sub_devices is.sub_devices
subs_agree was is h =
    let fates = each_nil (sub_fate was.uid is.sub_devices) was.sub_devices (no_changes was is h).1.0 in
    let arrivals = each_nil (sub_arrival was.uid was.sub_devices) is.sub_devices (no_changes was is h).1.1 in
    record {
      there = all_of (sub_still was.uid is.sub_devices) was.sub_devices fates;
      known = all_of (sub_was was.uid was.sub_devices) is.sub_devices arrivals;
      address = all_of (λ s e t p. (sub_in_both was.uid is.sub_devices s e t p).0) was.sub_devices fates;
      footprint = all_of (λ s e t p. (sub_in_both was.uid is.sub_devices s e t p).1) was.sub_devices fates;
    }

still : (is : List Kept) (k : Kept) → fate is k ≡ [] → IsSome (fixture_of k.uid is)
unfolding fate
still is k h = by (fixture_of k.uid is) h
  where
    by : (o : Option Kept) → fixture_changes k o ≡ [] → IsSome o
    by None g = absurd cc
    by (Some l) g = refl

was_known : (was : List Kept) (k : Kept) → arrival was k ≡ [] → IsSome (fixture_of k.uid was)
unfolding arrival
was_known was k h = by (fixture_of k.uid was) h
  where
    by : (o : Option Kept) → new_fixture k o ≡ [] → IsSome o
    by None g = absurd cc
    by (Some l) g = refl

in_both : (is : List Kept) (k : Kept) → fate is k ≡ [] → (l : Kept) → fixture_of k.uid is ≡ Some l → changes k l ≡ []
unfolding fate
in_both is k h l e = sym (ap (λ (o : Option Kept). fixture_changes k o) e) ∙ h

pub they_agree : (was is : List Kept) → differences was is ≡ [] → SurveysAgree was is
they_agree was is h =
    let two = both_nil (flat_map (fate is) was) (flat_map (arrival was) is) h in
    let fates = each_nil (fate is) was two.0 in
    let arrivals = each_nil (arrival was) is two.1 in
    record {
      there = all_of (still is) was fates;
      known = all_of (was_known was) is arrivals;
      told = all_of (λ k e l p. fields_agree k l (in_both is k e l p)) was fates;
      subs = all_of (λ k e l p. subs_agree k l (in_both is k e l p)) was fates;
    }
