-- What is loaded after the older of two images was replaced, or is gone.
use Rattle.std.proofs.Common.{◌≡◌, ℕ, ◌+◌, ◌%◌, ◌^◌, ◌⊎◌, Bool, true, false, cond, List, Option, Some, None, refl, sym, ap, subst, ◌∙◌, arith, inl, inr}
use Rattle.std.specs.Prelude.{◌==◌, Result, Ok, Err, OnErr}
use Rattle.std.proofs.lemmas.Bool.{eqb-true, eq-eqb}
use Rattle.rdm_images.specs.declared.memory.Side.{Side}
use Rattle.rdm_images.specs.declared.image.Image.{Image}
use Rattle.rdm_images.specs.declared.memory.Side.TheVariants.{First, Second}
use Rattle.rdm_images.specs.Areas.{other, newest, newest_of, loaded, payload_of, next_side, next_counter, said_of, is_next, IsSound, AreSound}
use Rattle.rdm_images.specs.Reading.{Saved, saved, held}

abbrev chosen : Saved → Saved → Bool → Option (Side × Saved)
chosen a b t = cond t (Some (Second, b)) (Some (First, a))

-- ---- the area of the next image holds none

first_of_two : (a b : Saved) (t : Bool) → next_side (said_of (chosen a b t)) ≡ First → Some b.payload ≡ payload_of (chosen a b t)
first_of_two a b true e = refl
first_of_two a b false e = cc

first_gone : (x y : Option Saved) → next_side (said_of (newest_of x y)) ≡ First → payload_of (newest_of None y) ≡ payload_of (newest_of x y)
first_gone None None e = refl
first_gone None (Some b) e = refl
first_gone (Some a) None e = cc
first_gone (Some a) (Some b) e = first_of_two a b (is_next a b) e

second_of_two : (a b : Saved) (t : Bool) → next_side (said_of (chosen a b t)) ≡ Second → Some a.payload ≡ payload_of (chosen a b t)
second_of_two a b true e = cc
second_of_two a b false e = refl

second_gone : (x y : Option Saved) → next_side (said_of (newest_of x y)) ≡ Second → payload_of (newest_of x None) ≡ payload_of (newest_of x y)
second_gone None None e = cc
second_gone None (Some b) e = cc
second_gone (Some a) None e = refl
second_gone (Some a) (Some b) e = second_of_two a b (is_next a b) e

-- ---- it holds the next image

first_counter : (a b : Saved) (t : Bool) (n : ℕ) → next_side (said_of (chosen a b t)) ≡ First → n ≡ next_counter (said_of (chosen a b t)) → n ≡ (b.counter + 1) % 2 ^ 16
first_counter a b true n e h = h
first_counter a b false n e h = cc

second_counter : (a b : Saved) (t : Bool) (n : ℕ) → next_side (said_of (chosen a b t)) ≡ Second → n ≡ next_counter (said_of (chosen a b t)) → n ≡ (a.counter + 1) % 2 ^ 16
second_counter a b true n e h = cc
second_counter a b false n e h = h

not_next : (m n : ℕ) (t : Bool) → (m % 2 ^ 16 == (n + 1) % 2 ^ 16) ≡ t → n ≡ (m + 1) % 2 ^ 16 → t ≡ false
not_next m n false e h = refl
not_next m n true e h = let same : m % 2 ^ 16 ≡ (n + 1) % 2 ^ 16 = eqb-true _ _ e in absurd (omega (arith, same, h))

before_new : (n : ℕ) (payload : List ℕ) (b : Saved) → n ≡ (b.counter + 1) % 2 ^ 16 → payload_of (newest_of (Some (saved n payload)) (Some b)) ≡ Some payload
before_new n payload b h =
    ap (λ (t : Bool). payload_of (chosen (saved n payload) b t)) (not_next b.counter n (is_next (saved n payload) b) refl h)

after_new : (n : ℕ) (payload : List ℕ) (a : Saved) → n ≡ (a.counter + 1) % 2 ^ 16 → payload_of (newest_of (Some a) (Some (saved n payload))) ≡ Some payload
after_new n payload a h =
    let yes : is_next a (saved n payload) ≡ true = eq-eqb _ _ (omega (arith, h)) in
    ap (λ (t : Bool). payload_of (chosen a (saved n payload) t)) yes

first_new : (x y : Option Saved) (n : ℕ) (payload : List ℕ) → next_side (said_of (newest_of x y)) ≡ First → n ≡ next_counter (said_of (newest_of x y)) → payload_of (newest_of (Some (saved n payload)) y) ≡ Some payload
first_new None None n payload e h = refl
first_new None (Some b) n payload e h = before_new n payload b h
first_new (Some a) None n payload e h = refl
first_new (Some a) (Some b) n payload e h = before_new n payload b (first_counter a b (is_next a b) n e h)

second_new : (x y : Option Saved) (n : ℕ) (payload : List ℕ) → next_side (said_of (newest_of x y)) ≡ Second → n ≡ next_counter (said_of (newest_of x y)) → payload_of (newest_of x (Some (saved n payload))) ≡ Some payload
second_new None None n payload e h = cc
second_new None (Some b) n payload e h = cc
second_new (Some a) None n payload e h = after_new n payload a h
second_new (Some a) (Some b) n payload e h = after_new n payload a (second_counter a b (is_next a b) n e h)

-- ---- over the two areas

at_first : (key : ℕ) (areas areas' : Side → List ℕ) (x : Option Saved) → held key (areas' First) ≡ x → areas' Second ≡ areas Second → loaded key areas' ≡ payload_of (newest_of x (held key (areas Second)))
at_first key areas areas' x e f = rw (e, f) refl

at_second : (key : ℕ) (areas areas' : Side → List ℕ) (x : Option Saved) → held key (areas' Second) ≡ x → areas' First ≡ areas First → loaded key areas' ≡ payload_of (newest_of (held key (areas First)) x)
at_second key areas areas' x e f = rw (e, f) refl

pub new_is_loaded : (key : ℕ) (areas areas' : Side → List ℕ) (side : Side) (n : ℕ) (payload : List ℕ)
    → next_side (said_of (newest key areas)) ≡ side → n ≡ next_counter (said_of (newest key areas))
    → areas' (other side) ≡ areas (other side) → held key (areas' side) ≡ Some (saved n payload)
    → loaded key areas' ≡ Some payload
new_is_loaded key areas areas' First n payload e h same new =
    at_first key areas areas' _ new same ∙ first_new (held key (areas First)) (held key (areas Second)) n payload e h
new_is_loaded key areas areas' Second n payload e h same new =
    at_second key areas areas' _ new same ∙ second_new (held key (areas First)) (held key (areas Second)) n payload e h

pub old_is_loaded : (key : ℕ) (areas areas' : Side → List ℕ) (side : Side)
    → next_side (said_of (newest key areas)) ≡ side
    → areas' (other side) ≡ areas (other side)
    → (held key (areas' side) ≡ None) ⊎ (held key (areas' side) ≡ held key (areas side))
    → loaded key areas' ≡ loaded key areas
old_is_loaded key areas areas' First e same (inl none) =
    at_first key areas areas' _ none same ∙ first_gone (held key (areas First)) (held key (areas Second)) e
old_is_loaded key areas areas' First e same (inr as_was) = at_first key areas areas' _ as_was same
old_is_loaded key areas areas' Second e same (inl none) =
    at_second key areas areas' _ none same ∙ second_gone (held key (areas First)) (held key (areas Second)) e
old_is_loaded key areas areas' Second e same (inr as_was) = at_second key areas areas' _ as_was same

pub whole_is_loaded : (key : ℕ) (areas areas' : Side → List ℕ) (side : Side) (n : ℕ) (payload : List ℕ)
    → next_side (said_of (newest key areas)) ≡ side → n ≡ next_counter (said_of (newest key areas))
    → areas' (other side) ≡ areas (other side)
    → (held key (areas' side) ≡ None) ⊎ ((held key (areas' side) ≡ held key (areas side)) ⊎ (held key (areas' side) ≡ Some (saved n payload)))
    → (loaded key areas' ≡ loaded key areas) ⊎ (loaded key areas' ≡ Some payload)
whole_is_loaded key areas areas' side n payload e h same (inl none) = inl (old_is_loaded key areas areas' side e same (inl none))
whole_is_loaded key areas areas' side n payload e h same (inr (inl as_was)) = inl (old_is_loaded key areas areas' side e same (inr as_was))
whole_is_loaded key areas areas' side n payload e h same (inr (inr new)) = inr (new_is_loaded key areas areas' side n payload e h same new)

pub all_sound : (areas areas' : Side → List ℕ) (side : Side) → areas' (other side) ≡ areas (other side) → (IsSound (areas side) → IsSound (areas' side)) → AreSound areas → AreSound areas'
all_sound areas areas' First same keeps sound First = keeps (sound First)
all_sound areas areas' First same keeps sound Second = subst IsSound (sym same) (sound Second)
all_sound areas areas' Second same keeps sound First = subst IsSound (sym same) (sound First)
all_sound areas areas' Second same keeps sound Second = keeps (sound Second)

-- ---- a save: the areas after the newest image was found, and after the next one was written

found_side : (key : ℕ) (areas : Side → List ℕ) (found : Option (Side × Image)) (side : Side) → found ≡ said_of (newest key areas) → side ≡ next_side found → next_side (said_of (newest key areas)) ≡ side
found_side key areas found side e f = ap next_side (sym e) ∙ sym f

pub save_is_whole : (key key1 key2 : ℕ) (areas areas1 areas2 : Side → List ℕ) (found : Option (Side × Image)) (side : Side) (n : ℕ) (payload : List ℕ)
    → key1 ≡ key → key2 ≡ key1 → found ≡ said_of (newest key areas) → side ≡ next_side found → n ≡ next_counter found
    → ((s : Side) → areas1 s ≡ areas s) → areas2 (other side) ≡ areas1 (other side)
    → (IsSound (areas1 side) → (held key1 (areas2 side) ≡ None) ⊎ ((held key1 (areas2 side) ≡ held key1 (areas1 side)) ⊎ (held key1 (areas2 side) ≡ Some (saved n payload))))
    → AreSound areas → (loaded key2 areas2 ≡ loaded key areas) ⊎ (loaded key2 areas2 ≡ Some payload)
save_is_whole key key1 key2 areas areas1 areas2 found side n payload k1 k2 e f h same1 same2 torn sound =
    let k : key1 ≡ key = k1 in
    let was : held key1 (areas1 side) ≡ held key (areas side) = ap (held key1) (same1 side) ∙ ap (λ (m : ℕ). held m (areas side)) k1 in
    let now : held key (areas2 side) ≡ held key1 (areas2 side) = ap (λ (m : ℕ). held m (areas2 side)) (sym k1) in
    let out = whole_is_loaded key areas areas2 side n payload (found_side key areas found side e f) (h ∙ ap next_counter e) (same2 ∙ same1 (other side))
    (elim (torn (subst IsSound (sym (same1 side)) (sound side))) [
      | inl none ↦ inl (now ∙ none)
      | inr (inl as_was) ↦ inr (inl (now ∙ as_was ∙ was))
      | inr (inr new) ↦ inr (inr (now ∙ new))
    ]) in
    rw (k2 ∙ k1) out

pub save_is_loaded : (key key1 key2 : ℕ) (areas areas1 areas2 : Side → List ℕ) (found : Option (Side × Image)) (side : Side) (n : ℕ) (payload : List ℕ)
    → key1 ≡ key → key2 ≡ key1 → found ≡ said_of (newest key areas) → side ≡ next_side found → n ≡ next_counter found
    → ((s : Side) → areas1 s ≡ areas s) → areas2 (other side) ≡ areas1 (other side)
    → held key1 (areas2 side) ≡ Some (saved n payload) → loaded key2 areas2 ≡ Some payload
save_is_loaded key key1 key2 areas areas1 areas2 found side n payload k1 k2 e f h same1 same2 new =
    let now : held key (areas2 side) ≡ held key1 (areas2 side) = ap (λ (m : ℕ). held m (areas2 side)) (sym k1) in
    rw (k2 ∙ k1) (new_is_loaded key areas areas2 side n payload (found_side key areas found side e f) (h ∙ ap next_counter e) (same2 ∙ same1 (other side)) (now ∙ new))

pub save_is_sound : (areas areas1 areas2 : Side → List ℕ) (side : Side) → ((s : Side) → areas1 s ≡ areas s) → areas2 (other side) ≡ areas1 (other side) → (IsSound (areas1 side) → IsSound (areas2 side)) → AreSound areas → AreSound areas2
save_is_sound areas areas1 areas2 side same1 same2 keeps sound =
    all_sound areas areas2 side (same2 ∙ same1 (other side)) (λ s. keeps (subst IsSound (sym (same1 side)) s)) sound

pub on_err : {T E P Q : Type 0} (r : Result T E) → (P → Q) → OnErr r P → OnErr r Q
on_err (Ok x) f h = h
on_err (Err e) f h = f h
