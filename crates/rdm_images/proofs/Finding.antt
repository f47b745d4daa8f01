-- Where the newest image is.
use Rattle.std.proofs.Common.{◌≡◌, ℕ, ◌+◌, ◌≤◌, Bool, true, false, cond, List, length, take, drop, Option, Some, None, refl, sym, ap, subst, ◌∙◌, arith, inl, inr}
use Rattle.rdm_images.specs.declared.image.Image.{Image}
use Rattle.rdm_images.specs.declared.memory.Side.{Side}
use Rattle.rdm_images.specs.declared.memory.Side.TheVariants.{First, Second}
use Rattle.rdm_images.specs.Areas.{newest, newest_of, loaded, payload_of, said_of, said_by, is_next}
use Rattle.rdm_images.specs.Reading.{Saved, saved_at, held, said, PassesAll}
use Rattle.rdm_frame.specs.Reading.{word_at}
use Rattle.rdm_images.proofs.Holding.{held_cases, held_some}
use Rattle.std.proofs.lemmas.List.{length-take, length-drop}

-- its header and its payload lie in the area
abbrev IsThere : List ℕ → Saved → Type 0
IsThere t s = (12 + length s.payload ≤ length t) × (s.payload ≡ take (length s.payload) (drop 12 t))

some_there : (t : List ℕ) (key : ℕ) → PassesAll key t → IsThere t (saved_at t)
some_there t key ok =
    let n : length (take (word_at t 10) (drop 12 t)) ≡ word_at t 10 = omega (arith, length-take (word_at t 10) (drop 12 t), length-drop 12 t, ok.0.0.0, ok.0.0.1) in
    (omega (arith, n, ok.0.0.1), ap (λ (m : ℕ). take m (drop 12 t)) (sym n))

abbrev from_some : Option Saved → Saved → Saved
from_some None s = s
from_some (Some r) s = r

there : (key : ℕ) (t : List ℕ) (s : Saved) → held key t ≡ Some s → IsThere t s
there key t s e =
    elim (held_cases key t) [
      | inl none ↦ cc
      | inr ok ↦ let same : saved_at t ≡ s = ap (λ (o : Option Saved). from_some o s) (sym (held_some key t ok) ∙ e) in subst (IsThere t) same (some_there t key ok)
    ]

abbrev head : Saved → Image
head s = record { counter = s.counter; length = length s.payload }

-- the image that a header and a side tell of
pub record Lies (areas : Side → List ℕ) (side : Side) (image : Image) (payload : Option (List ℕ)) : Type 0 where
  pub within : 12 + image.length ≤ length (areas side)
  pub value : payload ≡ Some (take image.length (drop 12 (areas side)))

abbrev side_or : Side → Option (Side × Image) → Side
side_or side None = side
side_or side (Some f) = f.0

abbrev length_or : ℕ → Option (Side × Image) → ℕ
length_or n None = n
length_or n (Some f) = f.1.length

one_lies : (areas : Side → List ℕ) (side at : Side) (s : Saved) (image : Image) → IsThere (areas at) s
    → said_of (Some (at, s)) ≡ Some (side, image) → Lies areas side image (Some s.payload)
one_lies areas side at s image h e =
    let same_side : at ≡ side = ap (side_or at) e in
    let same_len : length s.payload ≡ image.length = ap (length_or 0) e in
    subst (λ (x : Side). Lies areas x image (Some s.payload)) same_side (record {
      within = omega (arith, h.0, same_len);
      value = ap Some (h.1 ∙ ap (λ (m : ℕ). take m (drop 12 (areas at))) same_len);
    })

abbrev chosen : Saved → Saved → Bool → Option (Side × Saved)
chosen a b t = cond t (Some (Second, b)) (Some (First, a))

two_lie : (areas : Side → List ℕ) (side : Side) (image : Image) (a b : Saved) (t : Bool) → IsThere (areas First) a → IsThere (areas Second) b
    → said_of (chosen a b t) ≡ Some (side, image) → Lies areas side image (payload_of (chosen a b t))
two_lie areas side image a b true h g e = one_lies areas side Second b image g e
two_lie areas side image a b false h g e = one_lies areas side First a image h e

newest_lies : (areas : Side → List ℕ) (side : Side) (image : Image) (x y : Option Saved)
    → ((s : Saved) → x ≡ Some s → IsThere (areas First) s) → ((s : Saved) → y ≡ Some s → IsThere (areas Second) s)
    → said_of (newest_of x y) ≡ Some (side, image) → Lies areas side image (payload_of (newest_of x y))
newest_lies areas side image None None h g e = cc
newest_lies areas side image None (Some b) h g e = one_lies areas side Second b image (g b refl) e
newest_lies areas side image (Some a) None h g e = one_lies areas side First a image (h a refl) e
newest_lies areas side image (Some a) (Some b) h g e = two_lie areas side image a b (is_next a b) (h a refl) (g b refl) e

pub found_lies : (key : ℕ) (areas : Side → List ℕ) (side : Side) (image : Image) → said_of (newest key areas) ≡ Some (side, image) → Lies areas side image (loaded key areas)
found_lies key areas side image e =
    newest_lies areas side image (held key (areas First)) (held key (areas Second)) (λ s f. there key (areas First) s f) (λ s f. there key (areas Second) s f) e

said_two : (a b : Saved) (t : Bool) → cond t (Some (Second, head b)) (Some (First, head a)) ≡ said_of (chosen a b t)
said_two a b true = refl
said_two a b false = refl

pub said_newest : (x y : Option Saved) → said_by (said x) (said y) ≡ said_of (newest_of x y)
said_newest None None = refl
said_newest None (Some b) = refl
said_newest (Some a) None = refl
said_newest (Some a) (Some b) = said_two a b (is_next a b)

pub found_is : (key : ℕ) (areas : Side → List ℕ) (x y : Option Image) (found : Option (Side × Image)) → found ≡ said_by x y → x ≡ said (held key (areas First)) → y ≡ said (held key (areas Second)) → found ≡ said_of (newest key areas)
found_is key areas x y found e f h = rw (e, f, h) (said_newest (held key (areas First)) (held key (areas Second)))
