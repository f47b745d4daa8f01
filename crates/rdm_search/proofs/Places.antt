-- Where UIDs lie among the ranges of a depth.
use Rattle.std.proofs.Common.{◌≡◌, ℕ, ◌+◌, ◌-◌, ◌*◌, ◌/◌, ◌^◌, ◌<◌, ◌≤◌, Bool, ◌&&◌, not, eqb, leb, refl, sym, ap, ◌∙◌, add-one, suc, subst, inl, inr, arith}
use Rattle.std.proofs.Math.Nat.{pow-le-pow_right, add-mul}
use Rattle.std.proofs.lemmas.Nat.{pow_pos, pow-add, shr-shr, row_fits, le-div, div_below}
use Rattle.std.proofs.lemmas.Bool.{cases_lt, and_left, and_right, and_from, le-leb, lt-leb, ne_eqb, eq-eqb}
use Rattle.rdm_frame.specs.declared.uid.Uid.{Uid}
use Rattle.rdm_frame.specs.FrameText.{IsUid}
use Rattle.rdm_frame.specs.UidNumber.{uid_number}
use Rattle.rdm_search.specs.declared.range.Range.{Range}
use Rattle.rdm_search.specs.Line.{Fixture, calls}
use Rattle.rdm_search.specs.Ranges.{uid_of, width, place, low, high}
use Rattle.rdm_search.specs.Stages.{is_in}

pub width_pos : (d : ℕ) → 0 < width d
width_pos d = pow_pos (48 - d)

pub width_fits : (d : ℕ) → width d ≤ 2 ^ 48
width_fits d = let h : 48 - d ≤ 48 = omega arith in pow-le-pow_right {n = 2} (omega arith) h

pub range_fits : (d i : ℕ) → d ≤ 48 → i < 2 ^ d → i * width d + width d ≤ 2 ^ 48
range_fits d i h k =
    let e : 2 ^ d * 2 ^ (48 - d) ≡ 2 ^ 48 = sym (pow-add 2 d (48 - d)) ∙ ap (λ (n : ℕ). 2 ^ n) (let s : d + (48 - d) ≡ 48 = omega arith in s) in
    let f = row_fits i (2 ^ (48 - d)) (2 ^ d) (2 ^ (48 - d)) k (omega arith) in
    subst (λ (n : ℕ). i * 2 ^ (48 - d) + 2 ^ (48 - d) ≤ n) e f

pub number_of : (n : ℕ) → uid_number (uid_of n) ≡ n
number_of n = omega arith

pub number_fits : (u : Uid) → IsUid u → uid_number u < 2 ^ 48
number_fits u fits = omega (arith, fits.maker, fits.device)

abbrev uid : ℕ → ℕ → Uid
uid m d = record { maker = m; device = d }

uid_same : (m m' d d' : ℕ) → m ≡ m' → d ≡ d' → uid m d ≡ uid m' d'
uid_same m m' d d' e1 e2 = rw (e1, e2) refl

pub one_number : (u v : Uid) → IsUid u → IsUid v → uid_number u ≡ uid_number v → u ≡ v
one_number u v fu fv e =
    uid_same u.maker v.maker u.device v.device (omega (arith, fu.maker, fu.device, fv.maker, fv.device)) (omega (arith, fu.maker, fu.device, fv.maker, fv.device))

pub uid_of_number : (u : Uid) → IsUid u → uid_of (uid_number u) ≡ u
uid_of_number u fits = uid_same _ u.maker _ u.device (omega (arith, fits.maker, fits.device)) (omega (arith, fits.maker, fits.device))

-- ---- halves

pub halves : (d n : ℕ) → d < 48 → n / 2 ^ (48 - d) ≡ n / 2 ^ (48 - (d + 1)) / 2
halves d n h =
    let e : 48 - d ≡ 48 - (d + 1) + 1 = omega arith in
    ap (λ (k : ℕ). n / 2 ^ k) e ∙ sym (shr-shr n (48 - (d + 1)) 1)

-- at the last depth a place is a number
pub last_place : (u : Uid) → place 48 u ≡ uid_number u
last_place u = omega arith

pub first_place : (u : Uid) → IsUid u → place 0 u ≡ 0
first_place u fits = omega (arith, fits.maker, fits.device)

in_place : (w n i : ℕ) → 0 < w → (leb (i * w) n && leb n (i * w + (w - 1))) ≡ eqb (n / w) i
in_place w n i pos =
    elim (cases_lt n (i * w)) [
      | inl below ↦ and_left _ _ (lt-leb (i * w) n below) ∙ sym (ne_eqb (n / w) i (λ e. let h = div_below n w i pos below in omega arith))
      | inr above ↦ elim (cases_lt n ((i + 1) * w)) [
        | inl here ↦ and_from _ _ (le-leb (i * w) n above) (le-leb n (i * w + (w - 1)) (let e = add-mul i 1 w in omega (arith, e))) ∙ sym (eq-eqb (n / w) i (let a = le-div i n w pos above in let b = div_below n w (i + 1) pos here in omega arith))
        | inr beyond ↦ and_right _ _ (lt-leb n (i * w + (w - 1)) (let e = add-mul i 1 w in omega (arith, e))) ∙ sym (ne_eqb (n / w) i (λ e. let h = le-div (i + 1) n w pos beyond in omega arith))
      ]
    ]

abbrev test : Bool → ℕ → ℕ → ℕ → Bool
test m a b n = not m && (leb a n && leb n b)

-- a fixture that answers lies in the range
pub calls_in : (r : Range) (f : Fixture) → calls (low r) (high r) f ≡ is_in r.depth r.index f
calls_in r f =
    let w = width r.depth in let a = r.index * w in let b = r.index * w + (w - 1) in let n = uid_number f.uid in
    ap (λ (k : ℕ). test f.muted k (uid_number (high r)) n) (number_of a) ∙ ap (λ (k : ℕ). test f.muted a k n) (number_of b) ∙ ap (λ (t : Bool). not f.muted && t) (in_place w n r.index (width_pos r.depth))

pub parent_fits : (d i : ℕ) → 0 < d → i < 2 ^ d → i / 2 < 2 ^ (d - 1)
parent_fits d i some fits =
    let e : d ≡ d - 1 + 1 = omega arith in
    let h : i < 2 ^ (d - 1) * 2 = subst (λ (n : ℕ). i < n) (ap (λ (k : ℕ). 2 ^ k) e ∙ pow-add 2 (d - 1) 1) fits in
    omega arith

pub child_fits : (d i : ℕ) → i < 2 ^ d → 2 * i + 1 < 2 ^ (d + 1)
child_fits d i fits = let e : 2 ^ (d + 1) ≡ 2 ^ d * 2 = pow-add 2 d 1 in omega arith

pub halves_suc : (d : ℕ) (u : Uid) → d < 48 → place d u ≡ place (suc d) u / 2
halves_suc d u h = halves d (uid_number u) h ∙ ap (λ (k : ℕ). uid_number u / 2 ^ (48 - k) / 2) (add-one d)
