-- The slots that all sub-devices use, as one block.
use Rattle.std.proofs.Common.{◌≡◌, ◌≢◌, ◌↔◌, ℕ, zero, suc, ◌+◌, ◌<◌, ◌≤◌, ◌==◌, ◌||◌, Bool, false, cond, List, [], ◌∷◌, ◌++◌, length, map, get_or, set, take, drop, refl, sym, ap, ◌∙◌, add-one, arith}
use Rattle.std.specs.Prelude.{min}
use Rattle.std.proofs.Math.Nat.{min-eq_left}
use Rattle.std.proofs.lemmas.Bool.{ne_eqb}
use Rattle.std.proofs.lemmas.List.{at_drop_more, at_drop_all, get_or-map, get_or-set_same, length-map}
use Rattle.std.proofs.lemmas.List.Sums.{sum_by-cons}
use Rattle.rdm_added.specs.declared.state.CommonValues.{CommonValues}
use Rattle.rdm_profile.specs.declared.profile.Profile.{Profile}
use Rattle.rdm_profile.specs.declared.value.Value.TheVariants.{Word}
use Rattle.rdm_device.specs.Columns.Changes.{stored_at}
use Rattle.rdm_profile.specs.Forms.{word}
use Rattle.rdm_device.specs.Device.Blocks.{sub_devices, total, started, started_from}
use Rattle.rdm_added.specs.Map.{Entry, update}
use Rattle.rdm_added.specs.Spot.{Spot, sub_device, footprint}
use Rattle.rdm_added.specs.Views.State.{common_entries}
use Rattle.rdm_added.proofs.KeptValues.{set_own, not_either, either_false}

-- behind the last one those of all are counted
pub counted_all : (profile : Profile) (subs : List CommonValues) (so_far all i : ℕ) → length subs ≤ i → so_far ≤ 65535 → min (so_far + total (sub_devices profile (map common_entries (drop i subs)))) 65535 ≡ all → so_far ≡ all
counted_all profile subs so_far all i le few e =
    let none : total (sub_devices profile (map common_entries (drop i subs))) ≡ 0 = at_drop_all (λ (cs : List CommonValues). total (sub_devices profile (map common_entries cs))) subs i le in
    let whole : so_far ≡ so_far + total (sub_devices profile (map common_entries (drop i subs))) = omega (arith, none) in
    sym (min-eq_left few) ∙ ap (λ (n : ℕ). min n 65535) whole ∙ e

-- a device that uses slots starts at another address
pub started_here : (start used : ℕ) (spot : Spot) (new : List Entry) → used ≡ footprint spot → used ≢ 0 → new ≡ update (stored_at 0x00F0 word spot (Word start)) spot.entries → new ≡ started start spot
started_here start used spot new is some e =
    let uses : (footprint spot == 0) ≡ false = ne_eqb _ _ (λ none. some (is ∙ none)) in
    e ∙ ap (λ (b : Bool). cond b spot.entries (update (stored_at 0x00F0 word spot (Word start)) spot.entries)) (sym uses)

-- ---- a list of which the front is written already, by another of the same length

module _ {B : Type 0} (d : B) where
  set_front : (to from : List B) (i : ℕ) → i < length from → length to ≡ length from → set (take i to ++ drop i from) i (get_or to i d) ≡ take (suc i) to ++ drop (suc i) from
  set_front [] [] i lt e = absurd (omega arith)
  set_front [] (y ∷ ys) i lt e = absurd (omega (arith, e))
  set_front (x ∷ xs) [] i lt e = absurd (omega arith)
  set_front (x ∷ xs) (y ∷ ys) zero lt e = refl
  set_front (x ∷ xs) (y ∷ ys) (suc i) lt e = ap (λ (zs : List B). x ∷ zs) (set_front xs ys i (omega arith) (omega (arith, e)))

  at_front : (to from : List B) (i : ℕ) → i < length from → length to ≡ length from → get_or (take i to ++ drop i from) i d ≡ get_or from i d
  at_front [] [] i lt e = absurd (omega arith)
  at_front [] (y ∷ ys) i lt e = absurd (omega (arith, e))
  at_front (x ∷ xs) [] i lt e = absurd (omega arith)
  at_front (x ∷ xs) (y ∷ ys) zero lt e = refl
  at_front (x ∷ xs) (y ∷ ys) (suc i) lt e = at_front xs ys i (omega arith) (omega (arith, e))

  first_or : List B → B
  first_or [] = d
  first_or (x ∷ xs) = x

  rest_of : List B → List B
  rest_of [] = []
  rest_of (x ∷ xs) = xs

  at_first : (xs rest : List B) (x : B) (i : ℕ) → i < length xs → drop i xs ≡ x ∷ rest → get_or xs i d ≡ x
  unfolding first_or
  at_first xs rest x i lt e = sym (at_drop_more first_or xs i d lt) ∙ ap first_or e

  at_rest : (xs rest : List B) (x : B) (i : ℕ) → i < length xs → drop i xs ≡ x ∷ rest → drop (i + 1) xs ≡ rest
  unfolding rest_of
  at_rest xs rest x i lt e = sym (at_drop_more rest_of xs i d lt) ∙ ap rest_of e

  -- a write of one more leaves all as they were exactly if those before it did, and this one does
  same_more : (before here after : Bool) (to from now next : List B) (i : ℕ) → i < length from → length to ≡ length from → length now ≡ length from → now ≡ take i to ++ drop i from → next ≡ set now i (get_or to i d) → ((here ≡ false) ↔ (next ≡ now)) → ((before ≡ false) ↔ (now ≡ from)) → after ≡ (before || here) → ((after ≡ false) ↔ (next ≡ from))
  same_more before here after to from now next i lt as_many len so_far e one all joined = (
    λ none. let both = not_either before here (sym joined ∙ none) in one.0 both.1 ∙ all.0 both.0,
    λ same.
        let own : get_or now i d ≡ get_or from i d = ap (λ (ys : List B). get_or ys i d) so_far ∙ at_front to from i lt as_many in
        let within : i < length now = omega (arith, len, lt) in
        let written : get_or next i d ≡ get_or to i d = ap (λ (ys : List B). get_or ys i d) e ∙ get_or-set_same now i (get_or to i d) d within in
        let kept : get_or to i d ≡ get_or now i d = sym written ∙ ap (λ (ys : List B). get_or ys i d) same ∙ sym own in
        let still : next ≡ now = e ∙ set_own d now i (get_or to i d) within kept in
        let first : before ≡ false = all.1 (sym still ∙ same) in
        joined ∙ either_false before here first (one.1 still),
  )

-- ---- one more sub-device that starts behind those before it

pub as_many_start : (start : ℕ) (spots : List Spot) → length (started_from start spots) ≡ length spots
as_many_start start [] = refl
as_many_start start (spot ∷ spots) = ap suc (as_many_start (start + footprint spot) spots)

pub as_many_values : (profile : Profile) (start : ℕ) (from : List (List Entry)) → length (started_from start (sub_devices profile from)) ≡ length from
as_many_values profile start from = as_many_start start (sub_devices profile from) ∙ length-map from (sub_device profile)

-- the addresses of those from number i on
unfold_starts : (profile : Profile) (start i : ℕ) (from : List (List Entry)) → i < length from → started_from start (sub_devices profile (drop i from)) ≡ started start (sub_device profile (get_or from i [])) ∷ started_from (start + footprint (sub_device profile (get_or from i []))) (sub_devices profile (drop (i + 1) from))
unfold_starts profile start i from lt = at_drop_more (λ (es : List (List Entry)). started_from start (sub_devices profile es)) from i [] lt

unfold_total : (profile : Profile) (i : ℕ) (from : List (List Entry)) → i < length from → total (sub_devices profile (drop i from)) ≡ footprint (sub_device profile (get_or from i [])) + total (sub_devices profile (drop (i + 1) from))
unfold_total profile i from lt =
    at_drop_more (λ (es : List (List Entry)). total (sub_devices profile es)) from i [] lt ∙ sum_by-cons footprint (sub_device profile (get_or from i [])) (sub_devices profile (drop (i + 1) from))

-- what is known before it: the addresses that the sub-devices are to have, those before it have them, and those from it on come behind
pub record Before (profile : Profile) (to from now : List (List Entry)) (i start : ℕ) : Type 0 where
  pub within : i < length from
  pub as_many : length to ≡ length from
  pub length : length now ≡ length from
  pub done : now ≡ take i to ++ drop i from
  pub rest : drop i to ≡ started_from start (sub_devices profile (drop i from))

own_values : (profile : Profile) (to from now : List (List Entry)) (i start : ℕ) → Before profile to from now i start → get_or now i [] ≡ get_or from i []
own_values profile to from now i start b = ap (λ (es : List (List Entry)). get_or es i []) b.done ∙ at_front [] to from i b.within b.as_many

is_next : (profile : Profile) (to from now next : List (List Entry)) (i start : ℕ) → Before profile to from now i start → next ≡ set now i (started start (sub_device profile (get_or now i []))) → next ≡ set now i (get_or to i [])
is_next profile to from now next i start b e =
    let within : i < length to = omega (arith, b.as_many, b.within) in
    let here : get_or to i [] ≡ started start (sub_device profile (get_or from i [])) = at_first [] to _ _ i within (b.rest ∙ unfold_starts profile start i from b.within) in
    e ∙ ap (λ (es : List Entry). set now i (started start (sub_device profile es))) (own_values profile to from now i start b) ∙ ap (set now i) (sym here)

pub step_done : (profile : Profile) (to from now next : List (List Entry)) (i start : ℕ) → Before profile to from now i start → next ≡ set now i (started start (sub_device profile (get_or now i []))) → next ≡ take (i + 1) to ++ drop (i + 1) from
step_done profile to from now next i start b e =
    is_next profile to from now next i start b e ∙ ap (λ (es : List (List Entry)). set es i (get_or to i [])) b.done ∙ rw (add-one i) (set_front [] to from i b.within b.as_many)

pub step_rest : (profile : Profile) (to from now : List (List Entry)) (i start used : ℕ) → Before profile to from now i start → used ≡ footprint (sub_device profile (get_or now i [])) → drop (i + 1) to ≡ started_from (start + used) (sub_devices profile (drop (i + 1) from))
step_rest profile to from now i start used b uses =
    let within : i < length to = omega (arith, b.as_many, b.within) in
    let is : used ≡ footprint (sub_device profile (get_or from i [])) = uses ∙ ap (λ (es : List Entry). footprint (sub_device profile es)) (own_values profile to from now i start b) in
    at_rest [] to _ _ i within (b.rest ∙ unfold_starts profile start i from b.within) ∙ ap (λ (n : ℕ). started_from (start + n) (sub_devices profile (drop (i + 1) from))) (sym is)

pub step_room : (profile : Profile) (to from now : List (List Entry)) (i start used : ℕ) → Before profile to from now i start → used ≡ footprint (sub_device profile (get_or now i [])) → start + total (sub_devices profile (drop i from)) ≤ 513 → (start + used) + total (sub_devices profile (drop (i + 1) from)) ≤ 513
step_room profile to from now i start used b uses le =
    let is : used ≡ footprint (sub_device profile (get_or from i [])) = uses ∙ ap (λ (es : List Entry). footprint (sub_device profile es)) (own_values profile to from now i start b) in
    let more : total (sub_devices profile (drop i from)) ≡ used + total (sub_devices profile (drop (i + 1) from)) = unfold_total profile i from b.within ∙ ap (λ (n : ℕ). n + total (sub_devices profile (drop (i + 1) from))) (sym is) in
    omega (arith, le, more)

pub step_same : (profile : Profile) (to from now next : List (List Entry)) (i start : ℕ) (before here after : Bool) → Before profile to from now i start → next ≡ set now i (started start (sub_device profile (get_or now i []))) → ((here ≡ false) ↔ (next ≡ now)) → ((before ≡ false) ↔ (now ≡ from)) → after ≡ (before || here) → ((after ≡ false) ↔ (next ≡ from))
step_same profile to from now next i start before here after b e one all joined =
    same_more [] before here after to from now next i b.within b.as_many b.length b.done (is_next profile to from now next i start b e) one all joined

-- the same of what devices keep
pub before_of : (profile : Profile) (base start i : ℕ) (subs values : List CommonValues) → i < length subs → length (map common_entries values) ≡ length (map common_entries subs) → map common_entries values ≡ take i (started_from base (sub_devices profile (map common_entries subs))) ++ drop i (map common_entries subs) → drop i (started_from base (sub_devices profile (map common_entries subs))) ≡ started_from start (sub_devices profile (drop i (map common_entries subs))) → Before profile (started_from base (sub_devices profile (map common_entries subs))) (map common_entries subs) (map common_entries values) i start
before_of profile base start i subs values lt as_many done rest = record {
  within = omega (arith, lt, length-map subs common_entries);
  as_many = as_many_values profile base (map common_entries subs);
  length = as_many;
  done = done;
  rest = rest;
}

-- the slots of a device at the same place among the values
pub used_at : (profile : Profile) (subs values : List CommonValues) (i used : ℕ) (c : CommonValues) → i < length subs → length (map common_entries values) ≡ length (map common_entries subs) → used ≡ footprint (sub_device profile (common_entries (get_or values i c))) → used ≡ footprint (sub_device profile (get_or (map common_entries values) i []))
used_at profile subs values i used c lt as_many is =
    let among : i < length values = omega (arith, lt, as_many, length-map values common_entries, length-map subs common_entries) in
    is ∙ ap (λ (es : List Entry). footprint (sub_device profile es)) (sym (get_or-map common_entries values i c [] among))
