-- Laws of a proposal.
use Rattle.std.specs.Prelude.{nat_le, nat_lt, filter, option_map, slice_get, sum_by}
use Rattle.std.proofs.Common.{◌≡◌, ℕ, zero, suc, ◌+◌, ◌-◌, ◌≤◌, ◌<◌, ◌==◌, ◌&&◌, Bool, true, false, cond, List, [], ◌∷◌, ◌++◌, map, take, Option, Some, None, refl, sym, ap, append_assoc, ◌∙◌, arith}
use Rattle.std.specs.List.{AllByRecursion, flat_map}
use Rattle.std.proofs.lemmas.Bool.Decides.{nat_tests}
use Rattle.std.proofs.lemmas.List.{append-nil}
use Rattle.std.proofs.lemmas.List.Sums.{sum_by-cons, sum_by_push}
use Rattle.rdm_frame.specs.declared.uid.Uid.{Uid}
use Rattle.rdm_survey.specs.declared.device_info.DeviceInfo.{DeviceInfo}
use Rattle.rdm_survey.specs.declared.place.Clash.TheVariants.{Overlap}
use Rattle.rdm_survey.specs.declared.place.Place.{Place}
use Rattle.rdm_survey.specs.declared.row.Row.{Row}
use Rattle.rdm_survey.specs.declared.row.SubDevice.{SubDevice}
use Rattle.rdm_survey.specs.declared.device.Device.{Device}
use Rattle.rdm_survey.specs.Places.{clashes_of, device, devices, devices_of, meets, past_end, places, root_device, sub_device}
use Rattle.rdm_addresses.specs.declared.assignment.Assignment.{Assignment}
use Rattle.rdm_addresses.specs.Proposals.{assigned, assignments, assignments_behind, behind, device_in, Fits, last_slot, place_after, place_before, proposal, room}

-- ---- who takes part

abbrev HasSlots : Device → Type 0
HasSlots d = 1 ≤ d.footprint

all_joined : {X : Type 0} (P : X → Type 0) (xs ys : List X) → AllByRecursion P xs → AllByRecursion P ys → AllByRecursion P (xs ++ ys)
all_joined P [] ys h g = g
all_joined P (x ∷ xs) ys h g = (h.0, all_joined P xs ys h.1 g)

device_slots : (uid : Uid) (sub : ℕ) (address : Option ℕ) (footprint : ℕ) → AllByRecursion HasSlots (device uid sub address footprint)
device_slots uid sub None footprint = tt
device_slots uid sub (Some was) footprint = by (footprint == 0) refl
  where
    above : footprint == 0 ≡ false → 1 ≤ footprint
    above e = grind (arith, nat_tests)

    by : (x : Bool) → footprint == 0 ≡ x
        → AllByRecursion HasSlots (cond x [] (record { uid = uid; sub = sub; address = was; footprint = footprint } ∷ []))
    by true e = tt
    by false e = (above e, tt)

root_slots : (uid : Uid) (root : Option DeviceInfo) → AllByRecursion HasSlots (root_device uid root)
root_slots uid None = tt
root_slots uid (Some d) = device_slots uid 0 d.address d.footprint

sub_slots : (uid : Uid) (subs : List SubDevice) → AllByRecursion HasSlots (flat_map (sub_device uid) subs)
sub_slots uid [] = tt
sub_slots uid (s ∷ subs) =
    all_joined HasSlots (sub_device uid s) (flat_map (sub_device uid) subs) (device_slots uid s.number s.address s.footprint) (sub_slots uid subs)

have_slots : (rows : List Row) → AllByRecursion HasSlots (devices rows)
have_slots [] = tt
have_slots (row ∷ rows) =
    all_joined HasSlots (devices_of row) (devices rows)
    (all_joined HasSlots (root_device row.uid row.device) (flat_map (sub_device row.uid) row.sub_devices.items) (root_slots row.uid row.device) (sub_slots row.uid row.sub_devices.items))
    (have_slots rows)

pub same_places : (rows : List Row) → map place_before (devices rows) ≡ places rows
same_places rows = refl

same_behind : (from gap : ℕ) (before list : List Device) → map device_in (assignments_behind from gap before list) ≡ list
same_behind from gap before [] = refl
same_behind from gap before (d ∷ more) = ap (λ (z : List Device). d ∷ z) (same_behind from gap (before ++ d ∷ []) more)

pub same_devices : (from gap : ℕ) → (rows : List Row) → map device_in (proposal from gap rows) ≡ devices rows
same_devices from gap rows = same_behind from gap [] (devices rows)

-- ---- where they are

behind_push : (from gap : ℕ) (before : List Device) (d : Device) → behind from gap (before ++ d ∷ []) ≡ behind from gap before + (d.footprint + gap)
behind_push from gap before d = omega (arith, sum_by_push (room gap) before d)

from_on : (from gap low : ℕ) (before list : List Device) → low ≤ behind from gap before
    → AllByRecursion (λ (a : Assignment). low ≤ a.address) (assignments_behind from gap before list)
from_on from gap low before [] h = tt
from_on from gap low before (d ∷ more) h =
    (h, from_on from gap low (before ++ d ∷ []) more (omega (arith, behind_push from gap before d, h)))

pub none_below : (from gap : ℕ) → (rows : List Row) → AllByRecursion (λ a. from ≤ a.address) (proposal from gap rows)
none_below from gap rows = from_on from gap from [] (devices rows) (omega arith)

pub last_of_last : (from gap : ℕ) → (list : List Device) → (d : Device)
    → last_slot from gap (list ++ d ∷ []) ≡ (place_after (assigned d (behind from gap list))).last
last_of_last from gap [] d = omega arith
last_of_last from gap (e ∷ list) d =
    let whole : behind from gap ((e ∷ list) ++ d ∷ []) ≡ behind from gap (e ∷ list) + (d.footprint + gap) = behind_push from gap (e ∷ list) d in
    omega (arith, whole)

each_from : (from gap : ℕ) (before list : List Device) (i : ℕ)
    → slice_get (assignments_behind from gap before list) i ≡ option_map (λ d. assigned d (behind from gap (before ++ take i list))) (slice_get list i)
each_from from gap before [] i = refl
each_from from gap before (d ∷ more) zero = ap (λ (b : List Device). Some (assigned d (behind from gap b))) (sym (append-nil before))
each_from from gap before (d ∷ more) (suc i) =
    each_from from gap (before ++ d ∷ []) more i
    ∙ ap (λ (b : List Device). option_map (λ e. assigned e (behind from gap b)) (slice_get more i)) (append_assoc before (d ∷ []) (take i more))

pub each_behind : (from gap : ℕ) → (list : List Device) → (i : ℕ)
    → slice_get (assignments from gap list) i ≡ option_map (λ d. assigned d (behind from gap (take i list))) (slice_get list i)
each_behind from gap list i = each_from from gap [] list i

-- ---- they don't clash

no_meeting : (p q r s : ℕ) → q < r → (nat_le p s && nat_le r q) ≡ false
no_meeting p q r s h = grind (arith, nat_tests)

none_meets : (a : Place) (low : ℕ) (list : List Assignment) → a.last < low → AllByRecursion (λ (b : Assignment). low ≤ b.address) list
    → map (λ b. Overlap a b) (filter (λ b. meets a b) (map place_after list)) ≡ []
none_meets a low [] h all = refl
none_meets a low (b ∷ list) h all =
    let apart : meets a (place_after b) ≡ false = no_meeting a.first a.last b.address (b.address + b.footprint - 1) (omega (arith, h, all.0)) in
    rw apart (none_meets a low list h all.1)

within_end : (n : ℕ) → n ≤ 512 → nat_lt 512 n ≡ false
within_end n h = grind (arith, nat_tests)

not_past : (a : Place) → a.last ≤ 512 → past_end a ≡ []
not_past a h = rw (within_end a.last h) refl

apart : (from gap : ℕ) (before list : List Device) → AllByRecursion HasSlots list → sum_by (room gap) list + behind from gap before ≤ 513 + gap
    → clashes_of (map place_after (assignments_behind from gap before list)) ≡ []
apart from gap before [] slots h = refl
apart from gap before (d ∷ more) slots h =
    let first = behind from gap before in
    let a = place_after (assigned d first) in
    let low = behind from gap (before ++ d ∷ []) in
    let whole : sum_by (room gap) (d ∷ more) ≡ (d.footprint + gap) + sum_by (room gap) more = sum_by-cons (room gap) d more in
    let next : low ≡ first + (d.footprint + gap) = behind_push from gap before d in
    let has : 1 ≤ d.footprint = slots.0 in
    let ends : a.last ≤ 512 = omega (arith, whole, has, h) in
    let clear : a.last < low = omega (arith, next, has) in
    let rest = assignments_behind from gap (before ++ d ∷ []) more in
    rw (not_past a ends, none_meets a low rest clear (from_on from gap low (before ++ d ∷ []) more (omega arith)))
    (apart from gap (before ++ d ∷ []) more slots.1 (omega (arith, whole, next, h)))

fitting : (from gap : ℕ) (list : List Device) → Fits from gap list → AllByRecursion HasSlots list → clashes_of (map place_after (assignments from gap list)) ≡ []
fitting from gap [] fits slots = refl
fitting from gap (d ∷ more) fits slots = apart from gap [] (d ∷ more) slots (omega (arith, fits.1))

pub no_clashes : (from gap : ℕ) → (rows : List Row) → Fits from gap (devices rows) → clashes_of (map place_after (proposal from gap rows)) ≡ []
no_clashes from gap rows fits = fitting from gap (devices rows) fits (have_slots rows)
