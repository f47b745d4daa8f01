-- The slots of a mode: how many there are, and those of a good one.
use Rattle.std.proofs.Common.{◌≡◌, refl, ap, ◌∙◌, ℕ, ◌+◌, ◌≤◌, ◌<◌, Bool, true, false, cond, leb, List, length, map, take, drop, get_or, IsTrue, subst, arith}
use Rattle.std.specs.Prelude.{◌==◌, ◌&&◌}
use Rattle.std.proofs.lemmas.Bool.Decides.{nat_tests}
use Rattle.std.proofs.lemmas.List.{get_or-map, length-drop, length-map, length-take}
use Rattle.rdm_profile.specs.declared.profile.Slot.{Slot}
use Rattle.rdm_profile.specs.declared.profile.modes.ModeShape.{ModeShape}
use Rattle.rdm_profile.specs.Modes.{describes, has_slots, shape_of}
use Rattle.rdm_profile.specs.Profiles.{AreGoodModes}
use Rattle.rdm_c.specs.declared.profile.SlotNumbers.{SlotNumbers}
use Rattle.rdm_c.specs.declared.profile.modes.ModeNumbers.{ModeNumbers}
use Rattle.rdm_c.specs.Modes.{are_there, mode_in, own_slots_in, slot_in, too_many, HaveFewSlots}

pub length-too_many : length too_many ≡ 47
unfolding too_many
length-too_many = refl

-- how many slots there are in a part of a list
length-part : (first count : ℕ) (slots : List SlotNumbers) → first + count ≤ length slots → length (map slot_in (take count (drop first slots))) ≡ count
length-part first count slots within =
    length-map (take count (drop first slots)) slot_in ∙ length-take count (drop first slots) ∙ omega (arith, length-drop first slots)

one_of : (there : Bool) (slots : List Slot) (n : ℕ) → (there ≡ true → length slots ≡ n) → length (cond there slots too_many) ≡ cond there n 47
one_of true slots n many = many refl
one_of false slots n many = length-too_many

-- how many slots of its own a mode has
pub length-own_slots : (slots : List SlotNumbers) (m : ModeNumbers) → length (own_slots_in slots m) ≡ cond (are_there m (length slots)) m.slot_count 47
length-own_slots slots m =
    one_of (are_there m (length slots)) (map slot_in (take m.slot_count (drop m.first_slot slots))) m.slot_count (λ there. length-part m.first_slot m.slot_count slots (grind (arith, nat_tests, there)))

few_of : (there : Bool) (some : List Slot) → length (cond there some too_many) ≤ 46 → (there ≡ true) × (cond there some too_many ≡ some)
few_of true some few = (refl, refl)
few_of false some few = absurd (omega (arith, few, length-too_many))

-- a mode with few slots of its own names slots that are there
pub few_are_there : (slots : List SlotNumbers) (m : ModeNumbers) → length (own_slots_in slots m) ≤ 46 → m.first_slot + m.slot_count ≤ length slots
few_are_there slots m few =
    let there = (few_of (are_there m (length slots)) (map slot_in (take m.slot_count (drop m.first_slot slots))) few).0 in
    grind (arith, nat_tests, there)

pub few_are_own : (slots : List SlotNumbers) (m : ModeNumbers) → length (own_slots_in slots m) ≤ 46 → own_slots_in slots m ≡ map slot_in (take m.slot_count (drop m.first_slot slots))
few_are_own slots m few =
    (few_of (are_there m (length slots)) (map slot_in (take m.slot_count (drop m.first_slot slots))) few).1

pub few_are_counted : (slots : List SlotNumbers) (m : ModeNumbers) → length (own_slots_in slots m) ≤ 46 → m.slot_count ≤ 46
few_are_counted slots m few =
    let same = few_are_own slots m few in
    let count = length-part m.first_slot m.slot_count slots (few_are_there slots m few) in
    omega (arith, few, ap (λ (ss : List Slot). length ss) same, count)

-- a mode that keeps its rule has few slots of its own
few_if : (own : Bool) (n : ℕ) (other : Bool) → IsTrue (cond own (leb n 46) ((n == 0) && other)) → n ≤ 46
few_if true n other h = grind (arith, nat_tests)
few_if false n other h = grind (arith, nat_tests)

has_few : (units : ℕ) (shapes : List ModeShape) (s : ModeShape) → IsTrue (has_slots units shapes s) → s.slots ≤ 46
has_few units shapes s h = few_if (s.slots_of == 0) s.slots (describes units shapes s.slots_of) h

pub have_few_slots : (units : ℕ) (slots : List SlotNumbers) (modes : List ModeNumbers) → AreGoodModes units (map shape_of (map (mode_in slots) modes)) → HaveFewSlots slots modes
have_few_slots units slots modes good k d within =
    let shapes = map shape_of (map (mode_in slots) modes) in
    let inside : k < length shapes = omega (arith, within, length-map (map (mode_in slots) modes) shape_of, length-map modes (mode_in slots)) in
    let same : get_or shapes k (shape_of (mode_in slots d)) ≡ shape_of (mode_in slots (get_or modes k d)) =
    get_or-map shape_of (map (mode_in slots) modes) k (mode_in slots d) (shape_of (mode_in slots d)) (omega (arith, within, length-map modes (mode_in slots))) ∙ ap shape_of (get_or-map (mode_in slots) modes k d (mode_in slots d) within) in
    has_few units shapes (shape_of (mode_in slots (get_or modes k d))) (subst (λ (s : ModeShape). IsTrue (has_slots units shapes s)) same (good.slots k (shape_of (mode_in slots d)) inside))
