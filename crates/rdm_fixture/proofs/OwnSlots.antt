-- Modes that a table says, and what the rules ask of them.
use Rattle.std.proofs.Common.{◌≡◌, suc, ◌≤◌, All, List, [], ◌∷◌, length, map, Option, Some, None, IsTrue, Result, Ok, Err, IfErr, refl, sym, ap, subst, arith, codes}
use Rattle.std.proofs.lemmas.List.{length-map, get_or-map}
use Rattle.std.proofs.lemmas.List.Sums.{list_all-from_AllPass}
use Rattle.toml.specs.Data.{Data, string, integer, float, boolean, datetime, array, table, Items, no_items, item, Members, get_member}
use Rattle.rdm_profile.specs.declared.profile.modes.Mode.{Mode}
use Rattle.rdm_profile.specs.declared.profile.modes.ModeShape.{ModeShape}
use Rattle.rdm_profile.specs.Modes.{shape_of}
use Rattle.rdm_fixture.specs.declared.modes.SaidMode.{SaidMode}
use Rattle.rdm_fixture.specs.Describable.{are_printable, is_printable_mode}
use Rattle.rdm_fixture.specs.Lists.{OfTable, EachIs, ListAt, Lists}
use Rattle.rdm_fixture.specs.OwnSlots.{IsMode, AreModes, SaysShape}
use Rattle.rdm_fixture_keys.specs.Entries.{IsSlot}
use Rattle.rdm_fixture_keys.specs.Keys.{Reads}
use Rattle.rdm_fixture.proofs.Fields.{and_two}
use Rattle.rdm_fixture.proofs.Made.{all_at, of_table}
use Rattle.rdm_fixture.proofs.Printables.{printable_at}

-- ---- their shapes

entry_shaped : (d : Data) (m : Mode) → OfTable IsMode d m → OfTable SaysShape d (shape_of m)
entry_shaped (table t) m h = (m, h, refl)
entry_shaped (string s) m h = absurd h
entry_shaped (integer z) m h = absurd h
entry_shaped (float f) m h = absurd h
entry_shaped (boolean b) m h = absurd h
entry_shaped (datetime dt) m h = absurd h
entry_shaped (array ds) m h = absurd h

each_shaped : (ds : Items) (ms : List Mode) → EachIs (OfTable IsMode) ds ms → EachIs (OfTable SaysShape) ds (map shape_of ms)
each_shaped no_items [] h = tt
each_shaped no_items (m ∷ ms) h = absurd h
each_shaped (item d ds) [] h = absurd h
each_shaped (item d ds) (m ∷ ms) h = (entry_shaped d m h.0, each_shaped ds ms h.1)

list_shaped : (found : Option Data) (ms : List Mode) → ListAt (OfTable IsMode) found ms → ListAt (OfTable SaysShape) found (map shape_of ms)
list_shaped None ms h = ap (map shape_of) h
list_shaped (Some (array ds)) ms h = each_shaped ds ms h
list_shaped (Some (table t)) ms h = absurd h
list_shaped (Some (string s)) ms h = absurd h
list_shaped (Some (integer z)) ms h = absurd h
list_shaped (Some (float f)) ms h = absurd h
list_shaped (Some (boolean b)) ms h = absurd h
list_shaped (Some (datetime dt)) ms h = absurd h

-- a table that says modes says their shapes
pub shaped : (t : Members) (ms : List Mode) → AreModes t ms → Lists t (codes "mode") (OfTable SaysShape) 0 247 (map shape_of ms)
shaped t ms h = record {
  items = list_shaped (get_member (codes "mode") t) ms h.items;
  enough = omega arith;
  fit = let same = length-map ms shape_of in let few = h.fit in omega (arith, same, few);
}

-- ---- the modes of shapes

entry_said : (d : Data) (s : ModeShape) → OfTable SaysShape d s → (m : Mode) × OfTable IsMode d m
entry_said (table t) s h = (h.0, h.1)
entry_said (string x) s h = absurd h
entry_said (integer z) s h = absurd h
entry_said (float f) s h = absurd h
entry_said (boolean b) s h = absurd h
entry_said (datetime dt) s h = absurd h
entry_said (array ds) s h = absurd h

each_said : (ds : Items) (ss : List ModeShape) → EachIs (OfTable SaysShape) ds ss → (ms : List Mode) × EachIs (OfTable IsMode) ds ms × (length ms ≡ length ss)
each_said no_items [] h = ([], tt, refl)
each_said no_items (s ∷ ss) h = absurd h
each_said (item d ds) [] h = absurd h
each_said (item d ds) (s ∷ ss) h =
    let here = entry_said d s h.0 in
    let rest = each_said ds ss h.1 in
    (here.0 ∷ rest.0, (here.1, rest.1), ap suc rest.2)

list_said : (found : Option Data) (ss : List ModeShape) → ListAt (OfTable SaysShape) found ss → (ms : List Mode) × ListAt (OfTable IsMode) found ms × (length ms ≡ length ss)
list_said None ss h = ([], refl, ap length (sym h))
list_said (Some (array ds)) ss h = each_said ds ss h
list_said (Some (table t)) ss h = absurd h
list_said (Some (string s)) ss h = absurd h
list_said (Some (integer z)) ss h = absurd h
list_said (Some (float f)) ss h = absurd h
list_said (Some (boolean b)) ss h = absurd h
list_said (Some (datetime dt)) ss h = absurd h

-- a table that says shapes says modes
pub modes_said : (t : Members) (ss : List ModeShape) → Lists t (codes "mode") (OfTable SaysShape) 0 247 ss → (ms : List Mode) × AreModes t ms
modes_said t ss h =
    let said = list_said (get_member (codes "mode") t) ss h.items in
    let same = said.2 in
    let few = h.fit in
    (said.0, record { items = said.1; enough = omega arith; fit = omega (arith, same, few) })

-- what follows where a reader refuses
pub Reads-refused : {S A E : Type 0} (P : S → A → Type 0) (Q : Type 0) (s : S) (r : Result A E) → (((x : A) → ¬ P s x) → Q) → Reads P s r → IfErr r (λ _. Q)
Reads-refused P Q s (Ok x) gives h = tt
Reads-refused P Q s (Err e) gives h = gives h

-- a mode whose slots have no memory yet
abbrev pub before_memory : Mode → SaidMode
before_memory m = record { personality = m.personality; slots_of = m.slots_of; slots = record { items = m.slots } }

-- those whose shapes fit into DMX512 fit into it
pub all_fit : (ms : List Mode) → All (λ s. s.footprint ≤ 512) (map shape_of ms) → All (λ m. m.personality.footprint ≤ 512) ms
all_fit ms h = λ i m less.
    let same = length-map ms shape_of in
    subst (λ (s : ModeShape). s.footprint ≤ 512) (get_or-map shape_of ms i m (shape_of m) less) (h i (shape_of m) (omega (arith, same, less)))

-- ---- their texts

pub printable_mode : (t : Members) (m : Mode) → IsMode t m → IsTrue (is_printable_mode m)
printable_mode t m h =
    and_two _ _ (printable_at t (codes "description") _ h.name)
    (list_all-from_AllPass (λ s. are_printable s.name) m.slots
    (all_at _ (λ s. IsTrue (are_printable s.name))
    (of_table IsSlot (λ s. IsTrue (are_printable s.name)) (λ u s said. printable_at u (codes "description") _ said.name))
    (get_member (codes "slot") t) _ h.slots.items))
