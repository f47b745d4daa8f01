-- What is written is read back.
use Rattle.std.specs.Prelude.{◌↔◌, nat_le, max}
use Rattle.std.proofs.Common.{◌≡◌, ℕ, ◌≤◌, ◌==◌, ◌&&◌, ◌||◌, Bool, true, false, cond, List, [], ◌∷◌, ◌++◌, length, map, refl, ap, ◌∙◌, arith}
use Rattle.std.specs.List.{flat_map}
use Rattle.std.proofs.lemmas.Bool.Decides.{nat_tests}
use Rattle.csv.specs.Reading.{default_config, records_from}
use Rattle.csv.specs.Writing.{default_writer, read_back, row_text}
use Rattle.csv.specs.declared.parser.State.TheVariants as state
use Rattle.csv.proofs.RoundTrip.{rows_text, read-write-all}
use Rattle.rdm_survey.specs.declared.partner.Partner.{Partner}
use Rattle.rdm_survey.specs.declared.place.Clash.{Clash}
use Rattle.rdm_survey.specs.declared.place.Place.{Place}
use Rattle.rdm_survey.specs.declared.row.Row.{Row}
use Rattle.rdm_survey.specs.Csv.{csv_text, guarded, is_marked, keys_text, record_of, record_text, records, unguarded}
use Rattle.rdm_survey.specs.Members.{keys, members}
use Rattle.rdm_survey.specs.Places.{clashes, meets, Takes}

records_text : (list : List Clash) (rows : List Row) → flat_map (record_text list) rows ≡ rows_text (map (record_of list) rows)
unfolding record_text rows_text
records_text list [] = refl
records_text list (row ∷ rows) = ap (λ (z : List ℕ). row_text default_writer (record_of list row) ++ z) (records_text list rows)

-- a record has a field
kept : (list : List Clash) (rows : List Row) → map read_back (map (record_of list) rows) ≡ map (record_of list) rows
unfolding members
kept list [] = refl
kept list (row ∷ rows) = ap (λ (z : List (List (List ℕ))). record_of list row ∷ z) (kept list rows)

pub csv_read_back : (rows : List Row) → records_from default_config (length (records rows)) state.StartRecord (csv_text rows) ≡ records rows
unfolding keys_text rows_text keys
csv_read_back rows =
    ap (λ (z : List ℕ). records_from default_config (length (records rows)) state.StartRecord (keys_text ++ z)) (records_text (clashes rows) rows)
    ∙ read-write-all (records rows)
    ∙ ap (λ (z : List (List (List ℕ))). keys ∷ z) (kept (clashes rows) rows)

pub same_keys : (row : Row) (others : List Partner) → map (λ m. m.0) (members row others) ≡ keys
unfolding members keys
same_keys row others = refl

pub guard_off : (word : List ℕ) → unguarded (guarded word) ≡ word
guard_off [] = refl
guard_off (b ∷ rest) = by (is_marked (b ∷ rest)) refl
  where
    bare : (b : ℕ) → ((b == 0x3D) || (b == 0x2B) || (b == 0x2D) || (b == 0x40) || (b == 0x27)) ≡ false → (b == 0x27) ≡ false
    bare b h = grind (arith, nat_tests)

    by : (x : Bool) → is_marked (b ∷ rest) ≡ x → unguarded (cond x (0x27 ∷ b ∷ rest) (b ∷ rest)) ≡ b ∷ rest
    by true e = refl
    by false e = rw (bare b e) refl

first_below : (p q r s : ℕ) → (nat_le p s && nat_le r q) ≡ true → p ≤ s
first_below p q r s t = grind (arith, nat_tests)

second_below : (p q r s : ℕ) → (nat_le p s && nat_le r q) ≡ true → r ≤ q
second_below p q r s t = grind (arith, nat_tests)

both_below : (p q r s : ℕ) → p ≤ s → r ≤ q → (nat_le p s && nat_le r q) ≡ true
both_below p q r s h g = grind (arith, nat_tests)

pub in_a_slot : (a b : Place) → a.first ≤ a.last → b.first ≤ b.last → (meets a b ≡ true) ↔ ((slot : ℕ) × (Takes a slot × Takes b slot))
in_a_slot a b h g = (
  λ t.
      let one : a.first ≤ b.last = first_below a.first a.last b.first b.last t in
      let other : b.first ≤ a.last = second_below a.first a.last b.first b.last t in
      (max a.first b.first, ((omega arith, omega arith), (omega arith, omega arith))),
  λ w.
      let in_first : a.first ≤ w.0 = w.1.0.0 in
      let to_first : w.0 ≤ a.last = w.1.0.1 in
      let in_second : b.first ≤ w.0 = w.1.1.0 in
      let to_second : w.0 ≤ b.last = w.1.1.1 in
      both_below a.first a.last b.first b.last (omega arith) (omega arith),
)
