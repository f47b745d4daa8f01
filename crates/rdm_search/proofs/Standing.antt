-- Where a search stands after each step.
use Rattle.std.proofs.Common.{◌≡◌, ℕ, zero, suc, ◌+◌, ◌*◌, ◌/◌, ◌%◌, ◌<◌, ◌≤◌, Bool, true, false, ltb, eqb, List, get_or, refl, sym, ap, ◌∙◌, subst, inl, inr, arith}
use Rattle.std.specs.Prelude.{All, Contains}
use Rattle.std.proofs.lemmas.Bool.{cases_eq, ne_eqb, eq-eqb, cond-true, cond-false, lt-ltb, le-ltb, true_from_ne_false}
use Rattle.rdm_frame.specs.declared.uid.Uid.{Uid}
use Rattle.rdm_frame.specs.UidNumber.{uid_number}
use Rattle.rdm_search.specs.declared.range.Range.{Range}
use Rattle.rdm_search.specs.declared.stage.Stage.{Stage}
use Rattle.rdm_search.specs.declared.stage.Stage.TheVariants.{Asking}
use Rattle.rdm_search.specs.Line.{Fixture}
use Rattle.rdm_search.specs.Ranges.{place}
use Rattle.rdm_search.specs.Stages.{when, count, busy, later, price, stage_after, halved, IsReal, IsLeft, Stands}
use Rattle.rdm_search.proofs.Places.{halves, halves_suc, first_place}
use Rattle.rdm_search.proofs.Counts.{IsOut}
use Rattle.rdm_search.proofs.Prices.{busy_halves, later_lower}

abbrev pub IsKnown : List Uid → Fixture → Type 0
IsKnown found f = f.muted ≡ true → Contains found f.uid

abbrev pub IsCovered : ℕ → ℕ → Fixture → Type 0
IsCovered d i f = f.muted ≡ false → i ≤ place d f.uid

abbrev pub IsPast : ℕ → ℕ → Fixture → Type 0
IsPast d i f = f.muted ≡ false → i < place d f.uid

above : (i p : ℕ) → i ≤ p → (p ≡ i → ⊥) → i < p
above i p le ne = omega arith

pub past : (d i : ℕ) (line : List Fixture) → All (IsCovered d i) line → All (IsOut d i) line → All (IsPast d i) line
past d i line covered out = λ k f h m. above i _ (covered k f h m) (out k f h m)

-- ---- behind a range

all_muted : (found : List Uid) (line : List Fixture) → IsReal found line → All (IsPast 0 0) line → All (λ f. f.muted ≡ true) line
all_muted found line real ahead = λ k f h. true_from_ne_false _ (λ m. let lt = ahead k f h m in let e = first_place _ (real.devices k f h).fits in omega arith)

abbrev Behind : ℕ → ℕ → List Uid → List Fixture → Stage → Type 0
Behind d i found line stage = Stands stage found line × (price stage line ≡ later d i line)

pub behind : (d i : ℕ) → d ≤ 48 → (found : List Uid) (line : List Fixture) → IsReal found line → All (IsKnown found) line → All (IsPast d i) line → Behind d i found line (stage_after d i)
behind zero i h found line real known ahead =
    let first : All (IsPast 0 0) line = λ k f l m. let lt = ahead k f l m in omega arith in
    ((real, known, all_muted found line real first), refl)
behind (suc d) i h found line real known ahead =
    elim (cases_eq (i % 2) 0) [
      | inl even ↦
          let stage : Stage = Asking (record { index = i + 1; depth = suc d }) in
          let odd : eqb ((i + 1) % 2) 0 ≡ false = ne_eqb _ _ (λ e. omega arith) in
          let half : (i + 1) / 2 ≡ i / 2 = omega arith in
          let at : eqb (i % 2) 0 ≡ true = eq-eqb _ _ even in
          let rest : later (suc d) (i + 1) line ≡ later d (i / 2) line = ap (λ (b : Bool). when b (2 + busy (suc d) (i + 1 + 1) line) + later d ((i + 1) / 2) line) odd ∙ (let e : 0 + later d ((i + 1) / 2) line ≡ later d ((i + 1) / 2) line = omega arith in e) ∙ ap (λ (k : ℕ). later d k line) half in
          let whole : later (suc d) i line ≡ 2 + busy (suc d) (i + 1) line + later d (i / 2) line = ap (λ (b : Bool). when b (2 + busy (suc d) (i + 1) line) + later d (i / 2) line) at in
          let left : IsLeft (suc d) (i + 1) found line = record { real = real; known = known; covered = λ k f l m. (let lt = ahead k f l m in omega arith) } in
          let here : Behind (suc d) i found line stage = (left, ap (λ (n : ℕ). 2 + busy (suc d) (i + 1) line + n) rest ∙ sym whole) in
          subst (Behind (suc d) i found line) (sym (cond-true (eqb (i % 2) 0) stage (stage_after d (i / 2)) at)) here
      | inr odd ↦
          let stage : Stage = Asking (record { index = i + 1; depth = suc d }) in
          let at : eqb (i % 2) 0 ≡ false = ne_eqb _ _ odd in
          let up : All (IsPast d (i / 2)) line = λ k f l m. (let lt = ahead k f l m in let e = halves_suc d (get_or line k f).uid (omega arith) in omega arith) in
          let rest = behind d (i / 2) (omega arith) found line real known up in
          let whole : later (suc d) i line ≡ later d (i / 2) line = ap (λ (b : Bool). when b (2 + busy (suc d) (i + 1) line) + later d (i / 2) line) at ∙ (let e : 0 + later d (i / 2) line ≡ later d (i / 2) line = omega arith in e) in
          subst (Behind (suc d) i found line) (sym (cond-false (eqb (i % 2) 0) stage (stage_after d (i / 2)) at)) (rest.0, rest.1 ∙ sym whole)
    ]

-- ---- the halves of a range

abbrev Halves : Range → List Uid → List Fixture → Stage → Type 0
Halves r found line stage =
    Stands stage found line × (price stage line + 3 * count r.depth r.index line ≡ 4 + busy r.depth r.index line + later r.depth r.index line)

pub lower : (r : Range) → r.depth < 48 → (found : List Uid) (line : List Fixture) → IsLeft r.depth r.index found line → Halves r found line (halved r)
lower r h found line left =
    let d = r.depth in let i = r.index in
    let stage : Stage = Asking (record { index = 2 * i; depth = d + 1 }) in
    let covered : All (IsCovered (d + 1) (2 * i)) line = λ k f l m. (let le = left.covered k f l m in let e = halves d (uid_number (get_or line k f).uid) h in omega arith) in
    let there : IsLeft (d + 1) (2 * i) found line = record { real = left.real; known = left.known; covered = covered } in
    let busy' = busy_halves d i h line in
    let later' = later_lower d i line in
    let here : Halves r found line stage = (there, omega arith) in
    subst (Halves r found line) (sym (cond-true (ltb d 48) stage (stage_after d i) (lt-ltb d 48 h))) here

pub single : (r : Range) → r.depth ≡ 48 → halved r ≡ stage_after r.depth r.index
single r e = cond-false (ltb r.depth 48) _ _ (le-ltb r.depth 48 (omega arith))
