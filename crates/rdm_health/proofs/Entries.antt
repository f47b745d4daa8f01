-- Entries of a status message, nine slots each.
use Rattle.std.proofs.Common.{◌≡◌, ◌<◌, ◌≤◌, ◌-◌, ℕ, zero, suc, List, [], ◌∷◌, ◌++◌, length, take, drop, get_or, Option, Some, None, IfSome, refl, ap, append_assoc, ◌∙◌, arith}
use Rattle.std.specs.Option.{option_map}
use Rattle.std.specs.List.{AllByRecursion, flat_map}
use Rattle.std.specs.Int.{w16, to_be_bytes}
use Rattle.std.proofs.lemmas.Nat.{be_bytes_2}
use Rattle.rdm_health.specs.declared.statuses.StatusEntry.{StatusEntry}
use Rattle.rdm_health.specs.Statuses.{entry_of, entry_slots, first_entry, status_entries_in, word}
use Rattle.rdm_health.proofs.Slices.{rest_of}

-- ---- the slots are the data

byte_of : (a b : ℕ) → a < 256 → b < 256 → (i : ℕ) → get_or (a ∷ b ∷ []) i 0 < 256
byte_of a b p q zero = p
byte_of a b p q (suc zero) = q
byte_of a b p q (suc (suc i)) = omega arith

two : (a b : ℕ) → a < 256 → b < 256 → to_be_bytes w16 (word a b) ≡ a ∷ b ∷ []
two a b p q = be_bytes_2 (a ∷ b ∷ []) (word a b) refl (byte_of a b p q) refl

put_before : (e : StatusEntry) (front more : List ℕ) (o : Option (List StatusEntry)) → entry_slots e ≡ front
    → IfSome o (λ entries. flat_map entry_slots entries ≡ more) → IfSome (option_map (λ entries. e ∷ entries) o) (λ entries. flat_map entry_slots entries ≡ front ++ more)
put_before e front more None same all = tt
put_before e front more (Some entries) same all =
    ap (λ (list : List ℕ). list ++ flat_map entry_slots entries) same ∙ ap (λ (list : List ℕ). front ++ list) all

parts : (x y z w p q r u : List ℕ) (k : ℕ) → x ≡ p → y ≡ q → z ≡ r → w ≡ u → x ++ k ∷ y ++ z ++ w ≡ p ++ k ∷ q ++ r ++ u
parts x y z w p q r u k e f g h = rw (e, f, g, h) refl

nine : (s t kind i j a b c d : ℕ) → s < 256 → t < 256 → i < 256 → j < 256 → a < 256 → b < 256 → c < 256 → d < 256
    → entry_slots (entry_of s t kind i j a b c d) ≡ s ∷ t ∷ kind ∷ i ∷ j ∷ a ∷ b ∷ c ∷ d ∷ []
nine s t kind i j a b c d ps pt pi pj pa pb pc pd =
    parts _ _ _ _ (s ∷ t ∷ []) (i ∷ j ∷ []) (a ∷ b ∷ []) (c ∷ d ∷ []) kind (two s t ps pt) (two i j pi pj) (two a b pa pb) (two c d pc pd)

pub in_slots : (slots : List ℕ) → AllByRecursion (λ byte. byte < 256) slots → IfSome (status_entries_in slots) (λ entries. flat_map entry_slots entries ≡ slots)
in_slots [] h = refl
in_slots (s ∷ []) h = tt
in_slots (s ∷ t ∷ []) h = tt
in_slots (s ∷ t ∷ kind ∷ []) h = tt
in_slots (s ∷ t ∷ kind ∷ i ∷ []) h = tt
in_slots (s ∷ t ∷ kind ∷ i ∷ j ∷ []) h = tt
in_slots (s ∷ t ∷ kind ∷ i ∷ j ∷ a ∷ []) h = tt
in_slots (s ∷ t ∷ kind ∷ i ∷ j ∷ a ∷ b ∷ []) h = tt
in_slots (s ∷ t ∷ kind ∷ i ∷ j ∷ a ∷ b ∷ c ∷ []) h = tt
in_slots (s ∷ t ∷ kind ∷ i ∷ j ∷ a ∷ b ∷ c ∷ d ∷ more) h =
    put_before (entry_of s t kind i j a b c d) (s ∷ t ∷ kind ∷ i ∷ j ∷ a ∷ b ∷ c ∷ d ∷ []) more (status_entries_in more)
    (nine s t kind i j a b c d h.0 h.1.0 h.1.1.1.0 h.1.1.1.1.0 h.1.1.1.1.1.0 h.1.1.1.1.1.1.0 h.1.1.1.1.1.1.1.0 h.1.1.1.1.1.1.1.1.0)
    (in_slots more h.1.1.1.1.1.1.1.1.1)

-- ---- one more is read

joined : (front : List StatusEntry) (e : StatusEntry) (o : Option (List StatusEntry))
    → option_map (λ more. (front ++ e ∷ []) ++ more) o ≡ option_map (λ more. front ++ more) (option_map (λ entries. e ∷ entries) o)
joined front e None = refl
joined front e (Some more) = ap (λ (list : List StatusEntry). Some list) (append_assoc front (e ∷ []) more)

one_more : (front : List StatusEntry) (rest : List ℕ) → 9 ≤ length rest
    → option_map (λ more. (front ++ first_entry rest ∷ []) ++ more) (status_entries_in (take (length rest - 9) (drop 9 rest)))
    ≡ option_map (λ more. front ++ more) (status_entries_in rest)
one_more front [] h = absurd (omega arith)
one_more front (s ∷ []) h = absurd (omega arith)
one_more front (s ∷ t ∷ []) h = absurd (omega arith)
one_more front (s ∷ t ∷ kind ∷ []) h = absurd (omega arith)
one_more front (s ∷ t ∷ kind ∷ i ∷ []) h = absurd (omega arith)
one_more front (s ∷ t ∷ kind ∷ i ∷ j ∷ []) h = absurd (omega arith)
one_more front (s ∷ t ∷ kind ∷ i ∷ j ∷ a ∷ []) h = absurd (omega arith)
one_more front (s ∷ t ∷ kind ∷ i ∷ j ∷ a ∷ b ∷ []) h = absurd (omega arith)
one_more front (s ∷ t ∷ kind ∷ i ∷ j ∷ a ∷ b ∷ c ∷ []) h = absurd (omega arith)
one_more front (s ∷ t ∷ kind ∷ i ∷ j ∷ a ∷ b ∷ c ∷ d ∷ more) h =
    ap (λ (r : List ℕ). option_map (λ entries. (front ++ entry_of s t kind i j a b c d ∷ []) ++ entries) (status_entries_in r))
    (rest_of 9 (s ∷ t ∷ kind ∷ i ∷ j ∷ a ∷ b ∷ c ∷ d ∷ more))
    ∙ joined front (entry_of s t kind i j a b c d) (status_entries_in more)

-- Fewer than nine are left.
pub few_left : (rest : List ℕ) → 1 ≤ length rest → length rest < 9 → status_entries_in rest ≡ None
few_left [] some few = absurd (omega arith)
few_left (s ∷ []) some few = refl
few_left (s ∷ t ∷ []) some few = refl
few_left (s ∷ t ∷ kind ∷ []) some few = refl
few_left (s ∷ t ∷ kind ∷ i ∷ []) some few = refl
few_left (s ∷ t ∷ kind ∷ i ∷ j ∷ []) some few = refl
few_left (s ∷ t ∷ kind ∷ i ∷ j ∷ a ∷ []) some few = refl
few_left (s ∷ t ∷ kind ∷ i ∷ j ∷ a ∷ b ∷ []) some few = refl
few_left (s ∷ t ∷ kind ∷ i ∷ j ∷ a ∷ b ∷ c ∷ []) some few = refl
few_left (s ∷ t ∷ kind ∷ i ∷ j ∷ a ∷ b ∷ c ∷ d ∷ more) some few = absurd (omega arith)

-- The first entry of the rest was put behind those so far.
pub pushed : (new front : List StatusEntry) (e : StatusEntry) (rest slots : List ℕ) → new ≡ front ++ e ∷ [] → e ≡ first_entry rest → 9 ≤ length rest
    → option_map (λ more. front ++ more) (status_entries_in rest) ≡ status_entries_in slots
    → option_map (λ more. new ++ more) (status_entries_in (take (length rest - 9) (drop 9 rest))) ≡ status_entries_in slots
pushed new front e rest slots put first long so_far =
    ap (λ (list : List StatusEntry). option_map (λ more. list ++ more) (status_entries_in (take (length rest - 9) (drop 9 rest))))
    (put ∙ ap (λ (x : StatusEntry). front ++ x ∷ []) first)
    ∙ one_more front rest long ∙ so_far
