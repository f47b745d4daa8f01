-- SUPPORTED_PARAMETERS lists PIDs in ascending order.
use Rattle.std.proofs.Common.{◌≡◌, ◌≢◌, ℕ, zero, suc, ◌+◌, ◌<◌, ◌≤◌, ◌==◌, ◌&&◌, ◌||◌, not, Bool, true, false, cond, List, [], ◌∷◌, length, get_or, map, All, AllPairs, IsTrue, refl, sym, ap, subst, ◌∙◌, inl, inr, arith}
use Rattle.std.specs.Prelude.{filter, nat_le}
use Rattle.std.specs.List.{list_any, list_all}
use Rattle.std.specs.List.Sorted.{IsStrictlyIncreasing}
use Rattle.std.proofs.lemmas.Bool.{le-leb, lt-leb, leb-true, cases_lt}
use Rattle.rdm_profile.specs.declared.profile.own.ParameterDef.{ParameterDef}
use Rattle.rdm_profile.specs.declared.profile.Profile.{Profile}
use Rattle.rdm_profile.specs.OwnParameters.{is_addable}
use Rattle.rdm_profile.specs.Profiles.{IsGoodProfile}
use Rattle.rdm_table.specs.Table.Rows.{is_left_out, supported_pids, table_pids, with_pid, with_pids}
use Rattle.rdm_table.proofs.Bools.{both_true}

-- ---- lists that ascend

-- from this number on, each above the one before it
abbrev RisesFrom : ℕ → List ℕ → Type 0
RisesFrom m [] = Unit {0}
RisesFrom m (x ∷ xs) = (m ≤ x) × RisesFrom (suc x) xs

rises_sooner : (m n : ℕ) (xs : List ℕ) → n ≤ m → RisesFrom m xs → RisesFrom n xs
rises_sooner m n [] le h = tt
rises_sooner m n (x ∷ xs) le h = let first = h.0 in (omega (arith, le, first), h.1)

kept_or : (keep : Bool) (m x : ℕ) (rest : List ℕ) → m ≤ x → RisesFrom (suc x) rest → RisesFrom m (cond keep (x ∷ rest) rest)
kept_or true m x rest le h = (le, h)
kept_or false m x rest le h = rises_sooner (suc x) m rest (omega (arith, le)) h

some_rise : (p : ℕ → Bool) (m : ℕ) (xs : List ℕ) → RisesFrom m xs → RisesFrom m (filter p xs)
some_rise p m [] h = tt
some_rise p m (x ∷ xs) h = kept_or (p x) m x (filter p xs) h.0 (some_rise p (suc x) xs h.1)

increasing : (m : ℕ) (xs : List ℕ) → RisesFrom m xs → IsStrictlyIncreasing xs
increasing m [] h k within = absurd (omega arith)
increasing m (x ∷ []) h k within = absurd (omega arith)
increasing m (x ∷ y ∷ xs) h zero within = let next = h.1.0 in omega (arith, next)
increasing m (x ∷ y ∷ xs) h (suc k) within =
    let e : suc (k + 1) ≡ suc k + 1 = omega arith in
    subst (λ (n : ℕ). get_or (y ∷ xs) k 0 < get_or (x ∷ y ∷ xs) n 0) e (increasing (suc x) (y ∷ xs) h.1 k (omega arith))

-- the same as a test
abbrev rises : ℕ → List ℕ → Bool
rises m [] = true
rises m (x ∷ xs) = nat_le m x && rises (suc x) xs

by_test : (m : ℕ) (xs : List ℕ) → rises m xs ≡ true → RisesFrom m xs
by_test m [] e = tt
by_test m (x ∷ xs) e =
    let parts = both_true (nat_le m x) (rises (suc x) xs) e in
    (leb-true m x parts.0, by_test (suc x) xs parts.1)

-- ---- a number that isn't among others

abbrev Apart : ℕ → List ℕ → Type 0
Apart n [] = Unit {0}
Apart n (x ∷ xs) = (n ≢ x) × Apart n xs

abbrev AllApart : List ℕ → List ℕ → Type 0
AllApart [] xs = Unit {0}
AllApart (n ∷ ns) xs = Apart n xs × AllApart ns xs

-- no two are alike
abbrev Differ : List ℕ → Type 0
Differ [] = Unit {0}
Differ (n ∷ ns) = Apart n ns × Differ ns

apart_or : (keep : Bool) (n x : ℕ) (rest : List ℕ) → n ≢ x → Apart n rest → Apart n (cond keep (x ∷ rest) rest)
apart_or true n x rest other h = (other, h)
apart_or false n x rest other h = h

some_apart : (p : ℕ → Bool) (n : ℕ) (xs : List ℕ) → Apart n xs → Apart n (filter p xs)
some_apart p n [] h = tt
some_apart p n (x ∷ xs) h = apart_or (p x) n x (filter p xs) h.0 (some_apart p n xs h.1)

no : (b : Bool) → b ≡ true → not b ≡ true → ⊥
no true e f = absurd cc
no false e f = absurd cc

-- a number that passes a test isn't among those that fail it
apart_by : (test : ℕ → Bool) (xs : List ℕ) (n : ℕ) → list_all (λ x. not (test x)) xs ≡ true → test n ≡ true → Apart n xs
apart_by test [] n all passes = tt
apart_by test (x ∷ xs) n all passes =
    let parts = both_true (not (test x)) (list_all (λ x. not (test x)) xs) all in
    (λ e. no (test x) (ap test (sym e) ∙ passes) parts.0, apart_by test xs n parts.1 passes)

-- ---- a PID that is put in its place

strictly : (a b : ℕ) → a ≤ b → a ≢ b → suc a ≤ b
strictly a b le other = elim (cases_lt a b) [ inl lt ↦ omega (arith, lt) | inr ge ↦ absurd (other (omega (arith, le, ge))) ]

put : (m pid : ℕ) (xs : List ℕ) → RisesFrom m xs → m ≤ pid → Apart pid xs → RisesFrom m (with_pid pid xs)
put m pid [] h le apart = (le, tt)
put m pid (x ∷ xs) h le apart =
    let at : Bool → Type 0 = λ before. RisesFrom m (cond before (pid ∷ x ∷ xs) (x ∷ with_pid pid xs)) in
    elim (cases_lt x pid) [
      | inl above ↦ subst at (sym (lt-leb pid x above)) (h.0, put (suc x) pid xs h.1 (omega (arith, above)) apart.1)
      | inr below ↦ subst at (sym (le-leb pid x below)) (le, (strictly pid x below apart.0, h.1))
    ]

placed : (before : Bool) (n pid x : ℕ) (xs later : List ℕ) → n ≢ pid → n ≢ x → Apart n xs → Apart n later → Apart n (cond before (pid ∷ x ∷ xs) (x ∷ later))
placed true n pid x xs later other here behind rest = (other, (here, behind))
placed false n pid x xs later other here behind rest = (here, rest)

put_apart : (n pid : ℕ) (xs : List ℕ) → n ≢ pid → Apart n xs → Apart n (with_pid pid xs)
put_apart n pid [] other h = (other, tt)
put_apart n pid (x ∷ xs) other h = placed (nat_le pid x) n pid x xs (with_pid pid xs) other h.0 h.1 (put_apart n pid xs other h.1)

put_all_apart : (ns : List ℕ) (pid : ℕ) (xs : List ℕ) → Apart pid ns → AllApart ns xs → AllApart ns (with_pid pid xs)
put_all_apart [] pid xs differ h = tt
put_all_apart (n ∷ ns) pid xs differ h = (put_apart n pid xs (λ e. differ.0 (sym e)) h.0, put_all_apart ns pid xs differ.1 h.1)

put_all : (ns xs : List ℕ) → RisesFrom 0 xs → Differ ns → AllApart ns xs → RisesFrom 0 (with_pids ns xs)
put_all [] xs h differ apart = h
put_all (n ∷ ns) xs h differ apart =
    put_all ns (with_pid n xs) (put 0 n xs h (omega arith) apart.0) differ.1 (put_all_apart ns n xs differ.0 apart.1)

-- ---- the parameters of the maker's own

abbrev pid_of : ParameterDef → ℕ
pid_of d = d.pid

table_rises : (is_root : Bool) → RisesFrom 0 (table_pids is_root)
unfolding table_pids
table_rises true = by_test 0 (table_pids true) refl
table_rises false = by_test 0 (table_pids false) refl

-- the table has none of the PIDs that a parameter of the maker's own can have
none_new : list_all (λ pid. not (is_addable pid)) (table_pids true) ≡ true
unfolding table_pids
none_new = refl

later_apart : (d : ParameterDef) (ds : List ParameterDef) → ((k : ℕ) (e : ParameterDef) → k < length ds → d.pid < (get_or ds k e).pid) → Apart d.pid (map pid_of ds)
later_apart d [] h = tt
later_apart d (x ∷ xs) h =
    let lt : d.pid < x.pid = h 0 x (omega arith) in
    (λ e. omega (arith, lt, e), later_apart d xs (λ k e within. h (suc k) e (omega arith)))

own_differ : (ds : List ParameterDef) → AllPairs (λ s t. s.pid < t.pid) ds → Differ (map pid_of ds)
own_differ [] h = tt
own_differ (d ∷ ds) h =
    (later_apart d ds (λ k e within. h 0 (suc k) e (omega arith) (omega arith)), own_differ ds (λ i j e lt within. h (suc i) (suc j) e (omega arith) (omega arith)))

own_apart : (ds : List ParameterDef) (p : ℕ → Bool) → All (λ d. IsTrue (is_addable d.pid)) ds → AllApart (map pid_of ds) (filter p (table_pids true))
own_apart [] p all = tt
own_apart (d ∷ ds) p all =
    let free : is_addable d.pid ≡ true = all 0 d (omega arith) in
    (some_apart p d.pid (table_pids true) (apart_by is_addable (table_pids true) d.pid none_new free), own_apart ds p (λ k e within. all (suc k) e (omega arith)))

-- ---- the whole

pub ascend : (p : Profile) (is_root : Bool) → IsGoodProfile p → IsStrictlyIncreasing (supported_pids p is_root)
unfolding supported_pids
ascend p true good =
    let stays : ℕ → Bool = λ pid. not (is_left_out p pid) in
    let own : List ParameterDef = p.particulars.own in
    let rise : RisesFrom 0 (filter stays (table_pids true)) = some_rise stays 0 (table_pids true) (table_rises true) in
    increasing 0 (supported_pids p true) (put_all (map pid_of own) (filter stays (table_pids true)) rise (own_differ own good.own.ascending) (own_apart own stays good.own.pids.0))
ascend p false good = increasing 0 (supported_pids p false) (some_rise (λ pid. not (is_left_out p pid)) 0 (table_pids false) (table_rises false))
