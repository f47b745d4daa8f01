-- What lock states lock, one after the other.
use Rattle.std.proofs.Common.{◌≡◌, ℕ, zero, suc, ◌+◌, ◌<◌, ◌≤◌, ◌==◌, nat_le, Bool, true, false, ◌&&◌, All, IsTrue, List, [], ◌∷◌, ◌++◌, length, get_or, take, map, Option, Some, None, refl, sym, ap, ◌∙◌, arith}
use Rattle.std.specs.List.{list_any}
use Rattle.std.proofs.lemmas.Bool.{leb-true}
use Rattle.std.proofs.lemmas.List.{take_more}
use Rattle.toml.specs.Data.{Data, string, integer, float, boolean, datetime, array, table, Items, no_items, item}
use Rattle.rdm_profile.specs.declared.profile.locks.Lock.{Lock}
use Rattle.rdm_profile.specs.declared.profile.own.ParameterDef.{ParameterDef}
use Rattle.rdm_profile.specs.Choices.{greatest}
use Rattle.rdm_profile.specs.Locks.{is_state_of, has_state}
use Rattle.rdm_fixture.specs.declared.profile.locks.Locking.{Locking}
use Rattle.rdm_fixture.specs.Format.{locks_of, all_locks, IsLocking}
use Rattle.rdm_fixture.specs.Lists.{OfTable, EachIs, ListAt}
use Rattle.rdm_fixture.specs.Writing.{locking_of}
use Rattle.rdm_fixture.proofs.ChoiceNumbers.{one_of_two}

-- ---- what one state locks

append_none : (xs : List Lock) → xs ++ [] ≡ xs
append_none [] = refl
append_none (x ∷ xs) = ap (λ (ys : List Lock). x ∷ ys) (append_none xs)

append_all : (xs ys zs : List Lock) → (xs ++ ys) ++ zs ≡ xs ++ (ys ++ zs)
append_all [] ys zs = refl
append_all (x ∷ xs) ys zs = ap (λ (ls : List Lock). x ∷ ls) (append_all xs ys zs)

pub length_both : (xs ys : List Lock) → length (xs ++ ys) ≡ length xs + length ys
length_both [] ys = omega arith
length_both (x ∷ xs) ys = let more = length_both xs ys in omega (arith, more)

locks_last : (state : ℕ) (pids : List ℕ) (pid : ℕ) → locks_of state (pids ++ pid ∷ []) ≡ locks_of state pids ++ record { state = state; pid = pid } ∷ []
locks_last state [] pid = refl
locks_last state (p ∷ pids) pid = ap (λ (ls : List Lock). record { state = state; pid = p } ∷ ls) (locks_last state pids pid)

pub locks_count : (state : ℕ) (pids : List ℕ) → length (locks_of state pids) ≡ length pids
locks_count state [] = refl
locks_count state (p ∷ pids) = ap suc (locks_count state pids)

-- one parameter more
pub lock_more : (before : List Lock) (state : ℕ) (pids : List ℕ) (i pid : ℕ) (now : List Lock) → i < length pids
    → now ≡ before ++ locks_of state (take i pids) → get_or pids i 0 ≡ pid
    → now ++ record { state = state; pid = pid } ∷ [] ≡ before ++ locks_of state (take (i + 1) pids)
lock_more before state pids i pid now less is here =
    ap (λ (ls : List Lock). ls ++ record { state = state; pid = pid } ∷ []) is
    ∙ append_all before (locks_of state (take i pids)) (record { state = state; pid = pid } ∷ [])
    ∙ ap (λ (ls : List Lock). before ++ ls)
    (sym (locks_last state (take i pids) pid) ∙ ap (λ (ps : List ℕ). locks_of state ps) (ap (λ (p : ℕ). take i pids ++ p ∷ []) (sym here) ∙ sym (take_more pids i 0 less)))

-- ---- what all lock

all_last : (ls : List Locking) (l : Locking) → all_locks (ls ++ l ∷ []) ≡ all_locks ls ++ locks_of l.state l.pids.items
all_last [] l = append_none (locks_of l.state l.pids.items)
all_last (k ∷ ls) l =
    ap (λ (xs : List Lock). locks_of k.state k.pids.items ++ xs) (all_last ls l)
    ∙ sym (append_all (locks_of k.state k.pids.items) (all_locks ls) (locks_of l.state l.pids.items))

-- one state more
pub all_more : (ls : List Locking) (i : ℕ) (d l : Locking) (now : List Lock) → i < length ls → now ≡ all_locks (take i ls) → get_or ls i d ≡ l
    → now ++ locks_of l.state l.pids.items ≡ all_locks (take (i + 1) ls)
all_more ls i d l now less is here =
    ap (λ (xs : List Lock). xs ++ locks_of l.state l.pids.items) is ∙ sym (all_last (take i ls) l)
    ∙ ap all_locks (ap (λ (k : Locking). take i ls ++ k ∷ []) (sym here) ∙ sym (take_more ls i d less))

-- what the first of them lock is no more than what all lock
pub all_grow : (ls : List Locking) (i : ℕ) (d l : Locking) → i < length ls → get_or ls i d ≡ l
    → length (all_locks (take i ls)) + length l.pids.items ≤ length (all_locks ls)
all_grow [] i d l less here = absurd (omega (arith, less))
all_grow (k ∷ ls) zero d l less here =
    let same : length k.pids.items ≡ length l.pids.items = ap (λ (m : Locking). length m.pids.items) here in
    let count = locks_count k.state k.pids.items in
    let both = length_both (locks_of k.state k.pids.items) (all_locks ls) in
    omega (arith, same, count, both)
all_grow (k ∷ ls) (suc i) d l less here =
    let rest = all_grow ls i d l (omega (arith, less)) here in
    let front = length_both (locks_of k.state k.pids.items) (all_locks (take i ls)) in
    let both = length_both (locks_of k.state k.pids.items) (all_locks ls) in
    omega (arith, rest, front, both)

-- ---- what is written of locks, a table each

each_written : (ds : Items) (ls : List Lock) → EachIs (OfTable (λ t l. IsLocking t (locking_of l))) ds ls → EachIs (OfTable IsLocking) ds (map locking_of ls)
each_written no_items [] h = h
each_written no_items (l ∷ ls) h = absurd h
each_written (item d ds) [] h = absurd h
each_written (item (table t) ds) (l ∷ ls) h = (h.0, each_written ds ls h.1)
each_written (item (string s) ds) (l ∷ ls) h = absurd h.0
each_written (item (integer z) ds) (l ∷ ls) h = absurd h.0
each_written (item (float f) ds) (l ∷ ls) h = absurd h.0
each_written (item (boolean b) ds) (l ∷ ls) h = absurd h.0
each_written (item (datetime dt) ds) (l ∷ ls) h = absurd h.0
each_written (item (array es) ds) (l ∷ ls) h = absurd h.0

pub locks_written : (found : Option Data) (ls : List Lock) → ListAt (OfTable (λ t l. IsLocking t (locking_of l))) found ls → ListAt (OfTable IsLocking) found (map locking_of ls)
locks_written None ls h = ap (map locking_of) h
locks_written (Some (array ds)) ls h = each_written ds ls h
locks_written (Some (table t)) ls h = absurd h
locks_written (Some (string s)) ls h = absurd h
locks_written (Some (integer z)) ls h = absurd h
locks_written (Some (float f)) ls h = absurd h
locks_written (Some (boolean b)) ls h = absurd h
locks_written (Some (datetime dt)) ls h = absurd h

pub locks_again : (ls : List Lock) → ls ≡ all_locks (map locking_of ls)
locks_again [] = refl
locks_again (l ∷ ls) = ap (λ (ks : List Lock). l ∷ ks) (locks_again ls)

pub map_count : (ls : List Lock) → length (map locking_of ls) ≡ length ls
map_count [] = refl
map_count (l ∷ ls) = ap suc (map_count ls)

-- ---- each state from 1

in_the_middle : (a b c : Bool) → (a && b && c) ≡ true → b ≡ true
in_the_middle true true c h = refl
in_the_middle true false c h = absurd (cc)
in_the_middle false b c h = absurd (cc)

stated : (ds : List ParameterDef) (l : Lock) → IsTrue (has_state ds l) → 1 ≤ l.state
stated [] l h = absurd (cc)
stated (d ∷ ds) l h =
    one_of_two (is_state_of l d) (list_any (is_state_of l) ds) (1 ≤ l.state)
    (λ here. leb-true 1 l.state (in_the_middle (d.pid == 0x0641) (nat_le 1 l.state) (nat_le l.state (greatest d)) here))
    (λ later. stated ds l later) h

pub all_stated : (ds : List ParameterDef) (ls : List Lock) → All (λ l. IsTrue (has_state ds l)) ls → All (λ l. 1 ≤ l.state) ls
all_stated ds ls h = λ k d less. stated ds (get_or ls k d) (h k d less)
