-- The messages that a list makes up, when one more is collected.
use Rattle.std.proofs.Common.{◌≡◌, ℕ, suc, ◌+◌, take, drop, Bool, true, false, cond, List, [], ◌∷◌, ◌++◌, Some, refl, sym, ap, subst, ◌∙◌, arith}
use Rattle.std.proofs.lemmas.Bool.{cond-true, cond-false}
use Rattle.rdm_collector.specs.declared.any_device.collected.Collected.{Collected}
use Rattle.rdm_collector.specs.AnyDevice.Parts.{goes_on, run_behind}
use Rattle.rdm_console.specs.Mailboxes.{MessagesAreTakenOff, but_last, go_on, last_of, last_or, messages_in, with_front}

-- ---- the last of some messages

-- there is one at least
pub record IsSomeOf (ms : List (List Collected)) : Type 0 where
  pub first : List Collected
  pub others : List (List Collected)
  pub are : ms ≡ first ∷ others

some_at : (b : Bool) (x : Collected) (ms : List (List Collected)) → IsSomeOf (cond b (with_front x ms) ((x ∷ []) ∷ ms))
some_at true x [] = record { first = x ∷ []; others = []; are = refl }
some_at true x (m ∷ ms) = record { first = x ∷ m; others = ms; are = refl }
some_at false x ms = record { first = x ∷ []; others = ms; are = refl }

pub some_messages : (x : Collected) (xs : List Collected) → IsSomeOf (messages_in (x ∷ xs))
some_messages x xs = some_at (go_on x xs) x (messages_in xs)

-- the last of these, with one more
abbrev pub to_last : Collected → List (List Collected) → List (List Collected)
to_last c [] = (c ∷ []) ∷ []
to_last c (m ∷ []) = (m ++ c ∷ []) ∷ []
to_last c (m ∷ n ∷ ms) = m ∷ to_last c (n ∷ ms)

pub some_to_last : (c : Collected) (m : List Collected) (ms : List (List Collected)) → IsSomeOf (to_last c (m ∷ ms))
some_to_last c m [] = record { first = m ++ c ∷ []; others = []; are = refl }
some_to_last c m (n ∷ ms) = record { first = m; others = to_last c (n ∷ ms); are = refl }

last_behind : (m k : List Collected) (ms : List (List Collected)) → IsSomeOf ms → last_or m ms ≡ last_or k ms
last_behind m k ms some = rw some.are refl

but_last_behind : (m : List Collected) (ms : List (List Collected)) → IsSomeOf ms → but_last (m ∷ ms) ≡ m ∷ but_last ms
but_last_behind m ms some = rw some.are refl

pub last_to_last : (c : Collected) (m : List Collected) (ms : List (List Collected)) → last_or [] (to_last c (m ∷ ms)) ≡ last_or m ms ++ c ∷ []
last_to_last c m [] = refl
last_to_last c m (n ∷ ms) = last_behind m [] (to_last c (n ∷ ms)) (some_to_last c n ms) ∙ last_to_last c n ms

pub but_last_to_last : (c : Collected) (m : List Collected) (ms : List (List Collected)) → but_last (to_last c (m ∷ ms)) ≡ but_last (m ∷ ms)
but_last_to_last c m [] = refl
but_last_to_last c m (n ∷ ms) =
    but_last_behind m (to_last c (n ∷ ms)) (some_to_last c n ms) ∙ ap (λ (ns : List (List Collected)). m ∷ ns) (but_last_to_last c n ms)

-- a message behind these
pub last_push : (k : List Collected) (ms : List (List Collected)) (n : List Collected) → last_or k (ms ++ n ∷ []) ≡ n
last_push k [] n = refl
last_push k (m ∷ ms) n = last_push m ms n

pub but_last_push : (ms : List (List Collected)) (n : List Collected) → but_last (ms ++ n ∷ []) ≡ ms
but_last_push [] n = refl
but_last_push (m ∷ []) n = refl
but_last_push (m ∷ k ∷ ms) n = ap (λ (ns : List (List Collected)). m ∷ ns) (but_last_push (k ∷ ms) n)

-- ---- one more is collected

joined_at : (b : Bool) (x c : Collected) (m : List Collected) (ms : List (List Collected))
    → cond b (with_front x (to_last c (m ∷ ms))) ((x ∷ []) ∷ to_last c (m ∷ ms)) ≡ to_last c (cond b (with_front x (m ∷ ms)) ((x ∷ []) ∷ m ∷ ms))
joined_at true x c m [] = refl
joined_at true x c m (n ∷ ms) = refl
joined_at false x c m ms = refl

joined_to : (b : Bool) (x c : Collected) (ms : List (List Collected)) → IsSomeOf ms
    → cond b (with_front x (to_last c ms)) ((x ∷ []) ∷ to_last c ms) ≡ to_last c (cond b (with_front x ms) ((x ∷ []) ∷ ms))
joined_to b x c ms some = rw some.are (joined_at b x c some.first some.others)

-- it goes on with the last of them
pub joined : (x : Collected) (xs : List Collected) (c : Collected) → goes_on (last_or x xs) c ≡ true → messages_in ((x ∷ xs) ++ c ∷ []) ≡ to_last c (messages_in (x ∷ xs))
joined x [] c on = cond-true _ _ _ on
joined x (y ∷ ys) c on =
    ap (λ (ms : List (List Collected)). cond (goes_on x y) (with_front x ms) ((x ∷ []) ∷ ms)) (joined y ys c on)
    ∙ joined_to (goes_on x y) x c (messages_in (y ∷ ys)) (some_messages y ys)

begun_at : (b : Bool) (x : Collected) (m n : List Collected) (ms : List (List Collected))
    → cond b (with_front x ((m ∷ ms) ++ n ∷ [])) ((x ∷ []) ∷ ((m ∷ ms) ++ n ∷ [])) ≡ cond b (with_front x (m ∷ ms)) ((x ∷ []) ∷ m ∷ ms) ++ n ∷ []
begun_at true x m n ms = refl
begun_at false x m n ms = refl

begun_behind : (b : Bool) (x : Collected) (ms : List (List Collected)) (n : List Collected) → IsSomeOf ms
    → cond b (with_front x (ms ++ n ∷ [])) ((x ∷ []) ∷ (ms ++ n ∷ [])) ≡ cond b (with_front x ms) ((x ∷ []) ∷ ms) ++ n ∷ []
begun_behind b x ms n some = rw some.are (begun_at b x some.first n some.others)

-- it begins another
pub begun : (x : Collected) (xs : List Collected) (c : Collected) → goes_on (last_or x xs) c ≡ false
    → messages_in ((x ∷ xs) ++ c ∷ []) ≡ messages_in (x ∷ xs) ++ (c ∷ []) ∷ []
begun x [] c off = cond-false _ _ _ off
begun x (y ∷ ys) c off =
    ap (λ (ms : List (List Collected)). cond (goes_on x y) (with_front x ms) ((x ∷ []) ∷ ms)) (begun y ys c off)
    ∙ begun_behind (goes_on x y) x (messages_in (y ∷ ys)) (c ∷ []) (some_messages y ys)

-- ---- what was collected last is the last of the last message

ends_at : (b : Bool) (x y : Collected) (m : List Collected) (ms : List (List Collected)) → last_of (last_or m ms) ≡ Some y
    → last_of (last_or [] (cond b (with_front x (m ∷ ms)) ((x ∷ []) ∷ m ∷ ms))) ≡ Some y
ends_at false x y m ms e = e
ends_at true x y m (n ∷ ms) e = e
ends_at true x y [] [] e = absurd cc
ends_at true x y (z ∷ zs) [] e = e

ends_behind : (b : Bool) (x y : Collected) (ms : List (List Collected)) → IsSomeOf ms → last_of (last_or [] ms) ≡ Some y
    → last_of (last_or [] (cond b (with_front x ms) ((x ∷ []) ∷ ms))) ≡ Some y
ends_behind b x y ms some e =
    let here : last_of (last_or some.first some.others) ≡ Some y = subst (λ ns. last_of (last_or [] ns) ≡ Some y) some.are e in
    subst (λ ns. last_of (last_or [] (cond b (with_front x ns) ((x ∷ []) ∷ ns))) ≡ Some y) (sym some.are) (ends_at b x y some.first some.others here)

pub last_ends : (x : Collected) (xs : List Collected) → last_of (last_or [] (messages_in (x ∷ xs))) ≡ Some (last_or x xs)
last_ends x [] = refl
last_ends x (y ∷ ys) = ends_behind (goes_on x y) x (last_or y ys) (messages_in (y ∷ ys)) (some_messages y ys) (last_ends y ys)

-- ---- the first of them

taken_at : (b : Bool) (c d : Collected) (ds : List Collected) (n : ℕ) → messages_in (d ∷ ds) ≡ take (1 + n) (d ∷ ds) ∷ messages_in (drop (1 + n) (d ∷ ds))
    → cond b (with_front c (messages_in (d ∷ ds))) ((c ∷ []) ∷ messages_in (d ∷ ds))
    ≡ take (1 + cond b (1 + n) 0) (c ∷ d ∷ ds) ∷ messages_in (drop (1 + cond b (1 + n) 0) (c ∷ d ∷ ds))
taken_at true c d ds n e =
    let F : ℕ → List (List Collected) = λ k. take k (c ∷ d ∷ ds) ∷ messages_in (drop k (c ∷ d ∷ ds)) in
    let more : 1 + (1 + n) ≡ suc (1 + n) = omega arith in
    ap (with_front c) e ∙ sym (ap F more)
taken_at false c d ds n e = refl

pub taken_off : MessagesAreTakenOff
taken_off c [] = refl
taken_off c (d ∷ ds) = taken_at (goes_on c d) c d ds (run_behind d ds) (taken_off d ds)
