-- The values of the parameters that the maker adds.
use Rattle.std.proofs.Common.{◌≡◌, ◌↔◌, ℕ, zero, suc, ◌+◌, ◌<◌, ◌==◌, ◌&&◌, ◌||◌, Bool, true, false, cond, List, [], ◌∷◌, ◌++◌, length, map, get_or, set, take, drop, Option, Some, refl, sym, ap, ◌∙◌, append_assoc, add-one, arith}
use Rattle.std.specs.Prelude.{find}
use Rattle.std.specs.Option.{option_map, option_map_or}
use Rattle.std.proofs.lemmas.List.{at_drop_more, map-append, map-set, get_or-map, get_or-set_same, length-map}
use Rattle.std.proofs.lemmas.Bool.{eqb-true}
use Rattle.rdm_added.specs.declared.state.Kept.{Kept}
use Rattle.rdm_profile.specs.declared.profile.locks.Lock.{Lock}
use Rattle.rdm_profile.specs.declared.profile.own.ParameterDef.{ParameterDef}
use Rattle.rdm_added.specs.Locking.{lock_state}
use Rattle.rdm_added.specs.Map.{Entry, entry, has_key, lookup, value_at, update}
use Rattle.rdm_added.specs.Scenes.{scenes_by}
use Rattle.rdm_profile.specs.OwnParameters.{is_order}
use Rattle.rdm_added.specs.Parameters.{no_orders, kept_at_start, added_at_start}
use Rattle.rdm_added.specs.Added.{order_stored, no_counts, counts_cleared, kept_stored, placed_stored, index_kept, bytes_kept, bytes_ordered, bytes_placed, counted, set_back_in, added_set_back}
use Rattle.rdm_added.specs.Spot.{Spot}
use Rattle.rdm_profile.specs.Values.{bytes_of}
use Rattle.rdm_profile.specs.declared.value.Value.{Value}
use Rattle.rdm_added.specs.Views.State.{kept_entry, added_entries, stored_in, made_of}

-- the data that a parameter starts with, behind what is kept of others, and then its scenes
pub start_data : (ks : List Kept) (d : ParameterDef) (k : Kept) (new : List Entry) → k.pid ≡ d.pid → k.index ≡ 0 → k.bytes ≡ d.start → is_order d.rights ≡ false → new ≡ added_entries (ks ++ k ∷ []) ++ scenes_by d.shape d → new ≡ added_entries ks ++ kept_at_start d
start_data ks d k new same_pid at_zero same_bytes other is =
    let one : kept_entry k ≡ entry d.pid 0 d.start = rw (same_pid, at_zero, same_bytes) refl in
    let none : no_orders d ≡ [] = ap (λ (b : Bool). cond b (entry d.pid 1 (0 ∷ []) ∷ []) []) other in
    let scenes : List Entry = scenes_by d.shape d in
    is ∙ ap (λ (es : List Entry). es ++ scenes) (map-append kept_entry ks (k ∷ [])) ∙ append_assoc (added_entries ks) (kept_entry k ∷ []) scenes ∙ ap (λ (e : Entry). added_entries ks ++ (e ∷ scenes)) one ∙ ap (λ (es : List Entry). added_entries ks ++ (entry d.pid 0 d.start ∷ es ++ scenes)) (sym none)

-- and the count of an order
pub start_order : (ks : List Kept) (d : ParameterDef) (k c : Kept) (new : List Entry) → k.pid ≡ d.pid → k.index ≡ 0 → k.bytes ≡ d.start → c.pid ≡ d.pid → c.index ≡ 1 → c.bytes ≡ 0 ∷ [] → is_order d.rights ≡ true → new ≡ added_entries ((ks ++ k ∷ []) ++ c ∷ []) ++ scenes_by d.shape d → new ≡ added_entries ks ++ kept_at_start d
start_order ks d k c new same_pid at_zero same_bytes pid_too one_more none is e =
    let one : kept_entry k ≡ entry d.pid 0 d.start = rw (same_pid, at_zero, same_bytes) refl in
    let two : kept_entry c ≡ entry d.pid 1 (0 ∷ []) = rw (pid_too, one_more, none) refl in
    let some : no_orders d ≡ entry d.pid 1 (0 ∷ []) ∷ [] = ap (λ (b : Bool). cond b (entry d.pid 1 (0 ∷ []) ∷ []) []) is in
    let scenes : List Entry = scenes_by d.shape d in
    let both : added_entries ((ks ++ k ∷ []) ++ c ∷ []) ≡ added_entries ks ++ (kept_entry k ∷ kept_entry c ∷ []) = ap added_entries (append_assoc ks (k ∷ []) (c ∷ [])) ∙ map-append kept_entry ks (k ∷ c ∷ []) in
    e ∙ ap (λ (es : List Entry). es ++ scenes) both ∙ append_assoc (added_entries ks) (kept_entry k ∷ kept_entry c ∷ []) scenes ∙ ap (λ (x : Entry). added_entries ks ++ (x ∷ kept_entry c ∷ scenes)) one ∙ ap (λ (x : Entry). added_entries ks ++ (entry d.pid 0 d.start ∷ x ∷ scenes)) two ∙ ap (λ (es : List Entry). added_entries ks ++ (entry d.pid 0 d.start ∷ es ++ scenes)) (sym some)

-- one more parameter that starts
pub start_step : (now next : List Entry) (i : ℕ) (ds : List ParameterDef) (d : ParameterDef) (total : List Entry) → i < length ds → next ≡ now ++ kept_at_start (get_or ds i d) → now ++ added_at_start (drop i ds) ≡ total → next ++ added_at_start (drop (i + 1) ds) ≡ total
start_step now next i ds d total lt one so_far =
    let more : added_at_start (drop i ds) ≡ kept_at_start (get_or ds i d) ++ added_at_start (drop (i + 1) ds) = at_drop_more added_at_start ds i d lt in
    ap (λ (es : List Entry). es ++ added_at_start (drop (i + 1) ds)) one ∙ append_assoc now (kept_at_start (get_or ds i d)) (added_at_start (drop (i + 1) ds)) ∙ ap (λ (es : List Entry). now ++ es) (sym more) ∙ so_far

-- ---- what is kept of one parameter

here_or_later : (here : Bool) (bytes later : List ℕ) (k : Kept) (rest : Option Kept) → k.bytes ≡ bytes → later ≡ option_map_or (λ (x : Kept). x.bytes) rest [] → cond here bytes later ≡ option_map_or (λ (x : Kept). x.bytes) (cond here (Some k) rest) []
here_or_later true bytes later k rest same e = sym same
here_or_later false bytes later k rest same e = e

abbrev is_at : ℕ → ℕ → Kept → Bool
is_at pid index k = (k.pid == pid) && (k.index == index)

lookup_is : (ks : List Kept) (pid index : ℕ) → lookup (added_entries ks) pid index ≡ option_map_or (λ (k : Kept). k.bytes) (find (is_at pid index) ks) []
lookup_is [] pid index = refl
lookup_is (k ∷ ks) pid index = here_or_later (is_at pid index k) k.bytes (lookup (added_entries ks) pid index) k (find (is_at pid index) ks) refl (lookup_is ks pid index)

-- the bytes at the key of the parameter
pub kept_is : (ks : List Kept) (pid index : ℕ) (o : Option Kept) → o ≡ find (is_at pid index) ks → lookup (added_entries ks) pid index ≡ option_map_or (λ (k : Kept). k.bytes) o []
kept_is ks pid index o e = lookup_is ks pid index ∙ ap (λ (x : Option Kept). option_map_or (λ (k : Kept). k.bytes) x []) (sym e)

value_or_later : (here : Bool) (k : Kept) (later : Option Entry) (rest : Option Kept) → option_map (λ (e : Entry). e.bytes) later ≡ option_map (λ (x : Kept). x.bytes) rest → option_map (λ (e : Entry). e.bytes) (cond here (Some (kept_entry k)) later) ≡ option_map (λ (x : Kept). x.bytes) (cond here (Some k) rest)
value_or_later true k later rest e = refl
value_or_later false k later rest e = e

found_is : (ks : List Kept) (pid : ℕ) → value_at (added_entries ks) pid ≡ option_map (λ (k : Kept). k.bytes) (find (is_at pid 0) ks)
found_is [] pid = refl
found_is (k ∷ ks) pid = value_or_later (is_at pid 0 k) k (find (has_key pid 0) (added_entries ks)) (find (is_at pid 0) ks) (found_is ks pid)

-- the value of a parameter, if there is one
pub value_is : (ks : List Kept) (pid : ℕ) (o : Option Kept) → o ≡ find (is_at pid 0) ks → value_at (added_entries ks) pid ≡ option_map (λ (k : Kept). k.bytes) o
value_is ks pid o e = found_is ks pid ∙ ap (λ (x : Option Kept). option_map (λ (k : Kept). k.bytes) x) (sym e)

pub not_either : (a b : Bool) → (a || b) ≡ false → (a ≡ false) × (b ≡ false)
not_either true b h = absurd cc
not_either false b h = (refl, h)

pub either_false : (a b : Bool) → a ≡ false → b ≡ false → (a || b) ≡ false
either_false true b e f = absurd cc
either_false false b e f = f

-- ---- storing

placed_is_map : (d : ParameterDef) (spot : Spot) (v : Value) (es : List Entry) → update (placed_stored d spot v) es ≡ map (stored_in d.pid (index_kept d.shape v) (bytes_placed d.shape d v)) es
placed_is_map d spot v [] = refl
placed_is_map d spot v (e ∷ es) = ap (λ (rest : List Entry). stored_in d.pid (index_kept d.shape v) (bytes_placed d.shape d v) e ∷ rest) (placed_is_map d spot v es)

-- each entry that the firmware places
pub placed_all : (d : ParameterDef) (spot : Spot) (v : Value) (es new : List Entry) → new ≡ map (stored_in d.pid (index_kept d.shape v) (bytes_placed d.shape d v)) es → new ≡ update (placed_stored d spot v) es
placed_all d spot v es new e = e ∙ sym (placed_is_map d spot v es)

kept_is_map : (d : ParameterDef) (spot : Spot) (v : Value) (es : List Entry) → update (kept_stored d spot v) es ≡ map (stored_in d.pid (index_kept d.shape v) (bytes_kept d.shape v)) es
kept_is_map d spot v [] = refl
kept_is_map d spot v (e ∷ es) = ap (λ (rest : List Entry). stored_in d.pid (index_kept d.shape v) (bytes_kept d.shape v) e ∷ rest) (kept_is_map d spot v es)

-- each entry that a SET stores
pub kept_all : (d : ParameterDef) (spot : Spot) (v : Value) (es new : List Entry) (index : ℕ) (bytes : List ℕ) → index ≡ index_kept d.shape v → bytes ≡ bytes_kept d.shape v → new ≡ map (stored_in d.pid index bytes) es → new ≡ update (kept_stored d spot v) es
kept_all d spot v es new index bytes at same e =
    e ∙ ap (λ (i : ℕ). map (stored_in d.pid i bytes) es) at ∙ ap (λ (xs : List ℕ). map (stored_in d.pid (index_kept d.shape v) xs) es) same ∙ sym (kept_is_map d spot v es)

cleared_is_map : (d : ParameterDef) (spot : Spot) (v : Value) (es : List Entry) → update (counts_cleared d spot v) es ≡ map (stored_in d.pid 0 no_counts) es
cleared_is_map d spot v [] = refl
cleared_is_map d spot v (e ∷ es) = ap (λ (rest : List Entry). stored_in d.pid 0 no_counts e ∷ rest) (cleared_is_map d spot v es)

-- each entry of which the counts are cleared
pub cleared_all : (d : ParameterDef) (spot : Spot) (v : Value) (es new : List Entry) (pid : ℕ) (bytes : List ℕ) → pid ≡ d.pid → bytes ≡ no_counts → new ≡ map (stored_in pid 0 bytes) es → new ≡ update (counts_cleared d spot v) es
cleared_all d spot v es new pid bytes at same e =
    e ∙ ap (λ (p : ℕ). map (stored_in p 0 bytes) es) at ∙ ap (λ (xs : List ℕ). map (stored_in d.pid 0 xs) es) same ∙ sym (cleared_is_map d spot v es)

-- ---- an order: its data, and its count

-- of two keys an entry has one at most
one_key : (pid index : Bool) (a b kept : List ℕ) → (more : Bool) → (index && more) ≡ false → cond (pid && more) b (cond (pid && index) a kept) ≡ cond (pid && index) a (cond (pid && more) b kept)
one_key true true a b kept true apart = absurd cc
one_key true true a b kept false apart = refl
one_key true false a b kept more apart = refl
one_key false index a b kept more apart = refl

never_both : (a b : Bool) → (a ≡ true → b ≡ true → ⊥) → (a && b) ≡ false
never_both true true never = absurd (never refl refl)
never_both true false never = refl
never_both false b never = refl

zero_or_one : (n : ℕ) → ((n == 0) && (n == 1)) ≡ false
zero_or_one n = never_both (n == 0) (n == 1) (λ (is : (n == 0) ≡ true) (one : (n == 1) ≡ true). let at : n ≡ 0 = eqb-true n 0 is in let also : n ≡ 1 = eqb-true n 1 one in omega (arith, at, also))

both_keys : (pid : ℕ) (a b : List ℕ) (e : Entry) → stored_in pid 1 b (stored_in pid 0 a e) ≡ entry e.pid e.index (cond (has_key pid 0 e) a (cond (has_key pid 1 e) b e.bytes))
both_keys pid a b e = ap (entry e.pid e.index) (one_key (e.pid == pid) (e.index == 0) a b e.bytes (e.index == 1) (zero_or_one e.index))

order_is_map : (d : ParameterDef) (spot : Spot) (v : Value) (count : List ℕ) (es : List Entry) → count ≡ counted (lookup spot.added d.pid 1) → update (order_stored d spot v) es ≡ map (stored_in d.pid 1 count) (map (stored_in d.pid 0 (bytes_ordered d.shape v)) es)
order_is_map d spot v count [] same = refl
order_is_map d spot v count (e ∷ es) same =
    let kept : List ℕ = bytes_ordered d.shape v in
    let one : entry e.pid e.index (order_stored d spot v e) ≡ stored_in d.pid 1 count (stored_in d.pid 0 kept e) = ap (λ (c : List ℕ). entry e.pid e.index (cond (has_key d.pid 0 e) kept (cond (has_key d.pid 1 e) c e.bytes))) (sym same) ∙ sym (both_keys d.pid kept count e) in
    ap (λ (x : Entry). x ∷ update (order_stored d spot v) es) one ∙ ap (λ (rest : List Entry). stored_in d.pid 1 count (stored_in d.pid 0 kept e) ∷ rest) (order_is_map d spot v count es same)

-- each entry that an order stores
pub ordered_all : (d : ParameterDef) (spot : Spot) (v : Value) (es new : List Entry) → spot.added ≡ es → new ≡ map (stored_in d.pid 1 (counted (lookup es d.pid 1))) (map (stored_in d.pid 0 (bytes_ordered d.shape v)) es) → new ≡ update (order_stored d spot v) es
ordered_all d spot v es new is e =
    e ∙ sym (order_is_map d spot v (counted (lookup es d.pid 1)) es (ap (λ (xs : List Entry). counted (lookup xs d.pid 1)) (sym is)))

own_bytes : (pid first more : Bool) (a b kept : List ℕ) → (first && more) ≡ false → cond (pid && more) b (cond (pid && first) a kept) ≡ kept → cond (pid && first) a kept ≡ kept
own_bytes true true true a b kept apart e = absurd cc
own_bytes true true false a b kept apart e = e
own_bytes true false more a b kept apart e = refl
own_bytes false first more a b kept apart e = refl

heads_same : (x y : Entry) (xs ys : List Entry) → x ∷ xs ≡ y ∷ ys → (x.bytes ≡ y.bytes) × (xs ≡ ys)
heads_same x y xs ys e = (ap (λ (l : List Entry). head_bytes l) e, ap tail_of e)
  where
    head_bytes : List Entry → List ℕ
    head_bytes [] = []
    head_bytes (z ∷ zs) = z.bytes

    tail_of : List Entry → List Entry
    tail_of [] = []
    tail_of (z ∷ zs) = zs

-- where both leave all as it was, the first does
first_leaves : (pid : ℕ) (a b : List ℕ) (es : List Entry) → map (stored_in pid 1 b) (map (stored_in pid 0 a) es) ≡ es → map (stored_in pid 0 a) es ≡ es
first_leaves pid a b [] e = refl
first_leaves pid a b (x ∷ xs) e =
    let parts = heads_same (stored_in pid 1 b (stored_in pid 0 a x)) x (map (stored_in pid 1 b) (map (stored_in pid 0 a) xs)) xs e in
    let here : cond (has_key pid 0 x) a x.bytes ≡ x.bytes = own_bytes (x.pid == pid) (x.index == 0) (x.index == 1) a b x.bytes (zero_or_one x.index) parts.0 in
    ap (λ (bytes : List ℕ). entry x.pid x.index bytes ∷ map (stored_in pid 0 a) xs) here ∙ ap (λ (rest : List Entry). x ∷ rest) (first_leaves pid a b xs parts.1)

-- both leave all as it was exactly if each says so
pub two_same : (pid : ℕ) (a b : List ℕ) (first second both : Bool) (es mid new : List Entry) → mid ≡ map (stored_in pid 0 a) es → new ≡ map (stored_in pid 1 b) mid → ((first ≡ false) ↔ (mid ≡ es)) → ((second ≡ false) ↔ (new ≡ mid)) → both ≡ (first || second) → ((both ≡ false) ↔ (new ≡ es))
two_same pid a b first second both es mid new one two same same_too is = (
  λ e. let parts = not_either first second (sym is ∙ e) in same_too.0 parts.1 ∙ same.0 parts.0,
  λ e.
      let left : map (stored_in pid 0 a) es ≡ es = first_leaves pid a b es (ap (map (stored_in pid 1 b)) (sym one) ∙ sym two ∙ e) in
      is ∙ either_false first second (same.1 (one ∙ left)) (same_too.1 (e ∙ sym (one ∙ left))),
)

update_is_made : (f : Entry → List ℕ) (es : List Entry) → update f es ≡ map (made_of f) es
update_is_made f [] = refl
update_is_made f (e ∷ es) = ap (λ (rest : List Entry). made_of f e ∷ rest) (update_is_made f es)

-- each entry that is set back
pub all_set_back : (spot : Spot) (v : Value) (es new : List Entry) (locks : List Lock) (state : ℕ) (ds : List ParameterDef) → locks ≡ spot.profile.particulars.locks → state ≡ lock_state spot.added → ds ≡ spot.profile.particulars.own → new ≡ map (made_of (set_back_in locks state ds)) es → new ≡ update (added_set_back spot v) es
all_set_back spot v es new locks state ds held at same e =
    e ∙ ap (λ (ls : List Lock). map (made_of (set_back_in ls state ds)) es) held
    ∙ ap (λ (n : ℕ). map (made_of (set_back_in spot.profile.particulars.locks n ds)) es) at
    ∙ ap (λ (own : List ParameterDef). map (made_of (set_back_in spot.profile.particulars.locks (lock_state spot.added) own)) es) same
    ∙ sym (update_is_made (added_set_back spot v) es)

module _ {A B : Type 0} (h : A → B) (d : B) where
  -- a write of one
  pub one_written : (f : B → B) (xs : List A) (i : ℕ) (old new : A) → i < length xs → old ≡ get_or xs i old → h new ≡ f (h old) → map h (set xs i new) ≡ set (map h xs) i (f (get_or (map h xs) i d))
  one_written f xs i old new lt here e =
      let was : h old ≡ get_or (map h xs) i d = ap h here ∙ sym (get_or-map h xs i old d lt) in
      map-set h xs i new ∙ ap (set (map h xs) i) (e ∙ ap f was)

module _ {B : Type 0} (d : B) where
  -- a list in which an element was replaced by itself
  pub set_own : (xs : List B) (i : ℕ) (x : B) → i < length xs → x ≡ get_or xs i d → set xs i x ≡ xs
  set_own [] i x lt e = absurd (omega arith)
  set_own (y ∷ ys) zero x lt e = ap (λ (z : B). z ∷ ys) e
  set_own (y ∷ ys) (suc i) x lt e = ap (λ (zs : List B). y ∷ zs) (set_own ys i x (omega arith) e)

  set_is_own : (xs : List B) (i : ℕ) (x : B) → i < length xs → set xs i x ≡ xs → x ≡ get_or xs i d
  set_is_own xs i x lt e = sym (get_or-set_same xs i x d lt) ∙ ap (λ (ys : List B). get_or ys i d) e

  -- the list is the same exactly if the one that is written is
  pub one_same : {A : Type 0} (h : A → B) (changed : Bool) (xs : List A) (i : ℕ) (old new : A) → i < length xs → old ≡ get_or xs i old → ((changed ≡ false) ↔ (h new ≡ h old)) → ((changed ≡ false) ↔ (map h (set xs i new) ≡ map h xs))
  one_same h changed xs i old new lt here same =
      let there : i < length (map h xs) = simp length-map lt in
      let was : h old ≡ get_or (map h xs) i d = ap h here ∙ sym (get_or-map h xs i old d lt) in (
        λ e. map-set h xs i new ∙ set_own (map h xs) i (h new) there (same.0 e ∙ was),
        λ e. same.1 (set_is_own (map h xs) i (h new) there (sym (map-set h xs i new) ∙ e) ∙ sym was),
      )

  each_set : (f : B → B) (xs : List B) (i : ℕ) → i < length xs → set (map f (take i xs) ++ drop i xs) i (f (get_or (map f (take i xs) ++ drop i xs) i d)) ≡ map f (take (suc i) xs) ++ drop (suc i) xs
  each_set f [] i lt = absurd (omega arith)
  each_set f (x ∷ xs) zero lt = refl
  each_set f (x ∷ xs) (suc i) lt = ap (λ (ms : List B). f x ∷ ms) (each_set f xs i (omega arith))

  -- a write of one more
  pub each_step : (f : B → B) (xs now next : List B) (i : ℕ) → i < length xs → now ≡ map f (take i xs) ++ drop i xs → next ≡ set now i (f (get_or now i d)) → next ≡ map f (take (i + 1) xs) ++ drop (i + 1) xs
  each_step f xs now next i lt so_far e = rw (e, so_far, add-one i) (each_set f xs i lt)

  at_here : (f : B → B) (xs : List B) (i : ℕ) → i < length xs → get_or (map f (take i xs) ++ drop i xs) i d ≡ get_or xs i d
  at_here f [] i lt = absurd (omega arith)
  at_here f (x ∷ xs) zero lt = refl
  at_here f (x ∷ xs) (suc i) lt = at_here f xs i (omega arith)

  -- a write of one more leaves all as they were exactly if those before it did, and this one does
  pub each_same : (f : B → B) (before here after : Bool) (xs now next : List B) (i : ℕ) → i < length xs → length now ≡ length xs → now ≡ map f (take i xs) ++ drop i xs → next ≡ set now i (f (get_or now i d)) → ((here ≡ false) ↔ (next ≡ now)) → ((before ≡ false) ↔ (now ≡ xs)) → after ≡ (before || here) → ((after ≡ false) ↔ (next ≡ xs))
  each_same f before here after xs now next i lt len so_far e one all joined = (
    λ e. let both = not_either before here (sym joined ∙ e) in one.0 both.1 ∙ all.0 both.0,
    λ same.
        let own : get_or now i d ≡ get_or xs i d = ap (λ (ys : List B). get_or ys i d) so_far ∙ at_here f xs i lt in
        let fits : i < length now = omega (arith, len, lt) in
        let written : get_or next i d ≡ f (get_or now i d) = ap (λ (ys : List B). get_or ys i d) e ∙ get_or-set_same now i (f (get_or now i d)) d fits in
        let kept : f (get_or now i d) ≡ get_or now i d = sym written ∙ ap (λ (ys : List B). get_or ys i d) same ∙ sym own in
        let still : next ≡ now = e ∙ set_own now i (f (get_or now i d)) fits kept in
        let first : before ≡ false = all.1 (sym still ∙ same) in
        joined ∙ either_false before here first (one.1 still),
  )

pub joined_true : (a b c : Bool) → a ≡ true → c ≡ a → c ≡ (a || b)
joined_true true b c t e = e
joined_true false b c t e = absurd cc

pub joined_false : (a b c : Bool) → a ≡ false → c ≡ b → c ≡ (a || b)
joined_false true b c f e = absurd cc
joined_false false b c f e = e
