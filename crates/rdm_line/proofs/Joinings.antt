-- A device joins a line.
use Rattle.std.proofs.Common.{◌≡◌, ℕ, zero, suc, ◌+◌, ◌%◌, ◌^◌, ◌<◌, ◌≤◌, true, false, List, [], ◌∷◌, ◌++◌, length, get_or, map, take, drop, Result, Ok, Err, refl, sym, ap, subst, ◌∙◌, inl, inr, arith}
use Rattle.std.specs.Prelude.{not}
use Rattle.std.specs.List.{AllZip, filter}
use Rattle.std.proofs.lemmas.Bool.{cases_order, lt-ltb, le-ltb}
use Rattle.rdm_frame.specs.declared.uid.Uid.{Uid}
use Rattle.rdm_frame.specs.FrameText.{IsUid}
use Rattle.rdm_frame.specs.UidNumber.{uid_number}
use Rattle.rdm_responder.specs.History.{History}
use Rattle.rdm_line.specs.declared.collision.Collision.{Collision}
use Rattle.rdm_line.specs.declared.joining.JoinError.{JoinError}
use Rattle.rdm_line.specs.declared.joining.JoinError.TheVariants.{Taken, OutOfMemory, BadUid}
use Rattle.rdm_line.specs.Line.{StandFor, AreInOrder, IsGap, joined, is_below, uid_of, uids_of}
use Rattle.rdm_line.proofs.Searches.{number_again, uid_again}

pub ok_no_err : (i : ℕ) (e : JoinError) → Ok i ≡ (Err e) → ⊥
ok_no_err i e h = cc

abbrev is_memory : Result ℕ JoinError → Type 0
is_memory (Ok i) = ⊥
is_memory (Err BadUid) = ⊥
is_memory (Err Taken) = ⊥
is_memory (Err OutOfMemory) = Unit {0}

abbrev Alike : Result ℕ JoinError → Result ℕ JoinError → Type 0
Alike r s = r ≡ s

pub memory_not_taken : Alike (Err OutOfMemory) (Err Taken) → ⊥
memory_not_taken h = subst is_memory h tt

-- ---- the numbers stay in order

abbrev with_one : List ℕ → ℕ → ℕ → List ℕ
with_one ns i n = take i ns ++ n ∷ drop i ns

at_one : (ns : List ℕ) (i n : ℕ) → i ≤ length ns → get_or (with_one ns i n) i 0 ≡ n
at_one ns zero n le = refl
at_one [] (suc i) n le = absurd (omega (arith, le))
at_one (m ∷ ns) (suc i) n le = at_one ns i n (omega (arith, le))

at_less : (ns : List ℕ) (i n k : ℕ) → i ≤ length ns → k < i → get_or (with_one ns i n) k 0 ≡ get_or ns k 0
at_less ns zero n k le lt = absurd (omega (arith, lt))
at_less [] (suc i) n k le lt = absurd (omega (arith, le))
at_less (m ∷ ns) (suc i) n zero le lt = refl
at_less (m ∷ ns) (suc i) n (suc k) le lt = at_less ns i n k (omega (arith, le)) (omega (arith, lt))

at_more : (ns : List ℕ) (i n k : ℕ) → i ≤ length ns → i ≤ k → get_or (with_one ns i n) (suc k) 0 ≡ get_or ns k 0
at_more ns zero n k le lt = refl
at_more [] (suc i) n k le lt = absurd (omega (arith, le))
at_more (m ∷ ns) (suc i) n zero le lt = absurd (omega (arith, lt))
at_more (m ∷ ns) (suc i) n (suc k) le lt = at_more ns i n k (omega (arith, le)) (omega (arith, lt))

pub length_one : {A : Type 0} (xs : List A) (i : ℕ) (x : A) → length (take i xs ++ x ∷ drop i xs) ≡ length xs + 1
length_one xs zero x = omega arith
length_one [] (suc i) x = refl
length_one (y ∷ xs) (suc i) x = (let e = length_one xs i x in omega (arith, e))

-- where an item of the new list comes from
data Source (ns : List ℕ) (i n k : ℕ) : Type 0 where
  Less : k < i → get_or (with_one ns i n) k 0 ≡ get_or ns k 0 → Source ns i n k
  Here : k ≡ i → get_or (with_one ns i n) k 0 ≡ n → Source ns i n k
  More : (j : ℕ) → k ≡ suc j → i ≤ j → get_or (with_one ns i n) k 0 ≡ get_or ns j 0 → Source ns i n k

source : (ns : List ℕ) (i n k : ℕ) → i ≤ length ns → Source ns i n k
source ns i n zero le =
    elim (cases_order zero i) [
      | inl same ↦ Here same (ap (λ (j : ℕ). get_or (with_one ns i n) j 0) same ∙ at_one ns i n le)
      | inr (inl lt) ↦ Less lt (at_less ns i n zero le lt)
      | inr (inr lt) ↦ absurd (omega (arith, lt))
    ]
source ns i n (suc j) le =
    elim (cases_order (suc j) i) [
      | inl same ↦ Here same (ap (λ (k : ℕ). get_or (with_one ns i n) k 0) same ∙ at_one ns i n le)
      | inr (inl lt) ↦ Less lt (at_less ns i n (suc j) le lt)
      | inr (inr lt) ↦ More j refl (omega (arith, lt)) (at_more ns i n j le (omega (arith, lt)))
    ]

rises : (ns : List ℕ) (i n : ℕ) → AreInOrder ns → IsGap ns n i → (k l : ℕ) → k < l → l < length ns + 1 → Source ns i n k → Source ns i n l → get_or (with_one ns i n) k 0 < get_or (with_one ns i n) l 0
rises ns i n order gap k l lt within (Less a e) (Less b f) = (let h = order.rise k l lt (omega (arith, b, gap.within)) in omega (arith, h, e, f))
rises ns i n order gap k l lt within (Less a e) (Here b f) = (let h = gap.above k a in omega (arith, h, e, f))
rises ns i n order gap k l lt within (Less a e) (More j q b f) = (let h = order.rise k j (omega (arith, a, b)) (omega (arith, within, q)) in omega (arith, h, e, f))
rises ns i n order gap k l lt within (Here a e) (Less b f) = absurd (omega (arith, a, b, lt))
rises ns i n order gap k l lt within (Here a e) (Here b f) = absurd (omega (arith, a, b, lt))
rises ns i n order gap k l lt within (Here a e) (More j q b f) = (let h = gap.below j b (omega (arith, within, q)) in omega (arith, h, e, f))
rises ns i n order gap k l lt within (More m p a e) (Less b f) = absurd (omega (arith, p, a, b, lt))
rises ns i n order gap k l lt within (More m p a e) (Here b f) = absurd (omega (arith, p, a, b, lt))
rises ns i n order gap k l lt within (More m p a e) (More j q b f) = (let h = order.rise m j (omega (arith, p, q, lt)) (omega (arith, within, q)) in omega (arith, h, e, f))

each : (P : ℕ → Type 0) (ns : List ℕ) (i n : ℕ) → i ≤ length ns → ((k : ℕ) → k < length ns → P (get_or ns k 0)) → P n → (k : ℕ) → k < length ns + 1 → Source ns i n k → P (get_or (with_one ns i n) k 0)
each P ns i n le old new k within (Less a e) = subst P (sym e) (old k (omega (arith, a, le)))
each P ns i n le old new k within (Here a e) = subst P (sym e) new
each P ns i n le old new k within (More j q b e) = subst P (sym e) (old j (omega (arith, within, q)))

pub order_more : (ns : List ℕ) (i n : ℕ) → AreInOrder ns → IsGap ns n i → n < 2 ^ 48 → n % 2 ^ 32 < 0xFFFFFFFF → AreInOrder (take i ns ++ n ∷ drop i ns)
order_more ns i n order gap small single = record {
  rise = λ k l lt within. (let len = length_one ns i n in rises ns i n order gap k l lt (omega (arith, within, len)) (source ns i n k gap.within) (source ns i n l gap.within));
  fit = λ k within. (let len = length_one ns i n in each (λ (m : ℕ). m < 2 ^ 48) ns i n gap.within order.fit small k (omega (arith, within, len)) (source ns i n k gap.within));
  single = λ k within. (let len = length_one ns i n in each (λ (m : ℕ). m % 2 ^ 32 < 0xFFFFFFFF) ns i n gap.within order.single single k (omega (arith, within, len)) (source ns i n k gap.within));
}

pub number_fits : (u : Uid) (n : ℕ) → n ≡ uid_number u → IsUid u → n < 2 ^ 48
number_fits u n e fits = omega (arith, e, fits.maker, fits.device)

pub number_single : (u : Uid) (n : ℕ) → n ≡ uid_number u → u.device < 0xFFFFFFFF → n % 2 ^ 32 < 0xFFFFFFFF
number_single u n e single = omega (arith, e, single)

-- ---- the histories

zip_joined : {D : Type 0} (R : D → History → Type 0) (ds : List D) (hs : List History) (i : ℕ) (d : D) (h : History) → AllZip R ds hs → R d h → AllZip R (take i ds ++ d ∷ drop i ds) (take i hs ++ h ∷ drop i hs)
zip_joined R ds hs zero d h zip one = (one, zip)
zip_joined R [] [] (suc i) d h zip one = (one, tt)
zip_joined R [] (k ∷ hs) (suc i) d h zip one = absurd zip
zip_joined R (e ∷ ds) [] (suc i) d h zip one = absurd zip
zip_joined R (e ∷ ds) (k ∷ hs) (suc i) d h zip one = (zip.0, zip_joined R ds hs i d h zip.1 one)

map_joined : {A B : Type 0} (f : A → B) (xs : List A) (i : ℕ) (x : A) → map f (take i xs ++ x ∷ drop i xs) ≡ take i (map f xs) ++ f x ∷ drop i (map f xs)
map_joined f xs zero x = refl
map_joined f [] (suc i) x = refl
map_joined {A} {B} f (y ∷ xs) (suc i) x = ap (λ (zs : List B). f y ∷ zs) (map_joined f xs i x)

head_is : (u v : Uid) (us vs : List Uid) → u ∷ us ≡ v ∷ vs → u ≡ v
head_is u v us vs e = cc

tail_is : (u v : Uid) (us vs : List Uid) → u ∷ us ≡ v ∷ vs → us ≡ vs
tail_is u v us vs e = cc

no_nil : (u : Uid) (us : List Uid) → u ∷ us ≡ [] → ⊥
no_nil u us e = cc

number_of : (k : History) (m : ℕ) → k.setup.uid ≡ uid_of m → uid_number k.setup.uid ≡ m
number_of k m e = ap uid_number e ∙ number_again m

none_below : (h : History) (hs : List History) (ns : List ℕ) → uids_of hs ≡ map uid_of ns → ((k : ℕ) → k < length ns → uid_number h.setup.uid < get_or ns k 0) → (filter (is_below h) hs ≡ []) × (filter (λ k. not (is_below h k)) hs ≡ hs)
none_below h [] ns e above = (refl, refl)
none_below h (k ∷ hs) [] e above = absurd (no_nil k.setup.uid (uids_of hs) e)
none_below h (k ∷ hs) (m ∷ ns) e above =
    let n = number_of k m (head_is _ _ _ _ e) in
    let more = above 0 (omega arith) in
    let test : is_below h k ≡ false = le-ltb (uid_number k.setup.uid) (uid_number h.setup.uid) (omega (arith, n, more)) in
    let rest = none_below h hs ns (tail_is _ _ _ _ e) (λ j lt. above (suc j) (omega (arith, lt))) in
    (rw test rest.0, rw test (ap (λ (xs : List History). k ∷ xs) rest.1))

parts : (h : History) (hs : List History) (ns : List ℕ) (i : ℕ) → uids_of hs ≡ map uid_of ns → IsGap ns (uid_number h.setup.uid) i → (filter (is_below h) hs ≡ take i hs) × (filter (λ k. not (is_below h k)) hs ≡ drop i hs)
parts h hs ns zero e gap = none_below h hs ns e (λ k lt. gap.below k (omega arith) lt)
parts h [] ns (suc i) e gap = (refl, refl)
parts h (k ∷ hs) [] (suc i) e gap = absurd (no_nil k.setup.uid (uids_of hs) e)
parts h (k ∷ hs) (m ∷ ns) (suc i) e gap =
    let n = number_of k m (head_is _ _ _ _ e) in
    let less = gap.above 0 (omega arith) in
    let test : is_below h k ≡ true = lt-ltb (uid_number k.setup.uid) (uid_number h.setup.uid) (omega (arith, n, less)) in
    let rest = parts h hs ns i (tail_is _ _ _ _ e) (record { within = omega (arith, gap.within); above = λ j lt. gap.above (suc j) (omega (arith, lt)); below = λ j le lt. gap.below (suc j) (omega (arith, le)) (omega (arith, lt)) }) in
    (rw test (ap (λ (xs : List History). k ∷ xs) rest.0), rw test rest.1)

pub joined_is : (h : History) (hs : List History) (ns : List ℕ) (i : ℕ) → uids_of hs ≡ map uid_of ns → IsGap ns (uid_number h.setup.uid) i → joined h hs ≡ take i hs ++ h ∷ drop i hs
joined_is h hs ns i e gap = (let is = parts h hs ns i e gap in rw (is.0, is.1) refl)

pub stand_joined : {D : Type 0} (R : D → History → Type 0) (ds es : List D) (ns ms : List ℕ) (rule : Collision) (d : D) (hs : List History) (h : History) (i : ℕ) (u : Uid) (n : ℕ) → IsUid u → u ≡ h.setup.uid → n ≡ uid_number u → IsGap ns (uid_number u) i → es ≡ take i ds ++ d ∷ drop i ds → ms ≡ take i ns ++ n ∷ drop i ns → StandFor R (record { devices = ds; uids = map uid_of ns; rule = rule }) hs → R d h → StandFor R (record { devices = es; uids = map uid_of ms; rule = rule }) (joined h hs)
stand_joined R ds es ns ms rule d hs h i u n fits own number gap items numbers stand one =
    let is = joined_is h hs ns i stand.uids (subst (λ (v : Uid). IsGap ns (uid_number v) i) own gap) in
    record {
      each = subst (λ xs. AllZip R xs (joined h hs)) (sym items) (subst (AllZip R (take i ds ++ d ∷ drop i ds)) (sym is) (zip_joined R ds hs i d h stand.each one));
      uids = ap uids_of is ∙ map_joined (λ (k : History). k.setup.uid) hs i h
          ∙ ap (λ (us : List Uid). take i us ++ h.setup.uid ∷ drop i us) stand.uids
          ∙ ap (λ (v : Uid). take i (map uid_of ns) ++ v ∷ drop i (map uid_of ns)) (sym own ∙ sym (uid_again u fits) ∙ ap uid_of (sym number))
          ∙ sym (map_joined uid_of ns i n) ∙ ap (map uid_of) (sym numbers);
    }
