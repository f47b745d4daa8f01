-- What stands at the front of bytes.
use Rattle.std.proofs.Common.{◌≡◌, ◌≢◌, ℕ, zero, suc, ◌+◌, ◌-◌, ◌*◌, ◌/◌, ◌%◌, ◌<◌, ◌≤◌, List, [], ◌∷◌, ◌++◌, length, take, drop, get_or, refl, sym, ap, subst, ◌∙◌, arith, append_assoc, length-append}
use Rattle.std.proofs.lemmas.Grind.{common_steps}
use Rattle.std.proofs.lemmas.List.{take_all, length-drop}
use Rattle.rdm_messages.specs.Framing.{Message, message_bytes, IsUnfinished, IsStray, IsWhole}

zeros : ℕ → List ℕ
zeros zero = []
zeros (suc n) = 0 ∷ zeros n

length-zeros : (n : ℕ) → length (zeros n) ≡ n
unfolding zeros
length-zeros zero = refl
length-zeros (suc n) = ap suc (length-zeros n)

low_of : (lo hi : ℕ) → lo < 256 → (lo + 256 * hi) % 256 ≡ lo
low_of lo hi h = omega arith

high_of : (lo hi : ℕ) → lo < 256 → (lo + 256 * hi) / 256 ≡ hi
high_of lo hi h = omega arith

size_is : (n lo hi : ℕ) → lo ≡ n % 256 → hi ≡ n / 256 → lo + 256 * hi ≡ n
size_is n lo hi e f = omega arith

pub head_is : (bytes : List ℕ) → 4 ≤ length bytes → bytes ≡ get_or bytes 0 0 ∷ get_or bytes 1 0 ∷ get_or bytes 2 0 ∷ get_or bytes 3 0 ∷ drop 4 bytes
head_is [] h = absurd (omega (arith, h))
head_is (a ∷ []) h = absurd (omega (arith, h))
head_is (a ∷ b ∷ []) h = absurd (omega (arith, h))
head_is (a ∷ b ∷ c ∷ []) h = absurd (omega (arith, h))
head_is (a ∷ b ∷ c ∷ d ∷ tail) h = refl

-- ---- strays

pub stray_start : (a : ℕ) (tail : List ℕ) → a ≢ 0x7E → IsStray (a ∷ tail)
stray_start a tail other m more rest is e = other (ap (λ l. get_or l 0 0) e)

-- the length in the bytes is that of the message
said_size : (a b lo hi : ℕ) (tail more rest : List ℕ) (m : Message) → (a ∷ b ∷ lo ∷ hi ∷ tail) ++ more ≡ message_bytes m ++ rest → lo + 256 * hi ≡ length m.body
said_size a b lo hi tail more rest m e = size_is (length m.body) lo hi (ap (λ l. get_or l 2 0) e) (ap (λ l. get_or l 3 0) e)

pub stray_size : (a b lo hi : ℕ) (tail : List ℕ) → 600 < lo + 256 * hi → IsStray (a ∷ b ∷ lo ∷ hi ∷ tail)
stray_size a b lo hi tail h m more rest is e = absurd (omega (arith, h, is.size, said_size a b lo hi tail more rest m e))

get_or-front : (xs ys : List ℕ) (n : ℕ) → n < length xs → get_or (xs ++ ys) n 0 ≡ get_or xs n 0
get_or-front [] ys n h = absurd (omega (arith, h))
get_or-front (x ∷ xs) ys zero h = refl
get_or-front (x ∷ xs) ys (suc n) h = get_or-front xs ys n (omega (arith, h))

get_or-seam : (xs ys : List ℕ) (y : ℕ) → get_or (xs ++ y ∷ ys) (length xs) 0 ≡ y
get_or-seam [] ys y = refl
get_or-seam (x ∷ xs) ys y = get_or-seam xs ys y

tails_are : (a b lo hi : ℕ) (tail more rest : List ℕ) (m : Message) → (a ∷ b ∷ lo ∷ hi ∷ tail) ++ more ≡ message_bytes m ++ rest → tail ++ more ≡ m.body ++ 0xE7 ∷ rest
tails_are a b lo hi tail more rest m e = ap (λ l. drop 4 l) e ∙ append_assoc m.body (0xE7 ∷ []) rest

pub stray_end : (a b lo hi : ℕ) (tail : List ℕ) → lo + 256 * hi < length tail → get_or tail (lo + 256 * hi) 0 ≢ 0xE7 → IsStray (a ∷ b ∷ lo ∷ hi ∷ tail)
stray_end a b lo hi tail h other m more rest is e =
    let size : lo + 256 * hi ≡ length m.body = said_size a b lo hi tail more rest m e in
    other (
    sym (get_or-front tail more (lo + 256 * hi) h)
    ∙ ap (λ l. get_or l (lo + 256 * hi) 0) (tails_are a b lo hi tail more rest m e)
    ∙ ap (λ n. get_or (m.body ++ 0xE7 ∷ rest) n 0) size
    ∙ get_or-seam m.body rest 0xE7)

-- ---- beginnings

message_with : ℕ → List ℕ → Message
message_with label body = record { label = label; body = body }

-- a message with a body of this length
cut_off : (label lo hi : ℕ) (tail filling : List ℕ) → lo < 256 → lo + 256 * hi ≤ 600 → length (tail ++ filling) ≡ lo + 256 * hi → IsUnfinished (0x7E ∷ label ∷ lo ∷ hi ∷ tail)
unfolding message_with
cut_off label lo hi tail filling low most size = record {
  message = message_with label (tail ++ filling);
  more = filling ++ 0xE7 ∷ [];
  is_message = record { size = omega (arith, size, most) };
  lacks = omega (arith, length-append filling (0xE7 ∷ []));
  whole =
      let is_low : lo ≡ length (tail ++ filling) % 256 = sym (ap (λ n. n % 256) size ∙ low_of lo hi low) in
      let is_high : hi ≡ length (tail ++ filling) / 256 = sym (ap (λ n. n / 256) size ∙ high_of lo hi low) in
      let body : tail ++ (filling ++ 0xE7 ∷ []) ≡ (tail ++ filling) ++ 0xE7 ∷ [] = sym (append_assoc tail filling (0xE7 ∷ [])) in
      ap (λ (l : List ℕ). 0x7E ∷ label ∷ lo ∷ hi ∷ l) body
      ∙ ap (λ n. 0x7E ∷ label ∷ n ∷ hi ∷ (tail ++ filling) ++ 0xE7 ∷ []) is_low
      ∙ ap (λ n. 0x7E ∷ label ∷ (length (tail ++ filling) % 256) ∷ n ∷ (tail ++ filling) ++ 0xE7 ∷ []) is_high;
}

pub unfinished_body : (label lo hi : ℕ) (tail : List ℕ) → lo < 256 → lo + 256 * hi ≤ 600 → length tail ≤ lo + 256 * hi → IsUnfinished (0x7E ∷ label ∷ lo ∷ hi ∷ tail)
unfinished_body label lo hi tail low most short =
    let filling : List ℕ = zeros (lo + 256 * hi - length tail) in
    cut_off label lo hi tail (zeros (lo + 256 * hi - length tail)) low most
    (length-append tail (zeros (lo + 256 * hi - length tail)) ∙ omega (arith, short, length-zeros (lo + 256 * hi - length tail)))

-- less of a message that has begun
less : (xs ys : List ℕ) → IsUnfinished (xs ++ ys) → IsUnfinished xs
less xs ys u = record {
  message = u.message;
  more = ys ++ u.more;
  is_message = u.is_message;
  lacks = omega (arith, u.lacks, length-append ys u.more);
  whole = sym (append_assoc xs ys u.more) ∙ u.whole;
}

pub unfinished_none : IsUnfinished []
unfinished_none = less [] (0x7E ∷ 0 ∷ 0 ∷ 0 ∷ []) (unfinished_body 0 0 0 [] (omega arith) (omega arith) (omega arith))

pub unfinished_head : (bytes : List ℕ) → ((k : ℕ) → get_or bytes k 0 < 256) → get_or bytes 0 0 ≡ 0x7E → length bytes < 4 → IsUnfinished bytes
unfinished_head [] bytes start h = unfinished_none
unfinished_head (a ∷ []) fit start h =
    subst (λ n. IsUnfinished (n ∷ [])) (sym start) (less (0x7E ∷ []) (0 ∷ 0 ∷ 0 ∷ []) (unfinished_body 0 0 0 [] (omega arith) (omega arith) (omega arith)))
unfinished_head (a ∷ b ∷ []) fit start h =
    subst (λ n. IsUnfinished (n ∷ b ∷ [])) (sym start) (less (0x7E ∷ b ∷ []) (0 ∷ 0 ∷ []) (unfinished_body b 0 0 [] (omega arith) (omega arith) (omega arith)))
unfinished_head (a ∷ b ∷ lo ∷ []) fit start h =
    let low : lo < 256 = fit 2 in
    subst (λ n. IsUnfinished (n ∷ b ∷ lo ∷ [])) (sym start) (less (0x7E ∷ b ∷ lo ∷ []) (0 ∷ []) (unfinished_body b lo 0 [] low (omega (arith, low)) (omega arith)))
unfinished_head (a ∷ b ∷ lo ∷ hi ∷ tail) fit start h = absurd (omega (arith, h))

-- ---- whole messages

split_at : (xs : List ℕ) (n : ℕ) → n < length xs → get_or xs n 0 ≡ 0xE7 → xs ≡ take n xs ++ 0xE7 ∷ drop (suc n) xs
split_at [] n h e = absurd (omega (arith, h))
split_at (x ∷ xs) zero h e = ap (λ y. y ∷ xs) e
split_at (x ∷ xs) (suc n) h e = ap (λ l. x ∷ l) (split_at xs n (omega (arith, h)) e)

length-take-front : (xs : List ℕ) (n : ℕ) → n < length xs → length (take n xs) ≡ n
length-take-front xs n h = grind (arith, common_steps)

pub whole_body : (label lo hi : ℕ) (tail : List ℕ) → lo < 256 → lo + 256 * hi ≤ 600 → lo + 256 * hi < length tail → get_or tail (lo + 256 * hi) 0 ≡ 0xE7
    → IsWhole (0x7E ∷ label ∷ lo ∷ hi ∷ tail) (record { label = label; body = take (lo + 256 * hi) tail })
whole_body label lo hi tail low most long end =
    let size : length (take (lo + 256 * hi) tail) ≡ lo + 256 * hi = length-take-front tail (lo + 256 * hi) long in
    let is_low : lo ≡ length (take (lo + 256 * hi) tail) % 256 = sym (ap (λ n. n % 256) size ∙ low_of lo hi low) in
    let is_high : hi ≡ length (take (lo + 256 * hi) tail) / 256 = sym (ap (λ n. n / 256) size ∙ high_of lo hi low) in
    record {
      rest = drop (suc (lo + 256 * hi)) tail;
      is_message = record { size = omega (arith, size, most) };
      whole =
          ap (λ (l : List ℕ). 0x7E ∷ label ∷ lo ∷ hi ∷ l)
          (split_at tail (lo + 256 * hi) long end ∙ sym (append_assoc (take (lo + 256 * hi) tail) (0xE7 ∷ []) (drop (suc (lo + 256 * hi)) tail)))
          ∙ ap (λ n. 0x7E ∷ label ∷ n ∷ hi ∷ (take (lo + 256 * hi) tail ++ 0xE7 ∷ []) ++ drop (suc (lo + 256 * hi)) tail) is_low
          ∙ ap (λ n. 0x7E ∷ label ∷ (length (take (lo + 256 * hi) tail) % 256) ∷ n ∷ (take (lo + 256 * hi) tail ++ 0xE7 ∷ []) ++ drop (suc (lo + 256 * hi)) tail) is_high;
    }

-- ---- the same of bytes by their places

head_with : (bytes tail : List ℕ) (lo hi : ℕ) → 4 ≤ length bytes → get_or bytes 0 0 ≡ 0x7E → tail ≡ drop 4 bytes → lo ≡ get_or bytes 2 0 → hi ≡ get_or bytes 3 0 → bytes ≡ 0x7E ∷ get_or bytes 1 0 ∷ lo ∷ hi ∷ tail
head_with bytes tail lo hi long start is_tail is_lo is_hi =
    head_is bytes long
    ∙ ap (λ n. n ∷ get_or bytes 1 0 ∷ get_or bytes 2 0 ∷ get_or bytes 3 0 ∷ drop 4 bytes) start
    ∙ ap (λ n. 0x7E ∷ get_or bytes 1 0 ∷ n ∷ get_or bytes 3 0 ∷ drop 4 bytes) (sym is_lo)
    ∙ ap (λ n. 0x7E ∷ get_or bytes 1 0 ∷ lo ∷ n ∷ drop 4 bytes) (sym is_hi)
    ∙ ap (λ (l : List ℕ). 0x7E ∷ get_or bytes 1 0 ∷ lo ∷ hi ∷ l) (sym is_tail)

pub tail_of : (bytes : List ℕ) → take (length bytes - 4) (drop 4 bytes) ≡ drop 4 bytes
tail_of bytes = take_all (length bytes - 4) (drop 4 bytes) (omega (arith, length-drop 4 bytes))

pub front_unfinished : (bytes tail : List ℕ) (lo hi : ℕ) → 4 ≤ length bytes → get_or bytes 0 0 ≡ 0x7E → tail ≡ drop 4 bytes → lo ≡ get_or bytes 2 0 → hi ≡ get_or bytes 3 0
    → lo < 256 → lo + 256 * hi ≤ 600 → length tail ≤ lo + 256 * hi → IsUnfinished bytes
front_unfinished bytes tail lo hi long start is_tail is_lo is_hi low most short =
    subst IsUnfinished (sym (head_with bytes tail lo hi long start is_tail is_lo is_hi)) (unfinished_body (get_or bytes 1 0) lo hi tail low most short)

pub front_stray : (bytes tail : List ℕ) (lo hi : ℕ) → 4 ≤ length bytes → get_or bytes 0 0 ≡ 0x7E → tail ≡ drop 4 bytes → lo ≡ get_or bytes 2 0 → hi ≡ get_or bytes 3 0
    → lo + 256 * hi < length tail → get_or tail (lo + 256 * hi) 0 ≢ 0xE7 → IsStray bytes
front_stray bytes tail lo hi long start is_tail is_lo is_hi more other =
    subst IsStray (sym (head_with bytes tail lo hi long start is_tail is_lo is_hi)) (stray_end 0x7E (get_or bytes 1 0) lo hi tail more other)

pub front_whole : (bytes tail : List ℕ) (lo hi : ℕ) → 4 ≤ length bytes → get_or bytes 0 0 ≡ 0x7E → tail ≡ drop 4 bytes → lo ≡ get_or bytes 2 0 → hi ≡ get_or bytes 3 0
    → lo < 256 → lo + 256 * hi ≤ 600 → lo + 256 * hi < length tail → get_or tail (lo + 256 * hi) 0 ≡ 0xE7
    → IsWhole bytes (record { label = get_or bytes 1 0; body = take (lo + 256 * hi) tail })
front_whole bytes tail lo hi long start is_tail is_lo is_hi low most more end =
    let m : Message = record { label = get_or bytes 1 0; body = take (lo + 256 * hi) tail } in
    subst (λ (l : List ℕ). IsWhole l (record { label = get_or bytes 1 0; body = take (lo + 256 * hi) tail }))
    (sym (head_with bytes tail lo hi long start is_tail is_lo is_hi)) (whole_body (get_or bytes 1 0) lo hi tail low most more end)

pub none_of : (bytes : List ℕ) → length bytes ≡ 0 → bytes ≡ []
none_of [] e = refl
none_of (b ∷ bytes) e = absurd (omega (arith, e))
