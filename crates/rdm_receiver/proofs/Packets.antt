-- The packets of a whole list of signals.
use Rattle.std.proofs.Common.{◌≡◌, ◌≢◌, ℕ, suc, ◌+◌, ◌<◌, ◌≤◌, ◌-◌, ◌⊎◌, inl, inr, Bool, true, false, cond, List, [], ◌∷◌, ◌++◌, length, take, get_or, Option, Some, None, refl, sym, ap, subst, ◌∙◌, arith, rules, append_assoc, append-nil, length-append, true≢false, min}
use Rattle.std.proofs.lemmas.List.{get_or_append_left, get_or-take, length-take, take-append-le, take_all}
use Rattle.std.proofs.Math.Seq.{take-append_seam}
use Rattle.rdm_receiver.specs.declared.signal.Signal.{Signal}
use Rattle.rdm_receiver.specs.declared.signal.Signal.TheVariants.{Break, Byte, Error}
use Rattle.rdm_receiver.specs.Signals.{Output, is_packet, ends_in_level, output_after, output_of, output_since, since_break, then_signal}
use Rattle.rdm_receiver.specs.Signals.Output.{Nothing, Packet, Level}
use Rattle.rdm_receiver.specs.Packets.{bytes_before_next, first_packet, front_of, outputs_behind, packets_behind_breaks, packets_in}
use Rattle.rdm_receiver.proofs.Hearing.{since_more}

-- ---- what is handed out, from the bytes that count

outputs : Option (List ℕ) → List Signal → List Output
outputs bytes [] = []
outputs bytes (signal ∷ rest) = output_since (then_signal bytes signal) ∷ outputs (then_signal bytes signal) rest

outputs_are : (heard rest : List Signal) → outputs_behind heard rest ≡ outputs (since_break heard) rest
unfolding outputs
outputs_are heard [] = refl
outputs_are heard (signal ∷ rest) =
    ap (λ (o : List Output). output_after (heard ++ signal ∷ []) ∷ o) (outputs_are (heard ++ signal ∷ []) rest)
    ∙ ap (λ bytes. output_since bytes ∷ outputs bytes rest) (since_more heard signal)

-- ---- fronts

-- the facts of a packet
pub size_of : (bytes : List ℕ) → is_packet bytes ≡ true → length bytes ≡ get_or bytes 2 0 + 2
size_of bytes is = search rules

least_of : (bytes : List ℕ) → is_packet bytes ≡ true → 24 ≤ get_or bytes 2 0
least_of bytes is = search rules

-- a packet begins with itself, whatever follows
front_is : (bytes more : List ℕ) → is_packet bytes ≡ true → front_of (bytes ++ more) ≡ bytes
front_is bytes more is =
    let size : length bytes ≡ get_or bytes 2 0 + 2 = size_of bytes is in
    let least : 24 ≤ get_or bytes 2 0 = least_of bytes is in
    let same : get_or (bytes ++ more) 2 0 ≡ get_or bytes 2 0 = get_or_append_left bytes more 0 2 (omega (arith, size, least)) in
    ap (λ n. take n (bytes ++ more)) (ap (λ n. n + 2) same ∙ sym size) ∙ take-append_seam bytes more

-- ---- the first packet

-- they begin with a packet
abbrev has : List ℕ → Bool
has bytes = is_packet (front_of bytes)

-- it is there whole
reach : (n k m g : ℕ) → n ≡ min k m → n ≡ g + 2 → 24 ≤ g → (2 < k → g + 2 ≡ k) → (k ≤ m) × (26 ≤ k)
reach n k m g e f least same = search rules

has_fits : (bytes : List ℕ) → has bytes ≡ true → (get_or bytes 2 0 + 2 ≤ length bytes) × (26 ≤ get_or bytes 2 0 + 2)
has_fits bytes is = reach (length (front_of bytes)) (get_or bytes 2 0 + 2) (length bytes) (get_or (front_of bytes) 2 0)
    (length-take (get_or bytes 2 0 + 2) bytes) (size_of (front_of bytes) is) (least_of (front_of bytes) is)
    (λ far. ap (λ n. n + 2) (get_or-take (get_or bytes 2 0 + 2) bytes 2 0 far))

front_stays : (bytes more : List ℕ) → get_or bytes 2 0 + 2 ≤ length bytes → 2 < length bytes → front_of (bytes ++ more) ≡ front_of bytes
front_stays bytes more fits far =
    ap (λ n. take (n + 2) (bytes ++ more)) (get_or_append_left bytes more 0 2 far) ∙ take-append-le (get_or bytes 2 0 + 2) bytes more fits

has_more : (bytes more : List ℕ) → has bytes ≡ true → has (bytes ++ more) ≡ true
has_more bytes more is =
    let fits : (get_or bytes 2 0 + 2 ≤ length bytes) × (26 ≤ get_or bytes 2 0 + 2) = has_fits bytes is in
    ap is_packet (front_stays bytes more fits.0 (omega (arith, fits.0, fits.1))) ∙ is

first_is : (bytes more : List ℕ) → is_packet bytes ≡ true → first_packet (bytes ++ more) ≡ bytes ∷ []
first_is bytes more is =
    ap (λ (l : List ℕ). cond (is_packet l) (l ∷ []) []) (front_is bytes more is) ∙ ap (λ b. cond b (bytes ∷ []) []) is

has_itself : (bytes : List ℕ) → is_packet bytes ≡ true → has bytes ≡ true
has_itself bytes is = ap has (sym (append-nil bytes)) ∙ ap is_packet (front_is bytes [] is) ∙ is

-- ---- a byte more

-- behind a packet they are none
is_over : (bytes : List ℕ) (byte : ℕ) → has bytes ≡ true → is_packet (bytes ++ byte ∷ []) ≡ true → ⊥
is_over bytes byte is whole =
    let fits : (get_or bytes 2 0 + 2 ≤ length bytes) × (26 ≤ get_or bytes 2 0 + 2) = has_fits bytes is in
    let size : length (bytes ++ byte ∷ []) ≡ length bytes + 1 = length-append bytes (byte ∷ []) in
    let same : get_or (bytes ++ byte ∷ []) 2 0 ≡ get_or bytes 2 0 = get_or_append_left bytes (byte ∷ []) 0 2 (omega (arith, fits.0, fits.1)) in
    absurd (omega (arith, size, same, fits.0, size_of (bytes ++ byte ∷ []) whole))

seam : (k n : ℕ) → k ≤ n + 1 → (k ≤ n) ⊎ (k ≡ n + 1)
seam k n h = search rules

none_either : (bytes : List ℕ) (byte : ℕ) → has bytes ≡ false → is_packet (bytes ++ byte ∷ []) ≡ false → has (bytes ++ byte ∷ []) ≡ true
    → 2 < length bytes → (get_or bytes 2 0 + 2 ≤ length bytes) ⊎ (get_or bytes 2 0 + 2 ≡ length bytes + 1) → ⊥
none_either bytes byte none part is far (inl fits) =
    true≢false (sym is ∙ ap is_packet (front_stays bytes (byte ∷ []) fits far) ∙ none)
none_either bytes byte none part is far (inr all) =
    let size : length (bytes ++ byte ∷ []) ≡ length bytes + 1 = length-append bytes (byte ∷ []) in
    let same : get_or (bytes ++ byte ∷ []) 2 0 ≡ get_or bytes 2 0 = get_or_append_left bytes (byte ∷ []) 0 2 far in
    let whole : front_of (bytes ++ byte ∷ []) ≡ bytes ++ byte ∷ [] = take_all (get_or (bytes ++ byte ∷ []) 2 0 + 2) (bytes ++ byte ∷ []) (omega (arith, size, same, all)) in
    true≢false (sym is ∙ ap is_packet whole ∙ part)

-- where they were none, and are none now, they don't begin with one
still_none : (bytes : List ℕ) (byte : ℕ) → has bytes ≡ false → is_packet (bytes ++ byte ∷ []) ≡ false → has (bytes ++ byte ∷ []) ≡ true → ⊥
still_none bytes byte none part is =
    let fits : (get_or (bytes ++ byte ∷ []) 2 0 + 2 ≤ length (bytes ++ byte ∷ [])) × (26 ≤ get_or (bytes ++ byte ∷ []) 2 0 + 2) = has_fits (bytes ++ byte ∷ []) is in
    let size : length (bytes ++ byte ∷ []) ≡ length bytes + 1 = length-append bytes (byte ∷ []) in
    let far : 2 < length bytes = omega (arith, size, fits.0, fits.1) in
    let same : get_or (bytes ++ byte ∷ []) 2 0 ≡ get_or bytes 2 0 = get_or_append_left bytes (byte ∷ []) 0 2 far in
    none_either bytes byte none part is far (seam (get_or bytes 2 0 + 2) (length bytes) (omega (arith, size, same, fits.0)))

step_with : (bytes : List ℕ) (byte : ℕ) (tail : List ℕ) (h p q : Bool) → has bytes ≡ h → is_packet (bytes ++ byte ∷ []) ≡ p → has (bytes ++ byte ∷ []) ≡ q
    → cond p ((bytes ++ byte ∷ []) ∷ []) [] ++ cond q [] (first_packet ((bytes ++ byte ∷ []) ++ tail)) ≡ cond h [] (first_packet (bytes ++ byte ∷ tail))
step_with bytes byte tail true true q e f g = absurd (is_over bytes byte e f)
step_with bytes byte tail true false true e f g = refl
step_with bytes byte tail true false false e f g = absurd (true≢false (sym (has_more bytes (byte ∷ []) e) ∙ g))
step_with bytes byte tail false true true e f g =
    sym (first_is (bytes ++ byte ∷ []) tail f) ∙ ap first_packet (append_assoc bytes (byte ∷ []) tail)
step_with bytes byte tail false true false e f g = absurd (true≢false (sym (has_itself (bytes ++ byte ∷ []) f) ∙ g))
step_with bytes byte tail false false true e f g = absurd (still_none bytes byte e f g)
step_with bytes byte tail false false false e f g = ap first_packet (append_assoc bytes (byte ∷ []) tail)

-- ---- the whole list

-- what is to come of the bytes that count, with these behind them
abbrev pending : Option (List ℕ) → List ℕ → List (List ℕ)
pending None tail = []
pending (Some bytes) tail = cond (has bytes) [] (first_packet (bytes ++ tail))

twice : (b : Bool) (l : List (List ℕ)) → cond b [] (cond b l []) ≡ []
twice true l = refl
twice false l = refl

pending_none : (bytes : List ℕ) → pending (Some bytes) [] ≡ []
pending_none bytes = ap (λ (l : List ℕ). cond (has bytes) [] (first_packet l)) (append-nil bytes) ∙ twice (has bytes) (front_of bytes ∷ [])

packet_out : (p e : Bool) (bytes : List ℕ) (slot value : ℕ) (os : List Output)
    → packets_in (cond p (Packet bytes) (cond e (Level slot value) Nothing) ∷ os) ≡ cond p (bytes ∷ []) [] ++ packets_in os
packet_out true e bytes slot value os = refl
packet_out false true bytes slot value os = refl
packet_out false false bytes slot value os = refl

packets_are : (bytes : Option (List ℕ)) (rest : List Signal)
    → packets_in (outputs bytes rest) ≡ pending bytes (bytes_before_next rest) ++ packets_behind_breaks rest
unfolding outputs
packets_are None [] = refl
packets_are (Some bytes) [] = sym (ap (λ l. l ++ []) (pending_none bytes))
packets_are None (Break ∷ rest) = packets_are (Some []) rest
packets_are (Some bytes) (Break ∷ rest) =
    packets_are (Some []) rest ∙ ap (λ l. l ++ (first_packet (bytes_before_next rest) ++ packets_behind_breaks rest)) (sym (pending_none bytes))
packets_are None (Error ∷ rest) = packets_are None rest
packets_are (Some bytes) (Error ∷ rest) =
    packets_are None rest ∙ ap (λ l. l ++ packets_behind_breaks rest) (sym (pending_none bytes))
packets_are None (Byte byte ∷ rest) = packets_are None rest
packets_are (Some bytes) (Byte byte ∷ rest) =
    let m : List ℕ = bytes ++ byte ∷ [] in
    packet_out (is_packet m) (ends_in_level m) m (length m - 1) (get_or m (length m - 1) 0) (outputs (Some m) rest)
    ∙ ap (λ l. cond (is_packet m) (m ∷ []) [] ++ l) (packets_are (Some m) rest)
    ∙ sym (append_assoc (cond (is_packet m) (m ∷ []) []) (pending (Some m) (bytes_before_next rest)) (packets_behind_breaks rest))
    ∙ ap (λ l. l ++ packets_behind_breaks rest)
    (step_with bytes byte (bytes_before_next rest) (has bytes) (is_packet m) (has m) refl refl refl)

pub packets_stand : (signals : List Signal) → packets_in (outputs_behind [] signals) ≡ packets_behind_breaks signals
unfolding since_break
packets_stand signals = ap packets_in (outputs_are [] signals) ∙ packets_are None signals
