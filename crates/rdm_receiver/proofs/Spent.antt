-- Bytes of which nothing comes.
use Rattle.std.proofs.Common.{◌≡◌, ◌≢◌, ℕ, zero, suc, ◌+◌, ◌<◌, ◌≤◌, Bool, true, false, List, [], ◌∷◌, ◌++◌, length, get_or, refl, sym, ap, subst, ◌∙◌, arith, rules, append_assoc, length-append, true≢false, leb-false, leb-true, eqb-true}
use Rattle.std.proofs.lemmas.Bool.{eqb-false}
use Rattle.std.proofs.lemmas.List.{get_or_append_left}
use Rattle.rdm_receiver.specs.Signals.{is_packet, ends_in_level, output_of}
use Rattle.rdm_receiver.specs.Signals.Output.{Nothing}
use Rattle.rdm_receiver.specs.Receiving.{IsSpent, IsBegun, may_stand}

-- ---- what isn't handed out

none : (bytes : List ℕ) → is_packet bytes ≡ false → ends_in_level bytes ≡ false → output_of bytes ≡ Nothing
none bytes e f = search rules

no_start : (bytes : List ℕ) → get_or bytes 0 0 ≢ 0xCC → is_packet bytes ≡ false
no_start bytes h = search rules

no_sub_start : (bytes : List ℕ) → get_or bytes 1 0 ≢ 0x01 → is_packet bytes ≡ false
no_sub_start bytes h = search rules

no_length : (bytes : List ℕ) → get_or bytes 2 0 < 24 → is_packet bytes ≡ false
no_length bytes h = search rules

no_size : (bytes : List ℕ) → length bytes ≢ get_or bytes 2 0 + 2 → is_packet bytes ≡ false
no_size bytes h = search rules

no_level : (bytes : List ℕ) → get_or bytes 0 0 ≢ 0 → ends_in_level bytes ≡ false
no_level bytes h = search rules

-- ---- whatever follows

start_stays : (bytes more : List ℕ) (n x : ℕ) → n < length bytes → get_or bytes n 0 ≡ x → get_or (bytes ++ more) n 0 ≡ x
start_stays bytes more n x h e = get_or_append_left bytes more 0 n h ∙ e

other_stays : (bytes more : List ℕ) (n x : ℕ) → n < length bytes → get_or bytes n 0 ≢ x → get_or (bytes ++ more) n 0 ≢ x
other_stays bytes more n x h other e = other (sym (get_or_append_left bytes more 0 n h) ∙ e)

not_zero : (n : ℕ) → n ≡ 0xCC → n ≢ 0
not_zero n e z = absurd (omega (arith, e, z))

spent_start : (bytes : List ℕ) → 0 < length bytes → get_or bytes 0 0 ≢ 0xCC → get_or bytes 0 0 ≢ 0 → IsSpent bytes
spent_start bytes some start zero_start more h =
    none (bytes ++ more) (no_start (bytes ++ more) (other_stays bytes more 0 0xCC some start)) (no_level (bytes ++ more) (other_stays bytes more 0 0 some zero_start))

packet_no_level : (bytes more : List ℕ) → 0 < length bytes → get_or bytes 0 0 ≡ 0xCC → ends_in_level (bytes ++ more) ≡ false
packet_no_level bytes more some start = no_level (bytes ++ more) (not_zero (get_or (bytes ++ more) 0 0) (start_stays bytes more 0 0xCC some start))

spent_sub_start : (bytes : List ℕ) → 1 < length bytes → get_or bytes 0 0 ≡ 0xCC → get_or bytes 1 0 ≢ 0x01 → IsSpent bytes
spent_sub_start bytes some start other more h =
    none (bytes ++ more) (no_sub_start (bytes ++ more) (other_stays bytes more 1 0x01 some other)) (packet_no_level bytes more (omega (arith, some)) start)

spent_length : (bytes : List ℕ) → 2 < length bytes → get_or bytes 0 0 ≡ 0xCC → get_or bytes 2 0 < 24 → IsSpent bytes
spent_length bytes some start small more h =
    let same : get_or (bytes ++ more) 2 0 ≡ get_or bytes 2 0 = get_or_append_left bytes more 0 2 some in
    none (bytes ++ more) (no_length (bytes ++ more) (omega (arith, same, small))) (packet_no_level bytes more (omega (arith, some)) start)

-- behind the end of a packet
pub spent_whole : (bytes : List ℕ) → 2 < length bytes → get_or bytes 0 0 ≡ 0xCC → get_or bytes 2 0 + 2 ≤ length bytes → IsSpent bytes
spent_whole bytes some start whole more h =
    let same : get_or (bytes ++ more) 2 0 ≡ get_or bytes 2 0 = get_or_append_left bytes more 0 2 some in
    let size : length (bytes ++ more) ≡ length bytes + length more = length-append bytes more in
    none (bytes ++ more) (no_size (bytes ++ more) (λ e. absurd (omega (arith, e, same, size, whole, h)))) (packet_no_level bytes more (omega (arith, some)) start)

-- it stays so
pub spent_more : (bytes : List ℕ) (byte : ℕ) → IsSpent bytes → IsSpent (bytes ++ byte ∷ [])
spent_more bytes byte spent more h = subst (λ l. output_of l ≡ Nothing) (sym (append_assoc bytes (byte ∷ []) more)) (spent (byte ∷ more) (omega arith))

-- ---- a packet that isn't whole

begun_no_packet : (bytes : List ℕ) → IsBegun bytes → is_packet bytes ≡ false
begun_no_packet [] begun = refl
begun_no_packet (a ∷ []) begun = no_length (a ∷ []) (omega arith)
begun_no_packet (a ∷ b ∷ []) begun = no_length (a ∷ b ∷ []) (omega arith)
begun_no_packet (a ∷ b ∷ c ∷ l) begun =
    no_size (a ∷ b ∷ c ∷ l) (λ e. absurd (omega (arith, e, begun.unfinished (omega arith))))

pub begun_none : (bytes : List ℕ) → 0 < length bytes → IsBegun bytes → output_of bytes ≡ Nothing
begun_none bytes some begun = none bytes (begun_no_packet bytes begun) (no_level bytes (not_zero (get_or bytes 0 0) (begun.start some)))

any_stands : (place byte : ℕ) → 2 < place → may_stand place byte ≡ true
any_stands place byte far = search rules

-- a byte that may not stand at its place
pub spent_wrong : (bytes : List ℕ) (byte : ℕ) → IsBegun bytes → may_stand (length bytes) byte ≡ false → (length bytes ≡ 0 → byte ≢ 0) → IsSpent (bytes ++ byte ∷ [])
spent_wrong [] byte begun wrong other = spent_start (byte ∷ []) (omega arith) (eqb-false byte 0xCC wrong) (other refl)
spent_wrong (a ∷ []) byte begun wrong other = spent_sub_start (a ∷ byte ∷ []) (omega arith) (begun.start (omega arith)) (eqb-false byte 0x01 wrong)
spent_wrong (a ∷ b ∷ []) byte begun wrong other = spent_length (a ∷ b ∷ byte ∷ []) (omega arith) (begun.start (omega arith)) (leb-false 24 byte wrong)
spent_wrong (a ∷ b ∷ c ∷ l) byte begun wrong other =
    absurd (true≢false (sym (any_stands (length (a ∷ b ∷ c ∷ l)) byte (omega arith)) ∙ wrong))

still_open : (n c m : ℕ) → m ≡ n + 1 → n < c + 2 → n ≢ c + 1 → m < c + 2
still_open n c m e h other = grind arith

-- a byte that may
pub begun_more : (bytes : List ℕ) (byte : ℕ) → IsBegun bytes → may_stand (length bytes) byte ≡ true → byte ≤ 255
    → (2 < length bytes → length bytes ≢ get_or bytes 2 0 + 1) → IsBegun (bytes ++ byte ∷ [])
begun_more [] byte begun right fits unended = record {
  start = λ h. eqb-true byte 0xCC right;
  sub_start = λ h. absurd (omega (arith, h));
  least = λ h. absurd (omega (arith, h));
  unfinished = λ h. absurd (omega (arith, h));
  fits = omega arith;
}
begun_more (a ∷ []) byte begun right fits unended = record {
  start = λ h. begun.start (omega arith);
  sub_start = λ h. eqb-true byte 0x01 right;
  least = λ h. absurd (omega (arith, h));
  unfinished = λ h. absurd (omega (arith, h));
  fits = omega arith;
}
begun_more (a ∷ b ∷ []) byte begun right fits unended =
    let least : 24 ≤ byte = leb-true 24 byte right in
    record {
      start = λ h. begun.start (omega arith);
      sub_start = λ h. begun.sub_start (omega arith);
      least = λ h. least;
      unfinished = λ h. omega (arith, least);
      fits = fits;
    }
begun_more (a ∷ b ∷ c ∷ l) byte begun right fits unended =
    let size : length ((a ∷ b ∷ c ∷ l) ++ byte ∷ []) ≡ length (a ∷ b ∷ c ∷ l) + 1 = length-append (a ∷ b ∷ c ∷ l) (byte ∷ []) in
    record {
      start = λ h. begun.start (omega arith);
      sub_start = λ h. begun.sub_start (omega arith);
      least = λ h. begun.least (omega arith);
      unfinished = λ h. still_open (length (a ∷ b ∷ c ∷ l)) c (length ((a ∷ b ∷ c ∷ l) ++ byte ∷ [])) size (begun.unfinished (omega arith)) (unended (omega arith));
      fits = begun.fits;
    }
