-- What a receiver keeps when a byte more has come.
use Rattle.std.proofs.Common.{◌≡◌, ◌≢◌, ℕ, suc, ◌+◌, ◌<◌, ◌≤◌, Bool, true, false, List, [], ◌∷◌, ◌++◌, length, take, set, get_or, Option, Some, None, refl, sym, ap, subst, ◌∙◌, arith, length-append, get_or-take, get_or-set_other}
use Rattle.std.proofs.lemmas.List.{take_more_set, get_or_append_left}
use Rattle.rdm_receiver.specs.declared.receiver.Receiver.{Receiver}
use Rattle.rdm_receiver.specs.declared.signal.Signal.TheVariants.{Byte}
use Rattle.rdm_receiver.specs.Signals.{output_since, then_signal}
use Rattle.rdm_receiver.specs.Signals.Output.{Nothing}
use Rattle.rdm_receiver.specs.Receiving.{IsSpent, AreLevels, IsBegun, IsWaiting, Keeps, KeepsBytes, may_stand}
use Rattle.rdm_receiver.proofs.Spent.{spent_more, spent_wrong, spent_whole, begun_more, begun_none}

pub waiting : (r : Receiver) → r.state ≡ 0 → IsWaiting r
waiting r e = record { no_packet = λ on. absurd (omega (arith, e, on)); no_levels = λ on. absurd (omega (arith, e, on)) }

-- it waits for a break
pub keeps_waiting : (r : Receiver) (bytes : Option (List ℕ)) (byte : ℕ) → IsWaiting r → Keeps r bytes → Keeps r (then_signal bytes (Byte byte))
keeps_waiting r None byte waits keeps = waits
keeps_waiting r (Some bytes) byte waits keeps = record {
  packet = λ e. absurd (waits.no_packet e);
  levels = λ e. absurd (waits.no_levels e);
  spent = λ _. spent_more bytes byte (keeps.spent waits);
}

-- it waits for one from now on, since nothing is to come
spent_keeps : (r : Receiver) (bytes : List ℕ) → IsWaiting r → IsSpent bytes → KeepsBytes r bytes
spent_keeps r bytes waits spent = record {
  packet = λ e. absurd (waits.no_packet e);
  levels = λ e. absurd (waits.no_levels e);
  spent = λ _. spent;
}

-- a byte of no packet
pub keeps_wrong : (r s : Receiver) (bytes : Option (List ℕ)) (byte : ℕ) → r.state ≡ 1 → IsWaiting s → may_stand r.count byte ≡ false
    → (r.count ≡ 0 → byte ≢ 0) → Keeps r bytes → Keeps s (then_signal bytes (Byte byte))
keeps_wrong r s None byte on waits wrong other keeps = waits
keeps_wrong r s (Some bytes) byte on waits wrong other keeps =
    let kept : (take r.count r.packet ≡ bytes) × (length bytes ≡ r.count) × IsBegun bytes = keeps.packet on in
    spent_keeps s (bytes ++ byte ∷ []) waits (spent_wrong bytes byte kept.2
    (ap (λ n. may_stand n byte) kept.1 ∙ wrong) (λ e. other (sym kept.1 ∙ e)))

full_of : (n c m : ℕ) → n ≡ m → c ≤ 255 → (2 < n → n < c + 2) → m < 257
full_of n c m e fits unended = grind arith

-- the room is never full
pub keeps_full : (r s : Receiver) (bytes : Option (List ℕ)) (byte : ℕ) → r.state ≡ 1 → IsWaiting s → 257 ≤ r.count
    → Keeps r bytes → Keeps s (then_signal bytes (Byte byte))
keeps_full r s None byte on waits full keeps = waits
keeps_full r s (Some bytes) byte on waits full keeps =
    let kept : (take r.count r.packet ≡ bytes) × (length bytes ≡ r.count) × IsBegun bytes = keeps.packet on in
    absurd (omega (arith, full, full_of (length bytes) (get_or bytes 2 0) r.count kept.1 kept.2.fits kept.2.unfinished))

-- the message length, once it stands in the room
length_in : (r : Receiver) (bytes : List ℕ) (byte place : ℕ) → take r.count r.packet ≡ bytes → place ≡ r.count → 2 < place
    → get_or (set r.packet place byte) 2 0 ≡ get_or bytes 2 0
length_in r bytes byte place e same far =
    let other : 2 ≢ place = λ x. absurd (omega (arith, x, far)) in
    get_or-set_other r.packet place 2 byte 0 other ∙ sym (get_or-take r.count r.packet 2 0 (omega (arith, far, same))) ∙ ap (λ l. get_or l 2 0) e

-- the last byte of a packet
pub keeps_whole : (r s : Receiver) (bytes : Option (List ℕ)) (byte place : ℕ) → r.state ≡ 1 → IsWaiting s → place ≡ r.count → 2 < place
    → place ≡ get_or (set r.packet place byte) 2 0 + 1 → Keeps r bytes → Keeps s (then_signal bytes (Byte byte))
keeps_whole r s None byte place on waits same far whole keeps = waits
keeps_whole r s (Some bytes) byte place on waits same far whole keeps =
    let kept : (take r.count r.packet ≡ bytes) × (length bytes ≡ r.count) × IsBegun bytes = keeps.packet on in
    let size : length (bytes ++ byte ∷ []) ≡ length bytes + 1 = length-append bytes (byte ∷ []) in
    let told : get_or (set r.packet place byte) 2 0 ≡ get_or bytes 2 0 = length_in r bytes byte place kept.0 same far in
    let far_in : 2 < length bytes = omega (arith, far, same, kept.1) in
    let still : get_or (bytes ++ byte ∷ []) 2 0 ≡ get_or bytes 2 0 = get_or_append_left bytes (byte ∷ []) 0 2 far_in in
    let start : get_or (bytes ++ byte ∷ []) 0 0 ≡ 0xCC =
    get_or_append_left bytes (byte ∷ []) 0 0 (omega (arith, far_in)) ∙ kept.2.start (omega (arith, far_in)) in
    spent_keeps s (bytes ++ byte ∷ []) waits
    (spent_whole (bytes ++ byte ∷ []) (omega (arith, size, far_in)) start (omega (arith, size, told, still, whole, same, kept.1)))

-- ---- a byte inside of a packet

begun_with : (r : Receiver) (bytes : List ℕ) (byte place : ℕ) → r.state ≡ 1 → place ≡ r.count → may_stand place byte ≡ true → byte ≤ 255
    → (2 < place → place ≢ get_or (set r.packet place byte) 2 0 + 1) → KeepsBytes r bytes → IsBegun (bytes ++ byte ∷ [])
begun_with r bytes byte place on same right fits unended keeps =
    let kept : (take r.count r.packet ≡ bytes) × (length bytes ≡ r.count) × IsBegun bytes = keeps.packet on in
    begun_more bytes byte kept.2 (ap (λ n. may_stand n byte) (kept.1 ∙ sym same) ∙ right) fits
    (λ far e. unended (omega (arith, far, kept.1, same))
    (let told : get_or (set r.packet place byte) 2 0 ≡ get_or bytes 2 0 =
    length_in r bytes byte place kept.0 same (omega (arith, far, kept.1, same)) in
    omega (arith, e, told, kept.1, same)))

pub keeps_right : (r s : Receiver) (bytes : Option (List ℕ)) (byte place : ℕ) → r.state ≡ 1 → s.state ≡ 1 → place ≡ r.count
    → s.count ≡ r.count + 1 → s.packet ≡ set r.packet place byte → place < length r.packet → may_stand place byte ≡ true → byte ≤ 255
    → (2 < place → place ≢ get_or (set r.packet place byte) 2 0 + 1) → Keeps r bytes → Keeps s (then_signal bytes (Byte byte))
keeps_right r s None byte place on still same more written room right fits unended keeps = absurd (keeps.no_packet on)
keeps_right r s (Some bytes) byte place on still same more written room right fits unended keeps =
    let kept : (take r.count r.packet ≡ bytes) × (length bytes ≡ r.count) × IsBegun bytes = keeps.packet on in
    let size : length (bytes ++ byte ∷ []) ≡ length bytes + 1 = length-append bytes (byte ∷ []) in
    let front : take s.count s.packet ≡ bytes ++ byte ∷ [] =
    ap (λ n. take n s.packet) (more ∙ ap (λ n. n + 1) (sym same)) ∙ ap (λ (l : List ℕ). take (place + 1) l) written
    ∙ take_more_set r.packet place byte room ∙ ap (λ n. take n r.packet ++ byte ∷ []) same ∙ ap (λ (l : List ℕ). l ++ byte ∷ []) kept.0 in
    record {
      packet = λ _. (front, omega (arith, size, kept.1, more), begun_with r bytes byte place on same right fits unended keeps);
      levels = λ e. absurd (omega (arith, e, still));
      spent = λ waits. absurd (waits.no_packet still);
    }

pub none_right : (r : Receiver) (bytes : Option (List ℕ)) (byte place : ℕ) → r.state ≡ 1 → place ≡ r.count → may_stand place byte ≡ true → byte ≤ 255
    → (2 < place → place ≢ get_or (set r.packet place byte) 2 0 + 1) → Keeps r bytes → Nothing ≡ output_since (then_signal bytes (Byte byte))
none_right r None byte place on same right fits unended keeps = refl
none_right r (Some bytes) byte place on same right fits unended keeps =
    let size : length (bytes ++ byte ∷ []) ≡ length bytes + 1 = length-append bytes (byte ∷ []) in
    sym (begun_none (bytes ++ byte ∷ []) (omega (arith, size)) (begun_with r bytes byte place on same right fits unended keeps))

-- ---- levels

pub keeps_level : (r s : Receiver) (bytes : Option (List ℕ)) (byte : ℕ) → r.state ≡ 2 → s.state ≡ 2 → s.count ≡ r.count + 1 → r.count < 512
    → Keeps r bytes → Keeps s (then_signal bytes (Byte byte))
keeps_level r s None byte on still more room keeps = absurd (keeps.no_levels on)
keeps_level r s (Some bytes) byte on still more room keeps =
    let size : length (bytes ++ byte ∷ []) ≡ length bytes + 1 = length-append bytes (byte ∷ []) in
    let levels : AreLevels bytes r.count = keeps.levels on in
    let some : 0 < length bytes = omega (arith, levels.size) in
    record {
      packet = λ e. absurd (omega (arith, e, still));
      levels = λ _. record {
        start = get_or_append_left bytes (byte ∷ []) 0 0 some ∙ levels.start;
        size = omega (arith, size, levels.size, more);
        room = omega (arith, more, room);
      };
      spent = λ waits. absurd (waits.no_levels still);
    }
