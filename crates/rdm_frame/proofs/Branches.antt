-- A coded byte is read back, so an answer to DISC_UNIQUE_BRANCH belongs to one UID.
use Rattle.std.proofs.Common.{◌≡◌, ℕ, zero, suc, ◌-◌, ◌≤◌, ◌∷◌, [], List, length, take, drop, min, max, refl, sym, ap, ◌∙◌, arith}
use Rattle.std.specs.Prelude.{bit_and, bit_or}
use Rattle.std.specs.Int.{w16, w32, bit_at, from_be_bytes}
use Rattle.std.proofs.lemmas.Nat.Bits.{bit_at_and, bit_at_or, bit_at-zero, same_from_bits}
use Rattle.std.proofs.lemmas.Nat.{from_be_bytes-to_be_bytes_2, from_be_bytes-to_be_bytes_4}
use Rattle.std.proofs.lemmas.List.{length-drop, take_all}
use Rattle.rdm_frame.specs.declared.uid.Uid.{Uid}
use Rattle.rdm_frame.specs.FrameText.{IsUid}
use Rattle.rdm_frame.specs.Discovery.{branch_reply, uncoded_uid}

-- the two masks share no bit
apart : (i : ℕ) → min (bit_at 0xAA i) (bit_at 0x55 i) ≡ 0
apart i = sym (bit_at_and 0xAA 0x55 i) ∙ bit_at-zero i

bits_back : (x m n : ℕ) → min m n ≡ 0 → min (max x m) (max x n) ≡ x
bits_back x m n e = omega arith

pub coded_back : (b : ℕ) → bit_and (bit_or b 0xAA) (bit_or b 0x55) ≡ b
coded_back b =
    same_from_bits _ _ (λ i. bit_at_and (bit_or b 0xAA) (bit_or b 0x55) i ∙ rw (bit_at_or b 0xAA i, bit_at_or b 0x55 i) (bits_back (bit_at b i) (bit_at 0xAA i) (bit_at 0x55 i) (apart i)))

two_same : (a b c d : ℕ) → a ≡ b → c ≡ d → a ∷ c ∷ [] ≡ b ∷ d ∷ []
two_same a b c d e1 e2 = rw (e1, e2) refl

four_same : (a b c d e f g h : ℕ) → a ≡ b → c ≡ d → e ≡ f → g ≡ h → a ∷ c ∷ e ∷ g ∷ [] ≡ b ∷ d ∷ f ∷ h ∷ []
four_same a b c d e f g h e1 e2 e3 e4 = rw (e1, e2, e3, e4) refl

abbrev uid : ℕ → ℕ → Uid
uid m d = record { maker = m; device = d }

uid_same : (m m' d d' : ℕ) → m ≡ m' → d ≡ d' → uid m d ≡ uid m' d'
uid_same m m' d d' e1 e2 = rw (e1, e2) refl

uid_again : (u : Uid) → IsUid u → uncoded_uid (drop 8 (branch_reply u)) ≡ u
unfolding branch_reply
uid_again u fits =
    uid_same _ u.maker _ u.device
    (ap (from_be_bytes w16) (two_same _ _ _ _ (coded_back _) (coded_back _)) ∙ from_be_bytes-to_be_bytes_2 u.maker fits.maker)
    (ap (from_be_bytes w32) (four_same _ _ _ _ _ _ _ _ (coded_back _) (coded_back _) (coded_back _) (coded_back _)) ∙ from_be_bytes-to_be_bytes_4 u.device fits.device)

pub one_uid : (u v : Uid) → IsUid u → IsUid v → branch_reply u ≡ branch_reply v → u ≡ v
one_uid u v fits fits' e = sym (uid_again u fits) ∙ ap (λ (t : List ℕ). uncoded_uid (drop 8 t)) e ∙ uid_again v fits'

-- ---- an answer with a part of its preamble

-- what stands behind the separator, wherever the preamble begins
coded_part : (u : Uid) (lost : ℕ) → lost ≤ 7 → drop (24 - lost - 16) (drop lost (branch_reply u)) ≡ drop 8 (branch_reply u)
unfolding branch_reply
coded_part u zero h = refl
coded_part u (suc zero) h = refl
coded_part u (suc (suc zero)) h = refl
coded_part u (suc (suc (suc zero))) h = refl
coded_part u (suc (suc (suc (suc zero)))) h = refl
coded_part u (suc (suc (suc (suc (suc zero))))) h = refl
coded_part u (suc (suc (suc (suc (suc (suc zero)))))) h = refl
coded_part u (suc (suc (suc (suc (suc (suc (suc zero))))))) h = refl
coded_part u (suc (suc (suc (suc (suc (suc (suc (suc n)))))))) h = absurd (omega arith)

long : (u : Uid) → length (branch_reply u) ≡ 24
unfolding branch_reply
long u = refl

uid_of_part : (u : Uid) → IsUid u → (lost : ℕ) → lost ≤ 7 → uncoded_uid (drop (24 - lost - 16) (drop lost (branch_reply u))) ≡ u
uid_of_part u fits lost h = ap uncoded_uid (coded_part u lost h) ∙ uid_again u fits

pub part_length : (u : Uid) (lost : ℕ) → length (drop lost (branch_reply u)) ≡ 24 - lost
part_length u lost = length-drop lost (branch_reply u) ∙ ap (λ (n : ℕ). n - lost) (long u)

pub whole_part : (u : Uid) (lost : ℕ) → take (24 - lost) (drop lost (branch_reply u)) ≡ drop lost (branch_reply u)
whole_part u lost = take_all (24 - lost) (drop lost (branch_reply u)) (omega (arith, part_length u lost))

pub part_again : (u : Uid) → IsUid u → (bytes : List ℕ) (lost : ℕ) → lost ≤ 7 → bytes ≡ drop lost (branch_reply u) → uncoded_uid (take (length bytes - (length bytes - 16)) (drop (length bytes - 16) bytes)) ≡ u
part_again u fits bytes lost h e =
    let n : length bytes ≡ 24 - lost = ap length e ∙ part_length u lost in
    let all = take_all (length bytes - (length bytes - 16)) (drop (length bytes - 16) bytes) (omega (arith, length-drop (length bytes - 16) bytes)) in
    ap uncoded_uid all ∙ ap (λ (k : ℕ). uncoded_uid (drop (k - 16) bytes)) n ∙ ap (λ (t : List ℕ). uncoded_uid (drop (24 - lost - 16) t)) e ∙ uid_of_part u fits lost h
