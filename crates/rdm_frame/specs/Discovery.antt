-- The answer to DISC_UNIQUE_BRANCH. E1.20 section 7.5.
use Rattle.std.specs.Prelude.{◌≡◌, ℕ, ◌+◌, ◌%◌, ◌≤◌, List, [], ◌∷◌, ◌++◌, drop, slice_index, sum, bit_or, bit_and}
use Rattle.std.specs.List.{flat_map}
use Rattle.std.specs.Int.{w16, w32, to_be_bytes, from_be_bytes}
use Rattle.rdm_frame.specs.declared.uid.Uid.{Uid}
use Rattle.rdm_frame.specs.FrameText.{uid_slots}

-- A byte as two, of which each has half of its bits and the others set: so two devices that answer at once can't
-- make up a third one's answer.
abbrev pub coded : ℕ → List ℕ
coded b = bit_or b 0xAA ∷ bit_or b 0x55 ∷ []

-- the byte that a controller reads from two coded bytes: the bits that both have set
abbrev pub uncoded : ℕ → ℕ → ℕ
uncoded first second = bit_and first second

abbrev pub coded_uid : Uid → List ℕ
coded_uid u = flat_map coded (uid_slots u)

-- the coded checksum, over the twelve bytes of the coded UID
abbrev pub coded_sum : List ℕ → List ℕ
coded_sum bytes = flat_map coded (to_be_bytes w16 (sum bytes % 65536))

-- The 24 bytes of the answer: seven FE and one AA, the coded UID, and the coded checksum.
unfoldable pub branch_reply : Uid → List ℕ
branch_reply u = 0xFE ∷ 0xFE ∷ 0xFE ∷ 0xFE ∷ 0xFE ∷ 0xFE ∷ 0xFE ∷ 0xAA ∷ [] ++ coded_uid u ++ coded_sum (coded_uid u)

-- The bytes are that answer, with 0 to 7 of its preamble bytes FE: interfaces and repeaters may lose the first of them.
abbrev pub IsBranchReply : Uid → List ℕ → Type 0
IsBranchReply u bytes = (lost : ℕ) × (lost ≤ 7) × (bytes ≡ drop lost (branch_reply u))

-- the byte that stands coded at a place
abbrev pub uncoded_at : List ℕ → ℕ → ℕ
uncoded_at t i = uncoded (slice_index t i) (slice_index t (i + 1))

-- the UID that coded bytes are read as
abbrev pub uncoded_uid : List ℕ → Uid
uncoded_uid t = record {
  maker = from_be_bytes w16 (uncoded_at t 0 ∷ uncoded_at t 2 ∷ []);
  device = from_be_bytes w32 (uncoded_at t 4 ∷ uncoded_at t 6 ∷ uncoded_at t 8 ∷ uncoded_at t 10 ∷ []);
}
