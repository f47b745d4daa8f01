-- The ranges of a search: the halves of the 48-bit numbers, their halves, and so on.
use Rattle.std.specs.Prelude.{ℕ, ◌+◌, ◌-◌, ◌*◌, ◌/◌, ◌%◌, ◌^◌, ◌<◌, ◌≤◌}
use Rattle.rdm_frame.specs.declared.uid.Uid.{Uid}
use Rattle.rdm_frame.specs.UidNumber.{uid_number}
use Rattle.rdm_search.specs.declared.range.Range.{Range}

-- the UID with this number
abbrev pub uid_of : ℕ → Uid
uid_of n = record { maker = n / 2 ^ 32; device = n % 2 ^ 32 }

-- how many numbers a range has, after N halvings
abbrev pub width : ℕ → ℕ
width depth = 2 ^ (48 - depth)

-- the number of the range, among those of this depth, that a UID lies in
abbrev pub place : ℕ → Uid → ℕ
place depth u = uid_number u / width depth

-- its least and its greatest UID
abbrev pub low : Range → Uid
low r = uid_of (r.index * width r.depth)

abbrev pub high : Range → Uid
high r = uid_of (r.index * width r.depth + (width r.depth - 1))

abbrev pub IsRange : Range → Type 0
IsRange r = (r.depth ≤ 48) × (r.index < 2 ^ r.depth)
