-- The names that C is told: each with a NUL behind it, as C wants a text.
use Rattle.std.specs.Prelude.{ℕ, List, [], ◌∷◌, Option, Some, None, codes}
use Rattle.rdm_frame.specs.Names.{for_c}

-- every result of a call, as the header names it behind FELOSUMAY_
abbrev pub results : List (ℕ × List ℕ)
results =
    (0, codes "DONE") ∷
    (1, codes "OUT_OF_MEMORY") ∷
    (2, codes "BAD_PROFILE") ∷
    (3, codes "BAD_SIZE") ∷
    (4, codes "BAD_UID") ∷
    (5, codes "ABSENT") ∷
    (6, codes "ASTRAY") ∷
    (7, codes "UNKNOWN") ∷
    (8, codes "REFUSED") ∷
    (9, codes "NO_VALUE") ∷
    (10, codes "RESERVED") ∷
    (11, codes "BUSY") ∷
    (12, codes "TOO_LONG") ∷
    (13, codes "NO_MORE") ∷
    (14, codes "NO_ROOM") ∷
    (15, codes "OUT_OF_RANGE") ∷
    (16, codes "LIMIT") ∷
    (17, codes "NO_DEVICE") ∷
    (18, codes "NOT_STORED") ∷
    (19, codes "BAD_LENGTH") ∷
    (20, codes "SHORT_IMAGE") ∷
    (21, codes "IMAGE_LENGTH") ∷
    (22, codes "ALTERED_IMAGE") ∷
    (23, codes "FOREIGN_IMAGE") ∷
    (24, codes "NO_REPLY") ∷
    (25, codes "IN_USE") ∷
    (26, codes "UNALIGNED") ∷
    (27, codes "SHORT_MEMORY") ∷
    (28, codes "NO_IMAGE") ∷
    (29, codes "FLASH_FAILED") ∷ []

-- a name, or that there is none
abbrev pub named : Option (List ℕ) → List ℕ
named None = for_c (codes "unknown")
named (Some name) = for_c name

-- which version of the library it is
abbrev pub version : List ℕ
version = codes "0.1.0"
