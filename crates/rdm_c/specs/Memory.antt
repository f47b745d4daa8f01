-- How much memory a responder takes. Only `new` takes memory, and these are its blocks.
use Rattle.std.specs.Prelude.{ℕ, ◌+◌, ◌*◌, ◌/◌, ◌%◌, ◌==◌, if◌then◌else◌, List, [], ◌∷◌, map, sum, nat_le}
use Rattle.rdm_c.specs.declared.status.Status.{Status}
use Rattle.rdm_c.specs.declared.status.Status.TheVariants.{Done, Unaligned, ShortMemory}

-- The blocks, in bytes: the profile; the sub-devices; the outstanding jobs of each worker; the messages; the status entries; and
-- the responder itself, with the room for a reply.
abbrev pub blocks : ℕ → ℕ → ℕ → List ℕ
blocks queue_size entries sub_devices =
    4688 ∷ 56 * sub_devices ∷ 12 * queue_size ∷ 12 * queue_size ∷ 248 * queue_size ∷ 9 * entries ∷ 1136 ∷ []

-- the next multiple of 16, where a block can begin
abbrev pub rounded : ℕ → ℕ
rounded bytes = ((bytes + 15) / 16) * 16

-- the memory for all of them, one behind the other, and for the 32 bytes that say where they lie
abbrev pub memory_size : ℕ → ℕ → ℕ → ℕ
memory_size queue_size entries sub_devices = 32 + sum (map rounded (blocks queue_size entries sub_devices))

-- what becomes of a responder of this size in so many bytes of memory that begin at this address
abbrev pub memory_status : ℕ → ℕ → ℕ → ℕ → ℕ → Status
memory_status address bytes queue_size entries sub_devices =
    if address % 16 == 0 then if nat_le (memory_size queue_size entries sub_devices) bytes then Done else ShortMemory
    else Unaligned
