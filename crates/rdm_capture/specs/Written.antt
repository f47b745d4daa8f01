-- The pcapng file of packets: all numbers have their least significant byte first.
use Rattle.std.specs.Prelude.{ℕ, ◌+◌, ◌-◌, ◌*◌, ◌/◌, ◌%◌, ◌^◌, ◌<◌, List, [], ◌∷◌, ◌++◌, length, replicate, Some}
use Rattle.std.specs.List.{flat_map}
use Rattle.byteorder.specs.Endian.{little_bytes}
use Rattle.rdm_capture.specs.declared.packet.Direction.{Direction}
use Rattle.rdm_capture.specs.declared.packet.Direction.TheVariants.{Unknown, Inbound, Outbound}
use Rattle.rdm_capture.specs.Packets.{Seen}
use Rattle.rdm_capture.specs.Carried.{padded_tags}

-- a block: its type, its length, its body, and its length again
abbrev pub block : ℕ → List ℕ → List ℕ
block kind body = little_bytes 4 kind ++ little_bytes 4 (12 + length body) ++ body ++ little_bytes 4 (12 + length body)

-- A Section Header Block: version 1.0, of a length that isn't said.
abbrev pub section : List ℕ
section = block 0x0A0D0D0A (0x4D ∷ 0x3C ∷ 0x2B ∷ 0x1A ∷ 1 ∷ 0 ∷ 0 ∷ 0 ∷ 255 ∷ 255 ∷ 255 ∷ 255 ∷ 255 ∷ 255 ∷ 255 ∷ 255 ∷ [])

-- An Interface Description Block: link type 252, whole packets, and the option 9, by which a tick is a nanosecond.
abbrev pub interface : List ℕ
interface = block 1 (252 ∷ 0 ∷ 0 ∷ 0 ∷ 0 ∷ 0 ∷ 0 ∷ 0 ∷ 9 ∷ 0 ∷ 1 ∷ 0 ∷ 9 ∷ 0 ∷ 0 ∷ 0 ∷ 0 ∷ 0 ∷ 0 ∷ 0 ∷ [])

-- what stands in front of the packets
unfoldable pub header : List ℕ
header = section ++ interface

abbrev pub flags_of : Direction → ℕ
flags_of Unknown = 0
flags_of Inbound = 1
flags_of Outbound = 2

-- a packet as it is written
pub record Sent : Type 0 where
  pub time : ℕ
  pub direction : Direction
  pub message : List ℕ

-- An Enhanced Packet Block of the first interface: the time in two halves, how many bytes are captured and how many there were, the bytes,
-- zeros up to a multiple of 4, and the option 2, the direction.
abbrev pub flags : Direction → List ℕ
flags direction = 2 ∷ 0 ∷ 4 ∷ 0 ∷ flags_of direction ∷ 0 ∷ 0 ∷ 0 ∷ 0 ∷ 0 ∷ 0 ∷ 0 ∷ []

abbrev pub packet_body : Sent → List ℕ
packet_body p = little_bytes 4 0 ++ little_bytes 4 (p.time / 2 ^ 32) ++ little_bytes 4 (p.time % 2 ^ 32)
    ++ little_bytes 4 (12 + length p.message) ++ little_bytes 4 (12 + length p.message)
    ++ padded_tags ++ p.message ++ replicate ((length p.message + 3) / 4 * 4 - length p.message) 0 ++ flags p.direction

unfoldable pub packet : Sent → List ℕ
packet p = block 6 (packet_body p)

-- what stands in front of its message and the zeros behind that, and what stands behind those
abbrev pub head_text : ℕ → ℕ → ℕ → List ℕ
head_text size time count = little_bytes 4 6 ++ little_bytes 4 size ++ little_bytes 4 0 ++ little_bytes 4 (time / 2 ^ 32) ++ little_bytes 4 (time % 2 ^ 32)
    ++ little_bytes 4 count ++ little_bytes 4 count ++ padded_tags

abbrev pub tail_text : ℕ → Direction → List ℕ
tail_text size direction = flags direction ++ little_bytes 4 size

-- the file of packets, one after the other
abbrev pub file : List Sent → List ℕ
file packets = header ++ flat_map packet packets

-- as it is read
abbrev pub seen_again : Sent → Seen
seen_again p = record { time = Some p.time; direction = p.direction; message = p.message }

-- A block can say it: the time has 64 bits, and the message at most 65,535 bytes.
pub record Fits (p : Sent) : Type 0 where
  pub time : p.time < 2 ^ 64
  pub message : length p.message < 2 ^ 16
