-- What a block of pcapng, or a packet of pcap, says.
use Rattle.std.specs.Prelude.{ℕ, zero, suc, ◌+◌, ◌-◌, ◌*◌, ◌/◌, ◌%◌, ◌^◌, ◌==◌, ◌&&◌, nat_lt, min, List, [], ◌∷◌, length, take, drop, Option, Some, None, slice_index, slice_get, if◌then◌else◌}
use Rattle.rdm_capture.specs.declared.packet.Direction.{Direction}
use Rattle.rdm_capture.specs.declared.packet.Direction.TheVariants.{Unknown, Inbound, Outbound}
use Rattle.rdm_capture.specs.declared.packet.Link.{Link}
use Rattle.rdm_capture.specs.declared.packet.Link.TheVariants.{UpperPdu, Ethernet, Other}
use Rattle.rdm_capture.specs.declared.packet.Order.{Order}
use Rattle.rdm_capture.specs.declared.packet.Order.TheVariants.{Big, Little}
use Rattle.rdm_capture.specs.declared.packet.Resolution.{Resolution}
use Rattle.rdm_capture.specs.declared.packet.Resolution.TheVariants.{Decimal, Binary}
use Rattle.rdm_capture.specs.declared.packet.Interface.{Interface}
use Rattle.rdm_capture.specs.Numbers.{number, nanoseconds}
use Rattle.rdm_capture.specs.Packets.{Told, ASection, AnInterface, APacket, Nothing, Piece}
use Rattle.rdm_capture.specs.Carried.{◌>>=◌, message_in}

abbrev pub link_of : ℕ → Link
link_of code = if code == 252 then UpperPdu else (if code == 1 then Ethernet else Other)

-- a captured frame: a packet if it carries an RDM message
unfoldable pub captured : Interface → Option ℕ → Direction → List ℕ → Told
captured interface time direction t = elim (message_in interface.link t) [
  | Some message ↦ APacket (record { time = time; direction = direction; message = message })
  | None ↦ Nothing
]

-- ---- options: each has a code and a length of two bytes, and a value, padded to a multiple of 4

abbrev pub padded : ℕ → ℕ
padded count = (count + 3) / 4 * 4

-- The value of the first option of this code, behind bytes that are passed over. Behind the code 0, and where no whole option stands, there
-- is none.
abbrev pub option_behind : ℕ → Order → ℕ → List ℕ → Option (List ℕ)
option_behind skip order code [] = None
option_behind (suc skip) order code (b ∷ t) = option_behind skip order code t
option_behind zero order code (b ∷ t) =
    let size = number order 2 (drop 2 (b ∷ t)) in
    if nat_lt (length (b ∷ t)) (4 + size) then None
    else if number order 2 (b ∷ t) == 0 then None
    else if number order 2 (b ∷ t) == code then Some (take size (drop 4 (b ∷ t)))
    else option_behind (3 + padded size) order code t

unfoldable pub option_in : Order → ℕ → List ℕ → Option (List ℕ)
option_in order code t = option_behind 0 order code t

-- ---- blocks

-- How many bytes the block at the front has: a multiple of 4, 12 at least, which stands behind its type and again at its end.
unfoldable pub block_size : Order → List ℕ → Option ℕ
block_size order t =
    if nat_lt (length t) 12 then None
    else
    (let size = number order 4 (drop 4 t) in
    if nat_lt size 12 then None
    else if nat_lt (length t) size then None
    else if (size % 4 == 0) && (number order 4 (drop (size - 4) t) == size) then Some size
    else None)

-- The byte order of a section, by the number 0x1A2B3C4D behind its length.
unfoldable pub order_in : List ℕ → Option Order
order_in t =
    if number Big 4 (drop 8 t) == 0x1A2B3C4D then Some Big
    else if number Little 4 (drop 8 t) == 0x1A2B3C4D then Some Little
    else None

-- A Section Header Block has 28 bytes at least.
unfoldable pub section_at : List ℕ → Option Piece
section_at t = do
  order ← order_in t
  size ← block_size order t
  if nat_lt size 28 then None else Some (record { size = size; says = ASection order })

-- The resolution of an interface: the option 9, whose byte is a power of 10, or from 128 on of 2. Without it, it is a microsecond.
unfoldable pub resolution_of : Option (List ℕ) → Resolution
resolution_of None = Decimal 6
resolution_of (Some t) =
    if nat_lt (slice_index t 0) 128 then Decimal (slice_index t 0) else Binary (slice_index t 0 - 128)

-- An Interface Description Block: the link type, two bytes, how many bytes are captured of a packet, and options.
unfoldable pub interface_in : Order → List ℕ → Option Told
interface_in order t =
    if nat_lt (length t) 8 then None
    else Some (AnInterface (record {
      link = link_of (number order 2 t);
      resolution = resolution_of (option_in order 9 (drop 8 t));
      most = number order 4 (drop 4 t);
    }))

-- The direction of a packet: the lowest two bits of the option 2.
unfoldable pub direction_of : Order → Option (List ℕ) → Direction
direction_of order None = Unknown
direction_of order (Some t) =
    if nat_lt (length t) 4 then Unknown
    else if number order 4 t % 4 == 1 then Inbound
    else if number order 4 t % 4 == 2 then Outbound
    else Unknown

-- An Enhanced Packet Block: the interface, the time in two halves, how many bytes are captured and how many there were, the captured bytes,
-- padded, and options.
unfoldable pub enhanced_in : Order → List Interface → List ℕ → Option Told
enhanced_in order interfaces t =
    if nat_lt (length t) 20 then None
    else
    (let count = number order 4 (drop 12 t) in
    if nat_lt (length t) (20 + count) then None
    else slice_get interfaces (number order 4 t) >>= λ interface.
    Some (captured interface
    (Some (nanoseconds interface.resolution (number order 4 (drop 4 t) * 2 ^ 32 + number order 4 (drop 8 t))))
    (direction_of order (option_in order 2 (drop (20 + padded count) t)))
    (take count (drop 20 t))))

-- A Simple Packet Block: how many bytes there were, and as many of them as the first interface captures.
unfoldable pub simple_in : Order → List Interface → List ℕ → Option Told
simple_in order interfaces t =
    if nat_lt (length t) 4 then None
    else slice_get interfaces 0 >>= λ interface.
    (let count = if interface.most == 0 then number order 4 t else min (number order 4 t) interface.most in
    if nat_lt (length t) (4 + count) then None
    else Some (captured interface None Unknown (take count (drop 4 t))))

-- what the body of a block of this type says
abbrev pub body_says : Order → List Interface → ℕ → List ℕ → Option Told
body_says order interfaces kind t =
    if kind == 1 then interface_in order t
    else if kind == 3 then simple_in order interfaces t
    else if kind == 6 then enhanced_in order interfaces t
    else Some Nothing

-- the block at the front, in a section with this byte order and these interfaces
unfoldable pub block_at : Order → List Interface → List ℕ → Option Piece
block_at order interfaces t =
    if nat_lt (length t) 12 then None
    else if number Big 4 t == 0x0A0D0D0A then section_at t
    else block_size order t >>= λ size.
    body_says order interfaces (number order 4 t) (take (size - 12) (drop 8 t)) >>= λ says.
    Some (record { size = size; says = says })

-- ---- pcap

-- A packet: the seconds and the ticks of its time, how many bytes are captured and how many there were, and the captured bytes.
unfoldable pub record_at : Order → Interface → List ℕ → Option Piece
record_at order interface t =
    if nat_lt (length t) 16 then None
    else
    (let count = number order 4 (drop 8 t) in
    if nat_lt (length t) (16 + count) then None
    else Some (record {
      size = 16 + count;
      says = captured interface
          (Some (number order 4 t * 1000000000 + nanoseconds interface.resolution (number order 4 (drop 4 t))))
          Unknown (take count (drop 16 t));
    }))
