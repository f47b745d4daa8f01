-- Which packets a capture has.
use Rattle.std.specs.Prelude.{◌≡◌, ℕ, ◌+◌, ◌%◌, ◌<◌, ◌≤◌, ◌==◌, nat_lt, List, [], ◌∷◌, ◌++◌, length, drop, Option, Some, None, if◌then◌else◌}
use Rattle.rdm_capture.specs.declared.packet.Format.{Format}
use Rattle.rdm_capture.specs.declared.packet.Format.TheVariants.{Pcap, Pcapng}
use Rattle.rdm_capture.specs.declared.packet.Order.{Order}
use Rattle.rdm_capture.specs.declared.packet.Order.TheVariants.{Big, Little}
use Rattle.rdm_capture.specs.declared.packet.Resolution.TheVariants.{Decimal}
use Rattle.rdm_capture.specs.declared.packet.Interface.{Interface}
use Rattle.rdm_capture.specs.declared.reading.CaptureFault.{CaptureFault}
use Rattle.rdm_capture.specs.declared.reading.Start.{Start}
use Rattle.rdm_capture.specs.declared.reading.Place.{Place}
use Rattle.rdm_capture.specs.Numbers.{number}
use Rattle.rdm_capture.specs.Packets.{Seen, Told, ASection, AnInterface, APacket, Nothing, Piece}
use Rattle.rdm_capture.specs.Carried.{◌>>=◌}
use Rattle.rdm_capture.specs.Blocks.{link_of, block_at, record_at}

-- What is known in front of a block: the format, the byte order of the section, and its interfaces so far.
pub record Known : Type 0 where
  pub format : Format
  pub order : Order
  pub interfaces : List Interface

-- what is known behind a block
abbrev pub after : Known → Told → Known
after known (ASection order) = record { format = known.format; order = order; interfaces = [] }
after known (AnInterface interface) = record { format = known.format; order = known.order; interfaces = known.interfaces ++ interface ∷ [] }
after known (APacket packet) = known
after known Nothing = known

-- the packet of a block, if it has one, in front of others
abbrev pub with_packet : Told → List Seen → List Seen
with_packet (APacket packet) others = packet ∷ others
with_packet (ASection order) others = others
with_packet (AnInterface interface) others = others
with_packet Nothing others = others

-- the block that stands at the front, if one does
abbrev pub piece_at : Known → List ℕ → Option Piece
piece_at known t = elim known.format [
  | Pcap ↦ elim known.interfaces [ [] ↦ None | interface ∷ others ↦ record_at known.order interface t ]
  | Pcapng ↦ block_at known.order known.interfaces t
]

-- From this byte on the file has these packets, and then ends, or makes no sense from the byte on that is named.
pub data Reads (t : List ℕ) : Known → ℕ → List Seen → Option ℕ → Type 0 where
  Ends : (known : Known) (at : ℕ) → length t ≤ at → Reads t known at [] None
  Stops : (known : Known) (at : ℕ) → at < length t → piece_at known (drop at t) ≡ None → Reads t known at [] (Some at)
  Goes : (known : Known) (at : ℕ) (p : Piece) (packets : List Seen) (fault : Option ℕ) → at < length t → piece_at known (drop at t) ≡ Some p
      → Reads t (after known p.says) (at + p.size) packets fault → Reads t known at (with_packet p.says packets) fault

-- ---- how a file begins

-- The first number of a pcap file says how long a tick is.
abbrev pub digits_of : ℕ → Option ℕ
digits_of magic = if magic == 0xA1B2C3D4 then Some 6 else (if magic == 0xA1B23C4D then Some 9 else None)

-- what a file's first bytes say, and where its blocks begin
pub record Beginning : Type 0 where
  pub known : Known
  pub size : ℕ

-- A pcap file has 24 bytes in front of its packets, with the link type in the lower half of the last four.
abbrev pub pcap_start : Order → ℕ → List ℕ → Beginning
pcap_start order digits t = record {
  known = record {
    format = Pcap;
    order = order;
    interfaces = record { link = link_of (number order 4 (drop 20 t) % 65536); resolution = Decimal digits; most = 0 } ∷ [];
  };
  size = 24;
}

unfoldable pub start_of : List ℕ → Option Beginning
start_of t =
    if nat_lt (length t) 24 then None
    else if number Big 4 t == 0x0A0D0D0A then Some (record { known = record { format = Pcapng; order = Little; interfaces = [] }; size = 0 })
    else elim (digits_of (number Little 4 t)) [
      | Some digits ↦ Some (pcap_start Little digits t)
      | None ↦ digits_of (number Big 4 t) >>= λ digits. Some (pcap_start Big digits t)
    ]

-- These are the packets of a file, and where it makes no sense from.
unfoldable pub HasPackets : List ℕ → List Seen → Option ℕ → Type 0
HasPackets t packets fault = elim (start_of t) [
  | Some start ↦ Reads t start.known start.size packets fault
  | None ↦ (packets ≡ []) × (fault ≡ Some 0)
]

abbrev pub fault_at : Option CaptureFault → Option ℕ
fault_at None = None
fault_at (Some fault) = Some fault.at

-- ---- the same as the code has it

abbrev pub known_of : Format → Order → List Interface → Known
known_of format order interfaces = record { format = format; order = order; interfaces = interfaces }

abbrev pub one_interface : Option Interface → List Interface
one_interface None = []
one_interface (Some interface) = interface ∷ []

abbrev pub start_said : Start → Beginning
start_said start = record { known = known_of start.format start.order (one_interface start.interface); size = start.size }

abbrev pub place_known : Place → Known
place_known place = known_of place.format place.order place.interfaces.items
