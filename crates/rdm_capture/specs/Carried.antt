-- The RDM message in a captured frame.
use Rattle.std.specs.Prelude.{ℕ, ◌*◌, ◌/◌, ◌%◌, ◌==◌, ◌&&◌, nat_le, nat_lt, Bool, List, [], ◌∷◌, length, take, drop, Option, Some, None, slice_index, if◌then◌else◌}
use Rattle.std.specs.Str.{bytes_eq}
use Rattle.rdm_capture.specs.declared.packet.Link.{Link}
use Rattle.rdm_capture.specs.declared.packet.Link.TheVariants.{UpperPdu, Ethernet, Other}
use Rattle.rdm_capture.specs.declared.packet.Order.TheVariants.{Big}
use Rattle.rdm_capture.specs.Numbers.{number}

infixl 10 ◌>>=◌
abbrev pub ◌>>=◌ : {A B : Type 0} → Option A → (A → Option B) → Option B
(Some x) >>= f = f x
None >>= f = None

-- what stands behind these bytes, if the list begins with them
abbrev pub behind : List ℕ → List ℕ → Option (List ℕ)
behind front t = if bytes_eq (take (length front) t) front then Some (drop (length front) t) else None

-- The tags that name the protocol: 12 with the name `rdm`, and 0. Newer writers pad the name by a zero.
abbrev pub tags : List ℕ
tags = 0 ∷ 12 ∷ 0 ∷ 3 ∷ 114 ∷ 100 ∷ 109 ∷ 0 ∷ 0 ∷ 0 ∷ 0 ∷ []

abbrev pub padded_tags : List ℕ
padded_tags = 0 ∷ 12 ∷ 0 ∷ 4 ∷ 114 ∷ 100 ∷ 109 ∷ 0 ∷ 0 ∷ 0 ∷ 0 ∷ 0 ∷ []

unfoldable pub upper_message : List ℕ → Option (List ℕ)
upper_message t = elim (behind tags t) [ Some message ↦ Some message | None ↦ behind padded_tags t ]

-- the IPv4 packet in an Ethernet frame: behind two addresses, a VLAN tag or none, and the EtherType 0x0800
unfoldable pub ip_packet : List ℕ → Option (List ℕ)
ip_packet t =
    if nat_lt (length t) 18 then None
    else if number Big 2 (drop 12 t) == 0x0800 then Some (drop 14 t)
    else if (number Big 2 (drop 12 t) == 0x8100) && (number Big 2 (drop 16 t) == 0x0800) then Some (drop 18 t)
    else None

-- The UDP datagram to port 6454 in an IPv4 packet of version 4 that is no fragment, behind a header of 20 to 60 bytes.
abbrev pub is_datagram : List ℕ → Bool
is_datagram t = (slice_index t 0 / 16 == 4) && (slice_index t 9 == 17) && (number Big 2 (drop 6 t) % 16384 == 0)

abbrev pub header_size : List ℕ → ℕ
header_size t = slice_index t 0 % 16 * 4

unfoldable pub datagram : List ℕ → Option (List ℕ)
datagram t =
    if nat_lt (length t) 20 then None
    else if is_datagram t then (if nat_le 20 (header_size t) then Some (drop (header_size t) t) else None)
    else None

-- what a datagram to port 6454 carries
unfoldable pub payload : List ℕ → Option (List ℕ)
payload t =
    if nat_lt (length t) 8 then None
    else if number Big 2 (drop 2 t) == 6454 then Some (drop 8 (take (number Big 2 (drop 4 t)) t))
    else None

-- ArtRdm: the name of the protocol, the OpCode 0x8300 with its low byte first, 14 bytes, and the message
abbrev pub art_rdm : List ℕ
art_rdm = 65 ∷ 114 ∷ 116 ∷ 45 ∷ 78 ∷ 101 ∷ 116 ∷ 0 ∷ 0 ∷ 0x83 ∷ []

unfoldable pub art_message : List ℕ → Option (List ℕ)
art_message t = do
  packet ← ip_packet t
  udp ← datagram packet
  art ← payload udp
  rest ← behind art_rdm art
  Some (drop 14 rest)

-- Some nodes of Art-Net leave the START code in front of the message.
unfoldable pub without_start : List ℕ → List ℕ
without_start t = if slice_index t 0 == 0xCC then drop 1 t else t

-- the slots behind the START code of the RDM message in a frame, if it carries one
unfoldable pub message_in : Link → List ℕ → Option (List ℕ)
message_in UpperPdu t = upper_message t
message_in Ethernet t = art_message t >>= λ m. Some (without_start m)
message_in Other t = None
