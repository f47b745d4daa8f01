-- Packets and blocks, without where they lie in memory.
use Rattle.std.specs.Prelude.{ℕ, List, Option}
use Rattle.rdm_capture.specs.declared.packet.Direction.{Direction}
use Rattle.rdm_capture.specs.declared.packet.Packet.{Packet}
use Rattle.rdm_capture.specs.declared.packet.Interface.{Interface}
use Rattle.rdm_capture.specs.declared.packet.Order.{Order}
use Rattle.rdm_capture.specs.declared.packet.Content.{Content}
use Rattle.rdm_capture.specs.declared.packet.Content.TheVariants as content
use Rattle.rdm_capture.specs.declared.packet.Block.{Block}

-- an RDM packet: when and which way it went, and its slots behind the START code
pub record Seen : Type 0 where
  pub time : Option ℕ
  pub direction : Direction
  pub message : List ℕ

abbrev pub seen : Packet → Seen
seen p = record { time = p.time; direction = p.direction; message = p.message.now }

-- what a block says
pub data Told : Type 0 where
  ASection : Order → Told
  AnInterface : Interface → Told
  APacket : Seen → Told
  Nothing : Told

abbrev pub told : Content → Told
told (content.Section order) = ASection order
told (content.Interface interface) = AnInterface interface
told (content.Packet packet) = APacket (seen packet)
told content.Other = Nothing

-- a block: how many bytes it has, and what it says
pub record Piece : Type 0 where
  pub size : ℕ
  pub says : Told

abbrev pub piece : Block → Piece
piece b = record { size = b.size; says = told b.content }
