-- What a receiver keeps of the signals that it heard.
use Rattle.std.specs.Prelude.{◌≡◌, ◌≢◌, ℕ, suc, ◌+◌, ◌<◌, ◌≤◌, Bool, true, nat_le, ◌==◌, if◌then◌else◌, List, [], ◌∷◌, ◌++◌, length, take, slice_index, Option, Some, None}
use Rattle.rdm_receiver.specs.declared.signal.Signal.{Signal}
use Rattle.rdm_receiver.specs.declared.signal.Signal.TheVariants.{Break, Byte, Error}
use Rattle.rdm_receiver.specs.declared.receiver.Receiver.{Receiver}
use Rattle.rdm_receiver.specs.declared.receiver.Received.{Received}
use Rattle.rdm_receiver.specs.declared.receiver.Received.TheVariants as received
use Rattle.rdm_receiver.specs.Signals.{Output, output_of, since_break}
use Rattle.rdm_receiver.specs.Signals.Output.{Nothing, Packet, Level}

-- Whatever bytes follow, nothing is handed out before the next break.
abbrev pub IsSpent : List ℕ → Type 0
IsSpent bytes = (more : List ℕ) → 0 < length more → output_of (bytes ++ more) ≡ Nothing

-- A packet may begin so, and isn't whole.
pub record IsBegun (bytes : List ℕ) : Type 0 where
  pub start : 0 < length bytes → slice_index bytes 0 ≡ 0xCC
  pub sub_start : 1 < length bytes → slice_index bytes 1 ≡ 0x01
  pub least : 2 < length bytes → 24 ≤ slice_index bytes 2
  pub unfinished : 2 < length bytes → length bytes < slice_index bytes 2 + 2
  pub fits : slice_index bytes 2 ≤ 255

-- START code 00, and so many levels.
pub record AreLevels (bytes : List ℕ) (count : ℕ) : Type 0 where
  pub start : slice_index bytes 0 ≡ 0x00
  pub size : length bytes ≡ suc count
  pub room : count ≤ 512

-- The receiver waits for a break.
pub record IsWaiting (r : Receiver) : Type 0 where
  pub no_packet : r.state ≢ 1
  pub no_levels : r.state ≢ 2

-- It collects a packet of which these are the first bytes; or levels, behind these; or it waits for a break, and nothing is to come of
-- these.
pub record KeepsBytes (r : Receiver) (bytes : List ℕ) : Type 0 where
  pub packet : r.state ≡ 1 → (take r.count r.packet ≡ bytes) × (length bytes ≡ r.count) × IsBegun bytes
  pub levels : r.state ≡ 2 → AreLevels bytes r.count
  pub spent : IsWaiting r → IsSpent bytes

abbrev pub Keeps : Receiver → Option (List ℕ) → Type 0
Keeps r None = IsWaiting r
Keeps r (Some bytes) = KeepsBytes r bytes

-- The receiver has heard these signals.
unfoldable pub HasHeard : Receiver → List Signal → Type 0
HasHeard r signals = Keeps r (since_break signals)

-- whether a packet may have this byte at this place
abbrev pub may_stand : ℕ → ℕ → Bool
may_stand place byte = if place == 0 then byte == 0xCC
    else (if place == 1 then byte == 0x01 else (if place == 2 then nat_le 24 byte else true))

-- what was handed out, where a packet stands at the front of these bytes
abbrev pub output_with : Received → List ℕ → Output
output_with received.Nothing packet = Nothing
output_with (received.Packet count) packet = Packet (take count packet)
output_with (received.Level slot value) packet = Level slot value

-- Whatever the receiver has heard: with a byte a packet may come, whose bytes stand in the room, or this byte as a level; with a break or
-- an error nothing does.
abbrev pub IsBroughtBy : Signal → Received → List ℕ → Type 0
IsBroughtBy (Byte byte) received.Nothing room = Unit {0}
IsBroughtBy (Byte byte) (received.Packet count) room = (count ≤ 257) × (length (take count room) ≡ count)
IsBroughtBy (Byte byte) (received.Level slot value) room = value ≡ byte
IsBroughtBy Break brought room = brought ≡ received.Nothing
IsBroughtBy Error brought room = brought ≡ received.Nothing
