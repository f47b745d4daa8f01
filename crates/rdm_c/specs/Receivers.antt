-- What C is told of a byte that a receiver heard.
use Rattle.std.specs.Prelude.{◌≡◌, ◌≤◌, ℕ, List, length, take}
use Rattle.rdm_receiver.specs.Signals.{Output}
use Rattle.rdm_receiver.specs.Signals.Output.{Nothing, Packet, Level}

-- Nothing; a packet, of which all bytes stand at the front of the room; or a level, of which slot it is, and that it is the byte.
abbrev pub ReceivedTold : ℕ → ℕ → ℕ → List ℕ → Output → Type 0
ReceivedTold code number byte room Nothing = (code ≡ 0) × (number ≡ 0)
ReceivedTold code number byte room (Packet bytes) = (code ≡ 1) × (number ≡ length bytes) × (take number room ≡ bytes)
ReceivedTold code number byte room (Level slot value) = (code ≡ 2) × (number ≡ slot) × (byte ≡ value)

-- Whatever C passes as a receiver, what is told of as a packet lies in its room.
abbrev pub IsInRoom : ℕ → ℕ → Type 0
IsInRoom code number = code ≡ 1 → number ≤ 257
