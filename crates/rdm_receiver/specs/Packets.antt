-- The packets that stand in a whole list of signals.
use Rattle.std.specs.Prelude.{ℕ, ◌+◌, List, [], ◌∷◌, ◌++◌, take, slice_index, if◌then◌else◌}
use Rattle.rdm_receiver.specs.declared.signal.Signal.{Signal}
use Rattle.rdm_receiver.specs.declared.signal.Signal.TheVariants.{Break, Byte, Error}
use Rattle.rdm_receiver.specs.Signals.{Output, is_packet, output_after}
use Rattle.rdm_receiver.specs.Signals.Output.{Nothing, Packet, Level}

-- the bytes up to the next break or error
abbrev pub bytes_before_next : List Signal → List ℕ
bytes_before_next [] = []
bytes_before_next (Break ∷ rest) = []
bytes_before_next (Byte byte ∷ rest) = byte ∷ bytes_before_next rest
bytes_before_next (Error ∷ rest) = []

-- as many bytes as the message length and the checksum take, if there are so many
abbrev pub front_of : List ℕ → List ℕ
front_of bytes = take (slice_index bytes 2 + 2) bytes

-- the packet with which these bytes begin, if they begin with one
abbrev pub first_packet : List ℕ → List (List ℕ)
first_packet bytes = if is_packet (front_of bytes) then front_of bytes ∷ [] else []

-- The packets that stand behind breaks, in their order: at most one behind each.
abbrev pub packets_behind_breaks : List Signal → List (List ℕ)
packets_behind_breaks [] = []
packets_behind_breaks (Break ∷ rest) = first_packet (bytes_before_next rest) ++ packets_behind_breaks rest
packets_behind_breaks (Byte byte ∷ rest) = packets_behind_breaks rest
packets_behind_breaks (Error ∷ rest) = packets_behind_breaks rest

-- what is handed out with each of these signals, which came behind those that were heard
abbrev pub outputs_behind : List Signal → List Signal → List Output
outputs_behind heard [] = []
outputs_behind heard (signal ∷ rest) = output_after (heard ++ signal ∷ []) ∷ outputs_behind (heard ++ signal ∷ []) rest

-- the packets among what is handed out
abbrev pub packets_in : List Output → List (List ℕ)
packets_in [] = []
packets_in (Nothing ∷ outputs) = packets_in outputs
packets_in (Packet bytes ∷ outputs) = bytes ∷ packets_in outputs
packets_in (Level slot value ∷ outputs) = packets_in outputs
