-- Which packets of RDM and which levels of DMX512 stand among the signals of a UART. E1.20 sections 6.2.1 to 6.2.3 and 6.2.11.
use Rattle.std.specs.Prelude.{◌≡◌, ℕ, ◌+◌, ◌-◌, Bool, nat_le, ◌==◌, ◌&&◌, List, [], ◌∷◌, ◌++◌, length, map, fold, slice_index, Option, Some, None, if◌then◌else◌}
use Rattle.std.specs.Option.{option_map}
use Rattle.rdm_receiver.specs.declared.signal.Signal.{Signal}
use Rattle.rdm_receiver.specs.declared.signal.Signal.TheVariants.{Break, Byte, Error}

-- ---- which bytes count

-- A signal more: a break begins anew; an error spoils what stands before the next break.
abbrev pub then_signal : Option (List ℕ) → Signal → Option (List ℕ)
then_signal bytes Break = Some []
then_signal bytes (Byte byte) = option_map (λ l. l ++ byte ∷ []) bytes
then_signal bytes Error = None

-- All bytes that came since the last break; or that none count, since there was no break yet, or an error came behind it.
unfoldable pub since_break : List Signal → Option (List ℕ)
since_break signals = fold then_signal None signals

-- ---- what they are

-- They are a packet of RDM: START code CC, sub-START code 01, a message length of at least 24, and as many bytes as that says, with
-- the two of the checksum.
abbrev pub is_packet : List ℕ → Bool
is_packet bytes = (slice_index bytes 0 == 0xCC) && ((slice_index bytes 1 == 0x01)
    && (nat_le 24 (slice_index bytes 2) && (length bytes == slice_index bytes 2 + 2)))

-- The last of them is a level of DMX512: they are START code 00 and 1 to 512 levels.
abbrev pub ends_in_level : List ℕ → Bool
ends_in_level bytes = nat_le 2 (length bytes) && (nat_le (length bytes) 513 && (slice_index bytes 0 == 0x00))

-- ---- what is handed out

-- Nothing; a packet, with all its bytes; or a level: which slot it is of, from 1, and its value.
pub data Output : Type 0 where
  Nothing : Output
  Packet : List ℕ → Output
  Level : ℕ → ℕ → Output

abbrev pub output_of : List ℕ → Output
output_of bytes = if is_packet bytes then Packet bytes
    else (if ends_in_level bytes then Level (length bytes - 1) (slice_index bytes (length bytes - 1)) else Nothing)

abbrev pub output_since : Option (List ℕ) → Output
output_since None = Nothing
output_since (Some bytes) = output_of bytes

-- what is handed out with the last of these signals: a packet exactly if the bytes since the break are one, with nothing behind it
abbrev pub output_after : List Signal → Output
output_after signals = output_since (since_break (signals))
