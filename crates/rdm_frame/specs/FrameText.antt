-- What the bytes of a frame are. E1.20 section 6.2.
use Rattle.std.specs.Prelude.{◌≡◌, ℕ, ◌+◌, ◌%◌, ◌^◌, ◌<◌, ◌≤◌, List, [], ◌∷◌, ◌++◌, length, take, sum, slice_index, slice_range}
use Rattle.std.specs.Int.{w16, w32, to_be_bytes}
use Rattle.rdm_frame.specs.declared.uid.Uid.{Uid}
use Rattle.rdm_frame.specs.declared.frame.Frame.{Frame}

-- a UID: the manufacturer ID and the device ID, most significant byte first. Sections 6.2.4 and 6.2.5.
abbrev pub uid_slots : Uid → List ℕ
uid_slots u = to_be_bytes w16 u.maker ++ to_be_bytes w32 u.device

-- The slots before the parameter data, in the order of the printed packet: START code, sub-START code, message
-- length, destination, source, transaction number, port ID or response type, message count, sub-device, command
-- class, PID and parameter data length. Sections 6.2.1 to 6.2.10.
unfoldable pub head_slots : Frame → List ℕ
head_slots f =
    0xCC ∷ 0x01 ∷ (24 + length f.body) ∷ [] ++ uid_slots f.dst ++ uid_slots f.src ++ f.tn ∷ f.port ∷ f.count ∷ []
    ++ to_be_bytes w16 f.sub ++ f.class ∷ [] ++ to_be_bytes w16 f.pid ++ length f.body ∷ []

-- slots, and behind them the two of the checksum: their sum modulo 65536. Section 6.2.11.
abbrev pub with_checksum : List ℕ → List ℕ
with_checksum slots = slots ++ to_be_bytes w16 (sum slots % 65536)

-- The text of a frame.
unfoldable pub frame_text : Frame → List ℕ
frame_text f = with_checksum (head_slots f ++ f.body)

-- each number of a UID fits its slots
pub record IsUid (u : Uid) : Type 0 where
  pub maker : u.maker < 2 ^ 16
  pub device : u.device < 2 ^ 32

-- Each number of a frame fits its slots, and there are at most 231 slots of parameter data.
pub record IsFrame (f : Frame) : Type 0 where
  pub dst : IsUid f.dst
  pub src : IsUid f.src
  pub tn : f.tn < 2 ^ 8
  pub port : f.port < 2 ^ 8
  pub count : f.count < 2 ^ 8
  pub sub : f.sub < 2 ^ 16
  pub class : f.class < 2 ^ 8
  pub pid : f.pid < 2 ^ 16
  pub body : length f.body ≤ 231
  pub data_slots : (i : ℕ) → slice_index f.body i < 2 ^ 8

-- The slots of a text, one by one, as the standard prints them: what frame_text says, said again by position.
pub record HasSlots (f : Frame) (text : List ℕ) : Type 0 where
  pub slots : length text ≡ 26 + length f.body
  pub start_code : slice_index text 0 ≡ 0xCC
  pub sub_start_code : slice_index text 1 ≡ 0x01
  pub message_length : slice_index text 2 ≡ 24 + length f.body
  pub destination : slice_range text 3 9 ≡ uid_slots f.dst
  pub source : slice_range text 9 15 ≡ uid_slots f.src
  pub transaction_number : slice_index text 15 ≡ f.tn
  pub port_or_response_type : slice_index text 16 ≡ f.port
  pub message_count : slice_index text 17 ≡ f.count
  pub sub_device : slice_range text 18 20 ≡ to_be_bytes w16 f.sub
  pub command_class : slice_index text 20 ≡ f.class
  pub parameter_id : slice_range text 21 23 ≡ to_be_bytes w16 f.pid
  pub parameter_data_length : slice_index text 23 ≡ length f.body
  pub parameter_data : slice_range text 24 (24 + length f.body) ≡ f.body
  pub checksum :
      slice_range text (24 + length f.body) (26 + length f.body) ≡ to_be_bytes w16 (sum (take (24 + length f.body) text) % 65536)
