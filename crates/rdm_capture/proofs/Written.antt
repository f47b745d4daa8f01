-- Packets that are written are read back.
use Rattle.std.proofs.Common.{◌≡◌, ℕ, ◌+◌, ◌-◌, ◌*◌, ◌/◌, ◌%◌, ◌^◌, ◌<◌, ◌≤◌, eqb, false, List, [], ◌∷◌, ◌++◌, length, take, drop, Option, Some, None, refl, sym, ap, subst, ◌∙◌, arith, append_assoc, length-append, length-drop}
use Rattle.std.specs.Prelude.{map, replicate}
use Rattle.std.specs.List.{flat_map, AllByRecursion}
use Rattle.std.proofs.lemmas.Bool.{le-ltb}
use Rattle.std.proofs.lemmas.List.{take_at, drop_at, drop-drop, length-replicate}
use Rattle.std.proofs.lemmas.List.Concat.{flat_map-cons}
use Rattle.byteorder.specs.Endian.{little_bytes}
use Rattle.byteorder.specs.Numbers.{little_number-reads_back}
use Rattle.rdm_capture.specs.declared.packet.Direction.{Direction}
use Rattle.rdm_capture.specs.declared.packet.Direction.TheVariants.{Unknown, Inbound, Outbound}
use Rattle.rdm_capture.specs.declared.packet.Format.TheVariants.{Pcapng}
use Rattle.rdm_capture.specs.declared.packet.Link.TheVariants.{UpperPdu}
use Rattle.rdm_capture.specs.declared.packet.Order.TheVariants.{Big, Little}
use Rattle.rdm_capture.specs.declared.packet.Resolution.TheVariants.{Decimal}
use Rattle.rdm_capture.specs.declared.packet.Interface.{Interface}
use Rattle.rdm_capture.specs.Numbers.{number, nanoseconds}
use Rattle.rdm_capture.specs.Packets.{ASection, AnInterface, APacket}
use Rattle.rdm_capture.specs.Carried.{padded_tags, upper_message, message_in}
use Rattle.rdm_capture.specs.Blocks.{captured, padded, option_in, block_size, order_in, resolution_of, interface_in, direction_of, block_at, body_says}
use Rattle.rdm_capture.specs.Captures.{Known, Beginning, known_of, Reads, Ends, Goes, start_of, HasPackets}
use Rattle.rdm_capture.specs.Written.{block, section, interface, header, flags, head_text, tail_text, Sent, packet_body, packet, file, seen_again, Fits}
use Rattle.rdm_capture.proofs.Once.{reads_from}
use Rattle.rdm_capture.proofs.Blocks.{piece_with, size_is, section_is, block_is, enhanced_is}

-- ---- numbers and blocks

pub number_again : (n : ℕ) (rest : List ℕ) → n < 2 ^ 32 → number Little 4 (little_bytes 4 n ++ rest) ≡ n
unfolding number
number_again n rest fits = little_number-reads_back 4 n rest (omega (arith, fits))

-- the end of a block, and what stands in front of it
abbrev size_text : List ℕ → List ℕ
size_text body = little_bytes 4 (12 + length body)

abbrev front : ℕ → List ℕ → List ℕ
front kind body = little_bytes 4 kind ++ size_text body ++ body

length-block : (kind : ℕ) (body rest : List ℕ) → length (block kind body ++ rest) ≡ 12 + length body + length rest
length-block kind body rest = omega (arith, length-append (front kind body ++ size_text body) rest, length-append (front kind body) (size_text body))

size_again : (kind : ℕ) (body rest : List ℕ) → length body % 4 ≡ 0 → length body < 2 ^ 31 → block_size Little (block kind body ++ rest) ≡ Some (12 + length body)
size_again kind body rest multiple fits =
    let long = length-block kind body rest in
    let is : number Little 4 (drop 4 (block kind body ++ rest)) ≡ 12 + length body = number_again (12 + length body) ((body ++ size_text body) ++ rest) (omega (arith, fits)) in
    let parts : block kind body ++ rest ≡ front kind body ++ (size_text body ++ rest) = append_assoc (front kind body) (size_text body) rest in
    let at_end : drop (12 + length body - 4) (front kind body ++ (size_text body ++ rest)) ≡ size_text body ++ rest =
    drop_at (front kind body) (size_text body ++ rest) (12 + length body - 4) (omega arith) in
    let again : number Little 4 (drop (12 + length body - 4) (block kind body ++ rest)) ≡ 12 + length body =
    ap (λ (l : List ℕ). number Little 4 (drop (12 + length body - 4) l)) parts ∙ ap (λ (l : List ℕ). number Little 4 l) at_end ∙ number_again (12 + length body) rest (omega (arith, fits)) in
    size_is Little (block kind body ++ rest) (12 + length body) (omega (arith, long)) is (omega arith) (omega (arith, long)) (omega (arith, multiple)) again

body_again : (kind : ℕ) (body rest : List ℕ) → take (12 + length body - 12) (drop 8 (block kind body ++ rest)) ≡ body
body_again kind body rest =
    ap (λ (l : List ℕ). take (12 + length body - 12) l) (append_assoc body (size_text body) rest) ∙ take_at body (size_text body ++ rest) (12 + length body - 12) (omega arith)

kind_again : (kind : ℕ) (body rest : List ℕ) → kind < 2 ^ 32 → number Little 4 (block kind body ++ rest) ≡ kind
kind_again kind body rest fits = number_again kind (drop 4 (block kind body ++ rest)) fits

-- ---- a packet

-- the interface that is written
abbrev pub written_interface : Interface
written_interface = record { link = UpperPdu; resolution = Decimal 9; most = 0 }

abbrev head : Sent → List ℕ
head p = little_bytes 4 0 ++ little_bytes 4 (p.time / 2 ^ 32) ++ little_bytes 4 (p.time % 2 ^ 32)
    ++ little_bytes 4 (12 + length p.message) ++ little_bytes 4 (12 + length p.message) ++ padded_tags

abbrev zeros : Sent → List ℕ
zeros p = replicate ((length p.message + 3) / 4 * 4 - length p.message) 0

length-zeros : (p : Sent) → length p.message + length (zeros p) ≡ padded (length p.message)
length-zeros p = omega (arith, length-replicate {A = ℕ} ((length p.message + 3) / 4 * 4 - length p.message) 0)

length-body : (p : Sent) → length (packet_body p) ≡ 44 + padded (length p.message)
length-body p =
    omega (arith, length-append (head p ++ p.message ++ zeros p) (flags p.direction), length-append (head p ++ p.message) (zeros p), length-zeros p)

flags_again : (direction : Direction) → direction_of Little (option_in Little 2 (flags direction)) ≡ direction
unfolding direction_of option_in number
flags_again Unknown = refl
flags_again Inbound = refl
flags_again Outbound = refl

time_again : (time : ℕ) → time < 2 ^ 64 → nanoseconds (Decimal 9) (time / 2 ^ 32 * 2 ^ 32 + time % 2 ^ 32) ≡ time
unfolding nanoseconds
time_again time fits = omega (arith, fits)

captured_again : (time : ℕ) (direction : Direction) (message : List ℕ)
    → captured written_interface (Some time) direction (padded_tags ++ message) ≡ APacket (record { time = Some time; direction = direction; message = message })
unfolding captured message_in upper_message
captured_again time direction message = refl

padded_behind : (n : ℕ) → padded (12 + n) ≡ 12 + padded n
padded_behind n = omega arith

enhanced_again : (p : Sent) → Fits p → body_says Little (written_interface ∷ []) 6 (packet_body p) ≡ Some (APacket (seen_again p))
enhanced_again p fits =
    let size = length-body p in
    let small : 12 + length p.message < 2 ^ 32 = omega (arith, fits.message) in
    let long : 20 + (12 + length p.message) ≤ length (packet_body p) = omega (arith, size) in
    let is : number Little 4 (drop 12 (packet_body p)) ≡ 12 + length p.message = number_again (12 + length p.message) (drop 16 (packet_body p)) small in
    let first : number Little 4 (packet_body p) ≡ 0 = number_again 0 (drop 4 (packet_body p)) (omega arith) in
    let upper : number Little 4 (drop 4 (packet_body p)) ≡ p.time / 2 ^ 32 = number_again (p.time / 2 ^ 32) (drop 8 (packet_body p)) (omega (arith, fits.time)) in
    let lower : number Little 4 (drop 8 (packet_body p)) ≡ p.time % 2 ^ 32 = number_again (p.time % 2 ^ 32) (drop 12 (packet_body p)) (omega arith) in
    let rest : drop (20 + padded (12 + length p.message)) (packet_body p) ≡ flags p.direction =
    drop_at (head p ++ p.message ++ zeros p) (flags p.direction) (20 + padded (12 + length p.message))
    (omega (arith, length-append (head p ++ p.message) (zeros p), length-zeros p, padded_behind (length p.message))) in
    let part : take (12 + length p.message) (drop 20 (packet_body p)) ≡ padded_tags ++ p.message =
    ap (λ (l : List ℕ). take (12 + length p.message) (padded_tags ++ l)) (append_assoc p.message (zeros p) (flags p.direction))
    ∙ take_at (padded_tags ++ p.message) (zeros p ++ flags p.direction) (12 + length p.message) (omega arith) in
    enhanced_is written_interface (packet_body p) (flags p.direction) (padded_tags ++ p.message) (12 + length p.message) (p.time / 2 ^ 32) (p.time % 2 ^ 32) long is first upper lower rest part
    ∙ rw (time_again p.time fits.time, flags_again p.direction, captured_again p.time p.direction p.message) refl

length-packet : (p : Sent) → length (packet p) ≡ 12 + length (packet_body p)
unfolding packet
length-packet p = omega (arith, length-append (front 6 (packet_body p)) (size_text (packet_body p)))

-- the pieces in which a packet is written
pub pieces_are : (out : List ℕ) (p : Sent) (size count : ℕ) → size ≡ 56 + padded (length p.message) → count ≡ 12 + length p.message
    → out ++ head_text size p.time count ++ p.message ++ zeros p ++ tail_text size p.direction ≡ out ++ packet p
unfolding packet
pieces_are out p size count is_size is_count =
    let all : size ≡ 12 + length (packet_body p) = omega (arith, is_size, length-body p) in
    let rest : (p.message ++ zeros p) ++ tail_text size p.direction ≡ ((p.message ++ zeros p) ++ flags p.direction) ++ little_bytes 4 size =
    sym (append_assoc (p.message ++ zeros p) (flags p.direction) (little_bytes 4 size)) in
    let one : out ++ head_text size p.time count ++ p.message ++ zeros p ++ tail_text size p.direction ≡ out ++ (head_text size p.time count ++ ((p.message ++ zeros p) ++ tail_text size p.direction)) =
    ap (λ (l : List ℕ). l ++ zeros p ++ tail_text size p.direction) (append_assoc out (head_text size p.time count) p.message)
    ∙ ap (λ (l : List ℕ). l ++ tail_text size p.direction) (append_assoc out (head_text size p.time count ++ p.message) (zeros p))
    ∙ append_assoc out (head_text size p.time count ++ p.message ++ zeros p) (tail_text size p.direction) in
    let two : out ++ (head_text size p.time count ++ ((p.message ++ zeros p) ++ flags p.direction) ++ little_bytes 4 size) ≡ out ++ block 6 (packet_body p) =
    ap (λ (n : ℕ). out ++ (head_text n p.time count ++ ((p.message ++ zeros p) ++ flags p.direction) ++ little_bytes 4 n)) all
    ∙ ap (λ (n : ℕ). out ++ (head_text (12 + length (packet_body p)) p.time n ++ ((p.message ++ zeros p) ++ flags p.direction) ++ little_bytes 4 (12 + length (packet_body p)))) is_count in
    one ∙ ap (λ (l : List ℕ). out ++ (head_text size p.time count ++ l)) rest ∙ two

other_kind : (body rest : List ℕ) → eqb (number Big 4 (block 6 body ++ rest)) 0x0A0D0D0A ≡ false
unfolding number
other_kind body rest = refl

packet_again : (p : Sent) (rest : List ℕ) → Fits p → block_at Little (written_interface ∷ []) (packet p ++ rest) ≡ Some (piece_with (length (packet p)) (APacket (seen_again p)))
unfolding packet
packet_again p rest fits =
    let size = length-body p in
    let whole = size_again 6 (packet_body p) rest (omega (arith, size)) (omega (arith, size, fits.message)) in
    block_is (block 6 (packet_body p) ++ rest) (packet_body p) (12 + length (packet_body p)) 6 (written_interface ∷ []) (APacket (seen_again p))
    (omega (arith, length-block 6 (packet_body p) rest)) (other_kind (packet_body p) rest) whole (kind_again 6 (packet_body p) rest (omega arith)) (body_again 6 (packet_body p) rest) (enhanced_again p fits)
    ∙ ap (λ n. Some (piece_with n (APacket (seen_again p)))) (sym (length-packet p))

-- ---- the header

section_again : (rest : List ℕ) → block_at Little [] (section ++ rest) ≡ Some (piece_with 28 (ASection Little))
unfolding number order_in
section_again rest =
    section_is (section ++ rest) 28 [] Little (omega (arith, length-append section rest)) refl refl
    (size_is Little (section ++ rest) 28 (omega (arith, length-append section rest)) refl (omega arith) (omega (arith, length-append section rest)) refl refl) (omega arith)

interface_says : body_says Little [] 1 (252 ∷ 0 ∷ 0 ∷ 0 ∷ 0 ∷ 0 ∷ 0 ∷ 0 ∷ 9 ∷ 0 ∷ 1 ∷ 0 ∷ 9 ∷ 0 ∷ 0 ∷ 0 ∷ 0 ∷ 0 ∷ 0 ∷ 0 ∷ []) ≡ Some (AnInterface written_interface)
unfolding number interface_in option_in resolution_of
interface_says = refl

interface_again : (rest : List ℕ) → block_at Little [] (interface ++ rest) ≡ Some (piece_with 32 (AnInterface written_interface))
unfolding number
interface_again rest =
    block_is (interface ++ rest) (252 ∷ 0 ∷ 0 ∷ 0 ∷ 0 ∷ 0 ∷ 0 ∷ 0 ∷ 9 ∷ 0 ∷ 1 ∷ 0 ∷ 9 ∷ 0 ∷ 0 ∷ 0 ∷ 0 ∷ 0 ∷ 0 ∷ 0 ∷ []) 32 1 [] (AnInterface written_interface)
    (omega (arith, length-append interface rest)) refl
    (size_is Little (interface ++ rest) 32 (omega (arith, length-append interface rest)) refl (omega arith) (omega (arith, length-append interface rest)) refl refl) refl refl interface_says

-- ---- the packets of a file

abbrev known : List Interface → Known
known interfaces = known_of Pcapng Little interfaces

packets_read : (t : List ℕ) (at : ℕ) (ps : List Sent) → AllByRecursion Fits ps → drop at t ≡ flat_map packet ps → Reads t (known (written_interface ∷ [])) at (map seen_again ps) None
packets_read t at [] fits is = Ends _ _ (omega (arith, length-drop at t, ap (λ (l : List ℕ). length l) is))
packets_read t at (p ∷ ps) fits is =
    let cons : drop at t ≡ packet p ++ flat_map packet ps = is ∙ flat_map-cons packet p ps in
    let more : at < length t = omega (arith, length-drop at t, ap (λ (l : List ℕ). length l) cons, length-append (packet p) (flat_map packet ps), length-packet p) in
    let found : block_at Little (written_interface ∷ []) (drop at t) ≡ Some (piece_with (length (packet p)) (APacket (seen_again p))) =
    ap (λ (l : List ℕ). block_at Little (written_interface ∷ []) l) cons ∙ packet_again p (flat_map packet ps) fits.0 in
    let later : drop (at + length (packet p)) t ≡ flat_map packet ps =
    sym (drop-drop (length (packet p)) at t) ∙ ap (λ (l : List ℕ). drop (length (packet p)) l) cons ∙ drop_at (packet p) (flat_map packet ps) (length (packet p)) refl in
    Goes (known (written_interface ∷ [])) at (piece_with (length (packet p)) (APacket (seen_again p))) (map seen_again ps) None more found
    (packets_read t (at + length (packet p)) ps fits.1 later)

starts : (t : List ℕ) → 24 ≤ length t → number Big 4 t ≡ 0x0A0D0D0A → start_of t ≡ Some (record { known = known []; size = 0 })
unfolding start_of
starts t long is = rw (le-ltb (length t) 24 long, is) refl

kind_is : (rest : List ℕ) → number Big 4 (section ++ rest) ≡ 0x0A0D0D0A
unfolding number
kind_is rest = refl

pub file_again : (ps : List Sent) → AllByRecursion Fits ps → HasPackets (file ps) (map seen_again ps) None
unfolding HasPackets header
file_again ps fits =
    let rest = flat_map packet ps in
    let t = (section ++ interface) ++ rest in
    let long : 60 ≤ length t = omega (arith, length-append (section ++ interface) rest) in
    let last : Reads t (known (written_interface ∷ [])) 60 (map seen_again ps) None = packets_read t 60 ps fits refl in
    let middle : Reads t (known []) 28 (map seen_again ps) None =
    Goes (known []) 28 (piece_with 32 (AnInterface written_interface)) (map seen_again ps) None (omega arith) (interface_again rest) last in
    let whole : Reads t (known []) 0 (map seen_again ps) None =
    Goes (known []) 0 (piece_with 28 (ASection Little)) (map seen_again ps) None (omega arith) (section_again (interface ++ rest)) middle in
    subst (λ (s : Option Beginning). reads_from t s (map seen_again ps) None) (sym (starts t (omega arith) (kind_is (interface ++ rest)))) whole
