-- What C is told of a packet.
use Rattle.std.proofs.Common.{◌≡◌, ◌≤◌, ℕ, List, length, take, refl, sym, ap, subst, ◌∙◌}
use Rattle.rdm_receiver.specs.declared.receiver.Received.{Received}
use Rattle.rdm_receiver.specs.declared.receiver.Received.TheVariants as received
use Rattle.rdm_receiver.specs.declared.signal.Signal.TheVariants.{Byte}
use Rattle.rdm_receiver.specs.Signals.{Output}
use Rattle.rdm_receiver.specs.Signals.Output.{Packet}
use Rattle.rdm_receiver.specs.Receiving.{IsBroughtBy, output_with}
use Rattle.rdm_c.specs.Receivers.{ReceivedTold}

pub packet_told : (r : Received) (count byte : ℕ) (room : List ℕ) (output : Output) → r ≡ received.Packet count → output_with r room ≡ output
    → IsBroughtBy (Byte byte) r room → ReceivedTold 1 count byte room output
packet_told r count byte room output is e brought =
    let size : (count ≤ 257) × (length (take count room) ≡ count) = subst (λ x. IsBroughtBy (Byte byte) x room) is brought in
    let told : Packet (take count room) ≡ output = ap (λ x. output_with x room) (sym is) ∙ e in
    subst (ReceivedTold 1 count byte room) told (refl, sym size.1, refl)
