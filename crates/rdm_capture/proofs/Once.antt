-- A capture reads in one way.
use Rattle.std.proofs.Common.{◌≡◌, ℕ, ◌+◌, List, [], Option, Some, None, refl, sym, ap, subst, ◌∙◌, arith}
use Rattle.rdm_capture.specs.Packets.{Seen, Piece}
use Rattle.rdm_capture.specs.Captures.{Known, Reads, Ends, Stops, Goes, after, with_packet, start_of, HasPackets, Beginning}

pub record Same (packets others : List Seen) (fault another : Option ℕ) : Type 0 where
  pub packets_same : packets ≡ others
  pub fault_same : fault ≡ another

abbrev found : Piece → Option Piece
found p = Some p

same_piece : (p q : Piece) (r : Option Piece) → r ≡ Some p → r ≡ Some q → p ≡ q
same_piece p q r e f = let h : found p ≡ found q = sym e ∙ f in cc

none_found : (p : Piece) (r : Option Piece) → r ≡ None → r ≡ Some p → ⊥
none_found p r e f = let h : None ≡ found p = sym e ∙ f in cc

-- what goes on behind one piece goes on behind the same piece
carried_on : (t : List ℕ) (known : Known) (at : ℕ) (p q : Piece) (packets : List Seen) (fault : Option ℕ) → q ≡ p
    → Reads t (after known q.says) (at + q.size) packets fault → Reads t (after known p.says) (at + p.size) packets fault
carried_on t known at p q packets fault e r = subst (λ (x : Piece). Reads t (after known x.says) (at + x.size) packets fault) e r

pub reads_once : (t : List ℕ) (known : Known) (at : ℕ) (packets others : List Seen) (fault another : Option ℕ)
    → Reads t known at packets fault → Reads t known at others another → Same packets others fault another
reads_once t known at packets others fault another (Ends _ _ end) (Ends _ _ other) = record { packets_same = refl; fault_same = refl }
reads_once t known at packets others fault another (Ends _ _ end) (Stops _ _ more none) = absurd (omega (arith, end, more))
reads_once t known at packets others fault another (Ends _ _ end) (Goes _ _ q qs g more is rest) = absurd (omega (arith, end, more))
reads_once t known at packets others fault another (Stops _ _ more none) (Ends _ _ end) = absurd (omega (arith, end, more))
reads_once t known at packets others fault another (Stops _ _ more none) (Stops _ _ more2 none2) = record { packets_same = refl; fault_same = refl }
reads_once t known at packets others fault another (Stops _ _ more none) (Goes _ _ q qs g more2 is rest) = absurd (none_found q _ none is)
reads_once t known at packets others fault another (Goes _ _ p ps f more is rest) (Ends _ _ end) = absurd (omega (arith, end, more))
reads_once t known at packets others fault another (Goes _ _ p ps f more is rest) (Stops _ _ more2 none) = absurd (none_found p _ none is)
reads_once t known at packets others fault another (Goes _ _ p ps f more is rest) (Goes _ _ q qs g more2 is2 rest2) =
    let same : q ≡ p = same_piece q p _ is2 is in
    let later = reads_once t (after known p.says) (at + p.size) ps qs f g rest (carried_on t known at p q qs g same rest2) in
    record {
      packets_same = ap (with_packet p.says) later.packets_same ∙ ap (λ (x : Piece). with_packet x.says qs) (sym same);
      fault_same = later.fault_same;
    }

abbrev pub reads_from : List ℕ → Option Beginning → List Seen → Option ℕ → Type 0
reads_from t start packets fault = elim start [
  | Some start ↦ Reads t start.known start.size packets fault
  | None ↦ (packets ≡ []) × (fault ≡ Some 0)
]

from_once : (t : List ℕ) (start : Option Beginning) (packets others : List Seen) (fault another : Option ℕ)
    → reads_from t start packets fault → reads_from t start others another → Same packets others fault another
from_once t (Some start) packets others fault another r s = reads_once t start.known start.size packets others fault another r s
from_once t None packets others fault another r s = record { packets_same = r.0 ∙ sym s.0; fault_same = r.1 ∙ sym s.1 }

pub has_once : (t : List ℕ) (packets others : List Seen) (fault another : Option ℕ)
    → HasPackets t packets fault → HasPackets t others another → (packets ≡ others) × (fault ≡ another)
unfolding HasPackets
has_once t packets others fault another r s =
    let same = from_once t (start_of t) packets others fault another r s in (same.packets_same, same.fault_same)
