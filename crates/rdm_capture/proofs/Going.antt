-- How far a capture is read.
use Rattle.std.proofs.Common.{◌≡◌, ℕ, ◌+◌, ◌<◌, ◌≤◌, List, [], ◌++◌, length, drop, Option, Some, None, refl, sym, ap, subst, ◌∙◌, append_assoc, append-nil}
use Rattle.rdm_capture.specs.Packets.{Seen, Told, ASection, AnInterface, APacket, Nothing}
use Rattle.rdm_capture.specs.Captures.{Known, Reads, Ends, Stops, Goes, after, with_packet, piece_at}

-- Reading has come to a byte, with what is known there and these packets: what goes on from there are the packets of the whole.
pub record Going (t : List ℕ) (first : Known) (from : ℕ) (known : Known) (at : ℕ) (done : List Seen) : Type 0 where
  pub goes : (more : List Seen) (fault : Option ℕ) → Reads t known at more fault → Reads t first from (done ++ more) fault

pub going_first : (t : List ℕ) (first known : Known) (from : ℕ) (done : List Seen) → known ≡ first → done ≡ [] → Going t first from known from done
going_first t first known from done is none = record {
  goes = λ more fault r.
      let here : Reads t first from more fault = subst (λ (k : Known). Reads t k from more fault) is r in
      subst (λ (l : List Seen). Reads t first from (l ++ more) fault) (sym none) here;
}

with_packet-append : (says : Told) (more : List Seen) → with_packet says more ≡ with_packet says [] ++ more
with_packet-append (ASection order) more = refl
with_packet-append (AnInterface interface) more = refl
with_packet-append (APacket packet) more = refl
with_packet-append Nothing more = refl

pub going_on : (t : List ℕ) (first known next : Known) (from at size : ℕ) (says : Told) (done later : List Seen) → Going t first from known at done → at < length t
    → piece_at known (drop at t) ≡ Some (record { size = size; says = says }) → next ≡ after known says → later ≡ done ++ with_packet says []
    → Going t first from next (at + size) later
going_on t first known next from at size says done later so_far more_bytes found learned packets = record {
  goes = λ more fault r.
      let here : Reads t (after known says) (at + size) more fault = subst (λ (k : Known). Reads t k (at + size) more fault) learned r in
      let back : Reads t known at (with_packet says more) fault = Goes known at (record { size = size; says = says }) more fault more_bytes found here in
      let all : done ++ with_packet says more ≡ later ++ more =
      ap (λ (l : List Seen). done ++ l) (with_packet-append says more) ∙ sym (append_assoc done (with_packet says []) more) ∙ ap (λ (l : List Seen). l ++ more) (sym packets) in
      subst (λ (l : List Seen). Reads t first from l fault) all (so_far.goes (with_packet says more) fault back);
}

pub going_ends : (t : List ℕ) (first known : Known) (from at : ℕ) (done : List Seen) → Going t first from known at done → length t ≤ at → Reads t first from done None
going_ends t first known from at done so_far end = subst (λ (l : List Seen). Reads t first from l None) (append-nil done) (so_far.goes [] None (Ends known at end))

pub going_stops : (t : List ℕ) (first known : Known) (from at : ℕ) (done : List Seen) → Going t first from known at done → at < length t
    → piece_at known (drop at t) ≡ None → Reads t first from done (Some at)
going_stops t first known from at done so_far more none =
    subst (λ (l : List Seen). Reads t first from l (Some at)) (append-nil done) (so_far.goes [] (Some at) (Stops known at more none))
