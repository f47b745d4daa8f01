-- The devices of a line, by their places.
use Rattle.std.proofs.Common.{◌≡◌, ◌≢◌, ℕ, zero, suc, ◌+◌, ◌<◌, Bool, true, false, cond, List, [], ◌∷◌, length, get_or, Option, Some, None, refl, sym, ap, subst, ◌∙◌, inl, inr, arith}
use Rattle.std.specs.Prelude.{◌==◌, All, AllPairs, Contains}
use Rattle.std.specs.List.{slice_get}
use Rattle.std.specs.Option.{option_map_or}
use Rattle.std.proofs.lemmas.Bool.{cases_order}
use Rattle.rdm_frame.specs.declared.uid.Uid.{Uid}
use Rattle.rdm_frame.specs.Addressing.{is_broadcast}
use Rattle.rdm_frame.specs.Faults.{request_heard}
use Rattle.rdm_responder.specs.History.{History}
use Rattle.rdm_bus.specs.declared.event.Event.{Event}
use Rattle.rdm_bus.specs.declared.event.Event.TheVariants.{Bus, Arrived, Changed}
use Rattle.rdm_bus.specs.BusRun.{Start}
use Rattle.rdm_line.specs.Hearing.{hears, heard_by}
use Rattle.rdm_line.specs.Line.{uids_of}
use Rattle.rdm_line.proofs.Unheard.{uid_stays}
use Rattle.rdm_line_ends.specs.LineRun.{IsPaired, IsLine, histories, overheard, own_history, after_own, after_other, line_after_from}

pub same_start : (s t : Start) → Some s ≡ Some t → s ≡ t
same_start s t e = cc

nothing_there : (s : Start) → None ≡ Some s → ⊥
nothing_there s e = cc

-- what holds of each holds of the one at a place
pub at_place : (line : List Start) (i : ℕ) (s : Start) → slice_get line i ≡ Some s → All (λ t. IsPaired t) line → IsPaired s
at_place [] i s e all = absurd (nothing_there s e)
at_place (t ∷ line) zero s e all = subst IsPaired (same_start t s e) (all 0 t (omega arith))
at_place (t ∷ line) (suc i) s e all = at_place line i s e (λ j d lt. all (suc j) d (omega (arith, lt)))

pub among : (line : List Start) (i : ℕ) (s : Start) → slice_get line i ≡ Some s → Contains (histories line) s.history
among [] i s e = absurd (nothing_there s e)
among (t ∷ line) zero s e = (0, omega arith, ap (λ (x : Start). x.history) (same_start t s e))
among (t ∷ line) (suc i) s e = (let rest = among line i s e in (suc rest.0, omega (arith, rest.1), rest.2))

uid_there : (line : List Start) (i : ℕ) (s : Start) (d : Uid) → slice_get line i ≡ Some s → (i < length (uids_of (histories line))) × (get_or (uids_of (histories line)) i d ≡ s.history.setup.uid)
uid_there [] i s d e = absurd (nothing_there s e)
uid_there (t ∷ line) zero s d e = (omega arith, ap (λ (x : Start). x.history.setup.uid) (same_start t s e))
uid_there (t ∷ line) (suc i) s d e = (let rest = uid_there line i s d e in (omega (arith, rest.0), rest.1))

pub two_differ : (line : List Start) (i k : ℕ) (s t : Start) → AllPairs (λ u v. u ≢ v) (uids_of (histories line)) → slice_get line i ≡ Some s → slice_get line k ≡ Some t → (i ≡ k → ⊥) → s.history.setup.uid ≢ t.history.setup.uid
two_differ line i k s t differ at_i at_k apart same =
    let u : Uid = s.history.setup.uid in
    let here = uid_there line i s u at_i in
    let there = uid_there line k t u at_k in
    elim (cases_order i k) [
      | inl e ↦ apart e
      | inr (inl lt) ↦ differ i k u lt there.0 (here.1 ∙ same ∙ sym there.1)
      | inr (inr lt) ↦ differ k i u lt here.0 (there.1 ∙ sym same ∙ sym here.1)
    ]

-- ---- after an event

overheard_uid : (heard : Option (List ℕ)) (h : History) → (option_map_or (λ bytes. heard_by bytes h) heard h).setup.uid ≡ h.setup.uid
overheard_uid None h = refl
overheard_uid (Some bytes) h = uid_stays h bytes (hears h.setup.uid bytes) refl

other_uid : (event : Event) (h : History) → (overheard event h).setup.uid ≡ h.setup.uid
other_uid (Bus sent poll fault reply job heard) h = overheard_uid (request_heard fault sent) h
other_uid (Arrived report message kept) h = refl
other_uid (Changed change message) h = refl

own_uid : (event : Event) (h : History) → (own_history event h).setup.uid ≡ h.setup.uid
own_uid (Bus sent poll fault reply job heard) h = overheard_uid (request_heard fault sent) h
own_uid (Arrived report message kept) h = refl
own_uid (Changed change message) h = refl

abbrev next : Bool → Start → Event → Start
next b s event = cond b (after_own s event) (after_other s event)

next_uid : (b : Bool) (s : Start) (event : Event) → (next b s event).history.setup.uid ≡ s.history.setup.uid
next_uid true s event = own_uid event s.history
next_uid false s event = other_uid event s.history

next_target : (b : Bool) (s : Start) (event : Event) → (next b s event).target ≡ s.target
next_target true s event = refl
next_target false s event = refl

next_paired : (b : Bool) (s : Start) (event : Event) → IsPaired s → IsPaired (next b s event)
next_paired b s event is =
    (next_target b s event ∙ is.0 ∙ sym (next_uid b s event), ap is_broadcast (next_uid b s event) ∙ is.1)

paired_after : (n k : ℕ) (event : Event) (line : List Start) → All (λ s. IsPaired s) line → All (λ s. IsPaired s) (line_after_from n k event line)
paired_after n k event [] all j d lt = absurd (omega (arith, lt))
paired_after n k event (s ∷ line) all zero d lt = next_paired (n == k) s event (all 0 s (omega arith))
paired_after n k event (s ∷ line) all (suc j) d lt = paired_after (suc n) k event line (λ i e l. all (suc i) e (omega (arith, l))) j d (omega (arith, lt))

more_same : (u v : Uid) (us vs : List Uid) → u ≡ v → us ≡ vs → u ∷ us ≡ v ∷ vs
more_same u v us vs e f = rw (e, f) refl

uids_after : (n k : ℕ) (event : Event) (line : List Start) → uids_of (histories (line_after_from n k event line)) ≡ uids_of (histories line)
uids_after n k event [] = refl
uids_after n k event (s ∷ line) = more_same _ _ _ _ (next_uid (n == k) s event) (uids_after (suc n) k event line)

pub line_stays : (k : ℕ) (event : Event) (line : List Start) → IsLine line → IsLine (line_after_from 0 k event line)
line_stays k event line is = record {
  paired = paired_after 0 k event line is.paired;
  differ = subst (λ (us : List Uid). AllPairs (λ u v. u ≢ v) us) (sym (uids_after 0 k event line)) is.differ;
}

pub after_at : (n k i m : ℕ) (event : Event) (line : List Start) (s : Start) → m ≡ n + i → slice_get line i ≡ Some s → slice_get (line_after_from n k event line) i ≡ Some (cond (m == k) (after_own s event) (after_other s event))
after_at n k i m event [] s at e = absurd (nothing_there s e)
after_at n k zero m event (t ∷ line) s at e =
    let here : n ≡ m = omega (arith, at) in
    ap (λ (j : ℕ). Some (next (j == k) t event)) here ∙ ap (λ (x : Start). Some (next (m == k) x event)) (same_start t s e)
after_at n k (suc i) m event (t ∷ line) s at e = after_at (suc n) k i m event line s (omega (arith, at)) e
