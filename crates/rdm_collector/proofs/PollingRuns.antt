-- Both laws hold of every run of polls.
use Rattle.std.proofs.Common.{◌≡◌, ◌+◌, ◌<◌, ◌≤◌, min, Bool, true, false, not, List, [], ◌∷◌, ◌++◌, length, take, drop, get_or, Option, Some, None, refl, sym, ap, subst, ◌∙◌, arith, inl, inr, append_assoc, length-append, length-take}
use Rattle.std.specs.Prelude.{slice_get, IfSome}
use Rattle.std.specs.List.{fold}
use Rattle.std.proofs.lemmas.Bool.{cases_lt}
use Rattle.std.proofs.lemmas.List.{append-nil, drop_all, take_more, take_all, take-append-le, drop-append-le}
use Rattle.std.proofs.lemmas.Option.{slice_get-get_or}
use Rattle.rdm_frame.specs.declared.message.Message.{Message}
use Rattle.rdm_collector.specs.Polling.{Queue, Event, IsNext, IsReply, IsRun, after, unanswered_after, dispensed, dispensed_by, recorded, recorded_by, given_between, LawsHold}
use Rattle.rdm_collector.specs.Polling.Event.{Arrived, Replaced, Polled}
use Rattle.rdm_collector.proofs.Kept.{Kept, Kept-before, Kept-unheard, Kept-again_unrecorded, Kept-again, Kept-status_unrecorded, Kept-status, Kept-given_unrecorded, Kept-given, Kept-prefix, Kept-no_loss}

-- the queue may have come from this start
record IsPast (start q : Queue) : Type 0 where
  pub since : start.given ≤ q.given
  pub within : q.given ≤ length q.arrived

-- ---- what left the queue, after each event

-- a message that enters the queue hasn't left it
given-arrived : (start q : Queue) (m : Message) → IsPast start q → given_between start (after q (Arrived m)) ≡ given_between start q
given-arrived start q m past = let within : q.given ≤ length q.arrived = past.within in ap (drop start.given) (take-append-le q.given q.arrived (m ∷ []) within)

-- nor have those that are replaced, nor those that take their place
given-replaced : (start q : Queue) (waiting : List Message) → IsPast start q → given_between start (after q (Replaced waiting)) ≡ given_between start q
given-replaced start q waiting past =
    let front : q.given ≤ length (take q.given q.arrived) = omega (arith, past.within, length-take q.given q.arrived) in
    ap (drop start.given) (take-append-le q.given (take q.given q.arrived) waiting front ∙ take_all q.given (take q.given q.arrived) (omega (arith, length-take q.given q.arrived)))

-- the first message that waits leaves the queue
given-next : (start q : Queue) (m : Message) → IsPast start q → q.given < length q.arrived → IfSome (slice_get q.arrived q.given) (λ next. m ≡ next) → drop start.given (take (min (q.given + 1) (length q.arrived)) q.arrived) ≡ given_between start q ++ m ∷ []
given-next start q m past lt next =
    let one_more : min (q.given + 1) (length q.arrived) ≡ q.given + 1 = omega arith in
    let since : start.given ≤ length (take q.given q.arrived) = omega (arith, past.since, length-take q.given q.arrived) in
    let is_next : m ≡ get_or q.arrived q.given m = rw (slice_get-get_or q.arrived q.given m lt) at next in
    rw (one_more, take_more q.arrived q.given m lt, ← is_next, drop-append-le start.given (take q.given q.arrived) (m ∷ []) since) refl

-- where none waits, none leaves
given-none : (start q : Queue) → IsPast start q → length q.arrived ≤ q.given → drop start.given (take (min (q.given + 1) (length q.arrived)) q.arrived) ≡ given_between start q
given-none start q past none =
    let all : min (q.given + 1) (length q.arrived) ≡ length q.arrived = omega arith in
    rw all (ap (drop start.given) (take_all (length q.arrived) q.arrived (omega arith) ∙ sym (take_all q.given q.arrived none)))

-- ---- each event

abbrev KeptAfter : Queue → Queue → Bool → List Message → List Message → Event → Type 0
KeptAfter start q u d r e =
    IsPast start (after q e) × Kept (unanswered_after u e) (after q e).last (d ++ dispensed_by e) (r ++ recorded_by e) (given_between start (after q e))

-- a message that leaves the queue, and a status message
Kept-next : (heard : Bool) (l m : Message) (d r g : List Message) → Kept false l d r g → Kept (not heard) m (d ++ m ∷ []) (r ++ recorded_by (Polled false (Some m) heard)) (g ++ m ∷ [])
Kept-next true l m d r g k = Kept-given l m d r g k
Kept-next false l m d r g k = rw (append-nil r) (Kept-given_unrecorded l m d r g k)

Kept-none : (heard : Bool) (l m : Message) (d r g : List Message) → Kept false l d r g → Kept (not heard) m (d ++ m ∷ []) (r ++ recorded_by (Polled false (Some m) heard)) g
Kept-none true l m d r g k = Kept-status l m d r g k
Kept-none false l m d r g k = rw (append-nil r) (Kept-status_unrecorded l m d r g k)

-- a new answer
fresh : (start q : Queue) (d r : List Message) (m : Message) (heard : Bool) → IsPast start q → Kept false q.last d r (given_between start q) → IfSome (slice_get q.arrived q.given) (λ next. m ≡ next) → KeptAfter start q false d r (Polled false (Some m) heard)
fresh start q d r m heard past k next =
    let past' : IsPast start (after q (Polled false (Some m) heard)) = record { since = omega (arith, past.since, past.within); within = omega arith } in
    elim (cases_lt q.given (length q.arrived)) [
      | inl lt ↦ (past', rw (given-next start q m past lt next) (Kept-next heard q.last m d r (given_between start q) k))
      | inr none ↦ (past', rw (given-none start q past none) (Kept-none heard q.last m d r (given_between start q) k))
    ]

polled : (start q : Queue) (again : Bool) (reply : Option Message) (heard : Bool) (d r : List Message) → IsPast start q → Kept again q.last d r (given_between start q) → IsReply q again reply heard → KeptAfter start q again d r (Polled again reply heard)
polled start q again None true d r past k h = absurd cc
polled start q again None false d r past k h = (past, rw (append-nil d, append-nil r) (Kept-unheard again q.last d r _ k))
polled start q true (Some m) true d r past k h = (past, rw h (Kept-again true q.last d r _ k))
polled start q true (Some m) false d r past k h = (past, rw (h, append-nil r) (Kept-again_unrecorded true q.last d r _ k))
polled start q false (Some m) heard d r past k h = fresh start q d r m heard past k h

next : (start q : Queue) (u : Bool) (d r : List Message) (e : Event) → IsPast start q → Kept u q.last d r (given_between start q) → IsNext q u e → KeptAfter start q u d r e
next start q u d r (Arrived m) past k h =
    (record { since = past.since; within = omega (arith, past.within, length-append q.arrived (m ∷ [])) }, rw (append-nil d, append-nil r, given-arrived start q m past) k)
next start q u d r (Replaced waiting) past k h =
    let behind : q.given ≤ length (take q.given q.arrived ++ waiting) = omega (arith, past.within, length-take q.given q.arrived, length-append (take q.given q.arrived) waiting) in
    (record { since = past.since; within = behind }, rw (append-nil d, append-nil r, given-replaced start q waiting past) k)
next start q u d r (Polled again reply heard) past k h =
    let P : Bool → Type 0 = λ v. Kept v q.last d r (given_between start q) in
    polled start q again reply heard d r past (subst P (sym h.0) k) h.1

-- ---- all events

ran : (start q : Queue) (u : Bool) (d r : List Message) (es : List Event) → IsPast start q → Kept u q.last d r (given_between start q) → IsRun q u es → Kept (fold unanswered_after u es) (fold after q es).last (d ++ dispensed es) (r ++ recorded es) (given_between start (fold after q es))
ran start q u d r [] past k run = rw (append-nil d, append-nil r) k
ran start q u d r (e ∷ es) past k run =
    let one = next start q u d r e past k run.0 in
    rw (← append_assoc d (dispensed_by e) (dispensed es), ← append_assoc r (recorded_by e) (recorded es)) (ran start (after q e) (unanswered_after u e) (d ++ dispensed_by e) (r ++ recorded_by e) es one.0 one.1 run.1)

nothing_given : (q : Queue) → given_between q q ≡ []
nothing_given q = drop_all q.given (take q.given q.arrived) (omega (arith, length-take q.given q.arrived))

pub laws_hold : LawsHold
laws_hold start u es within run =
    let P : List Message → Type 0 = λ g. Kept u start.last [] [] g in
    let k = ran start start u [] [] es (record { since = omega arith; within = within }) (subst P (sym (nothing_given start)) (Kept-before u start.last)) run in
    record { prefix = Kept-prefix _ _ _ _ _ k; no_loss = Kept-no_loss _ _ _ _ _ k }
