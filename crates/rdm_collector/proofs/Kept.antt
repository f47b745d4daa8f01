-- What stays true of a record while a collector polls, whatever happens: u says that the last poll is unanswered, m is the
-- device's last answer, d was dispensed, r was recorded and g left the queue. Between two polls it is enough that what was
-- recorded is what was dispensed, or, where the last poll is unanswered, lacks the last answer at its end; and the same of
-- what left the queue.
use Rattle.std.proofs.Common.{◌≡◌, ◌≤◌, Bool, true, false, ◌⊎◌, List, [], ◌∷◌, ◌++◌, length, refl, sym, ap, ◌∙◌, arith, inl, inr}
use Rattle.std.proofs.lemmas.Bool.{cases_Bool}
use Rattle.std.proofs.lemmas.List.{append-nil}
use Rattle.rdm_frame.specs.declared.message.Message.{Message}
use Rattle.rdm_collector.specs.Recording.{ends_with, and_then, join, but_last, IsSubsequence, PrefixLaw, NoLossLaw}
use Rattle.rdm_collector.specs.Recording.IsSubsequence.{Nothing}
use Rattle.rdm_collector.proofs.Joining.{and_then_old, and_then_new, and_then-and_then, join-nil, join-push, subsequence-then, subsequence-same, but_last-push, subsequence-but_last}

pub record Kept (u : Bool) (m : Message) (d r g : List Message) : Type 0 where
  pub level : u ≡ false → join r ≡ join d
  pub behind : (join r ≡ join d) ⊎ (and_then (join r) m ≡ join d)
  pub all : u ≡ false → IsSubsequence (join g) (join r)
  pub but_one : IsSubsequence (join g) (join r) ⊎ ((h : List Message) × (and_then (join h) m ≡ join g) × IsSubsequence (join h) (join r))

-- nothing happened yet
pub Kept-before : (u : Bool) (m : Message) → Kept u m [] [] []
Kept-before u m =
    let none : IsSubsequence (join []) (join []) = rw join-nil (Nothing []) in
    record { level = λ _. refl; behind = inl refl; all = λ _. none; but_one = inl none }

-- a poll that the device doesn't hear
pub Kept-unheard : (u : Bool) (m : Message) (d r g : List Message) → Kept u m d r g → Kept true m d r g
Kept-unheard u m d r g k = record { level = λ e. absurd cc; behind = k.behind; all = λ e. absurd cc; but_one = k.but_one }

-- the last answer is dispensed again, which leaves a record that is one behind one behind
behind_again : (m : Message) (d r : List Message) → (join r ≡ join d) ⊎ (and_then (join r) m ≡ join d) → and_then (join r) m ≡ join (d ++ m ∷ [])
behind_again m d r (inl e) = ap (λ js. and_then js m) e ∙ sym (join-push d m)
behind_again m d r (inr e) = sym (and_then-and_then (join r) m) ∙ ap (λ js. and_then js m) e ∙ sym (join-push d m)

-- .. and isn't recorded
pub Kept-again_unrecorded : (u : Bool) (m : Message) (d r g : List Message) → Kept u m d r g → Kept true m (d ++ m ∷ []) r g
Kept-again_unrecorded u m d r g k =
    record { level = λ e. absurd cc; behind = inr (behind_again m d r k.behind); all = λ e. absurd cc; but_one = k.but_one }

caught_up : (m : Message) (r g : List Message) → IsSubsequence (join g) (join r) ⊎ ((h : List Message) × (and_then (join h) m ≡ join g) × IsSubsequence (join h) (join r)) → IsSubsequence (join g) (join (r ++ m ∷ []))
caught_up m r g (inl s) = rw (join-push r m) (subsequence-then (join g) (join r) m s)
caught_up m r g (inr k) = rw (join-push r m, ← k.1) (subsequence-same (join k.0) (join r) m k.2)

-- .. and is recorded
pub Kept-again : (u : Bool) (m : Message) (d r g : List Message) → Kept u m d r g → Kept false m (d ++ m ∷ []) (r ++ m ∷ []) g
Kept-again u m d r g k =
    let level : join (r ++ m ∷ []) ≡ join (d ++ m ∷ []) = join-push r m ∙ behind_again m d r k.behind in
    let all : IsSubsequence (join g) (join (r ++ m ∷ [])) = caught_up m r g k.but_one in
    record { level = λ _. level; behind = inl level; all = λ _. all; but_one = inl all }

-- a new answer that doesn't come from the queue, unrecorded and recorded
pub Kept-status_unrecorded : (l m : Message) (d r g : List Message) → Kept false l d r g → Kept true m (d ++ m ∷ []) r g
Kept-status_unrecorded l m d r g k =
    record { level = λ e. absurd cc; behind = inr (behind_again m d r (inl (k.level refl))); all = λ e. absurd cc; but_one = inl (k.all refl) }

pub Kept-status : (l m : Message) (d r g : List Message) → Kept false l d r g → Kept false m (d ++ m ∷ []) (r ++ m ∷ []) g
Kept-status l m d r g k =
    let level : join (r ++ m ∷ []) ≡ join (d ++ m ∷ []) = join-push r m ∙ behind_again m d r (inl (k.level refl)) in
    let all : IsSubsequence (join g) (join (r ++ m ∷ [])) = caught_up m r g (inl (k.all refl)) in
    record { level = λ _. level; behind = inl level; all = λ _. all; but_one = inl all }

-- a new answer that leaves the queue, unrecorded and recorded
pub Kept-given_unrecorded : (l m : Message) (d r g : List Message) → Kept false l d r g → Kept true m (d ++ m ∷ []) r (g ++ m ∷ [])
Kept-given_unrecorded l m d r g k =
    record { level = λ e. absurd cc; behind = inr (behind_again m d r (inl (k.level refl))); all = λ e. absurd cc; but_one = inr (g, sym (join-push g m), k.all refl) }

pub Kept-given : (l m : Message) (d r g : List Message) → Kept false l d r g → Kept false m (d ++ m ∷ []) (r ++ m ∷ []) (g ++ m ∷ [])
Kept-given l m d r g k =
    let level : join (r ++ m ∷ []) ≡ join (d ++ m ∷ []) = join-push r m ∙ behind_again m d r (inl (k.level refl)) in
    let all : IsSubsequence (join (g ++ m ∷ [])) (join (r ++ m ∷ [])) = rw (join-push g m, join-push r m) (subsequence-same (join g) (join r) m (k.all refl)) in
    record { level = λ _. level; behind = inl level; all = λ _. all; but_one = inl all }

-- ---- the laws

one_behind : (m : Message) (js ks : List Message) → (js ≡ ks) ⊎ (and_then js m ≡ ks) → (rest : List Message) × (js ++ rest ≡ ks) × (length rest ≤ 1)
one_behind m js ks (inl e) = ([], append-nil js ∙ e, omega arith)
one_behind m js ks (inr e) =
    elim (cases_Bool (ends_with js m)) [
      | inl old ↦ ([], append-nil js ∙ sym (and_then_old js m old) ∙ e, omega arith)
      | inr new ↦ (m ∷ [], sym (and_then_new js m new) ∙ e, omega arith)
    ]

pub Kept-prefix : (u : Bool) (m : Message) (d r g : List Message) → Kept u m d r g → PrefixLaw u d r
Kept-prefix u m d r g k =
    let short = one_behind m (join r) (join d) k.behind in
    record { rest = short.0; prefix = short.1; at_most_one = short.2; equal = k.level }

all_but_one : (m : Message) (g r : List Message) → IsSubsequence (join g) (join r) ⊎ ((h : List Message) × (and_then (join h) m ≡ join g) × IsSubsequence (join h) (join r)) → IsSubsequence (but_last (join g)) (join r)
all_but_one m g r (inl s) = subsequence-but_last (join g) (join r) s
all_but_one m g r (inr k) =
    elim (cases_Bool (ends_with (join k.0) m)) [
      | inl old ↦ rw (← k.1, and_then_old (join k.0) m old) (subsequence-but_last (join k.0) (join r) k.2)
      | inr new ↦ rw (← k.1, and_then_new (join k.0) m new, but_last-push (join k.0) m) k.2
    ]

pub Kept-no_loss : (u : Bool) (m : Message) (d r g : List Message) → Kept u m d r g → NoLossLaw u g r
Kept-no_loss u m d r g k = record { all = k.all; but_one = λ _. all_but_one m g r k.but_one }
