-- What a status message marks is what it sends.
use Rattle.std.proofs.Common.{◌≡◌, ℕ, zero, suc, ◌+◌, ◌≤◌, Bool, true, false, cond, List, [], ◌∷◌, ◌++◌, refl, sym, ap, arith}
use Rattle.std.specs.Prelude.{map, not, ◌&&◌}
use Rattle.rdm_frame.specs.declared.status.Entry.{Entry}
use Rattle.rdm_commands.specs.declared.jobs.ask.Ask.{Ask}
use Rattle.rdm_outbox.specs.Account.{Noted}
use Rattle.rdm_outbox.specs.Laws.{newly_shown, OnlyMarks, ShowMarksTheFirst, ShowOnlyMarks, SendsWhatItMarks, StatusEvent, Note, Send, Clear, noted_after, is_marked_at, is_sent_at, times_sent, NoneIsSentTwice}
use Rattle.rdm_outbox.specs.Statuses.{asks_for, cleared, first_asked, most_shown, show, status_message, unshown}

-- ---- what is marked

marks_none : (x : Noted) (ns : List Noted) (s : Bool) → x.shown ≡ s → newly_shown ns ns ≡ [] → newly_shown (x ∷ ns) (x ∷ ns) ≡ []
marks_none x ns true e rest = rw e rest
marks_none x ns false e rest = rw e rest

marks_nothing : (ns : List Noted) → newly_shown ns ns ≡ []
marks_nothing [] = refl
marks_nothing (x ∷ ns) = marks_none x ns x.shown refl (marks_nothing ns)

-- one entry, which was shown or not, and is asked for or not
marks_one : (n : ℕ) (ask : Ask) (x : Noted) (ns : List Noted) (s h : Bool) → x.shown ≡ s → asks_for ask x.entry ≡ h
    → newly_shown ns (show n ask ns) ≡ first_asked n ask (unshown ns) → newly_shown ns (show (suc n) ask ns) ≡ first_asked (suc n) ask (unshown ns)
    → newly_shown (x ∷ ns) (show (suc n) ask (x ∷ ns)) ≡ first_asked (suc n) ask (unshown (x ∷ ns))
marks_one n ask x ns true h s asked here past = rw s past
marks_one n ask x ns false true s asked here past = rw (s, asked) (ap (λ (es : List Entry). x.entry ∷ es) here)
marks_one n ask x ns false false s asked here past = rw (s, asked) past

pub show_marks_the_first : ShowMarksTheFirst
show_marks_the_first zero ask ns = marks_nothing ns
show_marks_the_first (suc n) ask [] = refl
show_marks_the_first (suc n) ask (x ∷ ns) =
    marks_one n ask x ns x.shown (asks_for ask x.entry) refl refl (show_marks_the_first n ask ns) (show_marks_the_first (suc n) ask ns)

pub sends_what_it_marks : SendsWhatItMarks
sends_what_it_marks a ask = ap status_message (sym (show_marks_the_first most_shown ask a.noted))

-- ---- what stays

stays : (ns : List Noted) → OnlyMarks ns ns
stays [] = tt
stays (x ∷ ns) = (refl, λ s. s, stays ns)

stays_one : (n : ℕ) (ask : Ask) (x : Noted) (ns : List Noted) (c : Bool) → OnlyMarks ns (show n ask ns) → OnlyMarks ns (show (suc n) ask ns)
    → OnlyMarks (x ∷ ns) (cond c (record { entry = x.entry; shown = true } ∷ show n ask ns) (x ∷ show (suc n) ask ns))
stays_one n ask x ns true here past = (refl, λ s. refl, here)
stays_one n ask x ns false here past = (refl, λ s. s, past)

pub show_only_marks : ShowOnlyMarks
show_only_marks zero ask ns = stays ns
show_only_marks (suc n) ask [] = tt
show_only_marks (suc n) ask (x ∷ ns) =
    stays_one n ask x ns (not x.shown && asks_for ask x.entry) (show_only_marks n ask ns) (show_only_marks (suc n) ask ns)

-- ---- how often an entry is sent

shown_at : ℕ → List Noted → Bool
shown_at k [] = false
shown_at zero (x ∷ ns) = x.shown
shown_at (suc k) (x ∷ ns) = shown_at k ns

still_shown : (k : ℕ) (before now : List Noted) → OnlyMarks before now → shown_at k before ≡ true → shown_at k now ≡ true
unfolding shown_at
still_shown k [] [] only s = s
still_shown k [] (n ∷ now) only s = absurd only
still_shown k (b ∷ before) [] only s = absurd only
still_shown zero (b ∷ before) (n ∷ now) only s = only.1 s
still_shown (suc k) (b ∷ before) (n ∷ now) only s = still_shown k before now only.2 s

shown_noted : (k : ℕ) (ns : List Noted) (x : Noted) → shown_at k ns ≡ true → shown_at k (ns ++ x ∷ []) ≡ true
unfolding shown_at
shown_noted k [] x s = absurd cc
shown_noted zero (n ∷ ns) x s = s
shown_noted (suc k) (n ∷ ns) x s = shown_noted k ns x s

shown_cleared : (k : ℕ) (ns : List Noted) → shown_at k ns ≡ true → shown_at k (map cleared ns) ≡ true
unfolding shown_at
shown_cleared k [] s = absurd cc
shown_cleared zero (n ∷ ns) s = refl
shown_cleared (suc k) (n ∷ ns) s = shown_cleared k ns s

shown_after : (k : ℕ) (ns : List Noted) (event : StatusEvent) → shown_at k ns ≡ true → shown_at k (noted_after ns event) ≡ true
shown_after k ns (Note entry) s = shown_noted k ns _ s
shown_after k ns (Send ask) s = still_shown k ns (show most_shown ask ns) (show_only_marks most_shown ask ns) s
shown_after k ns Clear s = shown_cleared k ns s

-- what is marked was not shown, and is shown then
marked_parts : (s t : Bool) → (not s && t) ≡ true → (s ≡ false) × (t ≡ true)
marked_parts true t m = absurd cc
marked_parts false t m = (refl, m)

is_marked_then : (k : ℕ) (before now : List Noted) → is_marked_at k before now ≡ true → (shown_at k before ≡ false) × (shown_at k now ≡ true)
unfolding shown_at
is_marked_then zero (b ∷ before) (n ∷ now) m = marked_parts b.shown n.shown m
is_marked_then (suc k) (b ∷ before) (n ∷ now) m = is_marked_then k before now m
is_marked_then zero [] now m = absurd cc
is_marked_then (suc k) [] now m = absurd cc
is_marked_then zero (b ∷ before) [] m = absurd cc
is_marked_then (suc k) (b ∷ before) [] m = absurd cc

is_sent_then : (k : ℕ) (ns : List Noted) (event : StatusEvent) → is_sent_at k ns event ≡ true → (shown_at k ns ≡ false) × (shown_at k (noted_after ns event) ≡ true)
is_sent_then k ns (Note entry) m = absurd cc
is_sent_then k ns (Send ask) m = is_marked_then k ns (show most_shown ask ns) m
is_sent_then k ns Clear m = absurd cc

both_ways : (b : Bool) → b ≡ true → b ≡ false → ⊥
both_ways true e f = cc
both_ways false e f = cc

never : (k : ℕ) (ns : List Noted) (event : StatusEvent) (more : ℕ) (sent : Bool) → is_sent_at k ns event ≡ sent → shown_at k ns ≡ true → more ≡ 0 → cond sent 1 0 + more ≡ 0
never k ns event more true e s none = absurd (both_ways (shown_at k ns) s (is_sent_then k ns event e).0)
never k ns event more false e s none = omega (arith, none)

never_again : (k : ℕ) (ns : List Noted) (events : List StatusEvent) → shown_at k ns ≡ true → times_sent k ns events ≡ 0
never_again k ns [] s = refl
never_again k ns (event ∷ events) s =
    never k ns event (times_sent k (noted_after ns event) events) (is_sent_at k ns event) refl s (never_again k (noted_after ns event) events (shown_after k ns event s))

once : (k : ℕ) (ns : List Noted) (event : StatusEvent) (more : ℕ) (sent : Bool) → is_sent_at k ns event ≡ sent → (shown_at k (noted_after ns event) ≡ true → more ≡ 0) → more ≤ 1 → cond sent 1 0 + more ≤ 1
once k ns event more true e none few = omega (arith, none (is_sent_then k ns event e).1)
once k ns event more false e none few = omega (arith, few)

pub none_is_sent_twice : NoneIsSentTwice
none_is_sent_twice k ns [] = omega arith
none_is_sent_twice k ns (event ∷ events) =
    once k ns event (times_sent k (noted_after ns event) events) (is_sent_at k ns event) refl (never_again k (noted_after ns event) events) (none_is_sent_twice k (noted_after ns event) events)
