-- What STATUS_MESSAGES sends and what it marks as shown. E1.20 section 10.3.2.
use Rattle.std.specs.Prelude.{◌≡◌, ℕ, zero, suc, ◌+◌, ◌≤◌, ◌&&◌, Bool, true, false, not, List, [], ◌∷◌, ◌++◌, map, if◌then◌else◌}
use Rattle.rdm_frame.specs.declared.status.Entry.{Entry}
use Rattle.rdm_commands.specs.declared.jobs.ask.Ask.{Ask}
use Rattle.rdm_outbox.specs.Account.{Account, Noted}
use Rattle.rdm_outbox.specs.Statuses.{cleared, first_asked, most_shown, show, status_message, status_now, after_status_now, unshown}

-- whether an entry that wasn't shown before is shown now
abbrev pub is_marked : Noted → Noted → Bool
is_marked before now = not before.shown && now.shown

-- the entries of which this is so, place by place, in order
abbrev pub newly_shown : List Noted → List Noted → List Entry
newly_shown (b ∷ before) (n ∷ now) = if is_marked b n then n.entry ∷ newly_shown before now else newly_shown before now
newly_shown _ _ = []

-- The same entries at the same places, and what was shown is still shown. Nothing else can have changed.
abbrev pub OnlyMarks : List Noted → List Noted → Type 0
OnlyMarks [] [] = Unit {0}
OnlyMarks (b ∷ before) (n ∷ now) = (n.entry ≡ b.entry) × (b.shown ≡ true → n.shown ≡ true) × OnlyMarks before now
OnlyMarks _ _ = ⊥

-- What is marked as shown are the first n entries that are asked for and weren't shown, in order. All else stays.
abbrev pub ShowMarksTheFirst : Type 0
ShowMarksTheFirst = (n : ℕ) (ask : Ask) (noted : List Noted) → newly_shown noted (show n ask noted) ≡ first_asked n ask (unshown noted)

abbrev pub ShowOnlyMarks : Type 0
ShowOnlyMarks = (n : ℕ) (ask : Ask) (noted : List Noted) → OnlyMarks noted (show n ask noted)

-- So a status message has the entries that it marks, and no others.
abbrev pub SendsWhatItMarks : Type 0
SendsWhatItMarks =
    (a : Account) (ask : Ask) → status_now a ask ≡ status_message (newly_shown a.noted (after_status_now a ask).noted)

-- What happens to the status entries: one is noted, a status message is asked for, or CLEAR_STATUS_ID comes.
pub data StatusEvent : Type 0 where
  Note : Entry → StatusEvent
  Send : Ask → StatusEvent
  Clear : StatusEvent

abbrev pub noted_after : List Noted → StatusEvent → List Noted
noted_after noted (Note entry) = noted ++ record { entry = entry; shown = false } ∷ []
noted_after noted (Send ask) = show most_shown ask noted
noted_after noted Clear = map cleared noted

-- whether the entry at place k is newly shown
abbrev pub is_marked_at : ℕ → List Noted → List Noted → Bool
is_marked_at zero (b ∷ before) (n ∷ now) = is_marked b n
is_marked_at (suc k) (b ∷ before) (n ∷ now) = is_marked_at k before now
is_marked_at _ _ _ = false

-- whether the entry at place k is sent: a status message marks it as shown
abbrev pub is_sent_at : ℕ → List Noted → StatusEvent → Bool
is_sent_at k noted (Send ask) = is_marked_at k noted (show most_shown ask noted)
is_sent_at k noted _ = false

-- how often the entry that is the k-th to be noted is sent, in these events
abbrev pub times_sent : ℕ → List Noted → List StatusEvent → ℕ
times_sent k noted [] = 0
times_sent k noted (event ∷ events) = (if is_sent_at k noted event then 1 else 0) + times_sent k (noted_after noted event) events

-- No entry is sent twice, whatever is noted, asked for and cleared.
abbrev pub NoneIsSentTwice : Type 0
NoneIsSentTwice = (k : ℕ) (noted : List Noted) (events : List StatusEvent) → times_sent k noted events ≤ 1
