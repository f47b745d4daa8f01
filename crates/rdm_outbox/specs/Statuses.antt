-- Status entries, and the status message that shows them. E1.20 section 10.3.2.
use Rattle.std.specs.Prelude.{ℕ, zero, suc, ◌&&◌, Bool, true, false, not, List, [], ◌∷◌, ◌++◌, length, take, map, filter, flat_map, nat_lt, nat_le, if◌then◌else◌}
use Rattle.rdm_frame.specs.declared.message.Message.{Message}
use Rattle.rdm_frame.specs.declared.status.Entry.{Entry}
use Rattle.rdm_frame.specs.Severities.{rank_of, severity_code}
use Rattle.rdm_commands.specs.declared.jobs.ask.Ask.{Ask}
use Rattle.rdm_commands.specs.declared.jobs.ask.Ask.TheVariants.{None, Last, Advisory, Warning, Error}
use Rattle.rdm_params.specs.Device.Values.{word_slots}
use Rattle.rdm_outbox.specs.Account.{Account, Noted}

-- the entries that are still to be shown, in order
abbrev pub unshown : List Noted → List Entry
unshown noted = map (λ n. n.entry) (filter (λ n. not n.shown) noted)

-- whether a further entry is noted: no more are kept that weren't shown than there are places for entries
abbrev pub can_note : Account → Bool
can_note a = nat_lt (length (unshown a.noted)) a.entries

-- the account after an entry was handed in, which is dropped if it can't be noted
abbrev pub after_note : Account → Entry → Account
after_note a entry =
    if can_note a then record a { noted = a.noted ++ record { entry = entry; shown = false } ∷ [] } else a

-- The entries that each status type is for, by rank. Table A-4.
abbrev pub asks_for : Ask → Entry → Bool
asks_for None e = false
asks_for Last e = false
asks_for Advisory e = nat_le 2 (rank_of e.severity)
asks_for Warning e = nat_le 3 (rank_of e.severity)
asks_for Error e = nat_le 4 (rank_of e.severity)

-- the first n entries that are asked for
abbrev pub first_asked : ℕ → Ask → List Entry → List Entry
first_asked n ask entries = take n (filter (asks_for ask) entries)

-- all others
abbrev pub others : ℕ → Ask → List Entry → List Entry
others zero ask es = es
others (suc n) ask [] = []
others (suc n) ask (e ∷ es) = if asks_for ask e then others n ask es else e ∷ others (suc n) ask es

-- noted entries, once the first n that weren't shown and are asked for are shown
abbrev pub show : ℕ → Ask → List Noted → List Noted
show zero ask ns = ns
show (suc n) ask [] = []
show (suc n) ask (x ∷ xs) =
    if not x.shown && asks_for ask x.entry then record { entry = x.entry; shown = true } ∷ show n ask xs
    else x ∷ show (suc n) ask xs

-- the entry, which now counts as shown
abbrev pub cleared : Noted → Noted
cleared n = record n { shown = true }

-- The account after CLEAR_STATUS_ID: every entry that was noted so far counts as shown. Section 10.3.4.
abbrev pub after_clear : Account → Account
after_clear a = record a { noted = map cleared a.noted }

-- The nine slots of an entry: sub-device, status type, status ID and two values.
abbrev pub entry_slots : Entry → List ℕ
entry_slots e = word_slots e.sub ++ severity_code e.severity ∷ [] ++ word_slots e.id ++ word_slots e.v1 ++ word_slots e.v2

-- the status message that shows these entries
abbrev pub status_message : List Entry → Message
status_message entries = record { class = 0x21; pid = 0x0030; sub = 0; body = flat_map entry_slots entries }

-- how many entries the slots of one message hold
abbrev pub most_shown : ℕ
most_shown = 25

-- the status message that a status type asks for, and the account after it was given
abbrev pub status_now : Account → Ask → Message
status_now a ask = status_message (first_asked most_shown ask (unshown a.noted))

abbrev pub after_status_now : Account → Ask → Account
after_status_now a ask = record a { noted = show most_shown ask a.noted; answers = a.answers ++ status_now a ask ∷ [] }
