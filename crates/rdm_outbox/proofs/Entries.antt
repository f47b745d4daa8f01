-- Entries that are shown, one after another.
use Rattle.std.proofs.Common.{◌≡◌, ℕ, zero, suc, ◌+◌, ◌-◌, ◌*◌, ◌<◌, ◌≤◌, Bool, true, false, ◌&&◌, List, [], ◌∷◌, ◌++◌, length, get_or, set, take, drop, refl, sym, ap, ◌∙◌, append_assoc, arith, length-append}
use Rattle.std.specs.Prelude.{flat_map, map, nat_lt}
use Rattle.std.proofs.lemmas.Grind.{take-set_at}
use Rattle.std.proofs.lemmas.List.{append-nil, at_drop_more, drop_all, drop-set-lt}
use Rattle.rdm_frame.specs.declared.status.Entry.{Entry}
use Rattle.rdm_commands.specs.declared.jobs.ask.Ask.{Ask}
use Rattle.rdm_outbox.specs.Account.{Noted}
use Rattle.rdm_outbox.specs.Statuses.{asks_for, cleared, first_asked, others, show, unshown, entry_slots}

-- an entry that is shown
pub first_asked-shown : (n : ℕ) (ask : Ask) (e : Entry) (es : List Entry) → nat_lt 0 n && asks_for ask e ≡ true → first_asked n ask (e ∷ es) ≡ e ∷ first_asked (n - 1) ask es
first_asked-shown zero ask e es h = absurd (cc)
first_asked-shown (suc n) ask e es h = grind (arith, h)

pub others-shown : (n : ℕ) (ask : Ask) (e : Entry) (es : List Entry) → nat_lt 0 n && asks_for ask e ≡ true → others n ask (e ∷ es) ≡ others (n - 1) ask es
others-shown zero ask e es h = absurd (cc)
others-shown (suc n) ask e es h = grind (arith, h)

-- and one that isn't
pub first_asked-kept : (n : ℕ) (ask : Ask) (e : Entry) (es : List Entry) → nat_lt 0 n && asks_for ask e ≡ false → first_asked n ask (e ∷ es) ≡ first_asked n ask es
first_asked-kept zero ask e es h = refl
first_asked-kept (suc n) ask e es h = grind (arith, h)

pub others-kept : (n : ℕ) (ask : Ask) (e : Entry) (es : List Entry) → nat_lt 0 n && asks_for ask e ≡ false → others n ask (e ∷ es) ≡ e ∷ others n ask es
others-kept zero ask e es h = refl
others-kept (suc n) ask e es h = grind (arith, h)

pub length-slots : (e : Entry) → length (entry_slots e) ≡ 9
length-slots e = refl

-- there is room for an entry that is shown
positive : (n : ℕ) (b : Bool) → nat_lt 0 n && b ≡ true → 0 < n
positive zero b h = absurd (cc)
positive (suc n) b h = omega arith

-- one step of the loop that shows an entry
pub said_shown : (body : List ℕ) (n : ℕ) (ask : Ask) (xs : List Entry) (at : ℕ) (d : Entry) (total : List ℕ) → at < length xs → nat_lt 0 n && asks_for ask (get_or xs at d) ≡ true → body ++ flat_map entry_slots (first_asked n ask (drop at xs)) ≡ total → (body ++ entry_slots (get_or xs at d)) ++ flat_map entry_slots (first_asked (n - 1) ask (drop (at + 1) xs)) ≡ total
said_shown body n ask xs at d total within asked so_far =
    let rest : List ℕ = flat_map entry_slots (first_asked (n - 1) ask (drop (at + 1) xs)) in
    let here : flat_map entry_slots (first_asked n ask (drop at xs)) ≡ entry_slots (get_or xs at d) ++ rest = at_drop_more (λ (es : List Entry). flat_map entry_slots (first_asked n ask es)) xs at d within ∙ ap (λ (es : List Entry). flat_map entry_slots es) (first_asked-shown n ask (get_or xs at d) (drop (at + 1) xs) asked) in
    append_assoc body (entry_slots (get_or xs at d)) rest ∙ ap (λ (slots : List ℕ). body ++ slots) (sym here) ∙ so_far

pub left_shown : (front : List Entry) (n : ℕ) (ask : Ask) (xs : List Entry) (at : ℕ) (d : Entry) (total : List Entry) → at < length xs → nat_lt 0 n && asks_for ask (get_or xs at d) ≡ true → front ++ others n ask (drop at xs) ≡ total → front ++ others (n - 1) ask (drop (at + 1) xs) ≡ total
left_shown front n ask xs at d total within asked so_far =
    ap (λ (es : List Entry). front ++ es) (sym (at_drop_more (others n ask) xs at d within ∙ others-shown n ask (get_or xs at d) (drop (at + 1) xs) asked)) ∙ so_far

pub room_shown : (body : List ℕ) (n : ℕ) (ask : Ask) (e : Entry) (most : ℕ) → nat_lt 0 n && asks_for ask e ≡ true → length body + 9 * n ≡ 9 * most → length (body ++ entry_slots e) + 9 * (n - 1) ≡ 9 * most
room_shown body n ask e most asked so_far = rw (length-append body (entry_slots e)) (omega (arith, so_far, positive n (asks_for ask e) asked))

-- one step that keeps an entry
pub said_kept : (body : List ℕ) (n : ℕ) (ask : Ask) (xs : List Entry) (kept at : ℕ) (d : Entry) (total : List ℕ) → kept ≤ at → at < length xs → nat_lt 0 n && asks_for ask (get_or xs at d) ≡ false → body ++ flat_map entry_slots (first_asked n ask (drop at xs)) ≡ total → body ++ flat_map entry_slots (first_asked n ask (drop (at + 1) (set xs kept (get_or xs at d)))) ≡ total
said_kept body n ask xs kept at d total before within asked so_far =
    rw (drop-set-lt (at + 1) xs kept (get_or xs at d) (omega arith)) (ap (λ (es : List Entry). body ++ flat_map entry_slots es) (sym (at_drop_more (first_asked n ask) xs at d within ∙ first_asked-kept n ask (get_or xs at d) (drop (at + 1) xs) asked)) ∙ so_far)

pub left_kept : (n : ℕ) (ask : Ask) (xs : List Entry) (kept at : ℕ) (d : Entry) (total : List Entry) → kept ≤ at → at < length xs → nat_lt 0 n && asks_for ask (get_or xs at d) ≡ false → take kept xs ++ others n ask (drop at xs) ≡ total → take (kept + 1) (set xs kept (get_or xs at d)) ++ others n ask (drop (at + 1) (set xs kept (get_or xs at d))) ≡ total
left_kept n ask xs kept at d total before within asked so_far =
    let e : Entry = get_or xs at d in
    rw (drop-set-lt (at + 1) xs kept (get_or xs at d) (omega arith), take-set_at xs kept (kept + 1) (get_or xs at d) refl (omega arith))
    (append_assoc (take kept xs) (get_or xs at d ∷ []) (others n ask (drop (at + 1) xs)) ∙ ap (λ (es : List Entry). take kept xs ++ es) (sym (at_drop_more (others n ask) xs at d within ∙ others-kept n ask (get_or xs at d) (drop (at + 1) xs) asked)) ∙ so_far)

-- the end of the loop
others-none : (n : ℕ) (ask : Ask) → others n ask [] ≡ []
others-none zero ask = refl
others-none (suc n) ask = refl

pub left_whole : (front : List Entry) (n : ℕ) (ask : Ask) (xs : List Entry) (at : ℕ) (total : List Entry) → length xs ≤ at → front ++ others n ask (drop at xs) ≡ total → front ≡ total
left_whole front n ask xs at total past so_far = sym (append-nil front) ∙ ap (λ (es : List Entry). front ++ es) (sym (ap (others n ask) (drop_all at xs past) ∙ others-none n ask)) ∙ so_far

-- what wasn't shown, once entries are shown: all but those that were asked for
unshown-show_one : (n : ℕ) (ask : Ask) (x : Noted) (ns : List Noted) (shown asked : Bool) → x.shown ≡ shown → asks_for ask x.entry ≡ asked → unshown (show n ask ns) ≡ others n ask (unshown ns) → unshown (show (suc n) ask ns) ≡ others (suc n) ask (unshown ns) → unshown (show (suc n) ask (x ∷ ns)) ≡ others (suc n) ask (unshown (x ∷ ns))
unshown-show_one n ask x ns true asked s h here past = rw s past
unshown-show_one n ask x ns false true s h here past = rw (s, h) here
unshown-show_one n ask x ns false false s h here past = rw (s, h) (ap (λ (es : List Entry). x.entry ∷ es) past)

pub unshown_after_show : (n : ℕ) (ask : Ask) (ns : List Noted) → unshown (show n ask ns) ≡ others n ask (unshown ns)
unshown_after_show zero ask ns = refl
unshown_after_show (suc n) ask [] = refl
unshown_after_show (suc n) ask (x ∷ ns) = unshown-show_one n ask x ns x.shown (asks_for ask x.entry) refl refl (unshown_after_show n ask ns) (unshown_after_show (suc n) ask ns)

-- once the status list was cleared, nothing is left to be shown
pub unshown_after_clear : (ns : List Noted) → unshown (map cleared ns) ≡ []
unshown_after_clear [] = refl
unshown_after_clear (x ∷ xs) = unshown_after_clear xs
