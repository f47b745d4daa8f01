-- The entries before the first that is asked for, which stay where they are.
use Rattle.std.proofs.Common.{◌≡◌, ℕ, zero, suc, ◌+◌, ◌≤◌, Bool, true, false, cond, not, List, [], ◌∷◌, ◌++◌, length, take, drop, Some, None, refl, ap, arith}
use Rattle.std.specs.Prelude.{flat_map, nat_lt, unwrap_or}
use Rattle.std.specs.List.{position, position_or_len}
use Rattle.std.proofs.lemmas.List.{take-append-drop}
use Rattle.std.proofs.lemmas.List.Sums.{prefix_len-le-length}
use Rattle.rdm_frame.specs.declared.status.Entry.{Entry}
use Rattle.rdm_commands.specs.declared.jobs.ask.Ask.{Ask}
use Rattle.rdm_outbox.specs.Statuses.{asks_for, entry_slots, first_asked, others}

place_is : (i n : ℕ) (b : Bool) → i ≤ n → nat_lt i n ≡ b → unwrap_or (cond b (Some i) None) n ≡ i
place_is i n true le e = refl
place_is i n false le e = grind (arith, le, e)

-- where the first that is asked for is, or how many there are
abbrev pub front : Ask → List Entry → ℕ
front ask es = unwrap_or (position (asks_for ask) es) (length es)

front_is : (ask : Ask) (es : List Entry) → front ask es ≡ position_or_len (asks_for ask) es
front_is ask es = place_is (position_or_len (asks_for ask) es) (length es) (nat_lt (position_or_len (asks_for ask) es) (length es)) (prefix_len-le-length (λ e. not (asks_for ask e)) es) refl

pub front_within : (ask : Ask) (es : List Entry) → front ask es ≤ length es
front_within ask es = rw (front_is ask es) (prefix_len-le-length (λ e. not (asks_for ask e)) es)

one_more : (k : ℕ) → 1 + k ≡ suc k
one_more k = omega arith

-- what is asked for is behind them
said_step : (n k : ℕ) (ask : Ask) (e : Entry) (es : List Entry) (b : Bool) → asks_for ask e ≡ b → first_asked n ask (drop k es) ≡ first_asked n ask es → first_asked n ask (drop (cond (not b) (1 + k) 0) (e ∷ es)) ≡ first_asked n ask (e ∷ es)
said_step n k ask e es true h later = refl
said_step n k ask e es false h later = rw (h, one_more k) later

said_from : (n : ℕ) (ask : Ask) (es : List Entry) → first_asked n ask (drop (position_or_len (asks_for ask) es) es) ≡ first_asked n ask es
said_from n ask [] = refl
said_from n ask (e ∷ es) = said_step n (position_or_len (asks_for ask) es) ask e es (asks_for ask e) refl (said_from n ask es)

pub said_behind : (n : ℕ) (ask : Ask) (es : List Entry) → first_asked n ask (drop (front ask es) es) ≡ first_asked n ask es
said_behind n ask es = rw (front_is ask es) (said_from n ask es)

-- and they are the first of the others
left_step : (n k : ℕ) (ask : Ask) (e : Entry) (es : List Entry) (b : Bool) → asks_for ask e ≡ b → take k es ++ others (suc n) ask (drop k es) ≡ others (suc n) ask es → take (cond (not b) (1 + k) 0) (e ∷ es) ++ others (suc n) ask (drop (cond (not b) (1 + k) 0) (e ∷ es)) ≡ others (suc n) ask (e ∷ es)
left_step n k ask e es true h later = refl
left_step n k ask e es false h later = rw (h, one_more k) (ap (λ (xs : List Entry). e ∷ xs) later)

left_from : (n : ℕ) (ask : Ask) (es : List Entry) → take (position_or_len (asks_for ask) es) es ++ others n ask (drop (position_or_len (asks_for ask) es) es) ≡ others n ask es
left_from zero ask es = take-append-drop (position_or_len (asks_for ask) es) es
left_from (suc n) ask [] = refl
left_from (suc n) ask (e ∷ es) = left_step n (position_or_len (asks_for ask) es) ask e es (asks_for ask e) refl (left_from (suc n) ask es)

pub left_behind : (n : ℕ) (ask : Ask) (es : List Entry) → take (front ask es) es ++ others n ask (drop (front ask es) es) ≡ others n ask es
left_behind n ask es = rw (front_is ask es) (left_from n ask es)

-- where a loop over the rest begins
pub said_at_first : (body : List ℕ) (n : ℕ) (ask : Ask) (es : List Entry) (at : ℕ) → body ≡ [] → at ≡ front ask es → body ++ flat_map entry_slots (first_asked n ask (drop at es)) ≡ flat_map entry_slots (first_asked n ask es)
said_at_first body n ask es at empty here = rw (empty, here) (ap (λ (xs : List Entry). flat_map entry_slots xs) (said_behind n ask es))

pub left_at_first : (n : ℕ) (ask : Ask) (es : List Entry) (at : ℕ) → at ≡ front ask es → take at es ++ others n ask (drop at es) ≡ others n ask es
left_at_first n ask es at here = rw here (left_behind n ask es)
