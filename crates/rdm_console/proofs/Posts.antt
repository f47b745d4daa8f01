-- The letters of what was collected, when one more is.
use Rattle.std.proofs.Common.{◌≡◌, ◌↔◌, ℕ, ◌&&◌, ◌||◌, not, Bool, true, false, cond, List, [], ◌∷◌, ◌++◌, Option, Some, None, refl, sym, ap, subst, ◌∙◌, inl, inr, append_assoc}
use Rattle.std.specs.Option.{is_some, option_map, option_or, option_to_list, unwrap_or}
use Rattle.std.proofs.lemmas.Bool.{cases_Bool, cond-true, cond-false}
use Rattle.std.proofs.lemmas.List.{append-nil}
use Rattle.rdm_collector.specs.declared.any_device.collected.Collected.{Collected}
use Rattle.rdm_collector.specs.AnyDevice.Parts.{goes_on, is_part, is_repeat, same_parameter}
use Rattle.rdm_console.specs.declared.parcel.End.{End}
use Rattle.rdm_console.specs.declared.mailbox.Sorted.{Sorted}
use Rattle.rdm_console.specs.declared.mailbox.Sorted.TheVariants as sorted
use Rattle.rdm_console.specs.Mailboxes.{Draft, IsSorted, Keeps, Mail, Post, but_last, draft_of, end_in, handed, last_of, last_or, messages_in, news_after, post_in, post_of, posts_behind, posts_in, repeats_last, says_nothing}
use Rattle.rdm_console.specs.Sorting.{draft_with, end_before, is_ended, put_before, put_message, said_by, said_with}
use Rattle.rdm_console.proofs.Drafts.{draft_push, draft_repeated, repeat_alike}
use Rattle.rdm_console.proofs.Messages.{IsSomeOf, begun, but_last_push, but_last_to_last, joined, last_ends, last_push, last_to_last, some_messages, some_to_last, to_last}

-- ---- the letters of messages

-- those of all but the last, and that of the last
split_at : (b m : List Collected) (ms : List (List Collected))
    → posts_behind b (m ∷ ms) ≡ posts_behind b (but_last (m ∷ ms)) ++ news_after (post_of (last_or b (but_last (m ∷ ms)))) (post_of (last_or m ms))
split_at b m [] = append-nil (news_after (post_of b) (post_of m))
split_at b m (n ∷ ms) =
    let here : List Post = news_after (post_of b) (post_of m) in
    ap (λ (ps : List Post). here ++ ps) (split_at m n ms)
    ∙ sym (append_assoc here (posts_behind m (but_last (n ∷ ms))) (news_after (post_of (last_or m (but_last (n ∷ ms)))) (post_of (last_or n ms))))

abbrev Splits : List (List Collected) → Type 0
Splits ms = posts_behind [] ms ≡ posts_behind [] (but_last ms) ++ news_after (post_of (last_or [] (but_last ms))) (post_of (last_or [] ms))

split : (ms : List (List Collected)) → IsSomeOf ms → Splits ms
split ms some = subst Splits (sym some.are) (split_at [] some.first some.others)

behind_push : (b : List Collected) (ms : List (List Collected)) (n : List Collected)
    → posts_behind b (ms ++ n ∷ []) ≡ posts_behind b ms ++ news_after (post_of (last_or b ms)) (post_of n)
behind_push b [] n = append-nil (news_after (post_of b) (post_of n))
behind_push b (m ∷ ms) n =
    let here : List Post = news_after (post_of b) (post_of m) in
    ap (λ (ps : List Post). here ++ ps) (behind_push m ms n)
    ∙ sym (append_assoc here (posts_behind m ms) (news_after (post_of (last_or m ms)) (post_of n)))

-- ---- what is said of them

handed_at : (nothing : Bool) (p : Post) → handed (said_by (cond nothing [] (p ∷ []))) (Some p) ≡ cond nothing [] (p ∷ [])
handed_at true p = refl
handed_at false p = refl

handed_news : (b o : Option Post) → handed (said_by (news_after b o)) o ≡ news_after b o
handed_news b None = refl
handed_news b (Some p) = handed_at (says_nothing b p.told) p

-- what is no part and no repeat is news or nothing
handed_new : (part repeats : Bool) (b o : Option Post) → part ≡ false → repeats ≡ false → handed (said_with part repeats b o) o ≡ news_after b o
handed_new part repeats b o p r = rw (p, r) (handed_news b o)

-- of a part nothing is handed on
handed_part : (part repeats : Bool) (b o : Option Post) → part ≡ true → handed (said_with part repeats b o) o ≡ []
handed_part part repeats b o p = rw p refl

handed_repeat : (part repeats : Bool) (b o : Option Post) → part ≡ false → repeats ≡ true → handed (said_with part repeats b o) o ≡ []
handed_repeat part repeats b o p r = rw (p, r) refl

-- ---- one more is collected

-- what is known of the mailbox before and after it
pub record IsNext (mail next : Mail) (c : Collected) (said : Sorted) : Type 0 where
  pub ended : is_some mail.message.end ≡ is_ended mail.last
  pub last : next.last ≡ Some c
  pub message : next.message ≡ put_message mail.message mail.last c
  pub before : next.before ≡ put_before mail.before mail.message mail.last c
  pub says : said ≡ said_with (is_part c.response) (repeats_last mail.last c) (post_in next.before) (post_in next.message)

same_some : (x y : Collected) → Some x ≡ Some y → x ≡ y
same_some x y e = ap (λ (o : Option Collected). unwrap_or o x) e

last_of_push : (x : Collected) (xs : List Collected) (c : Collected) → last_of ((x ∷ xs) ++ c ∷ []) ≡ Some c
last_of_push x [] c = refl
last_of_push x (y ∷ ys) c = last_of_push y ys c

draft_of_last : (m : List Collected) (last c : Collected) → last_of m ≡ Some last → draft_of (m ++ c ∷ []) ≡ draft_with (draft_of m) last c
draft_of_last [] last c e = absurd cc
draft_of_last (x ∷ xs) last c e = draft_push x xs c ∙ ap (λ l. draft_with (draft_of (x ∷ xs)) l c) (same_some (last_or x xs) last e)

last_of_some : (c : Collected) (ms : List (List Collected)) → IsSomeOf ms → last_or [] (to_last c ms) ≡ last_or [] ms ++ c ∷ []
last_of_some c ms some = subst (λ ns. last_or [] (to_last c ns) ≡ last_or [] ns ++ c ∷ []) (sym some.are) (last_to_last c some.first some.others)

but_last_of_some : (c : Collected) (ms : List (List Collected)) → IsSomeOf ms → but_last (to_last c ms) ≡ but_last ms
but_last_of_some c ms some = subst (λ ns. but_last (to_last c ns) ≡ but_last ns) (sym some.are) (but_last_to_last c some.first some.others)

some_of_some : (c : Collected) (ms : List (List Collected)) → IsSomeOf ms → IsSomeOf (to_last c ms)
some_of_some c ms some = subst (λ ns. IsSomeOf (to_last c ns)) (sym some.are) (some_to_last c some.first some.others)

-- ---- where it stands then

keeps_joined : (mail next : Mail) (x : Collected) (xs : List Collected) (c : Collected) (said : Sorted) → IsNext mail next c said → Keeps mail (x ∷ xs)
    → goes_on (last_or x xs) c ≡ true → Keeps next ((x ∷ xs) ++ c ∷ [])
keeps_joined mail next x xs c said is k on =
    let some = some_messages x xs in
    let ms : List (List Collected) = messages_in (x ∷ xs) in
    let are : messages_in ((x ∷ xs) ++ c ∷ []) ≡ to_last c ms = joined x xs c on in
    let put : next.message ≡ draft_with mail.message (last_or x xs) c = is.message ∙ ap (λ o. put_message mail.message o c) k.last ∙ cond-true _ _ _ on in
    record {
      last = is.last ∙ sym (last_of_push x xs c);
      message = put ∙ ap (λ d. draft_with d (last_or x xs) c) k.message ∙ sym (draft_of_last (last_or [] ms) (last_or x xs) c (last_ends x xs))
          ∙ ap draft_of (sym (last_of_some c ms some)) ∙ ap (λ ns. draft_of (last_or [] ns)) (sym are);
      before = is.before ∙ ap (λ o. put_before mail.before mail.message o c) k.last ∙ cond-true _ _ _ on ∙ k.before
          ∙ ap (λ ns. draft_of (last_or [] ns)) (sym (but_last_of_some c ms some) ∙ ap but_last (sym are));
    }

keeps_begun : (mail next : Mail) (x : Collected) (xs : List Collected) (c : Collected) (said : Sorted) → IsNext mail next c said → Keeps mail (x ∷ xs)
    → goes_on (last_or x xs) c ≡ false → Keeps next ((x ∷ xs) ++ c ∷ [])
keeps_begun mail next x xs c said is k off =
    let ms : List (List Collected) = messages_in (x ∷ xs) in
    let are : messages_in ((x ∷ xs) ++ c ∷ []) ≡ ms ++ (c ∷ []) ∷ [] = begun x xs c off in
    record {
      last = is.last ∙ sym (last_of_push x xs c);
      message = is.message ∙ ap (λ o. put_message mail.message o c) k.last ∙ cond-false _ _ _ off
          ∙ ap draft_of (sym (last_push [] ms (c ∷ []))) ∙ ap (λ ns. draft_of (last_or [] ns)) (sym are);
      before = is.before ∙ ap (λ o. put_before mail.before mail.message o c) k.last ∙ cond-false _ _ _ off ∙ k.message
          ∙ ap (λ ns. draft_of (last_or [] ns)) (sym (but_last_push ms (c ∷ [])) ∙ ap but_last (sym are));
    }

keeps_first : (mail next : Mail) (c : Collected) (said : Sorted) → IsNext mail next c said → Keeps mail [] → Keeps next (c ∷ [])
keeps_first mail next c said is k = record {
  last = is.last;
  message = is.message ∙ ap (λ o. put_message mail.message o c) k.last;
  before = is.before ∙ ap (λ o. put_before mail.before mail.message o c) k.last ∙ k.message;
}

pub keeps_next : (mail next : Mail) (all : List Collected) (c : Collected) (said : Sorted) → IsNext mail next c said → Keeps mail all → Keeps next (all ++ c ∷ [])
keeps_next mail next [] c said is k = keeps_first mail next c said is k
keeps_next mail next (x ∷ xs) c said is k =
    elim (cases_Bool (goes_on (last_or x xs) c)) [
      | inl on ↦ keeps_joined mail next x xs c said is k on
      | inr off ↦ keeps_begun mail next x xs c said is k off
    ]

-- ---- each once

no_end : (c : Collected) → is_part c.response ≡ true → end_before c ≡ None
no_end c p = cond-true _ _ _ p

-- one that has no end is no news
no_news : (b : Option Post) (d : Draft) → d.end ≡ None → news_after b (post_in d) ≡ []
no_news b d e = rw e refl

true_is_false : true ≡ false → ⊥
true_is_false e = absurd cc

-- what goes on with a part is no repeat unless it is a part
not_a_repeat : (last c : Collected) → is_part last.response ≡ true → is_part c.response ≡ false → is_repeat last c ≡ false
not_a_repeat last c l p =
    elim (cases_Bool (is_repeat last c)) [
      | inl repeat ↦ absurd (true_is_false (sym l ∙ repeat_alike last c repeat ∙ p))
      | inr new ↦ new
    ]

-- what goes on with an end repeats it
a_repeat : (repeat part same : Bool) → part ≡ false → (repeat || (part && same)) ≡ true → repeat ≡ true
a_repeat true part same p e = refl
a_repeat false false same p e = e
a_repeat false true same p e = absurd cc

none_of : (o : Option End) → is_some o ≡ false → o ≡ None
none_of None e = refl
none_of (Some x) e = absurd cc

-- with an end the message stays as it is
still_at : (o : Option End) (x : List ℕ) (s p : Bool) (last c : Collected) → is_some o ≡ true → is_part last.response ≡ false → is_repeat last c ≡ true
    → draft_with (record { end = o; body = x; sure = s; in_parts = p }) last c ≡ record { end = o; body = x; sure = s; in_parts = p }
still_at None x s p last c e l repeat = absurd cc
still_at (Some e) x s p last c ee l repeat = draft_repeated e x s p last c l repeat

still : (d : Draft) (last c : Collected) → is_some d.end ≡ true → is_part last.response ≡ false → is_repeat last c ≡ true → draft_with d last c ≡ d
still d last c e l repeat = still_at d.end d.body d.sure d.in_parts last c e l repeat

-- behind a part
adds_to_part : (front : List Post) (before d : Draft) (last c : Collected) → is_part last.response ≡ true → d.end ≡ None
    → front ++ news_after (post_in before) (post_in (draft_with d last c))
    ≡ (front ++ news_after (post_in before) (post_in d)) ++ handed (said_with (is_part c.response) (is_repeat last c) (post_in before) (post_in (draft_with d last c))) (post_in (draft_with d last c))
adds_to_part front before d last c l e =
    let next : Draft = draft_with d last c in
    let b : Option Post = post_in before in
    let none : front ++ news_after b (post_in d) ≡ front = ap (λ (ps : List Post). front ++ ps) (no_news b d e) ∙ append-nil front in
    elim (cases_Bool (is_part c.response)) [
      | inl p ↦
          let no_more : next.end ≡ None = ap (λ (o : Option End). option_or o (end_before c)) e ∙ no_end c p in
          ap (λ (ps : List Post). front ++ ps) (no_news b next no_more) ∙ append-nil front ∙ sym none
          ∙ sym (ap (λ (ps : List Post). (front ++ news_after b (post_in d)) ++ ps) (handed_part _ _ b (post_in next) p) ∙ append-nil (front ++ news_after b (post_in d)))
      | inr p ↦
          ap (λ (ps : List Post). front ++ ps) (sym (handed_new _ _ b (post_in next) p (not_a_repeat last c l p)))
          ∙ ap (λ (ps : List Post). ps ++ handed (said_with (is_part c.response) (is_repeat last c) b (post_in next)) (post_in next)) (sym none)
    ]

-- behind an end, which it repeats
adds_to_end : (front : List Post) (before d : Draft) (last c : Collected) → is_part last.response ≡ false → is_some d.end ≡ true → is_repeat last c ≡ true
    → front ++ news_after (post_in before) (post_in (draft_with d last c))
    ≡ (front ++ news_after (post_in before) (post_in d)) ++ handed (said_with (is_part c.response) (is_repeat last c) (post_in before) (post_in (draft_with d last c))) (post_in (draft_with d last c))
adds_to_end front before d last c l e repeat =
    let next : Draft = draft_with d last c in
    let b : Option Post = post_in before in
    ap (λ (x : Draft). front ++ news_after b (post_in x)) (still d last c e l repeat)
    ∙ sym (ap (λ (ps : List Post). (front ++ news_after b (post_in d)) ++ ps)
    (handed_repeat _ _ b (post_in next) (sym (repeat_alike last c repeat) ∙ l) repeat) ∙ append-nil (front ++ news_after b (post_in d)))

-- a message that begins
none_alone : (c : Collected) → is_part c.response ≡ true → (draft_of (c ∷ [])).end ≡ None
none_alone c p = ap (λ (b : Bool). option_map end_in (cond b None (Some c))) p

handed_alone : (repeats : Bool) (b : Option Post) (c : Collected) → repeats ≡ false
    → handed (said_with (is_part c.response) repeats b (post_of (c ∷ []))) (post_of (c ∷ [])) ≡ news_after b (post_of (c ∷ []))
handed_alone repeats b c r =
    elim (cases_Bool (is_part c.response)) [
      | inl p ↦ handed_part _ _ b (post_of (c ∷ [])) p ∙ sym (no_news b (draft_of (c ∷ [])) (none_alone c p))
      | inr p ↦ handed_new _ _ b (post_of (c ∷ [])) p r
    ]

neither : (repeat other : Bool) → (repeat || other) ≡ false → repeat ≡ false
neither false other e = refl
neither true other e = absurd cc

once_joined : (mail next : Mail) (x : Collected) (xs : List Collected) (c : Collected) (said : Sorted) → IsNext mail next c said → Keeps mail (x ∷ xs)
    → goes_on (last_or x xs) c ≡ true → posts_in ((x ∷ xs) ++ c ∷ []) ≡ posts_in (x ∷ xs) ++ handed said (post_in next.message)
once_joined mail next x xs c said is k on =
    let some = some_messages x xs in
    let l : Collected = last_or x xs in
    let ms : List (List Collected) = messages_in (x ∷ xs) in
    let d : Draft = draft_of (last_or [] ms) in
    let before : Draft = draft_of (last_or [] (but_last ms)) in
    let front : List Post = posts_behind [] (but_last ms) in
    let message_is : next.message ≡ draft_with d l c =
    is.message ∙ ap (λ o. put_message mail.message o c) k.last ∙ cond-true _ _ _ on ∙ ap (λ e. draft_with e l c) k.message in
    let before_is : next.before ≡ before = is.before ∙ ap (λ o. put_before mail.before mail.message o c) k.last ∙ cond-true _ _ _ on ∙ k.before in
    let said_is : said ≡ said_with (is_part c.response) (is_repeat l c) (post_in before) (post_in (draft_with d l c)) =
    is.says ∙ rw (k.last, message_is, before_is) refl in
    let ended : is_some d.end ≡ not (is_part l.response) = ap (λ (e : Draft). is_some e.end) (sym k.message) ∙ is.ended ∙ ap is_ended k.last in
    let more : posts_in ((x ∷ xs) ++ c ∷ []) ≡ front ++ news_after (post_in before) (post_in (draft_with d l c)) =
    ap (posts_behind []) (joined x xs c on) ∙ split (to_last c ms) (some_of_some c ms some)
    ∙ rw (but_last_of_some c ms some, last_of_some c ms some) (ap (λ (e : Draft). front ++ news_after (post_in before) (post_in e)) (draft_of_last (last_or [] ms) l c (last_ends x xs))) in
    let old : posts_in (x ∷ xs) ≡ front ++ news_after (post_in before) (post_in d) = split ms some in
    let step : front ++ news_after (post_in before) (post_in (draft_with d l c))
    ≡ (front ++ news_after (post_in before) (post_in d)) ++ handed (said_with (is_part c.response) (is_repeat l c) (post_in before) (post_in (draft_with d l c))) (post_in (draft_with d l c)) =
    elim (cases_Bool (is_part l.response)) [
      | inl p ↦ adds_to_part front before d l c p (none_of d.end (ended ∙ ap not p))
      | inr p ↦ adds_to_end front before d l c p (ended ∙ ap not p) (a_repeat (is_repeat l c) (is_part l.response) (same_parameter l.message c.message) p on)
    ] in
    more ∙ step ∙ rw (said_is, message_is, old) refl

once_begun : (mail next : Mail) (x : Collected) (xs : List Collected) (c : Collected) (said : Sorted) → IsNext mail next c said → Keeps mail (x ∷ xs)
    → goes_on (last_or x xs) c ≡ false → posts_in ((x ∷ xs) ++ c ∷ []) ≡ posts_in (x ∷ xs) ++ handed said (post_in next.message)
once_begun mail next x xs c said is k off =
    let l : Collected = last_or x xs in
    let ms : List (List Collected) = messages_in (x ∷ xs) in
    let before : Draft = draft_of (last_or [] ms) in
    let alone : Draft = draft_of (c ∷ []) in
    let message_is : next.message ≡ alone = is.message ∙ ap (λ o. put_message mail.message o c) k.last ∙ cond-false _ _ _ off in
    let before_is : next.before ≡ before = is.before ∙ ap (λ o. put_before mail.before mail.message o c) k.last ∙ cond-false _ _ _ off ∙ k.message in
    let said_is : said ≡ said_with (is_part c.response) (is_repeat l c) (post_in before) (post_in alone) = is.says ∙ rw (k.last, message_is, before_is) refl in
    ap (posts_behind []) (begun x xs c off) ∙ behind_push [] ms (c ∷ [])
    ∙ ap (λ (ps : List Post). posts_in (x ∷ xs) ++ ps)
    (sym (handed_alone (is_repeat l c) (post_in before) c (neither (is_repeat l c) (is_part l.response && same_parameter l.message c.message) off)))
    ∙ rw (said_is, message_is) refl

once_first : (mail next : Mail) (c : Collected) (said : Sorted) → IsNext mail next c said → Keeps mail []
    → posts_in (c ∷ []) ≡ posts_in [] ++ handed said (post_in next.message)
once_first mail next c said is k =
    let none : Draft = draft_of [] in
    let alone : Draft = draft_of (c ∷ []) in
    let message_is : next.message ≡ alone = is.message ∙ ap (λ o. put_message mail.message o c) k.last in
    let before_is : next.before ≡ none = is.before ∙ ap (λ o. put_before mail.before mail.message o c) k.last ∙ k.message in
    let said_is : said ≡ said_with (is_part c.response) false (post_in none) (post_in alone) = is.says ∙ rw (k.last, message_is, before_is) refl in
    append-nil (news_after (post_in none) (post_in alone)) ∙ sym (handed_alone false (post_in none) c refl) ∙ rw (said_is, message_is) refl

once : (mail next : Mail) (all : List Collected) (c : Collected) (said : Sorted) → IsNext mail next c said → Keeps mail all
    → posts_in (all ++ c ∷ []) ≡ posts_in all ++ handed said (post_in next.message)
once mail next [] c said is k = once_first mail next c said is k
once mail next (x ∷ xs) c said is k =
    elim (cases_Bool (goes_on (last_or x xs) c)) [
      | inl on ↦ once_joined mail next x xs c said is k on
      | inr off ↦ once_begun mail next x xs c said is k off
    ]

-- ---- parts and repeats

part_iff : (p r : Bool) (ps : List Post) → (cond p sorted.Part (cond r sorted.Repeat (said_by ps)) ≡ sorted.Part) ↔ (p ≡ true)
part_iff true r ps = (λ e. refl, λ e. refl)
part_iff false true ps = (λ e. absurd cc, λ e. absurd cc)
part_iff false false [] = (λ e. absurd cc, λ e. absurd cc)
part_iff false false (q ∷ qs) = (λ e. absurd cc, λ e. absurd cc)

repeat_iff : (p r : Bool) (ps : List Post) → (cond p sorted.Part (cond r sorted.Repeat (said_by ps)) ≡ sorted.Repeat) ↔ ((p ≡ false) × (r ≡ true))
repeat_iff true r ps = (λ e. absurd cc, λ e. absurd (true_is_false e.0))
repeat_iff false true ps = (λ e. (refl, refl), λ e. refl)
repeat_iff false false [] = (λ e. absurd cc, λ e. absurd (true_is_false (sym e.1)))
repeat_iff false false (q ∷ qs) = (λ e. absurd cc, λ e. absurd (true_is_false (sym e.1)))

pub sorted_next : (mail next : Mail) (all : List Collected) (c : Collected) (said : Sorted) → IsNext mail next c said → Keeps mail all
    → IsSorted all mail.last c said (post_in next.message)
sorted_next mail next all c said is k =
    let ps : List Post = news_after (post_in next.before) (post_in next.message) in
    record {
      part = subst (λ x. (x ≡ sorted.Part) ↔ (is_part c.response ≡ true)) (sym is.says) (part_iff (is_part c.response) (repeats_last mail.last c) ps);
      repeat = subst (λ x. (x ≡ sorted.Repeat) ↔ ((is_part c.response ≡ false) × (repeats_last mail.last c ≡ true))) (sym is.says) (repeat_iff (is_part c.response) (repeats_last mail.last c) ps);
      once = once mail next all c said is k;
    }

-- ---- a message has its end as soon as what came last is no part

ended_alone : (b : Bool) (c : Collected) → is_some (option_map end_in (cond b None (Some c))) ≡ not b
ended_alone true c = refl
ended_alone false c = refl

some_more : (o : Option End) (b : Bool) (e : End) → b ≡ false → is_some (option_or o (cond b None (Some e))) ≡ not b
some_more None b e p = rw p refl
some_more (Some x) b e p = rw p refl

none_more : (o : Option End) (b : Bool) (e : End) → is_some o ≡ false → b ≡ true → is_some (option_or o (cond b None (Some e))) ≡ not b
none_more None b e n p = rw p refl
none_more (Some x) b e n p = absurd (true_is_false n)

part_before : (last c : Collected) → goes_on last c ≡ true → is_part c.response ≡ true → is_part last.response ≡ true
part_before last c on p =
    elim (cases_Bool (is_part last.response)) [
      | inl q ↦ q
      | inr n ↦ repeat_alike last c (a_repeat (is_repeat last c) (is_part last.response) (same_parameter last.message c.message) n on) ∙ p
    ]

ended_joined : (d : Draft) (last c : Collected) → is_some d.end ≡ not (is_part last.response) → goes_on last c ≡ true
    → is_some (draft_with d last c).end ≡ not (is_part c.response)
ended_joined d last c e on =
    elim (cases_Bool (is_part c.response)) [
      | inl p ↦ none_more d.end (is_part c.response) (end_in c) (e ∙ ap not (part_before last c on p)) p
      | inr n ↦ some_more d.end (is_part c.response) (end_in c) n
    ]

pub ended_next : (d : Draft) (last : Option Collected) (c : Collected) → is_some d.end ≡ is_ended last → is_some (put_message d last c).end ≡ not (is_part c.response)
ended_next d None c e = ended_alone (is_part c.response) c
ended_next d (Some last) c e =
    elim (cases_Bool (goes_on last c)) [
      | inl on ↦ ap (λ (x : Draft). is_some x.end) (cond-true _ _ _ on) ∙ ended_joined d last c e on
      | inr off ↦ ap (λ (x : Draft). is_some x.end) (cond-false _ _ _ off) ∙ ended_alone (is_part c.response) c
    ]

-- ---- what a mailbox says of it

pub sorted_after : (mail next now : Mail) (all : List Collected) (c item : Collected) (said : Sorted) → mail ≡ now → IsNext mail next c said → Some c ≡ Some item
    → Keeps now all → IsSorted all now.last item said (post_in next.message)
sorted_after mail next now all c item said same is one k =
    let P : Mail → Type 0 = λ m. Keeps m all in
    let Q : Collected → Type 0 = λ x. IsSorted all mail.last x said (post_in next.message) in
    let R : Mail → Type 0 = λ m. IsSorted all m.last item said (post_in next.message) in
    subst R same (subst Q (same_some c item one) (sorted_next mail next all c said is (subst P (sym same) k)))

pub keeps_after : (mail next now : Mail) (all : List Collected) (c : Collected) (o : Option Collected) (said : Sorted) → mail ≡ now → IsNext mail next c said
    → Some c ≡ o → Keeps now all → Keeps next (all ++ option_to_list o)
keeps_after mail next now all c o said same is one k =
    let P : Mail → Type 0 = λ m. Keeps m all in
    let Q : Option Collected → Type 0 = λ x. Keeps next (all ++ option_to_list x) in
    subst Q one (keeps_next mail next all c said is (subst P (sym same) k))

pub keeps_as_before : (mail next now : Mail) (all : List Collected) (o : Option Collected) → mail ≡ now
    → next.last ≡ mail.last → next.message ≡ mail.message → next.before ≡ mail.before → None ≡ o → Keeps now all → Keeps next (all ++ option_to_list o)
keeps_as_before mail next now all o same last message before none k =
    let P : Mail → Type 0 = λ m. Keeps m all in
    let Q : Option Collected → Type 0 = λ x. Keeps next (all ++ option_to_list x) in
    let R : List Collected → Type 0 = λ xs. Keeps next xs in
    let old : Keeps mail all = subst P (sym same) k in
    subst Q none (subst R (sym (append-nil all)) (record { last = last ∙ old.last; message = message ∙ old.message; before = before ∙ old.before }))
