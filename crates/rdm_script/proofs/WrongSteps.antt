-- The first wrong word of a line that is no command, and of a line of more than nine words.
use Rattle.std.proofs.Common.{◌≡◌, ◌≢◌, ℕ, ◌+◌, ◌<◌, ◌≤◌, Bool, true, false, List, [], ◌∷◌, length, take, drop, min, None, inl, inr, refl, sym, subst, arith}
use Rattle.std.specs.Prelude.{codes}
use Rattle.std.specs.Str.{bytes_eq}
use Rattle.std.proofs.lemmas.List.{length-take, take-take}
use Rattle.std.proofs.lemmas.Slice.Eq.{bytes_eq-Decides}
use Rattle.rdm_script.specs.Dialects.{Dialect}
use Rattle.rdm_script.specs.declared.dialect.Spelling.{Spelling}
use Rattle.rdm_script.specs.declared.dialect.Spelling.TheVariants.{Strict, Friendly}
use Rattle.rdm_script.specs.declared.grammar.line.Line.TheVariants.{Faulty}
use Rattle.rdm_script.specs.Decimals.{decimal_in, number_up_to}
use Rattle.rdm_script.specs.Grammar.{word, want_in, line_at}
use Rattle.rdm_script.specs.WrongWords.{AreLine, AreFault, CanBegin, IsFirstWrong}
use Rattle.rdm_script.proofs.LineParts.{empty_isnt, some_isnt}
use Rattle.rdm_script.proofs.OtherLines.{IsCounted, IsSearch, IsNoName, AreSetup, empty_line, late_setup, line_setup, setup_line, line_collect, polled, long_draw, drawn, line_counted, counted, searched, long_search, no_line}
use Rattle.rdm_script.proofs.WrongWords.{behind, likewise, no_number}

named : (words : List (List ℕ)) (name : List ℕ) → bytes_eq (word words 0) name ≡ true → word words 0 ≡ name
named words name e = (bytes_eq-Decides (word words 0) name).0 e

-- ---- a setup

count_0 : number_up_to 65535 (codes "0") ≢ None
unfolding number_up_to decimal_in
count_0 = some_isnt (number_up_to 65535 (codes "0")) _ refl

want_error : want_in (codes "error") ≢ None
want_error = some_isnt (want_in (codes "error")) _ refl

pub wrong_late : (d : Dialect) (words : List (List ℕ)) → word words 0 ≡ codes "setup" → IsFirstWrong (AreLine d true) words 0
wrong_late d [] is = absurd (empty_isnt (codes "setup") (omega arith) is)
wrong_late d (name ∷ words) is =
    record { front = ([], empty_line d true); wrong = inr (λ can. late_setup d can.0 (subst (λ (n : List ℕ). AreLine d true (n ∷ can.0)) is can.1)) }

sets : (d : Dialect) (name a b c : List ℕ) → name ≡ codes "setup" → number_up_to 65535 a ≢ None → number_up_to 65535 b ≢ None → want_in c ≢ None → AreLine d false (name ∷ a ∷ b ∷ c ∷ [])
sets d name a b c is s q w =
    subst (λ (n : List ℕ). AreLine d false (n ∷ a ∷ b ∷ c ∷ [])) (sym is) (setup_line d (a ∷ b ∷ c ∷ []) (record { three = refl; subs = s; queue_size = q; want = w }))

set_as : (d : Dialect) (name : List ℕ) (words : List (List ℕ)) → name ≡ codes "setup" → AreLine d false (name ∷ words) → AreSetup words
set_as d name words is line = line_setup d words (subst (λ (n : List ℕ). AreLine d false (n ∷ words)) is line)

pub wrong_subs : (d : Dialect) (words : List (List ℕ)) → word words 0 ≡ codes "setup" → number_up_to 65535 (word words 1) ≡ None → IsFirstWrong (AreLine d false) words 1
wrong_subs d [] is s = absurd (empty_isnt (codes "setup") (omega arith) is)
wrong_subs d (name ∷ []) is s =
    record { front = (codes "0" ∷ codes "0" ∷ codes "error" ∷ [], sets d name _ _ _ is count_0 count_0 want_error); wrong = inl refl }
wrong_subs d (name ∷ a ∷ words) is s =
    record { front = (codes "0" ∷ codes "0" ∷ codes "error" ∷ [], sets d name _ _ _ is count_0 count_0 want_error); wrong = inr (λ can. (set_as d name (a ∷ can.0) is can.1).subs s) }

pub wrong_room : (d : Dialect) (words : List (List ℕ)) → word words 0 ≡ codes "setup" → number_up_to 65535 (word words 1) ≢ None → number_up_to 65535 (word words 2) ≡ None → IsFirstWrong (AreLine d false) words 2
wrong_room d [] is s q = absurd (empty_isnt (codes "setup") (omega arith) is)
wrong_room d (name ∷ []) is s q = absurd (s (no_number 65535))
wrong_room d (name ∷ a ∷ []) is s q =
    record { front = (codes "0" ∷ codes "error" ∷ [], sets d name a _ _ is s count_0 want_error); wrong = inl refl }
wrong_room d (name ∷ a ∷ b ∷ words) is s q =
    record { front = (codes "0" ∷ codes "error" ∷ [], sets d name a _ _ is s count_0 want_error); wrong = inr (λ can. (set_as d name (a ∷ b ∷ can.0) is can.1).queue_size q) }

pub wrong_want : (d : Dialect) (words : List (List ℕ)) → word words 0 ≡ codes "setup" → number_up_to 65535 (word words 1) ≢ None → number_up_to 65535 (word words 2) ≢ None → want_in (word words 3) ≡ None → IsFirstWrong (AreLine d false) words 3
wrong_want d [] is s q w = absurd (empty_isnt (codes "setup") (omega arith) is)
wrong_want d (name ∷ []) is s q w = absurd (s (no_number 65535))
wrong_want d (name ∷ a ∷ []) is s q w = absurd (q (no_number 65535))
wrong_want d (name ∷ a ∷ b ∷ []) is s q w =
    record { front = (codes "error" ∷ [], sets d name a b _ is s q want_error); wrong = inl refl }
wrong_want d (name ∷ a ∷ b ∷ c ∷ words) is s q w =
    record { front = (codes "error" ∷ [], sets d name a b _ is s q want_error); wrong = inr (λ can. (set_as d name (a ∷ b ∷ c ∷ can.0) is can.1).want w) }

no_want : want_in [] ≡ None
no_want = refl

pub setup_long : (d : Dialect) (words : List (List ℕ)) → 4 < length words → word words 0 ≡ codes "setup" → number_up_to 65535 (word words 1) ≢ None → number_up_to 65535 (word words 2) ≢ None → want_in (word words 3) ≢ None → IsFirstWrong (AreLine d false) words 4
setup_long d [] many is s q w = absurd (empty_isnt (codes "setup") (omega arith) is)
setup_long d (name ∷ []) many is s q w = absurd (s (no_number 65535))
setup_long d (name ∷ a ∷ []) many is s q w = absurd (q (no_number 65535))
setup_long d (name ∷ a ∷ b ∷ []) many is s q w = absurd (w no_want)
setup_long d (name ∷ a ∷ b ∷ c ∷ []) many is s q w = absurd (omega (arith, many))
setup_long d (name ∷ a ∷ b ∷ c ∷ e ∷ words) many is s q w =
    record { front = ([], sets d name a b c is s q w); wrong = inr (λ can. (let three = (set_as d name (a ∷ b ∷ c ∷ e ∷ can.0) is can.1).three in omega (arith, three))) }

pub setup_ends : (d : Dialect) (words : List (List ℕ)) → length words ≤ 4 → word words 0 ≡ codes "setup" → number_up_to 65535 (word words 1) ≢ None → number_up_to 65535 (word words 2) ≢ None → want_in (word words 3) ≢ None → AreLine d false words
setup_ends d [] few is s q w = absurd (empty_isnt (codes "setup") (omega arith) is)
setup_ends d (name ∷ []) few is s q w = absurd (s (no_number 65535))
setup_ends d (name ∷ a ∷ []) few is s q w = absurd (q (no_number 65535))
setup_ends d (name ∷ a ∷ b ∷ []) few is s q w = absurd (w no_want)
setup_ends d (name ∷ a ∷ b ∷ c ∷ []) few is s q w = sets d name a b c is s q w
setup_ends d (name ∷ a ∷ b ∷ c ∷ e ∷ words) few is s q w = absurd (omega (arith, few))

-- ---- a poll

poll_behind : (d : Dialect) (begun : Bool) (name : List ℕ) (words : List (List ℕ)) (i : ℕ) → name ≡ codes "collect" → IsFirstWrong AreFault words i → IsFirstWrong (AreLine d begun) (name ∷ words) (i + 1)
poll_behind d begun name words i is h =
    subst (λ (n : List ℕ). IsFirstWrong (AreLine d begun) (n ∷ words) (i + 1)) (sym is)
    (behind (AreLine d begun) (codes "collect") words i (likewise AreFault (λ ws. AreLine d begun (codes "collect" ∷ ws)) words i (polled d begun) (line_collect d begun) h))

pub poll_wrong : (d : Dialect) (begun : Bool) (words : List (List ℕ)) (i : ℕ) → word words 0 ≡ codes "collect" → IsFirstWrong AreFault (drop 1 words) i → IsFirstWrong (AreLine d begun) words (i + 1)
poll_wrong d begun [] i is h = absurd (empty_isnt (codes "collect") (omega arith) is)
poll_wrong d begun (name ∷ words) i is h = poll_behind d begun name words i is h

pub poll_ends : (d : Dialect) (begun : Bool) (words : List (List ℕ)) → word words 0 ≡ codes "collect" → AreFault (drop 1 words) → AreLine d begun words
poll_ends d begun [] is h = absurd (empty_isnt (codes "collect") (omega arith) is)
poll_ends d begun (name ∷ words) is h = subst (λ (n : List ℕ). AreLine d begun (n ∷ words)) (sym is) (polled d begun words h)

-- ---- a report

pub draw_wrong : (d : Dialect) (begun : Bool) (words : List (List ℕ)) → 1 < length words → word words 0 ≡ codes "draw" → IsFirstWrong (AreLine d begun) words 1
draw_wrong d begun [] many is = absurd (empty_isnt (codes "draw") (omega arith) is)
draw_wrong d begun (name ∷ []) many is = absurd (omega (arith, many))
draw_wrong d begun (name ∷ a ∷ words) many is =
    record {
      front = ([], subst (λ (n : List ℕ). AreLine d begun (n ∷ [])) (sym is) (drawn d begun));
      wrong = inr (λ can. long_draw d begun a can.0 (subst (λ (n : List ℕ). AreLine d begun (n ∷ a ∷ can.0)) is can.1));
    }

pub draw_ends : (d : Dialect) (begun : Bool) (words : List (List ℕ)) → length words ≤ 1 → word words 0 ≡ codes "draw" → AreLine d begun words
draw_ends d begun [] few is = absurd (empty_isnt (codes "draw") (omega arith) is)
draw_ends d begun (name ∷ []) few is = subst (λ (n : List ℕ). AreLine d begun (n ∷ [])) (sym is) (drawn d begun)
draw_ends d begun (name ∷ a ∷ words) few is = absurd (omega (arith, few))

-- ---- a search

no_search : (spelling : Spelling) → IsSearch spelling [] → ⊥
no_search Strict h = cc
no_search Friendly h = cc

pub search_wrong : (d : Dialect) (begun : Bool) (words : List (List ℕ)) → 1 < length words → IsSearch d.spelling (word words 0) → IsFirstWrong (AreLine d begun) words 1
search_wrong d begun [] many is = absurd (no_search d.spelling is)
search_wrong d begun (name ∷ []) many is = absurd (omega (arith, many))
search_wrong d begun (name ∷ a ∷ words) many is = record { front = ([], searched d begun name is); wrong = inr (λ can. long_search d begun name a can.0 is can.1) }

pub search_ends : (d : Dialect) (begun : Bool) (words : List (List ℕ)) → length words ≤ 1 → IsSearch d.spelling (word words 0) → AreLine d begun words
search_ends d begun [] few is = absurd (no_search d.spelling is)
search_ends d begun (name ∷ []) few is = searched d begun name is
search_ends d begun (name ∷ a ∷ words) few is = absurd (omega (arith, few))

-- ---- reports, and a change at the panel

some_0 : number_up_to 4294967295 (codes "0") ≢ None
unfolding number_up_to decimal_in
some_0 = some_isnt (number_up_to 4294967295 (codes "0")) _ refl

uncounted : IsCounted [] → ⊥
uncounted (inl h) = empty_isnt (codes "settle") (omega arith) h
uncounted (inr h) = empty_isnt (codes "panel") (omega arith) h

pub wrong_count : (d : Dialect) (begun : Bool) (words : List (List ℕ)) → IsCounted (word words 0) → number_up_to 4294967295 (word words 1) ≡ None → IsFirstWrong (AreLine d begun) words 1
wrong_count d begun [] is n = absurd (uncounted is)
wrong_count d begun (name ∷ []) is n =
    record { front = (codes "0" ∷ [], counted d begun name (codes "0") is some_0); wrong = inl refl }
wrong_count d begun (name ∷ a ∷ words) is n =
    record { front = (codes "0" ∷ [], counted d begun name (codes "0") is some_0); wrong = inr (λ can. (line_counted d begun name (a ∷ can.0) is can.1).count n) }

pub count_long : (d : Dialect) (begun : Bool) (words : List (List ℕ)) → 2 < length words → IsCounted (word words 0) → number_up_to 4294967295 (word words 1) ≢ None → IsFirstWrong (AreLine d begun) words 2
count_long d begun [] many is n = absurd (uncounted is)
count_long d begun (name ∷ []) many is n = absurd (n (no_number 4294967295))
count_long d begun (name ∷ a ∷ []) many is n = absurd (omega (arith, many))
count_long d begun (name ∷ a ∷ b ∷ words) many is n =
    record { front = ([], counted d begun name a is n); wrong = inr (λ can. (let one = (line_counted d begun name (a ∷ b ∷ can.0) is can.1).one in omega (arith, one))) }

pub count_ends : (d : Dialect) (begun : Bool) (words : List (List ℕ)) → length words ≤ 2 → IsCounted (word words 0) → number_up_to 4294967295 (word words 1) ≢ None → AreLine d begun words
count_ends d begun [] few is n = absurd (uncounted is)
count_ends d begun (name ∷ []) few is n = absurd (n (no_number 4294967295))
count_ends d begun (name ∷ a ∷ []) few is n = counted d begun name a is n
count_ends d begun (name ∷ a ∷ b ∷ words) few is n = absurd (omega (arith, few))

-- ---- no step

pub wrong_step : (d : Dialect) (begun : Bool) (words : List (List ℕ)) → IsNoName d (word words 0) → line_at d begun words ≡ Faulty → IsFirstWrong (AreLine d begun) words 0
wrong_step d begun [] other faulty = absurd (empty_line d begun faulty)
wrong_step d begun (name ∷ words) other faulty =
    record { front = ([], empty_line d begun); wrong = inr (λ can. no_line d begun name words can.0 other faulty can.1) }

-- ---- nine words of a line

take_twice : (n : ℕ) (words : List (List ℕ)) → n ≤ 9 → take n (take 9 words) ≡ take n words
take_twice n words few = take-take n 9 words few

pub first_of_nine : (P : List (List ℕ) → Type 0) (words : List (List ℕ)) (i : ℕ) → i < 9 → IsFirstWrong P (take 9 words) i → IsFirstWrong P words i
first_of_nine P words i few h =
    record {
      front = subst (λ (ws : List (List ℕ)). CanBegin P ws) (take_twice i words (omega (arith, few))) h.front;
      wrong = elim h.wrong [
        | inl e ↦ inl (let n : length (take 9 words) ≡ min 9 (length words) = length-take 9 words in omega (arith, e, n, few))
        | inr never ↦ inr (λ can. never (subst (λ (ws : List (List ℕ)). CanBegin P ws) (sym (take_twice (i + 1) words (omega (arith, few)))) can))
      ];
    }
