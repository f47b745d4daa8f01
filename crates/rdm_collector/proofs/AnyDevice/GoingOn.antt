-- Records that go on, one after the other: how many there are, what their data are, and whether they are sure.
use Rattle.std.proofs.Common.{◌≡◌, ◌⊎◌, ℕ, ◌-◌, ◌==◌, ◌&&◌, not, Bool, true, false, cond, List, [], ◌∷◌, ◌++◌, length, take, Option, Some, refl, sym, ap, ◌∙◌, arith, inl, inr, append_assoc}
use Rattle.std.specs.Prelude.{slice_get}
use Rattle.std.specs.Option.{option_map_or}
use Rattle.std.proofs.lemmas.Bool.{cond-true, cond-false, or_cases, or_left, or_right, lt-ltb, eq-eqb, ne_eqb}
use Rattle.std.proofs.lemmas.List.{append-nil, length-append}
use Rattle.std.proofs.Math.Seq.{take-append_seam}
use Rattle.rdm_collector.specs.declared.any_device.collected.Collected.{Collected}
use Rattle.rdm_collector.specs.AnyDevice.Parts.{is_part, is_repeat, goes_on, run_behind, first_run, ends_in_part, has_whole, is_unsure, is_unsure_behind, data_behind}

-- the last of these
abbrev pub end_of : Collected → List Collected → Collected
end_of c [] = c
end_of c (d ∷ ds) = end_of d ds

-- each goes on with the one before it
abbrev pub GoOn : Collected → List Collected → Type 0
GoOn c [] = Unit {0}
GoOn c (d ∷ ds) = (goes_on c d ≡ true) × GoOn d ds

-- the next, if there is one, doesn't go on with this
abbrev pub StopsAt : Collected → List Collected → Type 0
StopsAt c [] = Unit {0}
StopsAt c (d ∷ ds) = goes_on c d ≡ false

pub end_of-push : (c : Collected) (cs : List Collected) (d : Collected) → end_of c (cs ++ d ∷ []) ≡ d
end_of-push c [] d = refl
end_of-push c (e ∷ cs) d = end_of-push e cs d

pub GoOn-push : (c : Collected) (cs : List Collected) (d : Collected) → GoOn c cs → goes_on (end_of c cs) d ≡ true → GoOn c (cs ++ d ∷ [])
GoOn-push c [] d go e = (e, tt)
GoOn-push c (x ∷ cs) d go e = (go.0, GoOn-push x cs d go.1 e)

-- ---- their number

pub run_of : (c : Collected) (cs ds : List Collected) → GoOn c cs → StopsAt (end_of c cs) ds → run_behind c (cs ++ ds) ≡ length cs
run_of c [] [] go stops = refl
run_of c [] (d ∷ ds) go stops = cond-false _ _ _ stops
run_of c (x ∷ cs) ds go stops = cond-true _ _ _ go.0 ∙ omega (arith, run_of x cs ds go.1 stops)

-- ---- their data

pub data_behind-push : (c : Collected) (cs : List Collected) (d : Collected)
    → data_behind c (cs ++ d ∷ []) ≡ data_behind c cs ++ cond (is_repeat (end_of c cs) d) [] d.message.body
data_behind-push c [] d = append-nil (cond (is_repeat c d) [] d.message.body)
data_behind-push c (x ∷ cs) d =
    let here : List ℕ = cond (is_repeat c x) [] x.message.body in
    ap (λ (ys : List ℕ). here ++ ys) (data_behind-push x cs d) ∙ sym (append_assoc here (data_behind x cs) (cond (is_repeat (end_of x cs) d) [] d.message.body))

-- ---- whether they are sure

pub unsure-kept : (c : Collected) (cs : List Collected) (d : Collected) → is_unsure_behind c cs ≡ true → is_unsure_behind c (cs ++ d ∷ []) ≡ true
unsure-kept c [] d e = absurd cc
unsure-kept c (x ∷ cs) d e =
    elim (or_cases (is_unsure c x) (is_unsure_behind x cs) e) [
      | inl here ↦ or_left _ _ here
      | inr behind ↦ or_right _ _ (unsure-kept x cs d behind)
    ]

pub unsure-pushed : (c : Collected) (cs : List Collected) (d : Collected) → is_unsure (end_of c cs) d ≡ true → is_unsure_behind c (cs ++ d ∷ []) ≡ true
unsure-pushed c [] d e = or_left _ _ e
unsure-pushed c (x ∷ cs) d e = or_right _ _ (unsure-pushed x cs d e)

-- ---- whether they are whole

last_is : (c : Collected) (cs : List Collected) → slice_get (c ∷ cs) (length cs) ≡ Some (end_of c cs)
last_is c [] = refl
last_is c (d ∷ ds) = last_is d ds

one_less : (c : Collected) (cs : List Collected) → length (c ∷ cs) - 1 ≡ length cs
one_less c cs = omega arith

ends : (c : Collected) (cs : List Collected) → ends_in_part (c ∷ cs) ≡ is_part (end_of c cs).response
ends c cs =
    ap (λ (n : ℕ). option_map_or (λ (x : Collected). is_part x.response) (slice_get (c ∷ cs) n) false) (one_less c cs)
    ∙ ap (λ (o : Option Collected). option_map_or (λ (x : Collected). is_part x.response) o false) (last_is c cs)

whole_at : (some all ends : Bool) → some ≡ true → (all ≡ false) ⊎ (ends ≡ false) → (some && not (all && ends)) ≡ true
whole_at true false ends e (inl x) = refl
whole_at true true ends e (inl x) = absurd cc
whole_at true true false e (inr x) = refl
whole_at true false false e (inr x) = refl
whole_at some all true e (inr x) = absurd cc
whole_at false all ends e x = absurd cc

not_whole_at : (some all ends : Bool) → all ≡ true → ends ≡ true → (some && not (all && ends)) ≡ false
not_whole_at true true true a e = refl
not_whole_at false true true a e = refl
not_whole_at some false ends a e = absurd cc
not_whole_at some true false a e = absurd cc

pub whole_of : (c : Collected) (cs ds : List Collected) → GoOn c cs → is_part (end_of c cs).response ≡ false → StopsAt (end_of c cs) ds
    → has_whole (c ∷ (cs ++ ds)) ≡ true
whole_of c cs [] go part stops =
    let at_end : ends_in_part (c ∷ (cs ++ [])) ≡ false = ends c (cs ++ []) ∙ ap (λ (xs : List Collected). is_part (end_of c xs).response) (append-nil cs) ∙ part in
    whole_at _ _ _ (lt-ltb 0 (length (c ∷ (cs ++ []))) (omega arith)) (inr at_end)
whole_of c cs (d ∷ ds) go part stops =
    let fewer : (first_run (c ∷ (cs ++ d ∷ ds)) == length (c ∷ (cs ++ d ∷ ds))) ≡ false =
    ne_eqb (first_run (c ∷ (cs ++ d ∷ ds))) (length (c ∷ (cs ++ d ∷ ds))) (λ e. omega (arith, e, run_of c cs (d ∷ ds) go stops, length-append cs (d ∷ ds))) in
    whole_at _ _ _ (lt-ltb 0 (length (c ∷ (cs ++ d ∷ ds))) (omega arith)) (inl fewer)

pub not_whole_of : (c : Collected) (cs : List Collected) → GoOn c cs → is_part (end_of c cs).response ≡ true → has_whole (c ∷ cs) ≡ false
not_whole_of c cs go part =
    let run : run_behind c cs ≡ length cs = ap (run_behind c) (sym (append-nil cs)) ∙ run_of c cs [] go tt in
    not_whole_at _ _ _ (eq-eqb (first_run (c ∷ cs)) (length (c ∷ cs)) (omega (arith, run))) (ends c cs ∙ part)

pub front_of : (c : Collected) (cs ds : List Collected) → GoOn c cs → StopsAt (end_of c cs) ds → take (first_run (c ∷ (cs ++ ds))) (c ∷ (cs ++ ds)) ≡ c ∷ cs
front_of c cs ds go stops =
    let count : first_run (c ∷ (cs ++ ds)) ≡ length (c ∷ cs) = omega (arith, run_of c cs ds go stops) in
    ap (λ (n : ℕ). take n (c ∷ (cs ++ ds))) count ∙ take-append_seam (c ∷ cs) ds
