-- The lines of a text are read one after the other.
use Rattle.std.proofs.Common.{add-one, Bor, slice_index_or, option_map, ◌≡◌, ℕ, zero, suc, ◌+◌, ◌<◌, ◌≤◌, Bool, true, false, ltb, List, [], ◌∷◌, ◌++◌, length, map, take, slice_get, Some, None, refl, sym, ap, subst, ◌∙◌, arith, append_assoc}
use Rattle.std.specs.List.{join_with_byte, sum_by}
use Rattle.std.proofs.lemmas.Bool.{ltb-true, ltb-false}
use Rattle.std.proofs.lemmas.List.{length-map, map-append}
use Rattle.std.proofs.lemmas.Option.{slice_get-get_or, slice_get-map}
use Rattle.std.proofs.lemmas.List.Sums.{sum_by-append}
use Rattle.rdm_expect.specs.declared.sheet.Expectation.{Expectation}
use Rattle.rdm_expect.specs.declared.wish.Flaw.{Flaw}
use Rattle.rdm_expect.specs.Sheets.{kept, separator, sends, sent_before, expected_by, expected_within, flaw_behind, flaw_at, expectations_of, AreFlawlessBefore, IsFirstFlaw}

-- so many lines were read
pub record IsReadTo (lines : List (List ℕ)) (count sent : ℕ) (script : List ℕ) (expectations : List Expectation) : Type 0 where
  pub sent_is : sent ≡ sent_before lines count
  pub script_is : script ≡ join_with_byte 10 (map kept (take count lines))
  pub whole : expectations ≡ expected_within lines count
  pub flawless : AreFlawlessBefore lines count

pub read_none : (lines : List (List ℕ)) → IsReadTo lines 0 0 [] []
read_none lines = record { sent_is = refl; script_is = refl; whole = refl; flawless = λ index less. absurd (omega (arith, less)) }

-- with the line at an index the first ones are one more
taken_more : (lines : List (List ℕ)) (index : ℕ) (line : List ℕ) → slice_get lines index ≡ Some line → take (suc index) lines ≡ take index lines ++ line ∷ []
taken_more [] zero line h = absurd cc
taken_more [] (suc index) line h = absurd cc
taken_more (first ∷ lines) zero line h = cc
taken_more (first ∷ lines) (suc index) line h = ap (λ (l : List (List ℕ)). first ∷ l) (taken_more lines index line h)

joined_more : (first : List ℕ) (lines : List (List ℕ)) (line : List ℕ) → join_with_byte 10 ((first ∷ lines) ++ line ∷ []) ≡ join_with_byte 10 (first ∷ lines) ++ 10 ∷ line
joined_more first [] line = refl
joined_more first (next ∷ lines) line = ap (λ (l : List ℕ). first ++ 10 ∷ l) (joined_more next lines line) ∙ sym (append_assoc first (10 ∷ join_with_byte 10 (next ∷ lines)) (10 ∷ line))

script_more : (lines : List (List ℕ)) (index : ℕ) (line : List ℕ) → slice_get lines index ≡ Some line
    → join_with_byte 10 (map kept (take (suc index) lines)) ≡ (join_with_byte 10 (map kept (take index lines)) ++ separator index) ++ kept line
script_more [] zero line h = absurd cc
script_more [] (suc index) line h = absurd cc
script_more (first ∷ lines) zero line h = cc
script_more (first ∷ lines) (suc index) line h =
    ap (λ (l : List (List ℕ)). join_with_byte 10 (map kept l)) (taken_more (first ∷ lines) (suc index) line h)
    ∙ ap (join_with_byte 10) (map-append kept (first ∷ take index lines) (line ∷ []))
    ∙ joined_more (kept first) (map kept (take index lines)) (kept line)
    ∙ sym (append_assoc (join_with_byte 10 (map kept (first ∷ take index lines))) (10 ∷ []) (kept line))

sent_more : (lines : List (List ℕ)) (index : ℕ) (line : List ℕ) → slice_get lines index ≡ Some line → sent_before lines (suc index) ≡ sent_before lines index + sends line
sent_more lines index line h =
    ap (sum_by sends) (taken_more lines index line h) ∙ sum_by-append sends (take index lines) (line ∷ []) ∙ omega arith

-- the flaw at the index of a line
flaw_there : (lines : List (List ℕ)) (index sent : ℕ) (line : List ℕ) → slice_get lines index ≡ Some line → sent ≡ sent_before lines index → flaw_at lines index ≡ flaw_behind sent line
flaw_there lines index sent line h e = rw (h, e) refl

-- an index before the next line is that of a line before, or of this one
flawless_at : (lines : List (List ℕ)) (index k : ℕ) (b : Bool) → ltb k index ≡ b → flaw_at lines index ≡ None → AreFlawlessBefore lines index → k < suc index → flaw_at lines k ≡ None
flawless_at lines index k true e here before less = before k (ltb-true _ _ e)
flawless_at lines index k false e here before less =
    let past : index ≤ k = ltb-false _ _ e in
    let same : index ≡ k = omega (arith, past, less) in
    subst (λ (n : ℕ). flaw_at lines n ≡ None) same here

flawless_more : (lines : List (List ℕ)) (index : ℕ) → flaw_at lines index ≡ None → AreFlawlessBefore lines index → AreFlawlessBefore lines (suc index)
flawless_more lines index here before = λ k less. flawless_at lines index k (ltb k index) refl here before less

pub read_more : (lines : List (List ℕ)) (index sent : ℕ) (script : List ℕ) (expectations : List Expectation) (line : List ℕ)
    → slice_get lines index ≡ Some line → flaw_behind sent line ≡ None → IsReadTo lines index sent script expectations
    → IsReadTo lines (suc index) (sent + sends line) ((script ++ separator index) ++ kept line) (expectations ++ expected_by index sent line)
read_more lines index sent script expectations line there none read = record {
  sent_is = rw read.sent_is (sym (sent_more lines index line there));
  script_is = rw read.script_is (sym (script_more lines index line there));
  whole = rw (there, read.whole, read.sent_is) refl;
  flawless = flawless_more lines index (flaw_there lines index sent line there read.sent_is ∙ none) read.flawless;
}

pub first_flaw : (lines : List (List ℕ)) (index sent number : ℕ) (script : List ℕ) (expectations : List Expectation) (line : List ℕ) (flaw : Flaw)
    → slice_get lines index ≡ Some line → number ≡ index + 1 → flaw_behind sent line ≡ Some flaw → IsReadTo lines index sent script expectations → IsFirstFlaw lines number flaw
first_flaw lines index sent number script expectations line flaw there counted found read = record {
  index = index;
  counted = counted;
  is = flaw_there lines index sent line there read.sent_is ∙ found;
  before = read.flawless;
}

all_taken : (lines : List (List ℕ)) → take (length lines) lines ≡ lines
all_taken [] = refl
all_taken (line ∷ lines) = ap (λ (l : List (List ℕ)). line ∷ l) (all_taken lines)

-- all lines were read
pub script_all : (lines : List (List ℕ)) (sent : ℕ) (script : List ℕ) (expectations : List Expectation) → IsReadTo lines (length lines) sent script expectations → script ≡ join_with_byte 10 (map kept lines)
script_all lines sent script expectations read = read.script_is ∙ ap (λ (l : List (List ℕ)). join_with_byte 10 (map kept l)) (all_taken lines)

-- the piece at an index is the line there
pub there : (pieces : List (Bor (List ℕ))) (index : ℕ) (d : Bor (List ℕ)) → index < length pieces → slice_get (map (λ piece. piece.now) pieces) index ≡ Some (slice_index_or pieces index d).now
there pieces index d less = slice_get-map (λ (piece : Bor (List ℕ)). piece.now) pieces index ∙ ap (option_map (λ (piece : Bor (List ℕ)). piece.now)) (slice_get-get_or pieces index d less)

pub read_next : (lines : List (List ℕ)) (index sent count : ℕ) (script separated script' line : List ℕ) (expectations expectations' : List Expectation)
    → slice_get lines index ≡ Some line → flaw_behind sent line ≡ None → separated ≡ script ++ separator index → script' ≡ separated ++ kept line → expectations' ≡ expectations ++ expected_by index sent line → count ≡ sends line
    → IsReadTo lines index sent script expectations → IsReadTo lines (index + 1) (sent + count) script' expectations'
read_next lines index sent count script separated script' line expectations expectations' here none apart written wanted sends' read =
    rw (add-one, sends', written, apart, wanted) (read_more lines index sent script expectations line here none read)

pub whole_all : (pieces : List (Bor (List ℕ))) (index sent : ℕ) (script : List ℕ) (expectations : List Expectation) → index ≤ length pieces → length pieces ≤ index → IsReadTo (map (λ piece. piece.now) pieces) index sent script expectations → expectations ≡ expectations_of (map (λ piece. piece.now) pieces)
whole_all pieces index sent script expectations within past read =
    let same : index ≡ length pieces = omega (arith, within, past) in
    read.whole ∙ ap (expected_within (map (λ (piece : Bor (List ℕ)). piece.now) pieces)) (same ∙ sym (length-map pieces (λ (piece : Bor (List ℕ)). piece.now)))
