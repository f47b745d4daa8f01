-- Lines of a text one after the other, and what they say.
use Rattle.std.proofs.Common.{◌≡◌, ◌≢◌, ℕ, suc, ◌+◌, ◌-◌, ◌<◌, ◌≤◌, ◌==◌, Bool, true, false, not, cond, List, [], ◌∷◌, ◌++◌, length, get_or, take, drop, position, Some, None, refl, sym, ap, subst, ◌∙◌, arith, add-one, count_by}
use Rattle.std.specs.List.{slice_split}
use Rattle.std.specs.Str.Lines.{strip_carriage_return as without_return}
use Rattle.std.proofs.lemmas.List.Splits.{length-slice_split}
use Rattle.std.proofs.lemmas.Option.{slice_get-get_or}
use Rattle.std.proofs.Math.Seq.{drop-cons}
use Rattle.std.proofs.lemmas.List.{take_more, flat_map_more, length-map, length-drop, take_all}
use Rattle.std.proofs.lemmas.List.Elements.{All-more}
use Rattle.std.proofs.lemmas.List.Sums.{fold-append}
use Rattle.rdm_crew.specs.declared.step.CrewStep.{CrewStep}
use Rattle.rdm_script.specs.Dialects.{Dialect}
use Rattle.rdm_script.specs.declared.script.ScriptSetup.{ScriptSetup}
use Rattle.rdm_script.specs.declared.grammar.line.Line.{Line}
use Rattle.rdm_script.specs.declared.grammar.line.Line.TheVariants.{Skipped, Sets, Says, Finds, Faulty}
use Rattle.rdm_script.proofs.Pieces.{pieces_more, pieces_last}
use Rattle.rdm_script.specs.Parties.{plain_setup}
use Rattle.rdm_script.specs.Grammar.{line_in, first_line_in, line_at, is_skipped, words_of, said_later, said_by, lines_of, without_returns, begun_after, setup_after, steps_of_line, AreSaid, IsFirstFaulty}
use Rattle.rdm_script.proofs.LineSpellings.{first_begins}

abbrev is_lf : ℕ → Bool
is_lf b = b == 10

returns_first : (line : List ℕ) (more : List (List ℕ)) → 0 < length more → without_returns (line ∷ more) ≡ without_return line ∷ without_returns more
returns_first line [] h = absurd (omega arith)
returns_first line (next ∷ more) h = refl

length-without_returns : (lines : List (List ℕ)) → length (without_returns lines) ≡ length lines
length-without_returns [] = refl
length-without_returns (last ∷ []) = refl
length-without_returns (line ∷ next ∷ more) = ap suc (length-without_returns (next ∷ more))

-- the first line of a text with an LF, and the lines behind it
pub lines_of_more : (text : List ℕ) (end : ℕ) → position (λ b. b == 10) text ≡ Some end → lines_of text ≡ without_return (take end text) ∷ lines_of (drop (end + 1) text)
unfolding lines_of
lines_of_more text end h =
    ap without_returns (pieces_more is_lf text end h) ∙ returns_first (take end text) (slice_split is_lf (drop (end + 1) text)) (omega (arith, length-slice_split is_lf (drop (end + 1) text)))

-- a text without an LF is one line
pub lines_of_last : (text : List ℕ) → position (λ b. b == 10) text ≡ None → lines_of text ≡ text ∷ []
unfolding lines_of
lines_of_last text h = ap without_returns (pieces_last is_lf text h)

pub line_count_is : (text : List ℕ) → length (lines_of text) ≡ count_by (λ b. b == 10) text + 1
unfolding lines_of
line_count_is text = length-without_returns (slice_split is_lf text) ∙ length-slice_split is_lf text

-- ---- what each line says

-- what lines say behind others
abbrev pub said_from : Dialect → Bool → List (List ℕ) → List Line
said_from dev true lines = said_later dev lines
said_from dev false lines = said_by dev lines

pub said_none : (dev : Dialect) (begun : Bool) → said_from dev begun [] ≡ []
said_none dev true = refl
said_none dev false = refl

begun_stays : (line : Line) → begun_after true line ≡ true
begun_stays Skipped = refl
begun_stays (Sets s) = refl
begun_stays (Says step) = refl
begun_stays (Finds device) = refl
begun_stays Faulty = refl

goes_on : (dev : Dialect) (b : Bool) (more : List (List ℕ)) → cond b (said_by dev more) (said_later dev more) ≡ said_from dev (not b) more
goes_on dev true more = refl
goes_on dev false more = refl

-- the first line of some, and those behind it
pub said_first : (dev : Dialect) (begun : Bool) (line : List ℕ) (more : List (List ℕ)) → said_from dev begun (line ∷ more) ≡ line_at dev begun (words_of dev.spelling line) ∷ said_from dev (begun_after begun (line_at dev begun (words_of dev.spelling line))) more
said_first dev true line more = rw (begun_stays (line_in dev (words_of dev.spelling line))) refl
said_first dev false line more = rw (first_begins dev (words_of dev.spelling line)) (ap (λ (xs : List Line). first_line_in dev (words_of dev.spelling line) ∷ xs) (goes_on dev (is_skipped (words_of dev.spelling line)) more))

length-cond : (b : Bool) (xs ys : List Line) (n : ℕ) → length xs ≡ n → length ys ≡ n → length (cond b xs ys) ≡ n
length-cond true xs ys n h k = h
length-cond false xs ys n h k = k

length-said_by : (dev : Dialect) (lines : List (List ℕ)) → length (said_by dev lines) ≡ length lines
length-said_by dev [] = refl
length-said_by dev (line ∷ more) =
    let later : length (said_later dev more) ≡ length more = rw length-map refl in
    ap suc (length-cond (is_skipped (words_of dev.spelling line)) (said_by dev more) (said_later dev more) (length more) (length-said_by dev more) later)

pub said_count : (dev : Dialect) (text : List ℕ) → length (said_by dev (lines_of text)) ≡ length (lines_of text)
said_count dev text = length-said_by dev (lines_of text)

-- ---- a line at hand

-- the line is the one at this index, and these come behind it
pub record AtLine (said : List Line) (i : ℕ) (line : Line) (behind : List Line) : Type 0 where
  pub lt : i < length said
  pub is : get_or said i line ≡ line
  pub rest : behind ≡ drop (i + 1) said

at_front : (said : List Line) (i : ℕ) (line : Line) (behind : List Line) → line ∷ behind ≡ drop i said → AtLine said i line behind
at_front said i line behind e =
    let some : 0 < length (drop i said) = rw (← e) (omega arith) in
    let lt : i < length said = omega (arith, length-drop i said) in
    let parts : drop i said ≡ get_or said i line ∷ drop (i + 1) said = rw add-one (drop-cons said i line lt) in
    let both : line ∷ behind ≡ get_or said i line ∷ drop (i + 1) said = e ∙ parts in
    let one : get_or said i line ≡ line = cc in
    let more : behind ≡ drop (i + 1) said = cc in
    record { lt = lt; is = one; rest = more }

-- a line is read off the rest of the text
pub at_line : (dev : Dialect) (said : List Line) (begun : Bool) (rest : List ℕ) (i end : ℕ) (line after : List ℕ) → position (λ b. b == 10) rest ≡ Some end → line ≡ without_return (take end rest) → after ≡ drop (end + 1) rest
    → said_from dev begun (lines_of rest) ≡ drop i said → AtLine said i (line_at dev begun (words_of dev.spelling line)) (said_from dev (begun_after begun (line_at dev begun (words_of dev.spelling line))) (lines_of after))
at_line dev said begun rest i end line after h is_line is_after so_far =
    let lines : lines_of rest ≡ line ∷ lines_of after = rw (is_line, is_after) (lines_of_more rest end h) in
    at_front said i _ _ (sym (said_first dev begun line (lines_of after)) ∙ ap (said_from dev begun) (sym lines) ∙ so_far)

-- the rest of the text is the last line
pub at_last : (dev : Dialect) (said : List Line) (begun : Bool) (rest : List ℕ) (i : ℕ) → position (λ b. b == 10) rest ≡ None
    → said_from dev begun (lines_of rest) ≡ drop i said → AtLine said i (line_at dev begun (words_of dev.spelling rest)) []
at_last dev said begun rest i h so_far =
    let one : line_at dev begun (words_of dev.spelling rest) ∷ said_from dev (begun_after begun (line_at dev begun (words_of dev.spelling rest))) [] ≡ drop i said = sym (said_first dev begun rest []) ∙ ap (said_from dev begun) (sym (lines_of_last rest h)) ∙ so_far in
    at_front said i _ [] (ap (λ (xs : List Line). line_at dev begun (words_of dev.spelling rest) ∷ xs) (sym (said_none dev (begun_after begun (line_at dev begun (words_of dev.spelling rest))))) ∙ one)

-- it isn't faulty, and what it says goes with what the lines before it say
pub passes : (said : List Line) (i : ℕ) (line : Line) (behind : List Line) (setup : ScriptSetup) (steps : List CrewStep) → AtLine said i line behind → line ≢ Faulty → AreSaid (take i said) setup steps → AreSaid (take (i + 1) said) (setup_after setup line) (steps ++ steps_of_line line)
passes said i line behind setup steps here sound before =
    let more : take (i + 1) said ≡ take i said ++ line ∷ [] = take_more said i line here.lt ∙ ap (λ (x : Line). take i said ++ x ∷ []) here.is in
    record {
      faultless = All-more (λ x. x ≢ Faulty) said i line here.lt before.faultless (rw here.is sound);
      setup_is = rw (more, fold-append setup_after plain_setup (take i said) (line ∷ [])) (ap (λ (s : ScriptSetup). setup_after s line) before.setup_is);
      in_order = rw (more, before.in_order) (flat_map_more steps_of_line [] (take i said) line);
    }

-- the first line that is faulty
pub fails : (said : List Line) (i : ℕ) (line : Line) (behind : List Line) (setup : ScriptSetup) (steps : List CrewStep) → AtLine said i line behind → line ≡ Faulty → AreSaid (take i said) setup steps → IsFirstFaulty said (i + 1)
fails said i line behind setup steps here faulty before =
    let back : i ≡ i + 1 - 1 = omega arith in
    let at : get_or said i Faulty ≡ Faulty = rw (← faulty) here.is in
    record {
      counted = omega arith;
      faulty = rw (← back) (slice_get-get_or said i Faulty here.lt ∙ ap (λ (x : Line). Some x) at);
      front = rw (← back) before.faultless;
    }

-- the last line says something else than a fault
pub last_passes : (said : List Line) (i : ℕ) (line : Line) (setup : ScriptSetup) (steps : List CrewStep) → AtLine said i line [] → line ≢ Faulty → AreSaid (take i said) setup steps → AreSaid said (setup_after setup line) (steps ++ steps_of_line line)
last_passes said i line setup steps here sound before =
    let past : length said ≤ i + 1 = omega (arith, length-drop (i + 1) said, ap length here.rest) in
    subst (λ (ls : List Line). AreSaid ls (setup_after setup line) (steps ++ steps_of_line line)) (take_all (i + 1) said past) (passes said i line [] setup steps here sound before)
