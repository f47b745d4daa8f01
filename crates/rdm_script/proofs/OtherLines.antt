-- Which words a line has that isn't faulty, where it is no command.
use Rattle.std.proofs.Common.{◌≡◌, ◌≢◌, ℕ, Bool, true, false, eqb, List, [], ◌∷◌, length, Option, Some, None, ◌⊎◌, inl, inr, refl, sym, ap, subst, ◌∙◌, arith}
use Rattle.std.specs.Prelude.{codes}
use Rattle.std.specs.Option.{option_map, option_map_or}
use Rattle.std.specs.Str.{bytes_eq}
use Rattle.std.proofs.lemmas.Bool.{eqb-true}
use Rattle.std.proofs.lemmas.Bool.Decides.{nat_tests}
use Rattle.rdm_frame.specs.declared.fault.Fault.{Fault}
use Rattle.rdm_crew.specs.declared.step.CrewStep.{CrewStep}
use Rattle.rdm_crew.specs.declared.step.CrewStep.TheVariants.{Collect, Draw, Settle, Panel}
use Rattle.rdm_script.specs.Dialects.{Dialect}
use Rattle.rdm_script.specs.declared.dialect.Spelling.{Spelling}
use Rattle.rdm_script.specs.declared.script.ScriptSetup.{ScriptSetup}
use Rattle.rdm_script.specs.declared.grammar.line.Line.{Line}
use Rattle.rdm_script.specs.declared.grammar.line.Line.TheVariants.{Skipped, Sets, Says, Finds, Faulty}
use Rattle.rdm_script.specs.Decimals.{number_up_to}
use Rattle.rdm_script.specs.Grammar.{word, action_in, command_in, fault_in, is_skipped, want_in, setup_of, setup_in, asked, command_step_in, step_in, is_find, line_in, first_line_in, line_at}
use Rattle.rdm_script.specs.WrongWords.{AreLine, AreFault}
use Rattle.rdm_script.proofs.Words.{find_two}
use Rattle.rdm_script.proofs.LineSpellings.{and_false, find_read, finds_again, first_finds}
use Rattle.rdm_script.proofs.LineParts.{there, some_isnt, then_is, if_is, both, line_is, says_is, says_isnt, no_setup, no_search, length_suc, command_alone, command_parts}

map_is : {A B : Type 0} (f : A → B) (o : Option A) → o ≢ None → option_map f o ≢ None
map_is f None h = absurd (h refl)
map_is f (Some x) h = λ e. cc

map_isnt : {A B : Type 0} (f : A → B) (o : Option A) → option_map f o ≢ None → o ≢ None
map_isnt f None h = absurd (h refl)
map_isnt f (Some x) h = λ e. cc

pub none_else : {A : Type 0} (o : Option A) → ((o ≢ None) → ⊥) → o ≡ None
none_else None h = refl
none_else (Some x) h = absurd (h (λ e. cc))

-- ---- a line without words

pub empty_line : (d : Dialect) (begun : Bool) → AreLine d begun []
unfolding line_in first_line_in setup_in
empty_line d true = λ e. cc
empty_line d false = λ e. cc

-- ---- a setup

pub record AreSetup (words : List (List ℕ)) : Type 0 where
  pub three : length words ≡ 3
  pub subs : number_up_to 65535 (word words 0) ≢ None
  pub queue_size : number_up_to 65535 (word words 1) ≢ None
  pub want : want_in (word words 2) ≢ None

setup_asks : (d : Dialect) (words : List (List ℕ)) → command_step_in d (codes "setup" ∷ words) ≡ None
setup_asks d words = none_else (command_step_in d (codes "setup" ∷ words)) (λ h. (command_parts d (codes "setup" ∷ words) h).action refl)

-- the name of a setup is none of a step
setup_says : (d : Dialect) (words : List (List ℕ)) → line_in d (codes "setup" ∷ words) ≡ Faulty
unfolding line_in command_step_in asked command_in
setup_says d words =
    let none : step_in d (codes "setup" ∷ words) ≡ None = command_alone d (codes "setup" ∷ words) refl refl refl refl ∙ setup_asks d words in
    rw (length_suc (codes "setup") words, no_search d.spelling (codes "setup" ∷ words) refl, none) refl

pub late_setup : (d : Dialect) (words : List (List ℕ)) → AreLine d true (codes "setup" ∷ words) → ⊥
late_setup d words h = h (setup_says d words)

sets_isnt : (o : Option ScriptSetup) (line : Line) → line ≡ Faulty → option_map_or (λ setup. Sets setup) o line ≢ Faulty → o ≢ None
sets_isnt None line e h = absurd (h e)
sets_isnt (Some x) line e h = λ n. cc

sets_is : (o : Option ScriptSetup) (line : Line) → o ≢ None → option_map_or (λ setup. Sets setup) o line ≢ Faulty
sets_is None line h = absurd (h refl)
sets_is (Some x) line h = λ n. cc

setup_parts : (words : List (List ℕ)) → setup_in (codes "setup" ∷ words) ≢ None → AreSetup words
unfolding setup_in setup_of
setup_parts words h =
    let g = if_is _ _ h in
    let b = both (eqb (length (codes "setup" ∷ words)) 4) (bytes_eq (codes "setup") (codes "setup")) g.0 in
    let s = then_is (number_up_to 65535 (word words 0)) _ g.1 in
    let q = then_is (number_up_to 65535 (word words 1)) _ s.2 in
    let w = then_is (want_in (word words 2)) _ q.2 in
    record {
      three = omega (arith, eqb-true _ _ b.0);
      subs = some_isnt _ _ s.1;
      queue_size = some_isnt _ _ q.1;
      want = some_isnt _ _ w.1;
    }

setup_whole : (words : List (List ℕ)) → AreSetup words → setup_in (codes "setup" ∷ words) ≢ None
unfolding setup_in setup_of
setup_whole words h =
    let s = there _ h.subs in
    let q = there _ h.queue_size in
    let w = there _ h.want in
    let four : eqb (length (codes "setup" ∷ words)) 4 ≡ true = let n = h.three in grind (arith, nat_tests) in
    rw (four, s.1, q.1, w.1) (λ e. cc)

pub line_setup : (d : Dialect) (words : List (List ℕ)) → AreLine d false (codes "setup" ∷ words) → AreSetup words
unfolding first_line_in
line_setup d words h = setup_parts words (sets_isnt _ _ (setup_says d words) h)

pub setup_line : (d : Dialect) (words : List (List ℕ)) → AreSetup words → AreLine d false (codes "setup" ∷ words)
unfolding first_line_in
setup_line d words h = sets_is _ _ (setup_whole words h)

-- ---- a poll

collect_line : (d : Dialect) (begun : Bool) (words : List (List ℕ)) → line_at d begun (codes "collect" ∷ words) ≡ option_map_or (λ step. Says step) (option_map (λ f. Collect f) (fault_in words)) Faulty
unfolding step_in
collect_line d begun words = line_is d begun (codes "collect" ∷ words) (rw (length_suc (codes "collect") words) refl) (no_setup (codes "collect" ∷ words) refl) (no_search d.spelling (codes "collect" ∷ words) refl)

pub line_collect : (d : Dialect) (begun : Bool) (words : List (List ℕ)) → AreLine d begun (codes "collect" ∷ words) → AreFault words
line_collect d begun words h = map_isnt (λ (f : Fault). Collect f) (fault_in words) (says_isnt (option_map (λ f. Collect f) (fault_in words)) (λ e. h (collect_line d begun words ∙ e)))

pub polled : (d : Dialect) (begun : Bool) (words : List (List ℕ)) → AreFault words → AreLine d begun (codes "collect" ∷ words)
polled d begun words h = λ e. says_is (option_map (λ f. Collect f) (fault_in words)) (map_is (λ (f : Fault). Collect f) (fault_in words) h) (sym (collect_line d begun words) ∙ e)

-- ---- a report, reports, and a change at the panel

-- a step of one word
draw_line : (d : Dialect) (begun : Bool) (words : List (List ℕ)) → line_at d begun (codes "draw" ∷ words) ≡ option_map_or (λ step. Says step) (step_in d (codes "draw" ∷ words)) Faulty
draw_line d begun words = line_is d begun (codes "draw" ∷ words) (rw (length_suc (codes "draw") words) refl) (no_setup (codes "draw" ∷ words) refl) (no_search d.spelling (codes "draw" ∷ words) refl)

draw_long : (d : Dialect) (more : List ℕ) (words : List (List ℕ)) → step_in d (codes "draw" ∷ more ∷ words) ≡ None
unfolding step_in
draw_long d more words =
    let long : eqb (length (codes "draw" ∷ more ∷ words)) 1 ≡ false = grind (arith, nat_tests) in
    let none : command_step_in d (codes "draw" ∷ more ∷ words) ≡ None = none_else (command_step_in d (codes "draw" ∷ more ∷ words)) (λ h. (command_parts d (codes "draw" ∷ more ∷ words) h).action refl) in
    rw (long, and_false (eqb (length (codes "draw" ∷ more ∷ words)) 2), none) refl

draw_short : (d : Dialect) → step_in d (codes "draw" ∷ []) ≡ Some Draw
unfolding step_in
draw_short d = refl

pub long_draw : (d : Dialect) (begun : Bool) (more : List ℕ) (words : List (List ℕ)) → AreLine d begun (codes "draw" ∷ more ∷ words) → ⊥
long_draw d begun more words h = says_isnt (step_in d (codes "draw" ∷ more ∷ words)) (λ e. h (draw_line d begun (more ∷ words) ∙ e)) (draw_long d more words)

pub drawn : (d : Dialect) (begun : Bool) → AreLine d begun (codes "draw" ∷ [])
drawn d begun = λ e. says_is (step_in d (codes "draw" ∷ [])) (some_isnt (step_in d (codes "draw" ∷ [])) Draw (draw_short d)) (sym (draw_line d begun []) ∙ e)

-- a step of one word more, a count
abbrev pub IsCounted : List ℕ → Type 0
IsCounted name = (name ≡ codes "settle") ⊎ (name ≡ codes "panel")

pub record AreCount (words : List (List ℕ)) : Type 0 where
  pub one : length words ≡ 1
  pub count : number_up_to 4294967295 (word words 0) ≢ None

counted_line : (d : Dialect) (begun : Bool) (name : List ℕ) (words : List (List ℕ)) → IsCounted name → line_at d begun (name ∷ words) ≡ option_map_or (λ step. Says step) (step_in d (name ∷ words)) Faulty
counted_line d begun name words (inl h) = rw h (line_is d begun (codes "settle" ∷ words) (rw (length_suc (codes "settle") words) refl) (no_setup (codes "settle" ∷ words) refl) (no_search d.spelling (codes "settle" ∷ words) refl))
counted_line d begun name words (inr h) = rw h (line_is d begun (codes "panel" ∷ words) (rw (length_suc (codes "panel") words) refl) (no_setup (codes "panel" ∷ words) refl) (no_search d.spelling (codes "panel" ∷ words) refl))

settle_at : (d : Dialect) (words : List (List ℕ)) (b : Bool) → eqb (length (codes "settle" ∷ words)) 2 ≡ b → step_in d (codes "settle" ∷ words) ≢ None → (b ≡ true) × (number_up_to 4294967295 (word words 0) ≢ None)
unfolding step_in
settle_at d words true e h = (refl, map_isnt (λ (n : ℕ). Settle n) (number_up_to 4294967295 (word words 0)) (λ n. h (rw (and_false (eqb (length (codes "settle" ∷ words)) 1), e) n)))
settle_at d words false e h =
    let none : command_step_in d (codes "settle" ∷ words) ≡ None = none_else (command_step_in d (codes "settle" ∷ words)) (λ k. (command_parts d (codes "settle" ∷ words) k).action refl) in
    absurd (h (rw (and_false (eqb (length (codes "settle" ∷ words)) 1), e, none) refl))

panel_at : (d : Dialect) (words : List (List ℕ)) (b : Bool) → eqb (length (codes "panel" ∷ words)) 2 ≡ b → step_in d (codes "panel" ∷ words) ≢ None → (b ≡ true) × (number_up_to 4294967295 (word words 0) ≢ None)
unfolding step_in
panel_at d words true e h = (refl, map_isnt (λ (n : ℕ). Panel n) (number_up_to 4294967295 (word words 0)) (λ n. h (rw (and_false (eqb (length (codes "panel" ∷ words)) 1), e) n)))
panel_at d words false e h =
    let none : command_step_in d (codes "panel" ∷ words) ≡ None = none_else (command_step_in d (codes "panel" ∷ words)) (λ k. (command_parts d (codes "panel" ∷ words) k).action refl) in
    absurd (h (rw (and_false (eqb (length (codes "panel" ∷ words)) 1), e, none) refl))

counted_parts : (d : Dialect) (name : List ℕ) (words : List (List ℕ)) → IsCounted name → step_in d (name ∷ words) ≢ None → (eqb (length (name ∷ words)) 2 ≡ true) × (number_up_to 4294967295 (word words 0) ≢ None)
counted_parts d name words (inl h) s = settle_at d words (eqb (length (codes "settle" ∷ words)) 2) refl (subst (λ (n : List ℕ). step_in d (n ∷ words) ≢ None) h s)
counted_parts d name words (inr h) s = panel_at d words (eqb (length (codes "panel" ∷ words)) 2) refl (subst (λ (n : List ℕ). step_in d (n ∷ words) ≢ None) h s)

pub line_counted : (d : Dialect) (begun : Bool) (name : List ℕ) (words : List (List ℕ)) → IsCounted name → AreLine d begun (name ∷ words) → AreCount words
line_counted d begun name words is h =
    let p = counted_parts d name words is (says_isnt (step_in d (name ∷ words)) (λ e. h (counted_line d begun name words is ∙ e))) in
    record { one = omega (arith, eqb-true _ _ p.0); count = p.1 }

counted_whole : (d : Dialect) (name count : List ℕ) → IsCounted name → number_up_to 4294967295 count ≢ None → step_in d (name ∷ count ∷ []) ≢ None
unfolding step_in
counted_whole d name count (inl h) n = let c = there _ n in rw (h, c.1) (λ e. cc)
counted_whole d name count (inr h) n = let c = there _ n in rw (h, c.1) (λ e. cc)

pub counted : (d : Dialect) (begun : Bool) (name count : List ℕ) → IsCounted name → number_up_to 4294967295 count ≢ None → AreLine d begun (name ∷ count ∷ [])
counted d begun name count is n = λ e. says_is (step_in d (name ∷ count ∷ [])) (counted_whole d name count is n) (sym (counted_line d begun name (count ∷ []) is) ∙ e)

-- ---- a search

-- the name of a search, in a script of this spelling
abbrev pub IsSearch : Spelling → List ℕ → Type 0
IsSearch spelling name = is_find spelling (name ∷ []) ≡ true

finds : (d : Dialect) (name : List ℕ) → IsSearch d.spelling name → name ≡ codes "find"
finds d name is = let spelled : name ∷ [] ≡ codes "find" ∷ [] = (find_read d (name ∷ []) is).1 in cc

never_faulty : (d : Dialect) (line : Line) → line ≡ Finds d.device → line ≢ Faulty
never_faulty d line e f = let never : Finds d.device ≡ Faulty = sym e ∙ f in cc

pub searched : (d : Dialect) (begun : Bool) (name : List ℕ) → IsSearch d.spelling name → AreLine d begun (name ∷ [])
searched d true name is = never_faulty d (line_in d (name ∷ [])) (finds_again d (name ∷ []) (find_read d (name ∷ []) is))
searched d false name is = never_faulty d (first_line_in d (name ∷ [])) (first_finds d (name ∷ []) (find_read d (name ∷ []) is))

find_says : (d : Dialect) (more : List ℕ) (words : List (List ℕ)) → step_in d (codes "find" ∷ more ∷ words) ≡ None
find_says d more words = command_alone d (codes "find" ∷ more ∷ words) refl refl refl refl ∙ none_else (command_step_in d (codes "find" ∷ more ∷ words)) (λ h. (command_parts d (codes "find" ∷ more ∷ words) h).action refl)

find_line : (d : Dialect) (begun : Bool) (more : List ℕ) (words : List (List ℕ)) → line_at d begun (codes "find" ∷ more ∷ words) ≡ Faulty
find_line d begun more words =
    line_is d begun (codes "find" ∷ more ∷ words) (rw (length_suc (codes "find") (more ∷ words)) refl) (no_setup (codes "find" ∷ more ∷ words) refl) (find_two d.spelling (codes "find") more words)
    ∙ ap (λ (o : Option CrewStep). option_map_or (λ step. Says step) o Faulty) (find_says d more words)

pub long_search : (d : Dialect) (begun : Bool) (name more : List ℕ) (words : List (List ℕ)) → IsSearch d.spelling name → AreLine d begun (name ∷ more ∷ words) → ⊥
long_search d begun name more words is h = h (rw (finds d name is) (find_line d begun more words))

-- ---- no step

-- the name of none of them
pub record IsNoName (d : Dialect) (name : List ℕ) : Type 0 where
  pub search : is_find d.spelling (name ∷ []) ≡ false
  pub setup : bytes_eq name (codes "setup") ≡ false
  pub action : action_in name ≡ None
  pub collect : bytes_eq name (codes "collect") ≡ false
  pub draw : bytes_eq name (codes "draw") ≡ false
  pub settle : bytes_eq name (codes "settle") ≡ false
  pub panel : bytes_eq name (codes "panel") ≡ false

no_step : (d : Dialect) (name : List ℕ) (words : List (List ℕ)) → IsNoName d name → step_in d (name ∷ words) ≡ None
no_step d name words h = command_alone d (name ∷ words) h.collect h.draw h.settle h.panel ∙ none_else (command_step_in d (name ∷ words)) (λ k. (command_parts d (name ∷ words) k).action h.action)

skipped_is : (d : Dialect) (begun : Bool) (words : List (List ℕ)) → is_skipped words ≡ true → setup_in words ≡ None → line_at d begun words ≡ Skipped
unfolding line_in first_line_in
skipped_is d true words out none = rw out refl
skipped_is d false words out none = rw (none, out) refl

-- no line begins with another name, unless it is a comment
faulty_at : (d : Dialect) (begun : Bool) (words : List (List ℕ)) (b : Bool) → is_skipped words ≡ b → setup_in words ≡ None → line_at d begun words ≡ Faulty → b ≡ false
faulty_at d begun words true e none h = absurd (let never : Skipped ≡ Faulty = sym (skipped_is d begun words e none) ∙ h in cc)
faulty_at d begun words false e none h = refl

comment : (name : List ℕ) (xs ys : List (List ℕ)) → is_skipped (name ∷ xs) ≡ is_skipped (name ∷ ys)
comment name xs ys = rw (length_suc name xs, length_suc name ys) refl

no_finds : (spelling : Spelling) (name : List ℕ) (words : List (List ℕ)) → is_find spelling (name ∷ []) ≡ false → is_find spelling (name ∷ words) ≡ false
no_finds spelling name [] h = h
no_finds spelling name (more ∷ words) h = find_two spelling name more words

pub no_line : (d : Dialect) (begun : Bool) (name : List ℕ) (words more : List (List ℕ)) → IsNoName d name → line_at d begun (name ∷ words) ≡ Faulty → AreLine d begun (name ∷ more) → ⊥
no_line d begun name words more h faulty line =
    let out = faulty_at d begun (name ∷ words) (is_skipped (name ∷ words)) refl (no_setup (name ∷ words) h.setup) faulty in
    line (line_is d begun (name ∷ more) (comment name more words ∙ out) (no_setup (name ∷ more) h.setup) (no_finds d.spelling name more h.search) ∙ ap (λ (o : Option CrewStep). option_map_or (λ step. Says step) o Faulty) (no_step d name more h))
