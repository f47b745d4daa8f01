-- What is read is a script, and a script is read.
use Rattle.std.proofs.Common.{◌≡◌, ◌≢◌, All, ℕ, ◌-◌, Bool, true, false, cond, List, [], ◌∷◌, ◌++◌, map, drop, Option, Some, None, ◌⊎◌, inl, inr, refl, sym, ap, subst, ◌∙◌, arith}
use Rattle.std.specs.List.{fold, flat_map}
use Rattle.std.proofs.lemmas.List.Elements.{All-nil, All-cons, All-head, All-tail}
use Rattle.std.proofs.lemmas.List.Concat.{flat_map-cons}
use Rattle.std.proofs.lemmas.Option.{slice_get_within, get_or_from_slice_get}
use Rattle.rdm_frame.specs.declared.uid.Uid.{Uid}
use Rattle.rdm_frame.specs.Addressing.{all_devices}
use Rattle.rdm_frame.specs.declared.fault.Fault.{Fault}
use Rattle.rdm_frame.specs.declared.fault.Fault.TheVariants as fault
use Rattle.rdm_frame.specs.Faults.{raise_of}
use Rattle.rdm_crew.specs.RunTrace.{fault_at, HaveFaults}
use Rattle.rdm_crew.specs.declared.step.CrewStep.{CrewStep}
use Rattle.rdm_crew.specs.declared.step.CrewStep.TheVariants.{Ask, Collect, Draw, Settle, Panel}
use Rattle.rdm_script.specs.Dialects.{Dialect}
use Rattle.rdm_script.specs.declared.script.ScriptSetup.{ScriptSetup}
use Rattle.rdm_script.specs.declared.grammar.line.Line.{Line}
use Rattle.rdm_script.specs.declared.grammar.line.Line.TheVariants.{Skipped, Sets, Faulty}
use Rattle.rdm_script.specs.Parties.{plain_setup}
use Rattle.rdm_script.specs.Search.{discovery, whole_branch, search_of}
use Rattle.rdm_script.specs.Grammar.{setup_in, is_skipped, words_of, lines_of, line_in, first_line_in, said_later, said_by, setup_after, steps_of_line, IsFirstFaulty, IsRead}
use Rattle.rdm_script.specs.Spelling.{SpellsFault, SpellsStep, SpellsLine, SpellsSetup, SpellSteps, SpellSetupAndSteps, IsScript}
use Rattle.rdm_script.proofs.LineSpellings.{Speaks, setup_read, setup_isnt_skipped, said_skipped, line_speaks, spoken, first_is, first_sets, first_skipped, first_speaks, keeps_setup}

abbrev Sound : List Line → Type 0
Sound said = All (λ line. line ≢ Faulty) said

-- steps of a line and of those behind it
steps_first : (line : Line) (more : List Line) → flat_map steps_of_line (line ∷ more) ≡ steps_of_line line ++ flat_map steps_of_line more
steps_first line more = flat_map-cons steps_of_line line more

steps_skipped : (line : Line) (more : List Line) → line ≡ Skipped → flat_map steps_of_line (line ∷ more) ≡ flat_map steps_of_line more
steps_skipped line more e = steps_first line more ∙ ap (λ (l : Line). steps_of_line l ++ flat_map steps_of_line more) e

steps_set : (line : Line) (s : ScriptSetup) (more : List Line) → line ≡ Sets s → flat_map steps_of_line (line ∷ more) ≡ flat_map steps_of_line more
steps_set line s more e = steps_first line more ∙ ap (λ (l : Line). steps_of_line l ++ flat_map steps_of_line more) e

steps_said : (line : Line) (steps : List CrewStep) (more : List Line) → Speaks line steps → flat_map steps_of_line (line ∷ more) ≡ steps ++ flat_map steps_of_line more
steps_said line steps more s = steps_first line more ∙ ap (λ (ss : List CrewStep). ss ++ flat_map steps_of_line more) s.says

head_sound : (line : Line) (more : List Line) → Sound (line ∷ more) → line ≢ Faulty
head_sound line more sound = All-head (λ (l : Line). l ≢ Faulty) line more sound

tail_sound : (line : Line) (more : List Line) → Sound (line ∷ more) → Sound more
tail_sound line more sound = All-tail (λ (l : Line). l ≢ Faulty) line more sound

sound_skipped : (line : Line) (more : List Line) → line ≡ Skipped → Sound more → Sound (line ∷ more)
sound_skipped line more e behind = All-cons (λ (l : Line). l ≢ Faulty) line more (λ f. let never : Skipped ≡ Faulty = sym e ∙ f in absurd cc) behind

sound_set : (line : Line) (s : ScriptSetup) (more : List Line) → line ≡ Sets s → Sound more → Sound (line ∷ more)
sound_set line s more e behind = All-cons (λ (l : Line). l ≢ Faulty) line more (λ f. let never : Sets s ≡ Faulty = sym e ∙ f in absurd cc) behind

sound_said : (line : Line) (steps : List CrewStep) (more : List Line) → Speaks line steps → Sound more → Sound (line ∷ more)
sound_said line steps more s behind = All-cons (λ (l : Line). l ≢ Faulty) line more s.sound behind

-- ---- lines of steps

either : (b : Bool) → (b ≡ true) ⊎ (b ≡ false)
either true = inl refl
either false = inr refl

-- whether a line is skipped
skips : (words : List (List ℕ)) → (is_skipped words ≡ true) ⊎ (is_skipped words ≡ false)
skips words = either (is_skipped words)

-- a line that isn't skipped says steps, unless it is faulty
says_steps : (dev : Dialect) (words : List (List ℕ)) → is_skipped words ≡ false → line_in dev words ≢ Faulty → (steps : List CrewStep) × Speaks (line_in dev words) steps × SpellsLine dev words steps
says_steps dev words out sound =
    elim (spoken dev words out) [
      | inl h ↦ absurd (sound h)
      | inr h ↦ h
    ]

-- the steps that lines are read as are those that they spell
later_spelled : (dev : Dialect) (lines : List (List ℕ)) → Sound (said_later dev lines) → SpellSteps dev (map (words_of dev.spelling) lines) (flat_map steps_of_line (said_later dev lines))
later_spelled dev [] sound = refl
later_spelled dev (line ∷ more) sound =
    let words = words_of dev.spelling line in
    let behind = later_spelled dev more (tail_sound (line_in dev words) (said_later dev more) sound) in
    elim (skips words) [
      | inl h ↦ inl (h, subst (λ (ss : List CrewStep). SpellSteps dev (map (words_of dev.spelling) more) ss) (sym (steps_skipped (line_in dev words) (said_later dev more) (said_skipped dev words h))) behind)
      | inr h ↦
          let s = says_steps dev words h (head_sound (line_in dev words) (said_later dev more) sound) in
          inr (h, s.0, flat_map steps_of_line (said_later dev more), steps_said (line_in dev words) s.0 (said_later dev more) s.1, s.2, behind)
    ]

-- and the steps that they spell are those that they are read as
later_read : (dev : Dialect) (lines : List (List ℕ)) (steps : List CrewStep) → SpellSteps dev (map (words_of dev.spelling) lines) steps → Sound (said_later dev lines) × (steps ≡ flat_map steps_of_line (said_later dev lines))
later_read dev [] steps h = (All-nil (λ (l : Line). l ≢ Faulty), h)
later_read dev (line ∷ more) steps (inl h) =
    let said = said_skipped dev (words_of dev.spelling line) h.0 in
    let behind = later_read dev more steps h.1 in
    (sound_skipped (line_in dev (words_of dev.spelling line)) (said_later dev more) said behind.0, behind.1 ∙ sym (steps_skipped (line_in dev (words_of dev.spelling line)) (said_later dev more) said))
later_read dev (line ∷ more) steps (inr (out, here, rest, is, spelled, others)) =
    let said = line_speaks dev (words_of dev.spelling line) here out spelled in
    let behind = later_read dev more rest others in
    (sound_said (line_in dev (words_of dev.spelling line)) here (said_later dev more) said behind.0, is ∙ ap (λ (ss : List CrewStep). here ++ ss) behind.1 ∙ sym (steps_said (line_in dev (words_of dev.spelling line)) here (said_later dev more) said))

-- they leave the setup as it is
later_keeps : (dev : Dialect) (lines : List (List ℕ)) (s : ScriptSetup) → fold setup_after s (said_later dev lines) ≡ s
later_keeps dev [] s = refl
later_keeps dev (line ∷ more) s = ap (λ (t : ScriptSetup). fold setup_after t (said_later dev more)) (keeps_setup dev (words_of dev.spelling line) s) ∙ later_keeps dev more s

-- ---- all lines

abbrev SpellScript : Dialect → List (List (List ℕ)) → ScriptSetup → List CrewStep → Type 0
SpellScript dev lines setup steps = SpellSetupAndSteps dev lines setup steps ⊎ ((setup ≡ plain_setup) × SpellSteps dev lines steps)

skip_script : (dev : Dialect) (words : List (List ℕ)) (more : List (List (List ℕ))) (setup : ScriptSetup) (steps : List CrewStep) → is_skipped words ≡ true → SpellScript dev more setup steps → SpellScript dev (words ∷ more) setup steps
skip_script dev words more setup steps h (inl s) = inl (inl (h, s))
skip_script dev words more setup steps h (inr s) = inr (s.0, inl (h, s.1))

-- the lines are read so, and what they are read as is a script
abbrev Reads : List Line → ScriptSetup → List CrewStep → Type 0
Reads said setup steps = Sound said × (setup ≡ fold setup_after plain_setup said) × (steps ≡ flat_map steps_of_line said)

said_behind : (dev : Dialect) (line : List ℕ) (more : List (List ℕ)) (b : Bool) → is_skipped (words_of dev.spelling line) ≡ b → said_by dev (line ∷ more) ≡ first_line_in dev (words_of dev.spelling line) ∷ cond b (said_by dev more) (said_later dev more)
said_behind dev line more b e = rw e refl

-- where a line is skipped
read_skipped : (line : Line) (said : List Line) (setup : ScriptSetup) (steps : List CrewStep) → line ≡ Skipped → Reads (line ∷ said) setup steps → Reads said setup steps
read_skipped line said setup steps e r = (tail_sound line said r.0, r.1 ∙ ap (λ (l : Line). fold setup_after (setup_after plain_setup l) said) e, r.2 ∙ steps_skipped line said e)

skipped_read : (line : Line) (said : List Line) (setup : ScriptSetup) (steps : List CrewStep) → line ≡ Skipped → Reads said setup steps → Reads (line ∷ said) setup steps
skipped_read line said setup steps e r = (sound_skipped line said e r.0, r.1 ∙ sym (ap (λ (l : Line). fold setup_after (setup_after plain_setup l) said) e), r.2 ∙ sym (steps_skipped line said e))

-- where it isn't
opening_at : (dev : Dialect) (line : List ℕ) (more : List (List ℕ)) (o : Option ScriptSetup) (setup : ScriptSetup) (steps : List CrewStep) → setup_in (words_of dev.spelling line) ≡ o → Reads (first_line_in dev (words_of dev.spelling line) ∷ said_later dev more) setup steps → SpellScript dev (map (words_of dev.spelling) (line ∷ more)) setup steps
opening_at dev line more (Some s) setup steps e r =
    let words = words_of dev.spelling line in
    let spelled = setup_read words s e in
    let said : first_line_in dev words ≡ Sets s = first_sets dev words s spelled in
    let same : setup ≡ s = r.1 ∙ ap (λ (l : Line). fold setup_after (setup_after plain_setup l) (said_later dev more)) said ∙ later_keeps dev more s in
    let behind = later_spelled dev more (tail_sound (first_line_in dev words) (said_later dev more) r.0) in
    inl (inr (subst (λ (t : ScriptSetup). SpellsSetup words t) (sym same) spelled, subst (λ (ss : List CrewStep). SpellSteps dev (map (words_of dev.spelling) more) ss) (sym (r.2 ∙ steps_set (first_line_in dev words) s (said_later dev more) said)) behind))
opening_at dev line more None setup steps e r =
    let said : first_line_in dev (words_of dev.spelling line) ∷ said_later dev more ≡ said_later dev (line ∷ more) = ap (λ (l : Line). l ∷ said_later dev more) (first_is dev (words_of dev.spelling line) e) in
    let all : Reads (said_later dev (line ∷ more)) setup steps = subst (λ (ls : List Line). Reads ls setup steps) said r in
    inr (all.1 ∙ later_keeps dev (line ∷ more) plain_setup, subst (λ (ss : List CrewStep). SpellSteps dev (map (words_of dev.spelling) (line ∷ more)) ss) (sym all.2) (later_spelled dev (line ∷ more) all.0))

lines_spelled : (dev : Dialect) (lines : List (List ℕ)) (setup : ScriptSetup) (steps : List CrewStep) → Reads (said_by dev lines) setup steps → SpellScript dev (map (words_of dev.spelling) lines) setup steps
lines_spelled dev [] setup steps r = inr (r.1, r.2)
lines_spelled dev (line ∷ more) setup steps r =
    elim (skips (words_of dev.spelling line)) [
      | inl h ↦
          let here : Reads (first_line_in dev (words_of dev.spelling line) ∷ said_by dev more) setup steps = subst (λ (ls : List Line). Reads ls setup steps) (said_behind dev line more true h) r in
          skip_script dev (words_of dev.spelling line) (map (words_of dev.spelling) more) setup steps h (lines_spelled dev more setup steps (read_skipped (first_line_in dev (words_of dev.spelling line)) (said_by dev more) setup steps (first_skipped dev (words_of dev.spelling line) h) here))
      | inr h ↦
          let here : Reads (first_line_in dev (words_of dev.spelling line) ∷ said_later dev more) setup steps = subst (λ (ls : List Line). Reads ls setup steps) (said_behind dev line more false h) r in
          opening_at dev line more (setup_in (words_of dev.spelling line)) setup steps refl here
    ]

skipped_lines : (dev : Dialect) (line : List ℕ) (more : List (List ℕ)) (setup : ScriptSetup) (steps : List CrewStep) → is_skipped (words_of dev.spelling line) ≡ true → Reads (said_by dev more) setup steps → Reads (said_by dev (line ∷ more)) setup steps
skipped_lines dev line more setup steps h r =
    subst (λ (ls : List Line). Reads ls setup steps) (sym (said_behind dev line more true h)) (skipped_read (first_line_in dev (words_of dev.spelling line)) (said_by dev more) setup steps (first_skipped dev (words_of dev.spelling line) h) r)

opened_lines : (dev : Dialect) (line : List ℕ) (more : List (List ℕ)) (setup : ScriptSetup) (steps : List CrewStep) → SpellsSetup (words_of dev.spelling line) setup → SpellSteps dev (map (words_of dev.spelling) more) steps → Reads (said_by dev (line ∷ more)) setup steps
opened_lines dev line more setup steps opening others =
    let words = words_of dev.spelling line in
    let said : first_line_in dev words ≡ Sets setup = first_sets dev words setup opening in
    let behind = later_read dev more steps others in
    let is_setup : setup ≡ fold setup_after plain_setup (first_line_in dev words ∷ said_later dev more) = sym (ap (λ (l : Line). fold setup_after (setup_after plain_setup l) (said_later dev more)) said ∙ later_keeps dev more setup) in
    subst (λ (ls : List Line). Reads ls setup steps) (sym (said_behind dev line more false (setup_isnt_skipped words setup opening)))
    (sound_set (first_line_in dev words) setup (said_later dev more) said behind.0, is_setup, behind.1 ∙ sym (steps_set (first_line_in dev words) setup (said_later dev more) said))

step_lines : (dev : Dialect) (line : List ℕ) (more : List (List ℕ)) (setup : ScriptSetup) (steps here rest : List CrewStep) → setup ≡ plain_setup → is_skipped (words_of dev.spelling line) ≡ false → steps ≡ here ++ rest → SpellsLine dev (words_of dev.spelling line) here → SpellSteps dev (map (words_of dev.spelling) more) rest → Reads (said_by dev (line ∷ more)) setup steps
step_lines dev line more setup steps here rest plain out is spelled others =
    let words = words_of dev.spelling line in
    let said = first_speaks dev words here out spelled in
    let behind = later_read dev more rest others in
    let is_setup : setup ≡ fold setup_after plain_setup (first_line_in dev words ∷ said_later dev more) = plain ∙ sym (ap (λ (s : ScriptSetup). fold setup_after s (said_later dev more)) (said.keeps plain_setup) ∙ later_keeps dev more plain_setup) in
    subst (λ (ls : List Line). Reads ls setup steps) (sym (said_behind dev line more false out))
    (sound_said (first_line_in dev words) here (said_later dev more) said behind.0, is_setup, is ∙ ap (λ (ss : List CrewStep). here ++ ss) behind.1 ∙ sym (steps_said (first_line_in dev words) here (said_later dev more) said))

lines_read : (dev : Dialect) (lines : List (List ℕ)) (setup : ScriptSetup) (steps : List CrewStep) → SpellScript dev (map (words_of dev.spelling) lines) setup steps → Reads (said_by dev lines) setup steps
lines_read dev [] setup steps (inl s) = absurd s
lines_read dev [] setup steps (inr s) = (All-nil (λ (l : Line). l ≢ Faulty), s.0, s.1)
lines_read dev (line ∷ more) setup steps (inl (inl h)) = skipped_lines dev line more setup steps h.0 (lines_read dev more setup steps (inl h.1))
lines_read dev (line ∷ more) setup steps (inl (inr h)) = opened_lines dev line more setup steps h.0 h.1
lines_read dev (line ∷ more) setup steps (inr (plain, inl h)) = skipped_lines dev line more setup steps h.0 (lines_read dev more setup steps (inr (plain, h.1)))
lines_read dev (line ∷ more) setup steps (inr (plain, inr (out, here, rest, is, spelled, others))) = step_lines dev line more setup steps here rest plain out is spelled others

-- ---- a script

pub script_spelled : (dev : Dialect) (text : List ℕ) (setup : ScriptSetup) (steps : List CrewStep) → IsRead dev text setup steps → IsScript dev text setup steps
script_spelled dev text setup steps r =
    record { within = r.within; says = lines_spelled dev (lines_of text) setup steps (r.says.faultless, r.says.setup_is, r.says.in_order) }

pub script_read : (dev : Dialect) (text : List ℕ) (setup : ScriptSetup) (steps : List CrewStep) → IsScript dev text setup steps → IsRead dev text setup steps
script_read dev text setup steps s =
    let all = lines_read dev (lines_of text) setup steps s.says in
    record { within = s.within; says = record { faultless = all.0; setup_is = all.1; in_order = all.2 } }

-- and no line of one is faulty
pub never_faulty : (dev : Dialect) (text : List ℕ) (setup : ScriptSetup) (steps : List CrewStep) (number : ℕ) → IsRead dev text setup steps → ¬ IsFirstFaulty (said_by dev (lines_of text)) number
never_faulty dev text setup steps number read first =
    let said = said_by dev (lines_of text) in
    read.says.faultless (number - 1) Faulty (slice_get_within said (number - 1) Faulty first.faulty) (get_or_from_slice_get said (number - 1) Faulty Faulty first.faulty)

-- ---- what goes wrong at its steps

-- whatever is altered is raised
abbrev Alters : CrewStep → Type 0
Alters step = raise_of (fault_at step) ≢ Some 0

fault_alters : (words : List (List ℕ)) (f : Fault) → SpellsFault words f → raise_of f ≢ Some 0
fault_alters words fault.None s = λ e. cc
fault_alters words fault.LostRequest s = λ e. cc
fault_alters words fault.LostReply s = λ e. cc
fault_alters words (fault.BadRequest k x) s = λ e. let zero : x ≡ 0 = cc in omega (arith, s.raises)
fault_alters words (fault.BadReply k x) s = λ e. let zero : x ≡ 0 = cc in omega (arith, s.raises)

step_alters : (dev : Dialect) (words : List (List ℕ)) (step : CrewStep) → SpellsStep dev words step → Alters step
step_alters dev words (Ask c f) s = fault_alters (drop 5 words) f s.1
step_alters dev words (Collect f) s = fault_alters (drop 1 words) f s.1
step_alters dev words Draw s = λ e. cc
step_alters dev words (Settle empties) s = λ e. cc
step_alters dev words (Panel empties) s = λ e. cc

-- nothing goes wrong in a search
search_alters : (u : Uid) (rest : List CrewStep) → All Alters rest → All Alters (search_of u ++ rest)
search_alters u rest behind =
    let mute : CrewStep = discovery u 0x0002 [] in
    All-cons Alters (discovery all_devices 0x0003 []) (whole_branch ∷ mute ∷ whole_branch ∷ rest) (λ e. cc)
    (All-cons Alters whole_branch (mute ∷ whole_branch ∷ rest) (λ e. cc)
    (All-cons Alters mute (whole_branch ∷ rest) (λ e. cc) (All-cons Alters whole_branch rest (λ e. cc) behind)))

line_alters : (dev : Dialect) (words : List (List ℕ)) (steps rest : List CrewStep) → SpellsLine dev words steps → All Alters rest → All Alters (steps ++ rest)
line_alters dev words steps rest (inl s) behind =
    subst (λ (ss : List CrewStep). All Alters (ss ++ rest)) (sym s.1) (All-cons Alters s.0 rest (step_alters dev words s.0 s.2) behind)
line_alters dev words steps rest (inr s) behind = subst (λ (ss : List CrewStep). All Alters (ss ++ rest)) (sym s.1) (search_alters dev.device rest behind)

steps_alter : (dev : Dialect) (lines : List (List (List ℕ))) (steps : List CrewStep) → SpellSteps dev lines steps → All Alters steps
steps_alter dev [] steps e = subst (λ (ss : List CrewStep). All Alters ss) (sym e) (All-nil Alters)
steps_alter dev (words ∷ more) steps (inl h) = steps_alter dev more steps h.1
steps_alter dev (words ∷ more) steps (inr (out, here, rest, is, spelled, others)) =
    subst (λ (ss : List CrewStep). All Alters ss) (sym is) (line_alters dev words here rest spelled (steps_alter dev more rest others))

opened_alter : (dev : Dialect) (lines : List (List (List ℕ))) (setup : ScriptSetup) (steps : List CrewStep) → SpellSetupAndSteps dev lines setup steps → All Alters steps
opened_alter dev [] setup steps s = absurd s
opened_alter dev (words ∷ more) setup steps (inl h) = opened_alter dev more setup steps h.1
opened_alter dev (words ∷ more) setup steps (inr h) = steps_alter dev more steps h.1

lines_alter : (dev : Dialect) (lines : List (List (List ℕ))) (setup : ScriptSetup) (steps : List CrewStep) → SpellScript dev lines setup steps → All Alters steps
lines_alter dev lines setup steps (inl s) = opened_alter dev lines setup steps s
lines_alter dev lines setup steps (inr s) = steps_alter dev lines steps s.1

pub script_alters : (dev : Dialect) (text : List ℕ) (setup : ScriptSetup) (steps : List CrewStep) → IsScript dev text setup steps → HaveFaults steps
script_alters dev text setup steps s = lines_alter dev (map (words_of dev.spelling) (lines_of text)) setup steps s.says
