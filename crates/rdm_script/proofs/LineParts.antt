-- Which words a line has that isn't faulty, part by part.
use Rattle.std.proofs.Common.{◌≡◌, ◌≢◌, ℕ, ◌<◌, ◌≤◌, Bool, true, false, cond, eqb, leb, ◌&&◌, List, [], ◌∷◌, length, drop, Option, Some, None, ◌⊎◌, inl, inr, refl, sym, ap, ◌∙◌, arith}
use Rattle.std.specs.Prelude.{codes, option_and_then}
use Rattle.std.specs.Option.{option_map_or}
use Rattle.std.specs.Str.{bytes_eq}
use Rattle.std.proofs.lemmas.Bool.{leb-true, le-leb}
use Rattle.std.proofs.lemmas.Bool.Decides.{nat_tests}
use Rattle.std.proofs.lemmas.Slice.Eq.{bytes_eq-Decides}
use Rattle.rdm_frame.specs.declared.fault.Fault.TheVariants as fault
use Rattle.rdm_collector.specs.declared.command.Action.TheVariants.{Disc, Get, Set}
use Rattle.rdm_crew.specs.declared.step.CrewStep.{CrewStep}
use Rattle.rdm_script.specs.Dialects.{Dialect}
use Rattle.rdm_script.specs.declared.dialect.Spelling.{Spelling}
use Rattle.rdm_script.specs.declared.grammar.line.Line.TheVariants.{Says, Faulty}
use Rattle.rdm_script.specs.Decimals.{number_up_to}
use Rattle.rdm_script.specs.Grammar.{word, action_in, destination_in, sub_in, pid_in, load_in, command_in, lost_in, raise_in, altered, altered_in, fault_in, is_skipped, setup_in, asked, command_step_in, step_in, is_find, line_in, line_at}
use Rattle.rdm_script.specs.WrongWords.{AreLine, AreFault}
use Rattle.rdm_script.proofs.Words.{fault_long}
use Rattle.rdm_script.proofs.WordSpellings.{chosen}
use Rattle.rdm_script.proofs.LineSpellings.{and_false, no_find, first_is}

-- ---- what is there

pub empty_isnt : (name : List ℕ) → 0 < length name → [] ≡ name → ⊥
empty_isnt name some e = let none : 0 ≡ length name = ap length e in omega (arith, none, some)

pub some_isnt : {A : Type 0} (o : Option A) (x : A) → o ≡ Some x → o ≢ None
some_isnt o x e n = let never : None ≡ Some x = sym n ∙ e in cc

pub there : {A : Type 0} (o : Option A) → o ≢ None → (x : A) × (o ≡ Some x)
there None h = absurd (h refl)
there (Some x) h = (x, refl)

pub then_is : {A B : Type 0} (o : Option A) (f : A → Option B) → option_and_then f o ≢ None → (x : A) × (o ≡ Some x) × (f x ≢ None)
then_is None f h = absurd (h refl)
then_is (Some x) f h = (x, refl, h)

pub if_is : {A : Type 0} (b : Bool) (o : Option A) → cond b o None ≢ None → (b ≡ true) × (o ≢ None)
if_is true o h = (refl, h)
if_is false o h = absurd (h refl)

pub both : (a b : Bool) → (a && b) ≡ true → (a ≡ true) × (b ≡ true)
both true b h = (refl, h)
both false b h = absurd cc

-- ---- what goes wrong

-- the name of one of the two frames, of which a slot is raised
abbrev pub IsAltered : List ℕ → Type 0
IsAltered name = (name ≡ codes "bad-request") ⊎ (name ≡ codes "bad-reply")

-- a slot and a raise, and no other word
pub record AreAltered (words : List (List ℕ)) : Type 0 where
  pub two : length words ≡ 2
  pub slot : number_up_to 255 (word words 0) ≢ None
  pub raise : raise_in (word words 1) ≢ None

altered_is : (name : List ℕ) (k x : ℕ) → IsAltered name → altered name k x ≢ None
altered_is name k x (inl h) = rw h (λ e. cc)
altered_is name k x (inr h) = rw h (λ e. cc)

altered_parts : (name slot raise : List ℕ) → altered_in name slot raise ≢ None → (number_up_to 255 slot ≢ None) × (raise_in raise ≢ None)
unfolding altered_in
altered_parts name slot raise h =
    let k = then_is (number_up_to 255 slot) _ h in
    let x = then_is (raise_in raise) _ k.2 in
    (some_isnt _ _ k.1, some_isnt _ _ x.1)

altered_whole : (name slot raise : List ℕ) → IsAltered name → number_up_to 255 slot ≢ None → raise_in raise ≢ None → altered_in name slot raise ≢ None
unfolding altered_in
altered_whole name slot raise is s r =
    let k = there (number_up_to 255 slot) s in
    let x = there (raise_in raise) r in
    rw (k.1, x.1) (altered_is name k.0 x.0 is)

lost_names : (name : List ℕ) → lost_in name ≢ None → (name ≡ codes "lost-request") ⊎ (name ≡ codes "lost-reply")
lost_names name h =
    elim (chosen (bytes_eq name (codes "lost-request")) (Some fault.LostRequest) (cond (bytes_eq name (codes "lost-reply")) (Some fault.LostReply) None) (lost_in name) refl) [
      | inl g ↦ inl ((bytes_eq-Decides name (codes "lost-request")).0 g.0)
      | inr g ↦ inr ((bytes_eq-Decides name (codes "lost-reply")).0 (if_is (bytes_eq name (codes "lost-reply")) (Some fault.LostReply) (λ e. h (sym g.1 ∙ e))).0)
    ]

unaltered : (name slot raise : List ℕ) → altered_in name slot raise ≢ None → IsAltered name
unfolding altered_in
unaltered name slot raise h =
    let k = then_is (number_up_to 255 slot) _ h in
    let x = then_is (raise_in raise) _ k.2 in
    elim (chosen (bytes_eq name (codes "bad-request")) (Some (fault.BadRequest k.0 x.0)) (cond (bytes_eq name (codes "bad-reply")) (Some (fault.BadReply k.0 x.0)) None) (altered name k.0 x.0) refl) [
      | inl g ↦ inl ((bytes_eq-Decides name (codes "bad-request")).0 g.0)
      | inr g ↦ inr ((bytes_eq-Decides name (codes "bad-reply")).0 (if_is (bytes_eq name (codes "bad-reply")) (Some (fault.BadReply k.0 x.0)) (λ e. x.2 (sym g.1 ∙ e))).0)
    ]

pub lost_isnt : (name : List ℕ) → lost_in name ≢ None → IsAltered name → ⊥
lost_isnt name h (inl e) = h (rw e refl)
lost_isnt name h (inr e) = h (rw e refl)

pub no_altered : IsAltered [] → ⊥
no_altered (inl e) = empty_isnt (codes "bad-request") (omega arith) e
no_altered (inr e) = empty_isnt (codes "bad-reply") (omega arith) e

-- what words say that is no loss
pub fault_parts : (name : List ℕ) (words : List (List ℕ)) → AreFault (name ∷ words) → ((lost_in name ≢ None) × (words ≡ [])) ⊎ (IsAltered name × AreAltered words)
unfolding fault_in
fault_parts name [] h = inl (h, refl)
fault_parts name (a ∷ []) h = absurd (h refl)
fault_parts name (slot ∷ raise ∷ []) h =
    let parts = altered_parts name slot raise h in
    inr (unaltered name slot raise h, record { two = refl; slot = parts.0; raise = parts.1 })
fault_parts name (a ∷ b ∷ c ∷ more) h = absurd (h (fault_long (name ∷ a ∷ b ∷ c ∷ more) (omega arith)))

pub no_fault : AreFault []
unfolding fault_in
no_fault = some_isnt (fault_in []) fault.None refl

pub loss : (name : List ℕ) → lost_in name ≢ None → AreFault (name ∷ [])
unfolding fault_in
loss name h = h

pub raised : (name slot raise : List ℕ) → IsAltered name → number_up_to 255 slot ≢ None → raise_in raise ≢ None → AreFault (name ∷ slot ∷ raise ∷ [])
unfolding fault_in
raised name slot raise is s r = altered_whole name slot raise is s r

-- ---- a command

-- five words of a command, and what goes wrong
pub record AreCommand (d : Dialect) (words : List (List ℕ)) : Type 0 where
  pub five : 5 ≤ length words
  pub action : action_in (word words 0) ≢ None
  pub destination : destination_in d.device (word words 1) ≢ None
  pub sub : sub_in d.spelling (word words 2) ≢ None
  pub pid : pid_in d.spelling d.own (word words 3) ≢ None
  pub load : load_in d.spelling (word words 4) ≢ None
  pub fault : AreFault (drop 5 words)

pub command_parts : (d : Dialect) (words : List (List ℕ)) → command_step_in d words ≢ None → AreCommand d words
unfolding command_step_in asked command_in
command_parts d words h =
    let g = if_is (leb 5 (length words)) _ h in
    let c = then_is _ _ g.1 in
    let f = then_is (fault_in (drop 5 words)) _ c.2 in
    let a = then_is (action_in (word words 0)) _ (some_isnt _ _ c.1) in
    let u = then_is (destination_in d.device (word words 1)) _ a.2 in
    let s = then_is (sub_in d.spelling (word words 2)) _ u.2 in
    let p = then_is (pid_in d.spelling d.own (word words 3)) _ s.2 in
    let l = then_is (load_in d.spelling (word words 4)) _ p.2 in
    record {
      five = leb-true _ _ g.0;
      action = some_isnt _ _ a.1;
      destination = some_isnt _ _ u.1;
      sub = some_isnt _ _ s.1;
      pid = some_isnt _ _ p.1;
      load = some_isnt _ _ l.1;
      fault = some_isnt _ _ f.1;
    }

pub command_whole : (d : Dialect) (words : List (List ℕ)) → AreCommand d words → command_step_in d words ≢ None
unfolding command_step_in asked command_in
command_whole d words h =
    let a = there _ h.action in
    let u = there _ h.destination in
    let s = there _ h.sub in
    let p = there _ h.pid in
    let l = there _ h.load in
    let f = there _ h.fault in
    rw (le-leb 5 (length words) h.five, a.1, u.1, s.1, p.1, l.1, f.1) (λ e. cc)

-- ---- a line

-- another name isn't that of a search
pub no_search : (spelling : Spelling) (words : List (List ℕ)) → bytes_eq (word words 0) (codes "find") ≡ false → is_find spelling words ≡ false
no_search spelling words h = no_find spelling words (rw (h, and_false (eqb (length words) 1)) refl)

-- what a line says whose words aren't skipped and say neither a setup nor a search
pub line_is : (d : Dialect) (begun : Bool) (words : List (List ℕ)) → is_skipped words ≡ false → setup_in words ≡ None → is_find d.spelling words ≡ false → line_at d begun words ≡ option_map_or (λ step. Says step) (step_in d words) Faulty
unfolding line_in
line_is d true words out none other = rw (out, other) refl
line_is d false words out none other = first_is d words none ∙ rw (out, other) refl

pub says_is : (o : Option CrewStep) → o ≢ None → option_map_or (λ step. Says step) o Faulty ≢ Faulty
says_is None h = absurd (h refl)
says_is (Some step) h = λ e. cc

pub says_isnt : (o : Option CrewStep) → option_map_or (λ step. Says step) o Faulty ≢ Faulty → o ≢ None
says_isnt None h = absurd (h refl)
says_isnt (Some step) h = λ e. cc

-- a word that no comment begins with
abbrev pub IsPlain : List ℕ → Type 0
IsPlain name = (words : List (List ℕ)) → is_skipped (name ∷ words) ≡ false

pub no_setup : (words : List (List ℕ)) → bytes_eq (word words 0) (codes "setup") ≡ false → setup_in words ≡ None
unfolding setup_in
no_setup words h = rw (h, and_false (eqb (length words) 4)) refl

pub command_alone : (d : Dialect) (words : List (List ℕ)) → bytes_eq (word words 0) (codes "collect") ≡ false → bytes_eq (word words 0) (codes "draw") ≡ false → bytes_eq (word words 0) (codes "settle") ≡ false → bytes_eq (word words 0) (codes "panel") ≡ false
    → step_in d words ≡ command_step_in d words
unfolding step_in
command_alone d words c w s p = rw (c, w, s, p, and_false (eqb (length words) 1), and_false (eqb (length words) 2)) refl

pub length_suc : (name : List ℕ) (words : List (List ℕ)) → eqb (length (name ∷ words)) 0 ≡ false
length_suc name words = grind (arith, nat_tests)

abbrev pub IsAction : List ℕ → Type 0
IsAction name = (name ≡ codes "get") ⊎ ((name ≡ codes "set") ⊎ (name ≡ codes "disc"))

pub action_names : (name : List ℕ) → action_in name ≢ None → IsAction name
action_names name h =
    elim (chosen (bytes_eq name (codes "get")) (Some Get) (cond (bytes_eq name (codes "set")) (Some Set) (cond (bytes_eq name (codes "disc")) (Some Disc) None)) (action_in name) refl) [
      | inl g ↦ inl ((bytes_eq-Decides name (codes "get")).0 g.0)
      | inr g ↦ elim (chosen (bytes_eq name (codes "set")) (Some Set) (cond (bytes_eq name (codes "disc")) (Some Disc) None) (action_in name) g.1) [
        | inl k ↦ inr (inl ((bytes_eq-Decides name (codes "set")).0 k.0))
        | inr k ↦ inr (inr ((bytes_eq-Decides name (codes "disc")).0 (if_is (bytes_eq name (codes "disc")) (Some Disc) (λ e. h (sym k.1 ∙ e))).0))
      ]
    ]

action_line : (d : Dialect) (begun : Bool) (name : List ℕ) (words : List (List ℕ)) → IsAction name → line_at d begun (name ∷ words) ≡ option_map_or (λ step. Says step) (command_step_in d (name ∷ words)) Faulty
action_line d begun name words (inl h) = rw h (line_is d begun (codes "get" ∷ words) (rw (length_suc (codes "get") words) refl) (no_setup (codes "get" ∷ words) refl) (no_search d.spelling (codes "get" ∷ words) refl) ∙ ap (λ (o : Option CrewStep). option_map_or (λ step. Says step) o Faulty) (command_alone d (codes "get" ∷ words) refl refl refl refl))
action_line d begun name words (inr (inl h)) = rw h (line_is d begun (codes "set" ∷ words) (rw (length_suc (codes "set") words) refl) (no_setup (codes "set" ∷ words) refl) (no_search d.spelling (codes "set" ∷ words) refl) ∙ ap (λ (o : Option CrewStep). option_map_or (λ step. Says step) o Faulty) (command_alone d (codes "set" ∷ words) refl refl refl refl))
action_line d begun name words (inr (inr h)) = rw h (line_is d begun (codes "disc" ∷ words) (rw (length_suc (codes "disc") words) refl) (no_setup (codes "disc" ∷ words) refl) (no_search d.spelling (codes "disc" ∷ words) refl) ∙ ap (λ (o : Option CrewStep). option_map_or (λ step. Says step) o Faulty) (command_alone d (codes "disc" ∷ words) refl refl refl refl))

pub line_command : (d : Dialect) (begun : Bool) (name : List ℕ) (words : List (List ℕ)) → action_in name ≢ None → AreLine d begun (name ∷ words) → AreCommand d (name ∷ words)
line_command d begun name words is h = command_parts d (name ∷ words) (says_isnt (command_step_in d (name ∷ words)) (λ e. h (action_line d begun name words (action_names name is) ∙ e)))

pub command_line : (d : Dialect) (begun : Bool) (name : List ℕ) (words : List (List ℕ)) → AreCommand d (name ∷ words) → AreLine d begun (name ∷ words)
command_line d begun name words h = λ e. says_is (command_step_in d (name ∷ words)) (command_whole d (name ∷ words) h) (sym (action_line d begun name words (action_names name h.action)) ∙ e)
