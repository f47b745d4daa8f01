-- A line says exactly what its words spell.
use Rattle.std.proofs.Common.{◌≡◌, ◌≢◌, ℕ, ◌<◌, ◌≤◌, Bool, true, false, not, cond, eqb, leb, ◌&&◌, List, [], ◌∷◌, length, drop, Option, Some, None, ◌⊎◌, inl, inr, refl, sym, ap, subst, ◌∙◌, arith}
use Rattle.std.specs.Prelude.{codes}
use Rattle.std.specs.Option.{option_map, option_map_or}
use Rattle.std.specs.Str.{bytes_eq}
use Rattle.std.proofs.lemmas.Bool.{eqb-true, leb-true, le-leb}
use Rattle.std.proofs.lemmas.Bool.Decides.{nat_tests}
use Rattle.std.proofs.lemmas.Option.{option_and_then_some, same_Some, cond_some}
use Rattle.std.proofs.lemmas.Slice.Eq.{bytes_eq-Decides}
use Rattle.rdm_frame.specs.declared.uid.Uid.{Uid}
use Rattle.rdm_frame.specs.DigitReading.{◌>>=◌}
use Rattle.rdm_frame.specs.declared.fault.Fault.{Fault}
use Rattle.rdm_frame.specs.declared.fault.Fault.TheVariants as fault
use Rattle.rdm_collector.specs.declared.command.Action.{Action}
use Rattle.rdm_collector.specs.declared.command.Action.TheVariants.{Disc, Get, Set}
use Rattle.rdm_collector.specs.declared.command.Command.{Command}
use Rattle.rdm_collector.specs.declared.want.Want.{Want}
use Rattle.rdm_collector.specs.declared.want.Want.TheVariants.{Advisory, Warning, Error}
use Rattle.rdm_crew.specs.declared.step.CrewStep.{CrewStep}
use Rattle.rdm_crew.specs.declared.step.CrewStep.TheVariants.{Ask, Collect, Draw, Settle, Panel}
use Rattle.rdm_script.specs.Dialects.{Dialect}
use Rattle.rdm_script.specs.declared.dialect.Spelling.{Spelling}
use Rattle.rdm_script.specs.declared.dialect.Spelling.TheVariants.{Strict, Friendly}
use Rattle.rdm_script.specs.declared.script.ScriptSetup.{ScriptSetup}
use Rattle.rdm_script.specs.declared.grammar.line.Line.{Line}
use Rattle.rdm_script.specs.declared.grammar.line.Line.TheVariants.{Skipped, Sets, Says, Finds, Faulty}
use Rattle.rdm_script.specs.Decimals.{SpellsDecimal, number_up_to}
use Rattle.rdm_script.specs.Search.{search_of}
use Rattle.rdm_script.specs.Grammar.{word, command_in, lost_in, raise_in, altered, altered_in, fault_in, is_skipped, want_in, setup_of, setup_in, asked, command_step_in, step_in, is_find, line_in, first_line_in, line_at, steps_of_line, setup_after, begun_after}
use Rattle.rdm_script.specs.Spelling.{SpellsAction, SpellsCommand, SpellsRaise, SpellsFault, SpellsEmpties, SpellsStep, SpellsFind, SpellsLine, SpellsWant, SpellsSetup}
use Rattle.rdm_script.proofs.CommandSpellings.{command_read, command_again}
use Rattle.rdm_script.proofs.WordSpellings.{chosen, guarded}
use Rattle.rdm_script.proofs.Words.{fault_long}
use Rattle.rdm_script.proofs.DecimalSpellings.{number_read, number_again}

-- the name is this one
named : (word name : List ℕ) → bytes_eq word name ≡ true → word ≡ name
named word name e = (bytes_eq-Decides word name).0 e

-- ---- what goes wrong

raise_read : (text : List ℕ) (x : ℕ) → raise_in text ≡ Some x → SpellsDecimal text x × (0 < x) × (x ≤ 255)
unfolding raise_in
raise_read text x e =
    option_and_then_some (λ (n : ℕ). cond (eqb n 0) None (Some n)) (number_up_to 255 text) x e (λ n is_n rest.
    elim (chosen (eqb n 0) None (Some n) (Some x) rest) [
      | inl h ↦ absurd (let never : None ≡ Some x = h.1 in cc)
      | inr h ↦
          let same : n ≡ x = same_Some n x h.1 in
          let read = number_read 255 text x (is_n ∙ ap (λ (k : ℕ). Some k) same) in
          let some : 0 < x = rw (← same) (grind (arith, nat_tests)) in
          (read.0, some, read.1)
    ])

raise_again : (text : List ℕ) (x : ℕ) → SpellsDecimal text x → 0 < x → x ≤ 255 → raise_in text ≡ Some x
unfolding raise_in
raise_again text x s some few =
    let not_zero : eqb x 0 ≡ false = grind (arith, nat_tests) in
    rw (number_again 255 text x s few, not_zero) refl

lost_read : (name : List ℕ) (f : Fault) → lost_in name ≡ Some f → SpellsFault (name ∷ []) f
lost_read name f e =
    elim (chosen (bytes_eq name (codes "lost-request")) (Some fault.LostRequest) _ (Some f) e) [
      | inl h ↦ subst (λ (x : Fault). SpellsFault (name ∷ []) x) (same_Some fault.LostRequest f h.1) (ap (λ (n : List ℕ). n ∷ []) (named name (codes "lost-request") h.0))
      | inr h ↦
          let g = cond_some (bytes_eq name (codes "lost-reply")) fault.LostReply f h.1 in
          subst (λ (x : Fault). SpellsFault (name ∷ []) x) g.1 (ap (λ (n : List ℕ). n ∷ []) (named name (codes "lost-reply") g.0))
    ]

altered_read : (name slot raise : List ℕ) (f : Fault) → altered_in name slot raise ≡ Some f → SpellsFault (name ∷ slot ∷ raise ∷ []) f
unfolding altered_in
altered_read name slot raise f e =
    option_and_then_some (λ k. raise_in raise >>= λ x. altered name k x) (number_up_to 255 slot) f e (λ k is_k rest.
    option_and_then_some (λ x. altered name k x) (raise_in raise) f rest (λ x is_x made.
    let slot_read = number_read 255 slot k is_k in
    let raised = raise_read raise x is_x in
    elim (chosen (bytes_eq name (codes "bad-request")) (Some (fault.BadRequest k x)) _ (Some f) made) [
      | inl h ↦ subst (λ (y : Fault). SpellsFault (name ∷ slot ∷ raise ∷ []) y) (same_Some (fault.BadRequest k x) f h.1)
          (record { three = refl; named = named name (codes "bad-request") h.0; slot = slot_read.0; slot_fits = slot_read.1; raise = raised.0; raises = raised.1; raise_fits = raised.2 })
      | inr h ↦
          let g = cond_some (bytes_eq name (codes "bad-reply")) (fault.BadReply k x) f h.1 in
          subst (λ (y : Fault). SpellsFault (name ∷ slot ∷ raise ∷ []) y) g.1
          (record { three = refl; named = named name (codes "bad-reply") g.0; slot = slot_read.0; slot_fits = slot_read.1; raise = raised.0; raises = raised.1; raise_fits = raised.2 })
    ]))

none_read : (f : Fault) → Some fault.None ≡ Some f → SpellsFault [] f
none_read f e = subst (λ (x : Fault). SpellsFault [] x) (same_Some fault.None f e) refl

too_many : (words : List (List ℕ)) (f : Fault) → 4 ≤ length words → fault_in words ≡ Some f → ⊥
too_many words f long e = let never : None ≡ Some f = sym (fault_long words long) ∙ e in cc

fault_read : (words : List (List ℕ)) (f : Fault) → fault_in words ≡ Some f → SpellsFault words f
unfolding fault_in
fault_read [] f e = none_read f e
fault_read (name ∷ []) f e = lost_read name f e
fault_read (name ∷ other ∷ []) f e = absurd cc
fault_read (name ∷ slot ∷ raise ∷ []) f e = altered_read name slot raise f e
fault_read (name ∷ slot ∷ raise ∷ other ∷ more) f e = absurd (too_many (name ∷ slot ∷ raise ∷ other ∷ more) f (omega arith) e)

altered_again : (name slot raise : List ℕ) (k x : ℕ) (f : Fault) → SpellsRaise name (name ∷ slot ∷ raise ∷ []) k x → altered name k x ≡ Some f → altered_in name slot raise ≡ Some f
unfolding altered_in
altered_again name slot raise k x f s made = rw (number_again 255 slot k s.slot s.slot_fits, raise_again raise x s.raise s.raises s.raise_fits) made

three_again : (name : List ℕ) (words : List (List ℕ)) (k x : ℕ) (f : Fault) → SpellsRaise name words k x → altered name k x ≡ Some f → fault_in words ≡ Some f
unfolding fault_in
three_again name [] k x f s made = absurd (omega (arith, s.three))
three_again name (a ∷ []) k x f s made = absurd (omega (arith, s.three))
three_again name (a ∷ b ∷ []) k x f s made = absurd (omega (arith, s.three))
three_again name (a ∷ slot ∷ raise ∷ []) k x f s made =
    let same : a ≡ name = s.named in
    rw same (altered_again name slot raise k x f (record { three = refl; named = refl; slot = s.slot; slot_fits = s.slot_fits; raise = s.raise; raises = s.raises; raise_fits = s.raise_fits }) made)
three_again name (a ∷ b ∷ c ∷ d ∷ more) k x f s made = absurd (omega (arith, s.three))

fault_again : (words : List (List ℕ)) (f : Fault) → SpellsFault words f → fault_in words ≡ Some f
unfolding fault_in
fault_again words fault.None s = rw s refl
fault_again words fault.LostRequest s = rw s refl
fault_again words fault.LostReply s = rw s refl
fault_again words (fault.BadRequest k x) s = three_again (codes "bad-request") words k x (fault.BadRequest k x) s refl
fault_again words (fault.BadReply k x) s = three_again (codes "bad-reply") words k x (fault.BadReply k x) s refl

-- ---- a step

command_step_read : (dev : Dialect) (words : List (List ℕ)) (step : CrewStep) → command_step_in dev words ≡ Some step → SpellsStep dev words step
unfolding command_step_in asked
command_step_read dev words step e =
    let said = command_in dev (word words 0) (word words 1) (word words 2) (word words 3) (word words 4) in
    let g = guarded (leb 5 (length words)) (asked said (fault_in (drop 5 words))) step e in
    option_and_then_some (λ c. fault_in (drop 5 words) >>= λ f. Some (Ask c f)) said step g.1 (λ c is_c rest.
    option_and_then_some (λ f. Some (Ask c f)) (fault_in (drop 5 words)) step rest (λ f is_f made.
    let s = command_read dev (word words 0) (word words 1) (word words 2) (word words 3) (word words 4) c is_c in
    let spelled : SpellsCommand dev words c = record { five = leb-true _ _ g.0; action = s.action; destination = s.destination; sub = s.sub; pid = s.pid; load = s.load } in
    subst (λ (x : CrewStep). SpellsStep dev words x) (same_Some (Ask c f) step made) (spelled, fault_read (drop 5 words) f is_f)))

command_step_again : (dev : Dialect) (words : List (List ℕ)) (c : Command) (f : Fault) → SpellsCommand dev words c → SpellsFault (drop 5 words) f → command_step_in dev words ≡ Some (Ask c f)
unfolding command_step_in asked
command_step_again dev words c f s wrong =
    let said = command_again dev (word words 0) (word words 1) (word words 2) (word words 3) (word words 4) c (record { action = s.action; destination = s.destination; sub = s.sub; pid = s.pid; load = s.load }) in
    rw (le-leb 5 (length words) s.five, said, fault_again (drop 5 words) f wrong) refl

mapped : (o : Option Fault) (step : CrewStep) → option_map (λ f. Collect f) o ≡ Some step → (f : Fault) × (o ≡ Some f) × (Collect f ≡ step)
mapped None step e = absurd cc
mapped (Some f) step e = (f, refl, same_Some (Collect f) step e)

counted : (made : ℕ → CrewStep) (o : Option ℕ) (step : CrewStep) → option_map made o ≡ Some step → (n : ℕ) × (o ≡ Some n) × (made n ≡ step)
counted made None step e = absurd cc
counted made (Some n) step e = (n, refl, same_Some (made n) step e)

both : (x y : Bool) → (x && y) ≡ true → (x ≡ true) × (y ≡ true)
both true y h = (refl, h)
both false y h = absurd cc

is_alone : (words : List (List ℕ)) (name : List ℕ) → length words ≡ 1 → word words 0 ≡ name → words ≡ name ∷ []
is_alone [] name one same = absurd (omega (arith, one))
is_alone (a ∷ []) name one same = ap (λ (w : List ℕ). w ∷ []) same
is_alone (a ∷ b ∷ more) name one same = absurd (omega (arith, one))

alone_read : (name : List ℕ) (words : List (List ℕ)) → (eqb (length words) 1 && bytes_eq (word words 0) name) ≡ true → words ≡ name ∷ []
alone_read name words e =
    let tests = both (eqb (length words) 1) (bytes_eq (word words 0) name) e in
    is_alone words name (eqb-true _ _ tests.0) (named (word words 0) name tests.1)

empties_read : (name : List ℕ) (words : List (List ℕ)) (n : ℕ) → (eqb (length words) 2 && bytes_eq (word words 0) name) ≡ true → number_up_to 4294967295 (word words 1) ≡ Some n → SpellsEmpties name words n
empties_read name words n e is_n =
    let tests = both (eqb (length words) 2) (bytes_eq (word words 0) name) e in
    let read = number_read 4294967295 (word words 1) n is_n in
    record { two = eqb-true _ _ tests.0; named = named (word words 0) name tests.1; empties = read.0; empties_fit = read.1 }

pub step_read : (dev : Dialect) (words : List (List ℕ)) (step : CrewStep) → step_in dev words ≡ Some step → SpellsStep dev words step
unfolding step_in
step_read dev words step e =
    elim (chosen (bytes_eq (word words 0) (codes "collect")) (option_map (λ f. Collect f) (fault_in (drop 1 words))) _ (Some step) e) [
      | inl h ↦
          let p = mapped (fault_in (drop 1 words)) step h.1 in
          subst (λ (x : CrewStep). SpellsStep dev words x) p.2 (named (word words 0) (codes "collect") h.0, fault_read (drop 1 words) p.0 p.1)
      | inr h ↦
          elim (chosen (eqb (length words) 1 && bytes_eq (word words 0) (codes "draw")) (Some Draw) _ (Some step) h.1) [
            | inl k ↦ subst (λ (x : CrewStep). SpellsStep dev words x) (same_Some Draw step k.1) (alone_read (codes "draw") words k.0)
            | inr k ↦
                elim (chosen (eqb (length words) 2 && bytes_eq (word words 0) (codes "settle")) (option_map (λ n. Settle n) (number_up_to 4294967295 (word words 1))) _ (Some step) k.1) [
                  | inl l ↦
                      let p = counted (λ n. Settle n) (number_up_to 4294967295 (word words 1)) step l.1 in
                      subst (λ (x : CrewStep). SpellsStep dev words x) p.2 (empties_read (codes "settle") words p.0 l.0 p.1)
                  | inr l ↦
                      elim (chosen (eqb (length words) 2 && bytes_eq (word words 0) (codes "panel")) (option_map (λ n. Panel n) (number_up_to 4294967295 (word words 1))) _ (Some step) l.1) [
                        | inl m ↦
                            let p = counted (λ n. Panel n) (number_up_to 4294967295 (word words 1)) step m.1 in
                            subst (λ (x : CrewStep). SpellsStep dev words x) p.2 (empties_read (codes "panel") words p.0 m.0 p.1)
                        | inr m ↦ command_step_read dev words step m.1
                      ]
                ]
          ]
    ]

no_poll : (text : List ℕ) (a : Action) → SpellsAction text a → bytes_eq text (codes "collect") ≡ false
no_poll text Disc s = rw s refl
no_poll text Get s = rw s refl
no_poll text Set s = rw s refl

pub step_again : (dev : Dialect) (words : List (List ℕ)) (step : CrewStep) → SpellsStep dev words step → step_in dev words ≡ Some step
unfolding step_in
step_again dev words (Ask c f) s =
    let not_one : eqb (length words) 1 ≡ false = let long = s.0.five in grind (arith, nat_tests) in
    let not_two : eqb (length words) 2 ≡ false = let long = s.0.five in grind (arith, nat_tests) in
    rw (no_poll (word words 0) c.action s.0.action, not_one, not_two) (command_step_again dev words c f s.0 s.1)
step_again dev words (Collect f) s = rw (s.0, fault_again (drop 1 words) f s.1) refl
step_again dev words Draw s = rw s refl
step_again dev words (Settle n) s = rw (s.named, s.two, number_again 4294967295 (word words 1) n s.empties s.empties_fit) refl
step_again dev words (Panel n) s = rw (s.named, s.two, number_again 4294967295 (word words 1) n s.empties s.empties_fit) refl

-- ---- a search

find_in : (dev : Dialect) (words : List (List ℕ)) (k : Spelling) → dev.spelling ≡ k → is_find k words ≡ true → SpellsFind dev words
find_in dev words Strict same e = absurd cc
find_in dev words Friendly same e = (same, alone_read (codes "find") words e)

pub find_read : (dev : Dialect) (words : List (List ℕ)) → is_find dev.spelling words ≡ true → SpellsFind dev words
find_read dev words e = find_in dev words dev.spelling refl e

find_again : (dev : Dialect) (words : List (List ℕ)) → SpellsFind dev words → is_find dev.spelling words ≡ true
find_again dev words s = rw (s.0, s.1) refl

find_isnt_skipped : (dev : Dialect) (words : List (List ℕ)) → SpellsFind dev words → is_skipped words ≡ false
find_isnt_skipped dev words s = rw s.1 refl

-- a step is no search
pub no_find : (spelling : Spelling) (words : List (List ℕ)) → is_find Friendly words ≡ false → is_find spelling words ≡ false
no_find Strict words e = refl
no_find Friendly words e = e

pub and_false : (b : Bool) → (b && false) ≡ false
and_false true = refl
and_false false = refl

step_is_no_find : (dev : Dialect) (words : List (List ℕ)) (step : CrewStep) → SpellsStep dev words step → is_find Friendly words ≡ false
step_is_no_find dev words (Ask c f) s =
    let not_one : eqb (length words) 1 ≡ false = let long = s.0.five in grind (arith, nat_tests) in
    rw not_one refl
step_is_no_find dev words (Collect f) s = rw s.0 (and_false (eqb (length words) 1))
step_is_no_find dev words Draw s = rw s refl
step_is_no_find dev words (Settle n) s = rw s.two refl
step_is_no_find dev words (Panel n) s = rw s.two refl

-- ---- a setup

want_read : (text : List ℕ) (w : Want) → want_in text ≡ Some w → SpellsWant text w
want_read text w e =
    elim (chosen (bytes_eq text (codes "advisory")) (Some Advisory) _ (Some w) e) [
      | inl h ↦ subst (λ (x : Want). SpellsWant text x) (same_Some Advisory w h.1) (named text (codes "advisory") h.0)
      | inr h ↦
          elim (chosen (bytes_eq text (codes "warning")) (Some Warning) _ (Some w) h.1) [
            | inl k ↦ subst (λ (x : Want). SpellsWant text x) (same_Some Warning w k.1) (named text (codes "warning") k.0)
            | inr k ↦
                let g = cond_some (bytes_eq text (codes "error")) Error w k.1 in
                subst (λ (x : Want). SpellsWant text x) g.1 (named text (codes "error") g.0)
          ]
    ]

want_again : (text : List ℕ) (w : Want) → SpellsWant text w → want_in text ≡ Some w
want_again text Advisory s = rw s refl
want_again text Warning s = rw s refl
want_again text Error s = rw s refl

pub setup_read : (words : List (List ℕ)) (s : ScriptSetup) → setup_in words ≡ Some s → SpellsSetup words s
unfolding setup_in setup_of
setup_read words s e =
    let g = guarded ((eqb (length words) 4) && bytes_eq (word words 0) (codes "setup")) (setup_of (word words 1) (word words 2) (word words 3)) s e in
    let tests = both (eqb (length words) 4) (bytes_eq (word words 0) (codes "setup")) g.0 in
    option_and_then_some (λ n. number_up_to 65535 (word words 2) >>= λ q. want_in (word words 3) >>= λ w. Some (record { subs = n; queue_size = q; want = w })) (number_up_to 65535 (word words 1)) s g.1 (λ n is_n e1.
    option_and_then_some (λ q. want_in (word words 3) >>= λ w. Some (record { subs = n; queue_size = q; want = w })) (number_up_to 65535 (word words 2)) s e1 (λ q is_q e2.
    option_and_then_some (λ w. Some (record { subs = n; queue_size = q; want = w })) (want_in (word words 3)) s e2 (λ w is_w made.
    let one : ScriptSetup = record { subs = n; queue_size = q; want = w } in
    let subs = number_read 65535 (word words 1) n is_n in
    let room = number_read 65535 (word words 2) q is_q in
    subst (λ (x : ScriptSetup). SpellsSetup words x) (same_Some one s made)
    (record { four = eqb-true _ _ tests.0; named = named (word words 0) (codes "setup") tests.1; subs = subs.0; subs_fit = subs.1; queue_size = room.0; queue_size_fits = room.1; want = want_read (word words 3) w is_w }))))

pub setup_again : (words : List (List ℕ)) (s : ScriptSetup) → SpellsSetup words s → setup_in words ≡ Some s
unfolding setup_in setup_of
setup_again words s h =
    rw (h.four, h.named, number_again 65535 (word words 1) s.subs h.subs h.subs_fit, number_again 65535 (word words 2) s.queue_size h.queue_size h.queue_size_fits, want_again (word words 3) s.want h.want) refl

-- words that spell no setup are read as none
no_setup_at : (o : Option ScriptSetup) → ((s : ScriptSetup) → o ≡ Some s → ⊥) → o ≡ None
no_setup_at None h = refl
no_setup_at (Some s) h = absurd (h s refl)

pub no_setup : (words : List (List ℕ)) → ((s : ScriptSetup) → SpellsSetup words s → ⊥) → setup_in words ≡ None
no_setup words h = no_setup_at (setup_in words) (λ s e. h s (setup_read words s e))

-- a setup is neither skipped nor a step
pub setup_isnt_skipped : (words : List (List ℕ)) (s : ScriptSetup) → SpellsSetup words s → is_skipped words ≡ false
setup_isnt_skipped words s h = rw (h.four, h.named) refl

pub setup_is_no_step : (dev : Dialect) (words : List (List ℕ)) (s : ScriptSetup) (step : CrewStep) → SpellsSetup words s → SpellsStep dev words step → ⊥
setup_is_no_step dev words s (Ask c f) h k = omega (arith, h.four, k.0.five)
setup_is_no_step dev words s (Collect f) h k = let same : codes "collect" ≡ codes "setup" = sym k.0 ∙ h.named in let lens : length (codes "collect") ≡ length (codes "setup") = ap length same in omega (arith, lens)
setup_is_no_step dev words s Draw h k = let lens : length words ≡ 1 = ap length k in omega (arith, h.four, lens)
setup_is_no_step dev words s (Settle n) h k = omega (arith, h.four, k.two)
setup_is_no_step dev words s (Panel n) h k = omega (arith, h.four, k.two)

setup_is_no_find : (dev : Dialect) (words : List (List ℕ)) (s : ScriptSetup) → SpellsSetup words s → SpellsFind dev words → ⊥
setup_is_no_find dev words s h k = let lens : length words ≡ 1 = ap length k.1 in omega (arith, h.four, lens)

setup_is_no_line : (dev : Dialect) (words : List (List ℕ)) (s : ScriptSetup) (steps : List CrewStep) → SpellsSetup words s → SpellsLine dev words steps → ⊥
setup_is_no_line dev words s steps h (inl k) = setup_is_no_step dev words s k.0 h k.2
setup_is_no_line dev words s steps h (inr k) = setup_is_no_find dev words s h k.0

-- ---- a line

said : (o : Option CrewStep) (step : CrewStep) → option_map_or (λ (x : CrewStep). Says x) o Faulty ≡ Says step → o ≡ Some step
said None step e = absurd cc
said (Some other) step e = let same : other ≡ step = cc in ap (λ (x : CrewStep). Some x) same

pub line_read : (dev : Dialect) (words : List (List ℕ)) (step : CrewStep) → line_in dev words ≡ Says step → (is_skipped words ≡ false) × SpellsStep dev words step
unfolding line_in
line_read dev words step e =
    elim (chosen (is_skipped words) Skipped _ (Says step) e) [
      | inl h ↦ let never : Skipped ≡ Says step = h.1 in absurd cc
      | inr h ↦
          elim (chosen (is_find dev.spelling words) (Finds dev.device) _ (Says step) h.1) [
            | inl k ↦ let never : Finds dev.device ≡ Says step = k.1 in absurd cc
            | inr k ↦ (h.0, step_read dev words step (said (step_in dev words) step k.1))
          ]
    ]

pub line_again : (dev : Dialect) (words : List (List ℕ)) (step : CrewStep) → is_skipped words ≡ false → SpellsStep dev words step → line_in dev words ≡ Says step
unfolding line_in
line_again dev words step out s = rw (out, no_find dev.spelling words (step_is_no_find dev words step s), step_again dev words step s) refl

unfound : (o : Option CrewStep) (u : Uid) → option_map_or (λ (x : CrewStep). Says x) o Faulty ≡ Finds u → ⊥
unfound None u e = cc
unfound (Some step) u e = cc

pub finds_read : (dev : Dialect) (words : List (List ℕ)) (u : Uid) → line_in dev words ≡ Finds u → SpellsFind dev words × (u ≡ dev.device)
unfolding line_in
finds_read dev words u e =
    elim (chosen (is_skipped words) Skipped _ (Finds u) e) [
      | inl h ↦ let never : Skipped ≡ Finds u = h.1 in absurd cc
      | inr h ↦
          elim (chosen (is_find dev.spelling words) (Finds dev.device) _ (Finds u) h.1) [
            | inl k ↦ (find_read dev words k.0, let same : dev.device ≡ u = cc in sym same)
            | inr k ↦ absurd (unfound (step_in dev words) u k.1)
          ]
    ]

pub finds_again : (dev : Dialect) (words : List (List ℕ)) → SpellsFind dev words → line_in dev words ≡ Finds dev.device
unfolding line_in
finds_again dev words s = rw (find_isnt_skipped dev words s, find_again dev words s) refl

pub said_skipped : (dev : Dialect) (words : List (List ℕ)) → is_skipped words ≡ true → line_in dev words ≡ Skipped
unfolding line_in
said_skipped dev words h = rw h refl

-- ---- what a line says that isn't skipped

-- it says these steps, and nothing else
pub record Speaks (line : Line) (steps : List CrewStep) : Type 0 where
  pub says : steps_of_line line ≡ steps
  pub sound : line ≢ Faulty
  pub keeps : (s : ScriptSetup) → setup_after s line ≡ s
  pub begins : (b : Bool) → begun_after b line ≡ true

speaks_step : (line : Line) (step : CrewStep) → line ≡ Says step → Speaks line (step ∷ [])
speaks_step line step e = record {
  says = ap steps_of_line e;
  sound = λ f. let never : Says step ≡ Faulty = sym e ∙ f in absurd cc;
  keeps = λ s. ap (setup_after s) e;
  begins = λ b. ap (begun_after b) e;
}

speaks_search : (line : Line) (u : Uid) → line ≡ Finds u → Speaks line (search_of u)
speaks_search line u e = record {
  says = ap steps_of_line e;
  sound = λ f. let never : Finds u ≡ Faulty = sym e ∙ f in absurd cc;
  keeps = λ s. ap (setup_after s) e;
  begins = λ b. ap (begun_after b) e;
}

abbrev IsSpoken : Dialect → List (List ℕ) → Line → Type 0
IsSpoken dev words line = (line ≡ Faulty) ⊎ ((steps : List CrewStep) × Speaks line steps × SpellsLine dev words steps)

spoken_at : (dev : Dialect) (words : List (List ℕ)) (o : Option CrewStep) → step_in dev words ≡ o → IsSpoken dev words (option_map_or (λ (x : CrewStep). Says x) o Faulty)
spoken_at dev words None e = inl refl
spoken_at dev words (Some step) e = inr (step ∷ [], speaks_step (Says step) step refl, inl (step, refl, step_read dev words step e))

spoken_if : (dev : Dialect) (words : List (List ℕ)) (b : Bool) → is_find dev.spelling words ≡ b → IsSpoken dev words (cond b (Finds dev.device) (option_map_or (λ (x : CrewStep). Says x) (step_in dev words) Faulty))
spoken_if dev words true e = inr (search_of dev.device, speaks_search (Finds dev.device) dev.device refl, inr (find_read dev words e, refl))
spoken_if dev words false e = spoken_at dev words (step_in dev words) refl

pub spoken : (dev : Dialect) (words : List (List ℕ)) → is_skipped words ≡ false → IsSpoken dev words (line_in dev words)
unfolding line_in
spoken dev words out = rw out (spoken_if dev words (is_find dev.spelling words) refl)

pub line_speaks : (dev : Dialect) (words : List (List ℕ)) (steps : List CrewStep) → is_skipped words ≡ false → SpellsLine dev words steps → Speaks (line_in dev words) steps
line_speaks dev words steps out (inl s) =
    subst (λ (ss : List CrewStep). Speaks (line_in dev words) ss) (sym s.1) (speaks_step (line_in dev words) s.0 (line_again dev words s.0 out s.2))
line_speaks dev words steps out (inr s) =
    subst (λ (ss : List CrewStep). Speaks (line_in dev words) ss) (sym s.1) (speaks_search (line_in dev words) dev.device (finds_again dev words s.0))

-- the first line that isn't skipped
pub first_is : (dev : Dialect) (words : List (List ℕ)) → setup_in words ≡ None → first_line_in dev words ≡ line_in dev words
unfolding first_line_in
first_is dev words none = rw none refl

pub first_sets : (dev : Dialect) (words : List (List ℕ)) (s : ScriptSetup) → SpellsSetup words s → first_line_in dev words ≡ Sets s
unfolding first_line_in
first_sets dev words s h = rw (setup_again words s h) refl

pub first_skipped : (dev : Dialect) (words : List (List ℕ)) → is_skipped words ≡ true → first_line_in dev words ≡ Skipped
first_skipped dev words h =
    let none = no_setup words (λ s k. let never : true ≡ false = sym h ∙ setup_isnt_skipped words s k in absurd cc) in
    first_is dev words none ∙ said_skipped dev words h

pub first_says : (dev : Dialect) (words : List (List ℕ)) (step : CrewStep) → is_skipped words ≡ false → SpellsStep dev words step → first_line_in dev words ≡ Says step
first_says dev words step out s = first_is dev words (no_setup words (λ t k. setup_is_no_step dev words t step k s)) ∙ line_again dev words step out s

pub first_finds : (dev : Dialect) (words : List (List ℕ)) → SpellsFind dev words → first_line_in dev words ≡ Finds dev.device
first_finds dev words s = first_is dev words (no_setup words (λ t k. setup_is_no_find dev words t k s)) ∙ finds_again dev words s

pub first_speaks : (dev : Dialect) (words : List (List ℕ)) (steps : List CrewStep) → is_skipped words ≡ false → SpellsLine dev words steps → Speaks (first_line_in dev words) steps
first_speaks dev words steps out s =
    let same = first_is dev words (no_setup words (λ t k. setup_is_no_line dev words t steps k s)) in
    subst (λ (l : Line). Speaks l steps) (sym same) (line_speaks dev words steps out s)

-- what the first line is read as
unsaid_at : (o : Option CrewStep) (s : ScriptSetup) → option_map_or (λ (x : CrewStep). Says x) o Faulty ≡ Sets s → ⊥
unsaid_at None s e = cc
unsaid_at (Some step) s e = cc

unsaid : (dev : Dialect) (words : List (List ℕ)) (s : ScriptSetup) → line_in dev words ≡ Sets s → ⊥
unfolding line_in
unsaid dev words s e =
    elim (chosen (is_skipped words) Skipped _ (Sets s) e) [
      | inl h ↦ let never : Skipped ≡ Sets s = h.1 in absurd cc
      | inr h ↦
          elim (chosen (is_find dev.spelling words) (Finds dev.device) _ (Sets s) h.1) [
            | inl k ↦ let never : Finds dev.device ≡ Sets s = k.1 in absurd cc
            | inr k ↦ unsaid_at (step_in dev words) s k.1
          ]
    ]

read_first : (dev : Dialect) (words : List (List ℕ)) (o : Option ScriptSetup) (step : CrewStep) → setup_in words ≡ o → option_map_or (λ (s : ScriptSetup). Sets s) o (line_in dev words) ≡ Says step → line_in dev words ≡ Says step
read_first dev words None step e h = h
read_first dev words (Some s) step e h = absurd (let never : Sets s ≡ Says step = h in cc)

pub first_read : (dev : Dialect) (words : List (List ℕ)) (step : CrewStep) → first_line_in dev words ≡ Says step → (is_skipped words ≡ false) × SpellsStep dev words step
unfolding first_line_in
first_read dev words step e = line_read dev words step (read_first dev words (setup_in words) step refl e)

found_first : (dev : Dialect) (words : List (List ℕ)) (o : Option ScriptSetup) (u : Uid) → option_map_or (λ (s : ScriptSetup). Sets s) o (line_in dev words) ≡ Finds u → line_in dev words ≡ Finds u
found_first dev words None u h = h
found_first dev words (Some s) u h = absurd (let never : Sets s ≡ Finds u = h in cc)

pub first_found : (dev : Dialect) (words : List (List ℕ)) (u : Uid) → first_line_in dev words ≡ Finds u → SpellsFind dev words × (u ≡ dev.device)
unfolding first_line_in
first_found dev words u e = finds_read dev words u (found_first dev words (setup_in words) u e)

-- a line that is read as a search is one
pub search_is_find : (dev : Dialect) (begun : Bool) (words : List (List ℕ)) (u : Uid) → line_at dev begun words ≡ Finds u → is_find dev.spelling words ≡ true
search_is_find dev true words u e = find_again dev words (finds_read dev words u e).0
search_is_find dev false words u e = find_again dev words (first_found dev words u e).0

read_set : (dev : Dialect) (words : List (List ℕ)) (o : Option ScriptSetup) (s : ScriptSetup) → option_map_or (λ (t : ScriptSetup). Sets t) o (line_in dev words) ≡ Sets s → o ≡ Some s
read_set dev words None s h = absurd (unsaid dev words s h)
read_set dev words (Some t) s h = let same : t ≡ s = cc in ap (λ (x : ScriptSetup). Some x) same

pub sets_read : (dev : Dialect) (words : List (List ℕ)) (s : ScriptSetup) → first_line_in dev words ≡ Sets s → SpellsSetup words s
unfolding first_line_in
sets_read dev words s e = setup_read words s (read_set dev words (setup_in words) s e)

-- whether a line says anything tells whether it is skipped
begun_spoken : (dev : Dialect) (words : List (List ℕ)) (line : Line) → IsSpoken dev words line → begun_after false line ≡ true
begun_spoken dev words line (inl h) = rw h refl
begun_spoken dev words line (inr h) = h.1.begins false

first_begins_at : (dev : Dialect) (words : List (List ℕ)) (b : Bool) → is_skipped words ≡ b → begun_after false (line_in dev words) ≡ not b
first_begins_at dev words true e = ap (begun_after false) (said_skipped dev words e)
first_begins_at dev words false e = begun_spoken dev words (line_in dev words) (spoken dev words e)

first_set_at : (dev : Dialect) (words : List (List ℕ)) (o : Option ScriptSetup) → setup_in words ≡ o → begun_after false (option_map_or (λ (s : ScriptSetup). Sets s) o (line_in dev words)) ≡ not (is_skipped words)
first_set_at dev words None e = first_begins_at dev words (is_skipped words) refl
first_set_at dev words (Some s) e = ap not (sym (setup_isnt_skipped words s (setup_read words s e)))

pub first_begins : (dev : Dialect) (words : List (List ℕ)) → begun_after false (first_line_in dev words) ≡ not (is_skipped words)
unfolding first_line_in
first_begins dev words = first_set_at dev words (setup_in words) refl

-- no later line sets anything
keeps_at : (o : Option CrewStep) (s : ScriptSetup) → setup_after s (option_map_or (λ (x : CrewStep). Says x) o Faulty) ≡ s
keeps_at None s = refl
keeps_at (Some step) s = refl

keeps_either : (b c : Bool) (u : Uid) (o : Option CrewStep) (s : ScriptSetup) → setup_after s (cond b Skipped (cond c (Finds u) (option_map_or (λ (x : CrewStep). Says x) o Faulty))) ≡ s
keeps_either true c u o s = refl
keeps_either false true u o s = refl
keeps_either false false u o s = keeps_at o s

pub keeps_setup : (dev : Dialect) (words : List (List ℕ)) (s : ScriptSetup) → setup_after s (line_in dev words) ≡ s
unfolding line_in
keeps_setup dev words s = keeps_either (is_skipped words) (is_find dev.spelling words) dev.device (step_in dev words) s
