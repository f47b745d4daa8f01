-- The results of jobs are for other parameters than those of the menu.
use Rattle.std.proofs.Common.{◌≡◌, ℕ, Bool, true, false, ◌==◌, ◌&&◌, IsTrue, refl, sym, ap, subst, ◌∙◌}
use Rattle.std.proofs.lemmas.Bool.{and_parts, eqb-true}
use Rattle.rdm_commands.specs.declared.jobs.outcome.Outcome.{Outcome}
use Rattle.rdm_commands.specs.declared.jobs.outcome.Outcome.TheVariants.{Done, Reading, Failed}
use Rattle.rdm_commands.specs.declared.jobs.work.Work.{Work}
use Rattle.rdm_commands.specs.declared.panel.Change.{Change}
use Rattle.rdm_commands.specs.declared.panel.Change.TheVariants as changes
use Rattle.rdm_params.specs.Commands.Panel.{changed_pid, told}
use Rattle.rdm_params.specs.Device.Parameters.{Parameters}
use Rattle.rdm_params.specs.Jobs.Commit.{committed}
use Rattle.rdm_params.specs.declared.Verb.{Verb}
use Rattle.rdm_params.specs.declared.Verb.TheVariants.{Get, Set}
use Rattle.rdm_params.specs.Table.Rows.{command_of, row_of}
use Rattle.rdm_params.specs.Table.Uses.{is_slow}
use Rattle.rdm_responder.specs.Laws.{ResultsAreNeverReplaced}

-- no command of a parameter of the menu is slow
quick : (change : Change) (v : Verb) → is_slow (command_of (changed_pid change) v) ≡ false
unfolding row_of
quick (changes.Start start) Get = refl
quick (changes.Start start) Set = refl
quick (changes.Personality number) Get = refl
quick (changes.Personality number) Set = refl
quick (changes.Label plate) Get = refl
quick (changes.Label plate) Set = refl

-- so a slow one is of another parameter
other_pid : (change : Change) (pid : ℕ) (v : Verb) → IsTrue (is_slow (command_of pid v)) → (b : Bool) → (changed_pid change == pid) ≡ b → b ≡ false
other_pid change pid v slow false e = refl
other_pid change pid v slow true e =
    let same : changed_pid change ≡ pid = eqb-true (changed_pid change) pid e in
    let quick_there : is_slow (command_of pid v) ≡ false = subst (λ (n : ℕ). is_slow (command_of n v) ≡ false) same (quick change v) in
    sym slow ∙ quick_there

-- the message at the end of a job is for the parameter of its work
pid_of_result : (q : Parameters) (w : Work) (outcome : Outcome) → (committed q w outcome).pid ≡ w.pid
unfolding committed
pid_of_result q w Done = refl
pid_of_result q w (Reading v) = refl
pid_of_result q w (Failed severity id v1 v2) = refl

never : (a b c : Bool) → b ≡ false → (a && b && c) ≡ false
never a true c e = absurd (cc)
never true false c e = refl
never false false c e = refl

pub never_replaced : ResultsAreNeverReplaced
never_replaced p q change w outcome fit =
    let apart : (changed_pid change == (committed q w outcome).pid) ≡ false =
    ap (λ (n : ℕ). changed_pid change == n) (pid_of_result q w outcome) ∙ other_pid change w.pid w.verb (and_parts _ _ fit).0 _ refl in
    never ((told p change).class == (committed q w outcome).class) _ ((told p change).sub == (committed q w outcome).sub) apart
