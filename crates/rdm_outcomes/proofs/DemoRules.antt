-- What the rules of the demonstration give.
use Rattle.std.proofs.Common.{◌≡◌, ℕ, ◌==◌, ◌&&◌, Bool, true, false, cond, List, [], ◌∷◌, map, Some, None, refl, sym, ap₂, ◌∙◌}
use Rattle.std.specs.Prelude.{◌↔◌}
use Rattle.rdm_frame.specs.declared.status.Severity.TheVariants.{Warning, Error}
use Rattle.rdm_commands.specs.declared.jobs.outcome.Outcome.{Outcome}
use Rattle.rdm_commands.specs.declared.jobs.outcome.Outcome.TheVariants.{Failed}
use Rattle.rdm_outbox.specs.declared.job.Job.{Job}
use Rattle.rdm_outcomes.specs.declared.planned.Counted.{Counted}
use Rattle.rdm_outcomes.specs.declared.rule.Rule.{Rule}
use Rattle.rdm_outcomes.specs.declared.rule.Task.TheVariants.{LampState, PerformSelfTest}
use Rattle.rdm_outcomes.specs.Demo.{failing, demo_rules, demo_outcome}
use Rattle.rdm_outcomes.specs.Outcomes.{holds, outcome_at, outcome_by, usual_outcome, CanEnd}

-- the first of two rules that says how a job ends
abbrev of_two : Rule → ℕ → Rule → ℕ → Job → Outcome
of_two r m s n job = cond (holds r m job) r.outcome (cond (holds s n job) s.outcome (usual_outcome job))

picked : (a b : Bool) (c d : Counted) (job : Job) → outcome_by (cond a (Some c) (cond b (Some d) None)) job ≡ cond a c.rule.outcome (cond b d.rule.outcome (usual_outcome job))
picked true b c d job = refl
picked false true c d job = refl
picked false false c d job = refl

decided : (p q r s : Bool) (x y z : Outcome) → cond ((p && q) && true) x (cond ((r && s) && true) y z) ≡ cond (p && q) x (cond (r && s) y z)
decided true true r s x y z = refl
decided true false true true x y z = refl
decided true false true false x y z = refl
decided true false false s x y z = refl
decided false q true true x y z = refl
decided false q true false x y z = refl
decided false q false s x y z = refl

demo_two : (m n : ℕ) (job : Job) → of_two (failing LampState Error 0x8001) m (failing PerformSelfTest Warning 0x8002) n job ≡ demo_outcome job
demo_two m n job =
    decided (job.work.pid == 0x0403) (job.work.arg == 2) (job.work.pid == 0x1020) (job.work.arg == 2) (Failed Error 0x8001 2 0) (Failed Warning 0x8002 2 0) (usual_outcome job)

two : (c d : Counted) (job : Job) → c.rule ≡ failing LampState Error 0x8001 → d.rule ≡ failing PerformSelfTest Warning 0x8002 → outcome_at (c ∷ d ∷ []) job ≡ demo_outcome job
two c d job e f =
    picked (holds c.rule c.seen job) (holds d.rule d.seen job) c d job
    ∙ ap₂ (λ (r : Rule) (s : Rule). of_two r c.seen s d.seen job) e f
    ∙ demo_two c.seen d.seen job

head_is : (r s : Rule) (rs ss : List Rule) → r ∷ rs ≡ s ∷ ss → (r ≡ s) × (rs ≡ ss)
head_is r s rs ss e = (cc, cc)

there : (counted : List Counted) (job : Job) → map (λ (c : Counted). c.rule) counted ≡ demo_rules → outcome_at counted job ≡ demo_outcome job
there [] job e = absurd cc
there (c ∷ []) job e = absurd cc
there (c ∷ d ∷ []) job e =
    let one = head_is _ _ _ _ e in
    let other = head_is _ _ _ _ one.1 in
    two c d job one.0 other.0
there (c ∷ d ∷ (x ∷ xs)) job e =
    let one = head_is _ _ _ _ e in
    let other = head_is _ _ _ _ one.1 in
    absurd cc

abbrev unseen : Rule → Counted
unseen rule = record { rule = rule; seen = 0 }

pub demo_ends : (job : Job) (outcome : Outcome) → CanEnd demo_rules job outcome ↔ (outcome ≡ demo_outcome job)
demo_ends job outcome = (
  λ (can : CanEnd demo_rules job outcome). can.2 ∙ there can.0 job can.1,
  λ e. (map unseen demo_rules, refl, e ∙ sym (two (unseen (failing LampState Error 0x8001)) (unseen (failing PerformSelfTest Warning 0x8002)) job refl refl)),
)
