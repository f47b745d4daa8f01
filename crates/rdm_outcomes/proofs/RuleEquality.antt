-- `==` of rules, and of rules that are counted.
use Rattle.std.proofs.Common.{◌≡◌, ℕ, Option, Some, None, refl, ap}
use Rattle.std.specs.Bool.{Decides}
use Rattle.std.specs.Option.{option_eq}
use Rattle.std.specs.Prelude.{nat_eq}
use Rattle.std.proofs.lemmas.Bool.Decides.{Decides-and, Decides-like, Decides-eqb}
use Rattle.rdm_commands.specs.declared.jobs.outcome.Outcome.{Outcome}
use Rattle.rdm_commands.specs.contracts.jobs.outcome.OutcomePartialEq.TheImpl as outcomes
use Rattle.rdm_outcomes.specs.declared.planned.Counted.{Counted}
use Rattle.rdm_outcomes.specs.declared.rule.Rule.{Rule}
use Rattle.rdm_outcomes.specs.declared.rule.Task.{Task}
use Rattle.rdm_outcomes.specs.contracts.planned.CountedPartialEq.TheImpl as counted
use Rattle.rdm_outcomes.specs.contracts.rule.RulePartialEq.TheImpl as rules
use Rattle.rdm_outcomes.specs.contracts.rule.TaskPartialEq.TheImpl as tasks

some_is : (x y : ℕ) → Some x ≡ Some y → x ≡ y
some_is x y e = cc

option_decides : (a b : Option ℕ) → Decides (option_eq nat_eq a b) (a ≡ b)
option_decides None None = (λ _. refl, λ _. refl)
option_decides None (Some y) = (λ e. absurd cc, λ e. absurd cc)
option_decides (Some x) None = (λ e. absurd cc, λ e. absurd cc)
option_decides (Some x) (Some y) = Decides-like (nat_eq x y) (ap Some) (some_is x y) (Decides-eqb x y)

abbrev rule_of : Task → Option ℕ → Option ℕ → Outcome → Rule
rule_of task value turn outcome = record { task = task; value = value; turn = turn; outcome = outcome }

same_rule : (t u : Task) (v w : Option ℕ) (m n : Option ℕ) (o p : Outcome) → t ≡ u → v ≡ w → m ≡ n → o ≡ p → rule_of t v m o ≡ rule_of u w n p
same_rule t u v w m n o p e f g h = rw (e, f, g, h) refl

pub rule_decides : ((a b : Task) → Decides (tasks.ghosts.eq a b) (a ≡ b)) → ((a b : Outcome) → Decides (outcomes.ghosts.eq a b) (a ≡ b))
    → (a b : Rule) → Decides (rules.ghosts.eq a b) (a ≡ b)
rule_decides task outcome a b =
    Decides-like _ (λ e. same_rule a.task b.task a.value b.value a.turn b.turn a.outcome b.outcome e.0 e.1.0 e.1.1.0 e.1.1.1)
    (λ e. (ap (λ (r : Rule). r.task) e, (ap (λ (r : Rule). r.value) e, (ap (λ (r : Rule). r.turn) e, ap (λ (r : Rule). r.outcome) e))))
    (Decides-and _ _ (task a.task b.task) (Decides-and _ _ (option_decides a.value b.value) (Decides-and _ _ (option_decides a.turn b.turn) (outcome a.outcome b.outcome))))

abbrev counted_of : Rule → ℕ → Counted
counted_of rule seen = record { rule = rule; seen = seen }

same_counted : (r s : Rule) (m n : ℕ) → r ≡ s → m ≡ n → counted_of r m ≡ counted_of s n
same_counted r s m n e f = rw (e, f) refl

pub counted_decides : ((a b : Rule) → Decides (rules.ghosts.eq a b) (a ≡ b)) → (a b : Counted) → Decides (counted.ghosts.eq a b) (a ≡ b)
counted_decides rule a b =
    Decides-like _ (λ e. same_counted a.rule b.rule a.seen b.seen e.0 e.1) (λ e. (ap (λ (c : Counted). c.rule) e, ap (λ (c : Counted). c.seen) e))
    (Decides-and _ _ (rule a.rule b.rule) (Decides-eqb a.seen b.seen))
