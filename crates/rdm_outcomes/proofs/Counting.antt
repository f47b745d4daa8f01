-- What is counted once a job more has ended.
use Rattle.std.proofs.Common.{◌≡◌, ℕ, suc, ◌+◌, Bool, true, false, cond, List, [], ◌∷◌, ◌++◌, map, length, take, refl, sym, ap, ap₂, ◌∙◌, arith}
use Rattle.std.specs.Prelude.{nat_le}
use Rattle.std.specs.List.{count_by, refill}
use Rattle.std.proofs.lemmas.List.{take_all, drop_all, append-nil}
use Rattle.std.proofs.lemmas.List.Sums.{sum_by_push}
use Rattle.std.proofs.lemmas.Bool.Decides.{nat_tests}
use Rattle.rdm_outbox.specs.declared.job.Job.{Job}
use Rattle.rdm_outcomes.specs.declared.planned.Counted.{Counted}
use Rattle.rdm_outcomes.specs.declared.rule.Rule.{Rule}
use Rattle.rdm_outcomes.specs.Outcomes.{is_for, counted_in, note}

abbrev capped : ℕ → ℕ → ℕ
capped most n = cond (nat_le n most) n most

abbrev counted : Rule → ℕ → Counted
counted rule n = record { rule = rule; seen = n }

capped_more : (most n : ℕ) → cond (nat_le most (capped most n)) most (suc (capped most n)) ≡ capped most (n + 1)
capped_more most n = grind (arith, nat_tests)

capped_same : (most n : ℕ) → capped most n ≡ capped most (n + 0)
capped_same most n = ap (capped most) (omega arith)

rule_kept : (b : Bool) (rule : Rule) (n m : ℕ) → (cond b (counted rule n) (counted rule m)).rule ≡ rule
rule_kept true rule n m = refl
rule_kept false rule n m = refl

pub rules_kept : (job : Job) (xs : List Counted) → map (λ (c : Counted). c.rule) (map (note job) xs) ≡ map (λ (c : Counted). c.rule) xs
rules_kept job [] = refl
rules_kept job (x ∷ xs) = ap₂ (λ (r : Rule) rs. r ∷ rs) (rule_kept (is_for x.rule job) x.rule _ x.seen) (rules_kept job xs)

noted : (most n : ℕ) (rule : Rule) (b : Bool) → cond b (counted rule (cond (nat_le most (capped most n)) most (suc (capped most n)))) (counted rule (capped most n)) ≡ counted rule (capped most (n + cond b 1 0))
noted most n rule true = ap (counted rule) (capped_more most n)
noted most n rule false = ap (counted rule) (capped_same most n)

counts_one : (job : Job) (before : List Job) (rule : Rule) → note job (counted_in before rule) ≡ counted_in (before ++ job ∷ []) rule
counts_one job before rule =
    noted 4294967295 (count_by (is_for rule) before) rule (is_for rule job)
    ∙ ap (λ (n : ℕ). counted rule (capped 4294967295 n)) (sym (sum_by_push (λ (j : Job). cond (is_for rule j) 1 0) before job))

pub counts_all : (job : Job) (before : List Job) (rules : List Rule) → map (note job) (map (counted_in before) rules) ≡ map (counted_in (before ++ job ∷ [])) rules
counts_all job before [] = refl
counts_all job before (rule ∷ rules) = ap₂ (λ (c : Counted) cs. c ∷ cs) (counts_one job before rule) (counts_all job before rules)

pub refilled : (xs ws : List Counted) → length ws ≡ length xs → refill (length xs) xs ws ≡ ws
refilled xs ws e =
    ap (λ (ys : List Counted). take (length xs) (ws ++ ys)) (drop_all (length ws) xs (omega arith))
    ∙ ap (take (length xs)) (append-nil ws) ∙ take_all (length xs) ws (omega arith)
