-- What is wrong with a table that is no rule.
use Rattle.std.proofs.Common.{◌≡◌, ℕ, Bool, true, false, Option, Some, None, IsSome, IsTrue, option_map, pos, neg_ℤ, refl, ap, codes}
use Rattle.toml.specs.Data.{Data, Members, get_member}
use Rattle.rdm_frame.specs.declared.status.Severity.{Severity}
use Rattle.rdm_commands.specs.declared.jobs.outcome.Outcome.{Outcome}
use Rattle.rdm_outcomes.specs.declared.rule.Rule.{Rule}
use Rattle.rdm_outcomes.specs.declared.rule.Task.{Task}
use Rattle.rdm_outcomes.specs.Outcomes.{suits}
use Rattle.rdm_fixture_keys.specs.declared.refusal.Wanted.TheVariants as wanted
use Rattle.rdm_fixture_keys.specs.Faults.{Fault, fault}
use Rattle.rdm_fixture.specs.FirstWrong.{job_parts, failure_parts, WrongOutcome}
use Rattle.rdm_fixture_keys.specs.Keys.{must, may, has_only}
use Rattle.rdm_fixture.specs.Outcomes.{IsOutcome, task, only_number, outcome_in, outcome_at, failed, rule_keys}
use Rattle.rdm_fixture_keys.specs.Values.{number}
use Rattle.rdm_fixture_keys.specs.Wrong.{FirstWrong, AllRight, SaysSome}
use Rattle.rdm_fixture.proofs.OneFixture.{rule_of}

-- ---- what is there

pub is_there : {A : Type 0} (o : Option A) → IsSome o → (x : A) × (o ≡ Some x)
is_there None e = absurd (cc)
is_there (Some x) e = (x, refl)

said : (least most : ℕ) (found : Option Data) → SaysSome (number least most) found → (v : Option ℕ) × (may None (only_number least most) found ≡ Some v)
said least most None h = (None, refl)
said least most (Some d) h = let (n, e) = is_there (number least most d) h in (Some n, ap (option_map (λ n. Some n)) e)

-- ---- the parameter can't have the outcome

not_true : (b : Bool) → (b ≡ true → ⊥) → b ≡ false
not_true true never = absurd (never refl)
not_true false never = refl

pub unsuited : (t : Members) (o : Outcome) → ((r : Rule) → ¬ IsOutcome t r) → AllRight job_parts t → outcome_in t ≡ Some o → IsTrue (has_only (rule_keys o) t)
    → (x : Task) × (must task (get_member (codes "parameter") t) ≡ Some x) × (suits x o ≡ false)
unsuited t o none right outcome keys =
    let (x, named) = is_there (must task (get_member (codes "parameter") t)) right.0 in
    let (v, value) = said 0 0xFF (get_member (codes "value") t) right.1.0 in
    let (j, job) = said 1 0xFFFF (get_member (codes "job") t) right.1.1.0 in
    (x, named, not_true (suits x o) (λ fits. none (rule_of x v j o) (record { keys = keys; task = named; value = value; turn = job; outcome = outcome; fits = fits })))

-- ---- no outcome is told

pub done_wrong : (d r : Option Data) (t : Members) (f : Fault) → IsSome d → f ≡ fault (codes "done") wanted.True → WrongOutcome d r t f
done_wrong None r t f there e = absurd (cc)
done_wrong (Some d) r t f there e = e

pub reading_wrong : (d r : Option Data) (t : Members) (f : Fault) → d ≡ None → IsSome r
    → f ≡ fault (codes "reading") (wanted.Number (neg_ℤ (pos 32768)) (pos 32767)) → WrongOutcome d r t f
reading_wrong (Some d) r t f none there e = absurd (cc)
reading_wrong None None t f none there e = absurd (cc)
reading_wrong None (Some r) t f none there e = e

pub failure_wrong : (d r : Option Data) (t : Members) (f : Fault) → d ≡ None → r ≡ None → FirstWrong failure_parts t f → WrongOutcome d r t f
failure_wrong (Some d) r t f none free w = absurd (cc)
failure_wrong None (Some r) t f none free w = absurd (cc)
failure_wrong None None t f none free w = w

-- without the other keys a table fails as it is
pub no_failure : (d r : Option Data) (o : Option Outcome) → d ≡ None → r ≡ None → outcome_at d r o ≡ None → o ≡ None
no_failure (Some d) r o none free e = absurd (cc)
no_failure None (Some r) o none free e = absurd (cc)
no_failure None None o none free e = e

pub last_none : (s : Option Severity) (i v w : Option ℕ) → failed s i v w ≡ None → IsSome s → IsSome i → IsSome v → w ≡ None
last_none None i v w e a b c = absurd (cc)
last_none (Some s) None v w e a b c = absurd (cc)
last_none (Some s) (Some i) None w e a b c = absurd (cc)
last_none (Some s) (Some i) (Some v) None e a b c = refl
last_none (Some s) (Some i) (Some v) (Some w) e a b c = absurd (cc)
