-- What is written of the rules by which jobs end.
use Rattle.std.proofs.Common.{◌≡◌, ℕ, pos, true, List, [], ◌∷◌, Option, Some, None, IsTrue, refl, ap, ◌∙◌, arith, codes}
use Rattle.std.proofs.lemmas.Bool.{and_parts}
use Rattle.rdm_frame.specs.Severities.{severity_name}
use Rattle.rdm_frame.specs.declared.status.Severity.{Severity}
use Rattle.rdm_frame.specs.declared.status.Severity.TheVariants.{Advisory, Warning, Error, AdvisoryCleared, WarningCleared, ErrorCleared}
use Rattle.rdm_params.specs.Table.Kinds.{name_of}
use Rattle.rdm_commands.specs.declared.jobs.outcome.Outcome.{Outcome}
use Rattle.rdm_commands.specs.declared.jobs.outcome.Outcome.TheVariants.{Done, Reading, Failed}
use Rattle.rdm_outcomes.specs.declared.rule.Rule.{Rule}
use Rattle.rdm_outcomes.specs.declared.rule.Task.{Task}
use Rattle.rdm_outcomes.specs.declared.rule.Task.TheVariants.{LampState, PowerState, PerformSelfTest, SensorValue}
use Rattle.rdm_outcomes.specs.Outcomes.{suits, kind_of}
use Rattle.toml.specs.Data.{Data, integer, string, boolean, table}
use Rattle.rdm_fixture.specs.Describable.{is_base_form, is_counted, is_told, is_ruled}
use Rattle.rdm_fixture_keys.specs.Keys.{may, must, has_only}
use Rattle.rdm_fixture.specs.Outcomes.{IsOutcome, task, severity, only_number, outcome_in, outcome_at, failed, rule_keys}
use Rattle.rdm_fixture_keys.specs.Values.{number}
use Rattle.rdm_fixture.specs.Writing.{with_fields, outcome_fields, HasWords, IsPlain}
use Rattle.rdm_fixture.proofs.Fields.{Field, members_from, find_field, or_else, get_from, only_from, ArePlain, plain_from}
use Rattle.rdm_fixture.proofs.Said.{must_say, or_none, number_plain, option_plain}

task_again : (x : Task) → task (string (name_of (kind_of x))) ≡ Some x
task_again LampState = refl
task_again PowerState = refl
task_again PerformSelfTest = refl
task_again SensorValue = refl

pub severity_again : (x : Severity) → IsTrue (is_base_form x) → severity (string (severity_name x)) ≡ Some x
severity_again Advisory h = refl
severity_again Warning h = refl
severity_again Error h = refl
severity_again AdvisoryCleared h = absurd (cc)
severity_again WarningCleared h = absurd (cc)
severity_again ErrorCleared h = absurd (cc)

-- the fields but the outcome's
abbrev pub job_fields : Task → Option Data → Option Data → List Field
job_fields x value turn = (codes "job", turn) ∷ (codes "value", value) ∷ (codes "parameter", Some (string (name_of (kind_of x)))) ∷ []

-- and all
abbrev pub rule_fields : Task → Option Data → Option Data → Outcome → List Field
rule_fields x value turn Done = (codes "done", Some (boolean true)) ∷ job_fields x value turn
rule_fields x value turn (Reading z) = (codes "reading", Some (integer z)) ∷ job_fields x value turn
rule_fields x value turn (Failed s id v1 v2) =
    (codes "data_value_2", Some (integer (pos v2))) ∷ (codes "data_value_1", Some (integer (pos v1))) ∷ (codes "status_id", Some (integer (pos id)))
    ∷ (codes "severity", Some (string (severity_name s))) ∷ job_fields x value turn

pub put_together : (x : Task) (value turn : Option Data) (o : Outcome)
    → with_fields (outcome_fields o) (members_from (job_fields x value turn)) ≡ members_from (rule_fields x value turn o)
put_together x value turn Done = refl
put_together x value turn (Reading z) = refl
put_together x value turn (Failed s id v1 v2) = refl

keys_of : (x : Task) (value turn : Option Data) (o : Outcome) → IsTrue (has_only (rule_keys o) (members_from (rule_fields x value turn o)))
keys_of x value turn Done = only_from (rule_keys Done) (rule_fields x value turn Done) refl
keys_of x value turn (Reading z) = only_from (rule_keys (Reading z)) (rule_fields x value turn (Reading z)) refl
keys_of x value turn (Failed s id v1 v2) = only_from (rule_keys (Failed s id v1 v2)) (rule_fields x value turn (Failed s id v1 v2)) refl

found_task : (x : Task) (value turn : Option Data) (o : Outcome) → find_field (codes "parameter") (rule_fields x value turn o) ≡ Some (string (name_of (kind_of x)))
found_task x value turn Done = refl
found_task x value turn (Reading z) = refl
found_task x value turn (Failed s id v1 v2) = refl

found_value : (x : Task) (value turn : Option Data) (o : Outcome) → find_field (codes "value") (rule_fields x value turn o) ≡ or_else value None
found_value x value turn Done = refl
found_value x value turn (Reading z) = refl
found_value x value turn (Failed s id v1 v2) = refl

found_turn : (x : Task) (value turn : Option Data) (o : Outcome) → find_field (codes "job") (rule_fields x value turn o) ≡ or_else turn None
found_turn x value turn Done = refl
found_turn x value turn (Reading z) = refl
found_turn x value turn (Failed s id v1 v2) = refl

outcome_from : (fs : List Field) (d r s i v w : Option Data) → find_field (codes "done") fs ≡ d → find_field (codes "reading") fs ≡ r
    → find_field (codes "severity") fs ≡ s → find_field (codes "status_id") fs ≡ i → find_field (codes "data_value_1") fs ≡ v
    → find_field (codes "data_value_2") fs ≡ w
    → outcome_in (members_from fs)
    ≡ outcome_at d r (failed (must severity s) (must (number 0 0xFFFF) i) (may 0 (number 0 0xFFFF) v) (may 0 (number 0 0xFFFF) w))
outcome_from fs d r s i v w is_d is_r is_s is_i is_v is_w =
    rw (
      get_from (codes "done") fs,
      get_from (codes "reading") fs,
      get_from (codes "severity") fs,
      get_from (codes "status_id") fs,
      get_from (codes "data_value_1") fs,
      get_from (codes "data_value_2") fs,
      is_d,
      is_r,
      is_s,
      is_i,
      is_v,
      is_w,
    ) refl

failed_again : (s : Severity) (id v1 v2 : ℕ) (a : Option Severity) (b c d : Option ℕ) → a ≡ Some s → b ≡ Some id → c ≡ Some v1 → d ≡ Some v2
    → failed a b c d ≡ Some (Failed s id v1 v2)
failed_again s id v1 v2 a b c d p q r t = rw (p, q, r, t) refl

outcome_again : (x : Task) (value turn : Option Data) (o : Outcome) → IsTrue (is_told o) → HasWords o
    → outcome_in (members_from (rule_fields x value turn o)) ≡ Some o
outcome_again x value turn Done told words = outcome_from (rule_fields x value turn Done) _ _ _ _ _ _ refl refl refl refl refl refl
outcome_again x value turn (Reading z) told words =
    outcome_from (rule_fields x value turn (Reading z)) None (Some (integer z)) None None None None refl refl refl refl refl refl ∙ rw words refl
outcome_again x value turn (Failed s id v1 v2) told words =
    outcome_from (rule_fields x value turn (Failed s id v1 v2)) None None (Some (string (severity_name s))) (Some (integer (pos id)))
    (Some (integer (pos v1))) (Some (integer (pos v2))) refl refl refl refl refl refl
    ∙ failed_again s id v1 v2 _ _ _ _ (severity_again s told) words.0 words.1 words.2

pub rule_says : (r : Rule) (value turn : Option Data) → IsTrue (is_ruled r) → HasWords r.outcome
    → may None (only_number 0 0xFF) value ≡ Some r.value → (IsTrue (is_counted r.turn) → may None (only_number 1 0xFFFF) turn ≡ Some r.turn)
    → IsOutcome (members_from (rule_fields r.task value turn r.outcome)) r
rule_says r value turn ruled words says_value says_turn =
    let (counted, more) = and_parts (is_counted r.turn) _ ruled in
    let (fits, told) = and_parts (suits r.task r.outcome) _ more in
    let fs = rule_fields r.task value turn r.outcome in record {
      keys = keys_of r.task value turn r.outcome;
      task = must_say (codes "parameter") fs task _ r.task (found_task r.task value turn r.outcome) (task_again r.task);
      value = ap (may None (only_number 0 0xFF)) (get_from (codes "value") fs ∙ found_value r.task value turn r.outcome ∙ or_none value) ∙ says_value;
      turn = ap (may None (only_number 1 0xFFFF)) (get_from (codes "job") fs ∙ found_turn r.task value turn r.outcome ∙ or_none turn) ∙ says_turn counted;
      outcome = outcome_again r.task value turn r.outcome told words;
      fits = fits;
    }

-- how deep they are
pub name_plain : (s : List ℕ) → IsPlain 0 (string s)
name_plain s = record { shallow = omega arith; dates = refl }

outcome_plain : (x : Task) (value turn : Option Data) (o : Outcome) → ArePlain 0 (job_fields x value turn) → ArePlain 0 (rule_fields x value turn o)
outcome_plain x value turn Done rest = (record { shallow = omega arith; dates = refl }, rest)
outcome_plain x value turn (Reading z) rest = (number_plain 0 z, rest)
outcome_plain x value turn (Failed s id v1 v2) rest = (number_plain 0 _, (number_plain 0 _, (number_plain 0 _, (name_plain _, rest))))

pub rule_plain : (x : Task) (value turn : Option Data) (o : Outcome) → ((d : Data) → value ≡ Some d → IsPlain 0 d) → ((d : Data) → turn ≡ Some d → IsPlain 0 d)
    → IsPlain 1 (table (members_from (rule_fields x value turn o)))
rule_plain x value turn o is_value is_turn =
    plain_from 0 (rule_fields x value turn o) (outcome_plain x value turn o
    (option_plain 0 (codes "job") turn ((codes "value", value) ∷ (codes "parameter", Some (string (name_of (kind_of x)))) ∷ []) is_turn
    (option_plain 0 (codes "value") value ((codes "parameter", Some (string (name_of (kind_of x)))) ∷ []) is_value (name_plain _, tt))))
