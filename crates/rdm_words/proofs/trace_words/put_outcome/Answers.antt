use Rattle.std.proofs.Common.{ℕ, OnOk, codes, string_bytes, refl, sym, subst}
use Rattle.rdm_commands.specs.declared.jobs.outcome.Outcome.{Outcome}
use Rattle.rdm_words.specs.FieldFacts.{failure_facts}
use Rattle.rdm_words.specs.FrameFacts.{outcome_facts}
use Rattle.rdm_words.specs.Naming.{AddsNames}
use Rattle.rdm_words.proofs.Appends.{on_ok}
use Rattle.rdm_words.proofs.LaidOut.{adds_fact, adds_separated}
use Rattle.rdm_words.proofs.trace_words.put_outcome.Goals as goal

pub returns-in-Done : goal.returns-in-Done
returns-in-Done c =
    subst (λ (o : Outcome). OnOk c.push_str.result (AddsNames (outcome_facts o) (string_bytes c.args.text.now) (string_bytes c.push_str.new.self)))
    (sym c.in-Done.is) (adds_fact c.push_str.result (codes " is ") (codes "done") (string_bytes c.args.text.now) _ refl (on_ok c.push_str.result _ _ _ c.push_str.ensures.bytes))

pub returns-in_ok-push_str-in-Failed : goal.returns-in_ok-push_str-in-Failed
returns-in_ok-push_str-in-Failed c =
    subst (λ (o : Outcome). OnOk c.put_failure.result (AddsNames (outcome_facts o) (string_bytes c.args.text.now) (string_bytes c.put_failure.new.text)))
    (sym c.in-Failed.is)
    (subst (λ (s : ℕ). OnOk c.put_failure.result (AddsNames (failure_facts s c.in-Failed.id c.in-Failed.v1 c.in-Failed.v2) (string_bytes c.args.text.now) (string_bytes c.put_failure.new.text)))
    c.code.ensures
    (adds_separated c.put_failure.result (failure_facts c.code.result c.in-Failed.id c.in-Failed.v1 c.in-Failed.v2) (codes " has failed: ") _ _ _ refl c.in_ok-push_str-in-Failed.ensures.bytes c.put_failure.ensures))
