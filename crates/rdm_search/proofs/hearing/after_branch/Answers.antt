use Rattle.std.proofs.Common.{◌≡◌, ◌≢◌, [], length, sym, subst, ◌∙◌}
use Rattle.std.proofs.lemmas.Bool.{eqb-true, eqb-false}
use Rattle.rdm_search.specs.declared.stage.Stage.{Stage}
use Rattle.rdm_search.specs.declared.stage.Stage.TheVariants.{Asking}
use Rattle.rdm_search.specs.Line.{IsCalled, callers}
use Rattle.rdm_search.specs.Ranges.{low, high}
use Rattle.rdm_search.specs.Stages.{Leads, Strays}
use Rattle.rdm_search.proofs.Branches.{silent, heard_one, heard_many, altered_one, altered_many, no_bytes, some_bytes}
use Rattle.rdm_search.proofs.hearing.after_branch.Goals as goal

pub returns-then-is_empty-clause-leads : goal.returns-then-is_empty-clause-leads
returns-then-is_empty-clause-leads c found line left called =
    let r = c.args.range in
    let none : c.args.bytes.now ≡ [] = no_bytes c.args.bytes.now (eqb-true (length c.args.bytes.now) 0 (sym c.is_empty.ensures ∙ c.if-is_empty.true)) in
    subst (λ (stage : Stage). Leads (Asking r) line stage found line) (sym c.stage_after.ensures.value) (silent r c.requires found line left (subst (IsCalled (callers (low r) (high r) line)) none called))

pub returns-in-Some-clause-leads : goal.returns-in-Some-clause-leads
returns-in-Some-clause-leads c found line left called =
    let r = c.args.range in
    let some : c.args.bytes.now ≢ [] = some_bytes c.args.bytes.now (eqb-false (length c.args.bytes.now) 0 (sym c.is_empty.ensures ∙ c.if-is_empty.false)) in
    heard_one r c.in-Some.uid found line c.args.bytes.now left some c.in-Some.ensures.device.device c.in-Some.ensures.device.within c.in-Some.ensures.reads called

pub returns-in-None-clause-leads : goal.returns-in-None-clause-leads
returns-in-None-clause-leads c found line left called =
    let r = c.args.range in
    let some : c.args.bytes.now ≢ [] = some_bytes c.args.bytes.now (eqb-false (length c.args.bytes.now) 0 (sym c.is_empty.ensures ∙ c.if-is_empty.false)) in
    subst (λ (stage : Stage). Leads (Asking r) line stage found line) (sym c.halved.ensures.value) (heard_many r c.requires found line c.args.bytes.now left some c.in-None.ensures.reads called)

pub returns-then-is_empty-clause-strays : goal.returns-then-is_empty-clause-strays
returns-then-is_empty-clause-strays c found line left altered =
    absurd (altered.1 (no_bytes c.args.bytes.now (eqb-true (length c.args.bytes.now) 0 (sym c.is_empty.ensures ∙ c.if-is_empty.true))))

pub returns-in-Some-clause-strays : goal.returns-in-Some-clause-strays
returns-in-Some-clause-strays c found line left altered =
    altered_one c.args.range c.in-Some.uid found line left c.in-Some.ensures.device.device c.in-Some.ensures.device.within altered.0

pub returns-in-None-clause-strays : goal.returns-in-None-clause-strays
returns-in-None-clause-strays c found line left altered =
    let r = c.args.range in
    subst (λ (stage : Stage). Strays (Asking r) line stage found line) (sym c.halved.ensures.value) (altered_many r c.requires found line c.args.bytes.now left c.in-None.ensures.reads altered.0)
