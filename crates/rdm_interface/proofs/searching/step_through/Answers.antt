use Rattle.std.proofs.Common.{◌≡◌, ℕ, List, [], Option, Ok, refl, sym, ◌∙◌, subst}
use Rattle.rdm_collector.specs.declared.port.PortError.{PortError}
use Rattle.rdm_frame.specs.declared.frame.Frame.{Frame}
use Rattle.rdm_search.specs.Answers.{found_uids}
use Rattle.rdm_search.specs.Searches.{next_of}
use Rattle.rdm_search.specs.Stages.{IsReal, request_of}
use Rattle.rdm_search.proofs.Exchanges.{nothing_said}
use Rattle.rdm_search.proofs.Runs.{Same}
use Rattle.rdm_interface.specs.Askings.{FindsReal, HasFailedAt, askings_of}
use Rattle.rdm_interface.specs.Lines.{IsAskedAgain, IsExchange}
use Rattle.rdm_interface.proofs.Searches.{ends, goes_on, stops, fails_at, finds_real, keeps_found, nothing_asked, real_still, noted_more, failed_said, transaction_said}
use Rattle.rdm_interface.proofs.searching.step_through.Goals as goal

pub returns-in-Ok-None-clause-ended : goal.returns-in-Ok-None-clause-ended
returns-in-Ok-None-clause-ended g c = λ e line stands.
    let old = c.args.search.now in
    ends old.source old.tn old.left old.stage (found_uids old.found.items) line
    (subst (λ (o : Option Frame). Same (Ok o) (next_of old.source old.tn (request_of old.stage) old.left)) c.in-Ok-None.field-0-is c.in-Ok-None.ensures) stands

pub returns-in-Ok-hear-clause-stands : goal.returns-in-Ok-hear-clause-stands
returns-in-Ok-hear-clause-stands g c = λ e.
    let old = c.args.search.now in
    goes_on g.P.Port.hears c.args.retries c.args.port.now c.heard_of.new.port old.source old.tn old.left old.stage c.hear.new.self.stage
    (found_uids old.found.items) (found_uids c.hear.new.self.found.items) c.in-Ok-Some.frame c.as_slice.result.now old.valid c.heard_of.ensures.fits
    (subst (λ (o : Option Frame). Same (Ok o) (next_of old.source old.tn (request_of old.stage) old.left)) c.in-Ok-Some.field-0-is c.in-Ok-Some.ensures)
    (subst (λ (h : List ℕ). IsAskedAgain g.P.Port.hears c.args.retries c.args.port.now c.heard_of.new.port c.in-Ok-Some.frame h) (sym c.as_slice.ensures.value) c.in-Ok.ensures.heard)
    c.in-Ok-hear.ensures.hears

pub returns-in-Ok-None-clause-real : goal.returns-in-Ok-None-clause-real
returns-in-Ok-None-clause-real g c =
    let old = c.args.search.now in (
      c.args.port.now,
      nothing_asked g.P.Port.hears old.source (askings_of c.args.retries old.left) c.args.port.now c.args.port.now
          (FindsReal (IsReal (found_uids old.found.items)) (found_uids old.found.items)) refl (real_still old.found.items old.found.items refl),
      λ other. refl,
    )

pub returns-in-Ok-hear-clause-real : goal.returns-in-Ok-hear-clause-real
returns-in-Ok-hear-clause-real g c =
    let old = c.args.search.now in (
      c.heard_of.new.port,
      finds_real g.P.Port.hears c.args.retries c.args.port.now c.heard_of.new.port old.source old.tn old.left old.stage old.found.items c.hear.new.self.found.items
          c.in-Ok-Some.frame c.as_slice.result.now old.valid c.heard_of.ensures.fits
          (subst (λ (o : Option Frame). Same (Ok o) (next_of old.source old.tn (request_of old.stage) old.left)) c.in-Ok-Some.field-0-is c.in-Ok-Some.ensures)
          (subst (λ (h : List ℕ). IsAskedAgain g.P.Port.hears c.args.retries c.args.port.now c.heard_of.new.port c.in-Ok-Some.frame h) (sym c.as_slice.ensures.value) c.in-Ok.ensures.heard)
          c.in-Ok-hear.ensures.found,
      λ other. refl,
    )

pub returns-in-Err-hear-clause-real : goal.returns-in-Err-hear-clause-real
returns-in-Err-hear-clause-real g c =
    let old = c.args.search.now in (
      c.heard_of.new.port,
      keeps_found g.P.Port.hears c.args.retries c.args.port.now c.heard_of.new.port old.source old.tn old.left old.stage old.found.items c.hear.new.self.found.items
          c.in-Ok-Some.frame c.as_slice.result.now old.valid c.heard_of.ensures.fits
          (subst (λ (o : Option Frame). Same (Ok o) (next_of old.source old.tn (request_of old.stage) old.left)) c.in-Ok-Some.field-0-is c.in-Ok-Some.ensures)
          (subst (λ (h : List ℕ). IsAskedAgain g.P.Port.hears c.args.retries c.args.port.now c.heard_of.new.port c.in-Ok-Some.frame h) (sym c.as_slice.ensures.value) c.in-Ok.ensures.heard)
          c.in-Err-hear.ensures.same.1,
      λ other. refl,
    )

pub returns-in-Err-heard_of-clause-real : goal.returns-in-Err-heard_of-clause-real
returns-in-Err-heard_of-clause-real g c =
    let old = c.args.search.now in (
      c.args.port.now,
      nothing_asked g.P.Port.hears old.source (askings_of c.args.retries old.left) c.args.port.now c.args.port.now
          (FindsReal (IsReal (found_uids old.found.items)) (found_uids old.found.items)) refl (real_still old.found.items old.found.items refl),
      λ other. absurd (other c.in-Err-heard_of.error refl),
    )

pub returns-in-Err-clause-real : goal.returns-in-Err-clause-real
returns-in-Err-clause-real g c =
    let old = c.args.search.now in (
      c.args.port.now,
      nothing_asked g.P.Port.hears old.source (askings_of c.args.retries old.left) c.args.port.now c.args.port.now
          (FindsReal (IsReal (found_uids old.found.items)) (found_uids old.found.items)) refl (real_still old.found.items old.found.items refl),
      λ other. refl,
    )

pub returns-in-Err-clause-limit : goal.returns-in-Err-clause-limit
returns-in-Err-clause-limit g c = λ e line stands.
    let old = c.args.search.now in
    stops old.source old.tn old.left old.stage (found_uids old.found.items) line c.in-Err.error old.valid c.in-Err.ensures stands

pub returns-in-Ok-hear-clause-kept : goal.returns-in-Ok-hear-clause-kept
returns-in-Ok-hear-clause-kept g c =
    let more = noted_more c.args.search.now.stage c.args.search.now.found.items c.as_slice.result.now in
    (more.0, c.in-Ok-hear.ensures.found ∙ more.1)

pub returns-in-Ok-None-clause-said : goal.returns-in-Ok-None-clause-said
returns-in-Ok-None-clause-said g c =
    let old = c.args.search.now in
    (c.args.port.now, nothing_said (IsExchange g.P.Port.hears) old.source [] c.args.port.now c.args.port.now old.found.items old.found.items refl refl, refl)

pub returns-in-Ok-hear-clause-said : goal.returns-in-Ok-hear-clause-said
returns-in-Ok-hear-clause-said g c =
    let old = c.args.search.now in
    let said = transaction_said g.P.Port.hears c.args.retries c.args.port.now c.heard_of.new.port old.source old.tn old.left old.stage old.found.items c.hear.new.self.found.items
    c.in-Ok-Some.frame c.as_slice.result.now
    (subst (λ (o : Option Frame). Same (Ok o) (next_of old.source old.tn (request_of old.stage) old.left)) c.in-Ok-Some.field-0-is c.in-Ok-Some.ensures)
    (subst (λ (h : List ℕ). IsAskedAgain g.P.Port.hears c.args.retries c.args.port.now c.heard_of.new.port c.in-Ok-Some.frame h) (sym c.as_slice.ensures.value) c.in-Ok.ensures.heard)
    c.in-Ok-hear.ensures.found in
    (c.heard_of.new.port, said, refl)

pub returns-in-Err-hear-clause-said : goal.returns-in-Err-hear-clause-said
returns-in-Err-hear-clause-said g c =
    failed_said g.P.Port.hears c.args.search.now.source c.args.port.now c.args.search.now.found.items c.hear.new.self.found.items c.in-Err-hear.ensures.same.1

pub returns-in-Err-heard_of-clause-said : goal.returns-in-Err-heard_of-clause-said
returns-in-Err-heard_of-clause-said g c = failed_said g.P.Port.hears c.args.search.now.source c.args.port.now c.args.search.now.found.items c.args.search.now.found.items refl

pub returns-in-Err-clause-said : goal.returns-in-Err-clause-said
returns-in-Err-clause-said g c = failed_said g.P.Port.hears c.args.search.now.source c.args.port.now c.args.search.now.found.items c.args.search.now.found.items refl

pub returns-in-Err-heard_of-clause-failed : goal.returns-in-Err-heard_of-clause-failed
returns-in-Err-heard_of-clause-failed g c = λ error e.
    let old = c.args.search.now in
    let same : c.in-Err-heard_of.error ≡ error = cc in
    subst (λ (x : PortError). HasFailedAt g.P.Port.hears g.P.Port.fails old.source (askings_of c.args.retries old.left) c.args.port.now c.heard_of.new.port x) same
    (fails_at g.P.Port.hears g.P.Port.fails c.args.retries c.args.port.now c.heard_of.new.port old.source old.tn old.left old.stage c.in-Ok-Some.frame c.in-Err-heard_of.error
    old.valid c.heard_of.ensures.fits
    (subst (λ (o : Option Frame). Same (Ok o) (next_of old.source old.tn (request_of old.stage) old.left)) c.in-Ok-Some.field-0-is c.in-Ok-Some.ensures)
    c.in-Err-heard_of.ensures.failed)
