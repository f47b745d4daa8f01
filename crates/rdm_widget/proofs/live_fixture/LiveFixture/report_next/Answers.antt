use Rattle.std.proofs.Common.{◌≡◌, ◌∙◌, Option, Some, sym, subst}
use Rattle.rdm_widget.specs.declared.live_fixture.ending.Ended.{Ended}
use Rattle.rdm_widget.specs.LiveFixtures.{IsIn, first_ended, after_ended}
use Rattle.rdm_widget.proofs.Reports.{first_is}
use Rattle.rdm_widget.proofs.live_fixture.LiveFixture.report_next.Goals as goal

pub returns-in-Some : goal.returns-in-Some
returns-in-Some c = λ s is.
    let ended : first_ended c.args.now s ≡ Some c.in-Some.ended = sym (c.first_ended.ensures s is) ∙ c.in-Some.is in
    subst (λ (o : Option Ended). IsIn c.report.new.self (after_ended s o)) (sym ended) (c.report.ensures s is (first_is c.args.now s c.in-Some.ended ended))
