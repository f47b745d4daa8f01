use Rattle.std.proofs.Common.{ℕ, ◌-◌, List, length, take, drop, Option, Some, None, subst, arith}
use Rattle.rdm_messages.specs.Framing.{Message}
use Rattle.rdm_messages.proofs.Beginnings.{none_left}
use Rattle.rdm_interface.specs.Answers.{belongs}
use Rattle.rdm_interface.specs.Exchanges.{IsNext}
use Rattle.rdm_interface.proofs.Nexts.{next_on, within_on}
use Rattle.rdm_interface.proofs.finding.find_answer.Goals as goal

pub returns-in-Some-clause-next : goal.returns-in-Some-clause-next
returns-in-Some-clause-next c =
    let bytes : List ℕ = c.args.bytes.now in
    let done : ℕ = c.loop-done.done in
    let count : ℕ = c.front_answer-count.result.done in
    next_on (belongs c.args.wanted.now) bytes done count (Some c.in-Some.answer) c.loop-done.invariant.next
    (subst (λ (o : Option Message). IsNext (belongs c.args.wanted.now) (take (length bytes - done) (drop done bytes)) o (drop count (take (length bytes - done) (drop done bytes))))
    c.in-Some.is c.front_answer-count.ensures.next)

pub loop-done-preserved : goal.loop-done-preserved
loop-done-preserved c =
    let bytes : List ℕ = c.args.bytes.now in
    let done : ℕ = c.loop-done.done in
    let count : ℕ = c.front_answer-count.result.done in
    record {
      within = within_on bytes done count c.loop-done.invariant.within c.front_answer-count.ensures.within;
      next =
          next_on (belongs c.args.wanted.now) bytes done count None c.loop-done.invariant.next
          (subst (λ (o : Option Message). IsNext (belongs c.args.wanted.now) (take (length bytes - done) (drop done bytes)) o (drop count (take (length bytes - done) (drop done bytes))))
          c.in-None.is c.front_answer-count.ensures.next);
    }

pub returns-clause-unfinished : goal.returns-clause-unfinished
returns-clause-unfinished c = λ none. none_left c.args.bytes.now c.loop-done.done (omega (arith, c.loop-done-test.false))
