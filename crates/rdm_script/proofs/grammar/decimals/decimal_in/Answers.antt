use Rattle.std.proofs.Common.{arith, subst, ◌∙◌, ℕ, List}
use Rattle.std.specs.Str.Parse.{ParsesUnsigned}
use Rattle.rdm_script.proofs.DecimalSpellings.{empty, too_long, signed, not_text, parsed}
use Rattle.rdm_script.proofs.grammar.decimals.decimal_in.Goals as goal
use Rattle.rdm_script.proofs.grammar.decimals.decimal_in.Goals.{then-is_empty-via-then-is_empty, then-is_empty-via-else-is_empty+then-word-gt-MOST_DIGITS}

pub returns-then-is_empty : goal.returns-then-is_empty
returns-then-is_empty c =
    elim c.then-is_empty.branch [
      | then-is_empty-via-then-is_empty w ↦ empty c.args.word.now (grind arith)
      | then-is_empty-via-else-is_empty+then-word-gt-MOST_DIGITS w ↦ too_long c.args.word.now (grind arith)
    ]

pub returns-then-word-eq43 : goal.returns-then-word-eq43
returns-then-word-eq43 c = signed c.args.word.now c.if-word-eq43.true

pub returns-in-Ok : goal.returns-in-Ok
returns-in-Ok c = c.ok.ensures.value ∙ parsed c.args.word.now c.parse.result (grind arith) c.if-word-eq43.false (subst (λ (bs : List ℕ). ParsesUnsigned 64 10 bs c.parse.result) c.in-Ok.ensures.cases.0 c.parse.ensures.value.0)

pub returns-in-Err : goal.returns-in-Err
returns-in-Err c = not_text c.args.word.now c.in-Err.ensures.cases.0
