use Rattle.std.proofs.Common.{arith, subst, ◌∙◌, ℕ, List}
use Rattle.std.specs.Str.Parse.{ParsesUnsigned}
use Rattle.rdm_entry.proofs.Numerals.{empty, too_long, signed, not_text, parsed}
use Rattle.rdm_entry.proofs.numeral.numeral_in.Goals as goal
use Rattle.rdm_entry.proofs.numeral.numeral_in.Goals.{then-is_empty-via-then-is_empty, then-is_empty-via-else-is_empty+then-word-gt-MOST_DIGITS}

pub returns-then-is_empty : goal.returns-then-is_empty
returns-then-is_empty c =
    elim c.then-is_empty.branch [
      | then-is_empty-via-then-is_empty w ↦ empty c.args.radix c.args.word.now (grind arith)
      | then-is_empty-via-else-is_empty+then-word-gt-MOST_DIGITS w ↦ too_long c.args.radix c.args.word.now (grind arith)
    ]

pub returns-then-word-eq43 : goal.returns-then-word-eq43
returns-then-word-eq43 c = signed c.args.radix c.args.word.now (grind arith) c.if-word-eq43.true

pub returns-in-Ok : goal.returns-in-Ok
returns-in-Ok c = c.ok.ensures.value ∙ parsed c.args.radix c.args.word.now c.from_str_radix.result (grind arith) (grind arith) (grind arith) (grind arith) c.if-word-eq43.false (subst (λ (bs : List ℕ). ParsesUnsigned 64 c.args.radix bs c.from_str_radix.result) c.in-Ok.ensures.cases.0 c.from_str_radix.ensures.value)

pub returns-in-Err : goal.returns-in-Err
returns-in-Err c = not_text c.args.radix c.args.word.now (grind arith) c.in-Err.ensures.cases.0
