use Rattle.std.proofs.Common.{subst, ◌∙◌, ℕ, List}
use Rattle.std.specs.Str.Parse.{ParsesUnsigned}
use Rattle.rdm_trace.proofs.Decimals.{parsed, no_text}
use Rattle.rdm_expect.proofs.wish.unsigned_in.Goals as goal

pub returns-in-Ok : goal.returns-in-Ok
returns-in-Ok c = c.ok.ensures.value ∙ parsed c.args.word.now c.parse.result (subst (λ (bs : List ℕ). ParsesUnsigned 64 10 bs c.parse.result) c.in-Ok.ensures.cases.0 c.parse.ensures.value.0)

pub returns-in-Err : goal.returns-in-Err
returns-in-Err c = no_text c.args.word.now c.in-Err.ensures.cases.0
