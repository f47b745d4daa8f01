use Rattle.std.proofs.Common.{arith}
use Rattle.rdm_script.proofs.Words.{left_full}
use Rattle.rdm_script.proofs.grammar.words.keep_word.Goals as goal

pub returns-then-is_full-clause-kept : goal.returns-then-is_full-clause-kept
returns-then-is_full-clause-kept c = left_full c.args.words.now.items c.args.piece.now (grind arith)
