use Rattle.std.proofs.Common.{arith}
use Rattle.rdm_survey_page.specs.Clashes.{one_words, several_words, shared_words}
use Rattle.rdm_survey_page.proofs.Pieces.{put_if, put_else}
use Rattle.rdm_survey_page.proofs.clash_list.put_shared.Goals as goal

pub returns-then-first-last : goal.returns-then-first-last
unfolding shared_words
returns-then-first-last c =
    put_if c.put_several.result c.args.text.now.items c.put_several.new.text.items (several_words c.args.first c.args.last) (one_words c.args.first)
    c.args.first c.args.last (omega (arith, c.if-first-last.true)) c.put_several.ensures

pub returns : goal.returns
unfolding shared_words
returns c =
    put_else c.put_one.result c.args.text.now.items c.put_one.new.text.items (several_words c.args.first c.args.last) (one_words c.args.first)
    c.args.first c.args.last (omega (arith, c.if-first-last.false)) c.put_one.ensures
