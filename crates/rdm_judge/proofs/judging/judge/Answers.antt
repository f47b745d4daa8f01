use Rattle.rdm_judge.proofs.Verdicts.{seen}
use Rattle.rdm_judge.proofs.judging.judge.Goals as goal

pub returns-clause-verdict : goal.returns-clause-verdict
returns-clause-verdict c h stands =
    seen h c.uid-own.result c.args.request.now c.step-given.result.0 _ c.beside_wire-verdict.result (c.uid-own.ensures h stands) (c.step-given.ensures.reply h stands) c.beside_wire-verdict.ensures
