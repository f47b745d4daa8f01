use Rattle.rdm_judge.proofs.Verdicts.{known}
use Rattle.rdm_judge.proofs.seen.Seen.judge.Goals as goal

pub returns-clause-verdict : goal.returns-clause-verdict
returns-clause-verdict c h stands =
    known c.args.self.now h c.uid-own.result c.args.request.now _ c.judge-verdict.result.verdict c.with_rule.result c.take-rule.result (c.uid-own.ensures h stands) (c.judge-verdict.ensures.verdict h stands) c.take-rule.ensures.rule c.with_rule.ensures
