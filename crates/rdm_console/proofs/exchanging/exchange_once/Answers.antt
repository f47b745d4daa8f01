use Rattle.rdm_console.proofs.exchanging.exchange_once.Goals as goal

pub returns-in-Ok-clause-sent : goal.returns-in-Ok-clause-sent
returns-in-Ok-clause-sent g c = (
  c.in-Ok.ensures.heard,
  record {
    sorted = c.hear-came.ensures.sorted;
    keeps = c.hear-came.ensures.keeps;
    other = c.hear-came.ensures.other;
    device = c.hear-came.ensures.device;
    collector = c.hear-came.ensures.collector;
  },
)

pub returns-in-Err-clause-failed : goal.returns-in-Err-clause-failed
returns-in-Err-clause-failed g c = (
  c.in-Err.ensures.failed,
  c.hear.result,
  record {
    sorted = c.hear.ensures.sorted;
    keeps = c.hear.ensures.keeps;
    other = c.hear.ensures.other;
    device = c.hear.ensures.device;
    collector = c.hear.ensures.collector;
  },
)
