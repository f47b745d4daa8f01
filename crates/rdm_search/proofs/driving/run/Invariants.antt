use Rattle.std.proofs.Common.{◌≡◌, ◌+◌, ◌*◌, ◌≤◌}
use Rattle.rdm_search.specs.Answers.{found_uids}
use Rattle.rdm_search.specs.Exchanges.{HasHeard}
use Rattle.rdm_search.specs.Line.{uids}
use Rattle.rdm_search.specs.Stages.{Stands, price}
use Rattle.rdm_search.proofs.driving.run.Given as goal

abbrev pub invariant-loop : goal.invariant-loop
invariant-loop g l = record {
  stands : Stands l.search.stage (found_uids l.search.found.items) (g.P.Port.fixtures l.port);
  same : uids (g.P.Port.fixtures l.port) ≡ uids (g.P.Port.fixtures l.fn.port);
  said : HasHeard g.P.Port.hears l.fn.search.source l.fn.port l.port l.fn.search.found.items l.search.found.items;
  source : l.search.source ≡ l.fn.search.source;
  sent : 2 * g.P.Port.sent l.port + price l.search.stage (g.P.Port.fixtures l.port) + 3 * g.P.Port.altered l.fn.port
      ≤ 2 * g.P.Port.sent l.fn.port + price l.fn.search.stage (g.P.Port.fixtures l.fn.port) + 3 * g.P.Port.altered l.port;
  left : price l.search.stage (g.P.Port.fixtures l.port) + 3 * g.P.Port.altered l.fn.port + 2 * l.fn.search.left
      ≤ price l.fn.search.stage (g.P.Port.fixtures l.fn.port) + 3 * g.P.Port.altered l.port + 2 * l.search.left;
}

abbrev pub decreases-loop : goal.decreases-loop
decreases-loop g l = l.search.left
