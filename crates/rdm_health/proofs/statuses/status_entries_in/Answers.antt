use Rattle.std.proofs.Common.{rules, ◌≡◌, ◌≤◌, ◌++◌, ◌∷◌, [], length}
use Rattle.rdm_health.specs.Statuses.{first_entry}
use Rattle.rdm_health.proofs.Entries.{pushed}
use Rattle.rdm_health.proofs.statuses.status_entries_in.Goals as goal

pub loop-rest-preserved : goal.loop-rest-preserved
loop-rest-preserved c =
    let long : 9 ≤ length c.loop-rest.rest.now = search rules in
    let put : c.push.new.self.items ≡ c.loop-rest.list.items ++ c.first_entry.result ∷ [] = search rules in
    let first : c.first_entry.result ≡ first_entry c.loop-rest.rest.now = search rules in
    pushed c.push.new.self.items c.loop-rest.list.items c.first_entry.result c.loop-rest.rest.now c.args.slots.now put first long c.loop-rest.invariant
