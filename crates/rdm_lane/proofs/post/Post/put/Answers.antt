use Rattle.std.proofs.Common.{◌≡◌, ◌<◌, length, rules, subst}
use Rattle.rdm_lane.proofs.Steps.{puts_item, knows_item, room_left}
use Rattle.rdm_lane.proofs.post.Post.put.Goals as goal

pub push_as-requires-clause-rule : goal.push_as-requires-clause-rule
push_as-requires-clause-rule g c =
    let xs = c.self.inside.items.items in
    let counted : c.len-number.result ≡ length xs = search rules in
    let room : c.len-number.result < 4294967295 = room_left c.len-number.result c.self.inside.limit (search rules) (search rules) c.if-number-self.false in (
      puts_item _ c.self.inside.pass.id c.self.inside.producer c.len-number.result xs c.args.item _ c.self.invariant.1 counted (subst (λ n. n < 4294967295) counted room),
      λ items views h at. tt,
    )

pub invariant_of-self-in-Ok : goal.invariant_of-self-in-Ok
invariant_of-self-in-Ok g c =
    let known = knows_item c.self.inside.producer c.len-number.result c.self.inside.items.items c.args.item _ _ c.self.invariant.1 (search rules) (c.in-Ok.ensures.rule) in
    (search rules, rw (c.push_reserved.ensures.items, c.reserve.ensures.items) known, c.self.invariant.2, search rules, c.self.invariant.4)
