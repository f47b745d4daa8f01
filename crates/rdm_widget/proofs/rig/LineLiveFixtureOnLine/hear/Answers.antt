use Rattle.std.proofs.Common.{◌∙◌, [], map, ap}
use Rattle.rdm_line.specs.declared.collision.Collision.{Collision}
use Rattle.rdm_line.specs.Collisions.{on_wire}
use Rattle.rdm_line.specs.Hearing.{answers}
use Rattle.rdm_widget.specs.LiveFixtures.{ready}
use Rattle.rdm_widget.specs.Rigs.{histories, from_wire}
use Rattle.rdm_widget.proofs.Rigs.{stand, rig_heard, same_wire}
use Rattle.rdm_widget.proofs.rig.LineLiveFixtureOnLine.hear.Goals as goal

pub returns-clause-reply : goal.returns-clause-reply
returns-clause-reply c = λ s is.
    let hs = histories (map (ready c.args.now) s.fixtures) in
    let stands = stand c.args.now c.args.self.now c.each.new.self s is c.each.ensures.each c.each.ensures.uids in
    c.has_bytes.ensures c.hear.new.wire
    ∙ ap from_wire (c.hear.ensures.line hs stands)
    ∙ same_wire c.each.new.self.rule c.args.reply.now (answers c.args.request.now hs)
    ∙ ap (λ (rule : Collision). from_wire (on_wire rule [] (answers c.args.request.now hs))) (c.each.ensures.rule ∙ is.rule)

pub returns-clause-heard : goal.returns-clause-heard
returns-clause-heard c = λ s is.
    let hs = histories (map (ready c.args.now) s.fixtures) in
    let stands = stand c.args.now c.args.self.now c.each.new.self s is c.each.ensures.each c.each.ensures.uids in
    rig_heard c.args.now c.args.request.now c.args.self.now c.each.new.self c.hear.new.self s is c.each.ensures.each c.each.ensures.rule
    (c.hear.ensures.stands hs stands) c.hear.ensures.rule c.hear.ensures.rest
