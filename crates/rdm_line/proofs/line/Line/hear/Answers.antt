use Rattle.std.proofs.Common.{List, map, refl, sym, ap, subst, ◌∙◌}
use Rattle.std.specs.List.{AllZip}
use Rattle.std.proofs.lemmas.List.{with_items_is}
use Rattle.rdm_line.specs.Collisions.{on_wire as wave}
use Rattle.rdm_line.specs.Hearing.{heard_by}
use Rattle.rdm_line.specs.Line.{State}
use Rattle.rdm_line.specs.Keeping.{HaveKept}
use Rattle.rdm_line.proofs.Keeping.{none_kept}
use Rattle.rdm_line.proofs.Ones.{stand_heard, stand_deaf}
use Rattle.rdm_line.proofs.Unheard.{deaf_silent, short_deaf}
use Rattle.rdm_line.proofs.line.Line.hear.Goals as goal

pub returns-then-bytes-lt-DESTINATION_END-clause-line : goal.returns-then-bytes-lt-DESTINATION_END-clause-line
returns-then-bytes-lt-DESTINATION_END-clause-line g c hs stand =
    ap (wave c.args.self.now.rule c.args.wire.now) (sym (deaf_silent c.args.bytes.now hs (short_deaf c.args.bytes.now hs c.if-bytes-lt-DESTINATION_END.true)))

pub returns-then-bytes-lt-DESTINATION_END-clause-stands : goal.returns-then-bytes-lt-DESTINATION_END-clause-stands
returns-then-bytes-lt-DESTINATION_END-clause-stands g c hs stand =
    stand_deaf g.D.Device.stands c.args.self.now hs c.args.bytes.now stand (short_deaf c.args.bytes.now hs c.if-bytes-lt-DESTINATION_END.true)

pub returns-then-is_broadcast-clause-stands : goal.returns-then-is_broadcast-clause-stands
returns-then-is_broadcast-clause-stands g c hs stand =
    let devices = c.as_mut_slice.ensures.value ∙ ap (λ (s : State g.row.D.Denot). s.devices) c.self.view_is in
    stand_heard g.D.Device.stands c.args.self.now _ hs c.args.bytes.now stand
    (subst (λ ds. AllZip g.D.Device.stands ds (map (heard_by c.args.bytes.now) hs)) (sym (with_items_is c.self.inside.devices c.hear_all.new.devices (c.hear_all.ensures.len ∙ c.as_mut_slice.ensures.len)))
    (c.hear_all.ensures.stands hs (subst (λ ds. AllZip g.D.Device.stands ds hs) (sym devices) stand.each)))
    (ap (λ (s : State g.row.D.Denot). s.uids) c.self.view_is)

pub returns-then-bytes-lt-DESTINATION_END-clause-kept : goal.returns-then-bytes-lt-DESTINATION_END-clause-kept
returns-then-bytes-lt-DESTINATION_END-clause-kept g c hs stand =
    none_kept g.D.Device.stands g.D.Device.came_to c.args.bytes.now hs c.args.self.now.devices _ stand.each refl (λ j d. refl) (short_deaf c.args.bytes.now hs c.if-bytes-lt-DESTINATION_END.true)

pub returns-then-is_broadcast-clause-kept : goal.returns-then-is_broadcast-clause-kept
returns-then-is_broadcast-clause-kept g c hs stand =
    let devices = c.as_mut_slice.ensures.value ∙ ap (λ (s : State g.row.D.Denot). s.devices) c.self.view_is in
    subst (λ (ds : List g.row.D.Denot). HaveKept g.D.Device.came_to c.args.bytes.now hs c.args.self.now.devices ds) (sym (with_items_is c.self.inside.devices c.hear_all.new.devices (c.hear_all.ensures.len ∙ c.as_mut_slice.ensures.len)))
    (subst (λ (ds : List g.row.D.Denot). HaveKept g.D.Device.came_to c.args.bytes.now hs ds c.hear_all.new.devices) devices
    (c.hear_all.ensures.kept hs (subst (λ ds. AllZip g.D.Device.stands ds hs) (sym devices) stand.each)))
