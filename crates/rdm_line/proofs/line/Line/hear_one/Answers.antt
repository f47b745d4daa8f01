use Rattle.std.proofs.Common.{List, map, refl, sym, ap, subst, ◌∙◌}
use Rattle.std.specs.List.{AllZip}
use Rattle.std.proofs.lemmas.List.{with_items_is}
use Rattle.rdm_responder.specs.History.{History}
use Rattle.rdm_line.specs.Collisions.{on_wire as wave}
use Rattle.rdm_line.specs.Hearing.{answers, heard_by}
use Rattle.rdm_line.specs.Line.{State}
use Rattle.rdm_line.proofs.Alone.{absent_deaf}
use Rattle.rdm_line.specs.Keeping.{HaveKept}
use Rattle.rdm_line.proofs.Keeping.{none_kept, one_kept, kept_heard}
use Rattle.rdm_line.proofs.Loops.{one_replied, one_silent}
use Rattle.rdm_line.proofs.Ones.{One, one_of, stand_heard, stand_deaf, absent_from}
use Rattle.rdm_line.proofs.Unheard.{deaf_silent}
use Rattle.rdm_line.proofs.line.Line.hear_one.Goals as goal
use Rattle.rdm_line.proofs.line.Line.hear_one.Goals.{then-hear_at, else-hear_at}

pub returns-in-None-clause-line : goal.returns-in-None-clause-line
returns-in-None-clause-line g c hs stand =
    let deaf = absent_deaf c.args.bytes.now hs c.args.self.now.uids c.args.destination stand.uids c.requires.destination c.requires.single (absent_from c.find.result _ c.find.ensures.found c.in-None.is) in
    ap (wave c.args.self.now.rule c.args.wire.now) (sym (deaf_silent c.args.bytes.now hs deaf))

pub returns-in-None-clause-stands : goal.returns-in-None-clause-stands
returns-in-None-clause-stands g c hs stand =
    let deaf = absent_deaf c.args.bytes.now hs c.args.self.now.uids c.args.destination stand.uids c.requires.destination c.requires.single (absent_from c.find.result _ c.find.ensures.found c.in-None.is) in
    stand_deaf g.D.Device.stands c.args.self.now hs c.args.bytes.now stand deaf

pub returns-clause-line : goal.returns-clause-line
returns-clause-line g c hs stand =
    let devices = c.as_mut_slice.ensures.value ∙ ap (λ (s : State g.row.D.Denot). s.devices) c.self.view_is in
    let is : One g.D.Device.stands c.as_mut_slice.result.now hs c.args.bytes.now c.in-Some.index = one_of g.D.Device.stands c.as_mut_slice.result.now c.args.self.now.uids hs c.args.destination c.args.bytes.now c.in-Some.index (subst (λ ds. AllZip g.D.Device.stands ds hs) (sym devices) stand.each) stand.uids c.requires.long c.requires.destination c.requires.single c.in-Some.ensures.place.0 in
    let reply = c.hear_at.ensures.reply is.before is.after is.one is.place is.zip in
    elim c.if-hear_at.branch [
      | then-hear_at w ↦
          ap (λ r. (r, c.hear_at.new.wire)) w.result-is
          ∙ one_replied c.args.self.now.rule c.args.wire.now c.hear_at.new.wire c.hear_at.result _ (answers c.args.bytes.now hs) w.if-hear_at.true reply is.answer
      | else-hear_at w ↦
          ap (λ r. (r, c.hear_at.new.wire)) w.result-is
          ∙ one_silent c.args.self.now.rule c.args.wire.now c.hear_at.new.wire c.hear_at.result _ (answers c.args.bytes.now hs) w.if-hear_at.false c.hear_at.ensures.silent reply is.answer
    ]

pub returns-clause-stands : goal.returns-clause-stands
returns-clause-stands g c hs stand =
    let devices = c.as_mut_slice.ensures.value ∙ ap (λ (s : State g.row.D.Denot). s.devices) c.self.view_is in
    let is : One g.D.Device.stands c.as_mut_slice.result.now hs c.args.bytes.now c.in-Some.index = one_of g.D.Device.stands c.as_mut_slice.result.now c.args.self.now.uids hs c.args.destination c.args.bytes.now c.in-Some.index (subst (λ ds. AllZip g.D.Device.stands ds hs) (sym devices) stand.each) stand.uids c.requires.long c.requires.destination c.requires.single c.in-Some.ensures.place.0 in
    stand_heard g.D.Device.stands c.args.self.now _ hs c.args.bytes.now stand
    (subst (λ ds. AllZip g.D.Device.stands ds (map (heard_by c.args.bytes.now) hs)) (sym (with_items_is c.self.inside.devices c.hear_at.new.devices (c.hear_at.ensures.len ∙ c.as_mut_slice.ensures.len)))
    (subst (AllZip g.D.Device.stands c.hear_at.new.devices) (sym is.heard) (c.hear_at.ensures.stands is.before is.after is.one is.place is.zip)))
    (ap (λ (s : State g.row.D.Denot). s.uids) c.self.view_is)

pub returns-in-None-clause-kept : goal.returns-in-None-clause-kept
returns-in-None-clause-kept g c hs stand =
    let deaf = absent_deaf c.args.bytes.now hs c.args.self.now.uids c.args.destination stand.uids c.requires.destination c.requires.single (absent_from c.find.result _ c.find.ensures.found c.in-None.is) in
    none_kept g.D.Device.stands g.D.Device.came_to c.args.bytes.now hs c.args.self.now.devices _ stand.each refl (λ j d. refl) deaf

pub returns-clause-kept : goal.returns-clause-kept
returns-clause-kept g c hs stand =
    let devices = c.as_mut_slice.ensures.value ∙ ap (λ (s : State g.row.D.Denot). s.devices) c.self.view_is in
    let is : One g.D.Device.stands c.as_mut_slice.result.now hs c.args.bytes.now c.in-Some.index = one_of g.D.Device.stands c.as_mut_slice.result.now c.args.self.now.uids hs c.args.destination c.args.bytes.now c.in-Some.index (subst (λ ds. AllZip g.D.Device.stands ds hs) (sym devices) stand.each) stand.uids c.requires.long c.requires.destination c.requires.single c.in-Some.ensures.place.0 in
    subst (λ (ds : List g.row.D.Denot). HaveKept g.D.Device.came_to c.args.bytes.now hs c.args.self.now.devices ds) (sym (with_items_is c.self.inside.devices c.hear_at.new.devices (c.hear_at.ensures.len ∙ c.as_mut_slice.ensures.len)))
    (subst (λ (ds : List g.row.D.Denot). HaveKept g.D.Device.came_to c.args.bytes.now hs ds c.hear_at.new.devices) devices
    (subst (λ (ks : List History). HaveKept g.D.Device.came_to c.args.bytes.now ks c.as_mut_slice.result.now c.hear_at.new.devices) (sym is.all)
    (one_kept g.D.Device.stands g.D.Device.came_to c.args.bytes.now is.before is.one is.after c.as_mut_slice.result.now c.hear_at.new.devices c.in-Some.index is.place is.zip c.hear_at.ensures.len c.hear_at.ensures.others is.deaf_before is.deaf_after
    (λ d e. kept_heard g.D.Device.came_to c.args.bytes.now is.one e _ is.hearing (c.hear_at.ensures.kept is.before is.after is.one is.place is.zip d)))))
