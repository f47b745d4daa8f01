use Rattle.std.proofs.Common.{◌∷◌, ◌++◌, List, get_or, true, false, sym, subst}
use Rattle.std.specs.List.{AllZip}
use Rattle.rdm_line.specs.Hearing.{heard_by}
use Rattle.rdm_line.specs.Keeping.{HasKept}
use Rattle.rdm_line.proofs.Keeping.{kept_heard, kept_unheard}
use Rattle.rdm_line.proofs.Loops.{was_silent, has_replied, none_of, set_heard, set_unheard}
use Rattle.rdm_line.proofs.Unheard.{hearing, unanswered}
use Rattle.rdm_line.proofs.Zips.{zip_at}
use Rattle.rdm_line.proofs.hearing.hear_next.Goals as goal
use Rattle.rdm_line.proofs.hearing.hear_next.Goals.{else-addresses-via-then-addresses+else-hear_at, else-addresses-via-else-addresses}

pub returns-then-hear_at-clause-line : goal.returns-then-hear_at-clause-line
returns-then-hear_at-clause-line g c before after h first xs place zip line =
    has_replied c.args.rule first xs _ _ _ c.hear_at.result _ c.if-hear_at.true c.as_slice.ensures.value (c.hear_at.ensures.reply before after h place zip) (c.put.ensures first xs line)

pub returns-then-hear_at-clause-stands : goal.returns-then-hear_at-clause-stands
returns-then-hear_at-clause-stands g c before after h place zip =
    let own = c.uid.ensures.uid h (zip_at g.D.Device.stands c.args.devices.now before h after c.args.index _ place zip) in
    set_heard g.D.Device.stands c.hear_at.new.devices before h after c.args.bytes.now
    (hearing h.setup.uid c.uid.result c.uid_at.result c.args.bytes.now c.addresses.result true c.requires.long own c.uid_at.ensures c.addresses.ensures c.if-addresses.true)
    (c.hear_at.ensures.stands before after h place zip)

pub returns-else-addresses-clause-line : goal.returns-else-addresses-clause-line
returns-else-addresses-clause-line g c before after h first xs place zip line =
    let own = c.uid.ensures.uid h (zip_at g.D.Device.stands c.args.devices.now before h after c.args.index _ place zip) in
    elim c.else-addresses.branch [
      | else-addresses-via-then-addresses+else-hear_at w ↦ was_silent c.args.rule first xs _ _ (none_of _ w.hear_at.result _ w.if-hear_at.false (w.hear_at.ensures.reply before after h place zip)) line
      | else-addresses-via-else-addresses w ↦
          was_silent c.args.rule first xs _ _
          (unanswered h c.args.bytes.now (hearing h.setup.uid c.uid.result c.uid_at.result c.args.bytes.now c.addresses.result false c.requires.long own c.uid_at.ensures c.addresses.ensures w.if-addresses.false)) line
    ]

pub returns-else-addresses-clause-stands : goal.returns-else-addresses-clause-stands
returns-else-addresses-clause-stands g c before after h place zip =
    let own = c.uid.ensures.uid h (zip_at g.D.Device.stands c.args.devices.now before h after c.args.index _ place zip) in
    elim c.else-addresses.branch [
      | else-addresses-via-then-addresses+else-hear_at w ↦
          subst (λ xs. AllZip g.D.Device.stands xs (before ++ heard_by c.args.bytes.now h ∷ after)) (sym w.devices-is)
          (set_heard g.D.Device.stands w.hear_at.new.devices before h after c.args.bytes.now
          (hearing h.setup.uid c.uid.result c.uid_at.result c.args.bytes.now c.addresses.result true c.requires.long own c.uid_at.ensures c.addresses.ensures w.if-addresses.true)
          (w.hear_at.ensures.stands before after h place zip))
      | else-addresses-via-else-addresses w ↦
          subst (λ xs. AllZip g.D.Device.stands xs (before ++ heard_by c.args.bytes.now h ∷ after)) (sym w.devices-is)
          (set_unheard g.D.Device.stands c.args.devices.now before h after c.args.bytes.now
          (hearing h.setup.uid c.uid.result c.uid_at.result c.args.bytes.now c.addresses.result false c.requires.long own c.uid_at.ensures c.addresses.ensures w.if-addresses.false)
          zip)
    ]

pub returns-then-hear_at-clause-kept : goal.returns-then-hear_at-clause-kept
returns-then-hear_at-clause-kept g c before after h place zip d =
    let own = c.uid.ensures.uid h (zip_at g.D.Device.stands c.args.devices.now before h after c.args.index _ place zip) in
    kept_heard g.D.Device.came_to c.args.bytes.now h _ _
    (hearing h.setup.uid c.uid.result c.uid_at.result c.args.bytes.now c.addresses.result true c.requires.long own c.uid_at.ensures c.addresses.ensures c.if-addresses.true)
    (c.hear_at.ensures.kept before after h place zip d)

pub returns-else-addresses-clause-kept : goal.returns-else-addresses-clause-kept
returns-else-addresses-clause-kept g c before after h place zip d =
    let own = c.uid.ensures.uid h (zip_at g.D.Device.stands c.args.devices.now before h after c.args.index _ place zip) in
    elim c.else-addresses.branch [
      | else-addresses-via-then-addresses+else-hear_at w ↦
          subst (λ (xs : List g.row.D.Denot). HasKept g.D.Device.came_to c.args.bytes.now h (get_or c.args.devices.now c.args.index d) (get_or xs c.args.index d)) (sym w.devices-is)
          (kept_heard g.D.Device.came_to c.args.bytes.now h _ _
          (hearing h.setup.uid c.uid.result c.uid_at.result c.args.bytes.now c.addresses.result true c.requires.long own c.uid_at.ensures c.addresses.ensures w.if-addresses.true)
          (w.hear_at.ensures.kept before after h place zip d))
      | else-addresses-via-else-addresses w ↦
          subst (λ (xs : List g.row.D.Denot). HasKept g.D.Device.came_to c.args.bytes.now h (get_or c.args.devices.now c.args.index d) (get_or xs c.args.index d)) (sym w.devices-is)
          (kept_unheard g.D.Device.came_to c.args.bytes.now h _
          (hearing h.setup.uid c.uid.result c.uid_at.result c.args.bytes.now c.addresses.result false c.requires.long own c.uid_at.ensures c.addresses.ensures w.if-addresses.false))
    ]
