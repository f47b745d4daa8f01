use Rattle.std.proofs.Common.{◌≡◌, map, ap, subst, ◌∙◌}
use Rattle.std.specs.Prelude.{List, [], ℕ}
use Rattle.rdm_frame.specs.FrameText.{frame_text, IsFrame}
use Rattle.rdm_search.specs.Requests.{request_frame}
use Rattle.rdm_line.specs.Collisions.{on_wire}
use Rattle.rdm_line.specs.Hearing.{answers, heard_by}
use Rattle.rdm_line.specs.Line.{StandFor}
use Rattle.rdm_line.proofs.Ports.{Asked, lives_on, muted_after, asked_is_heard}
use Rattle.rdm_line.proofs.port.ask.Goals as goal

pub returns-clause-alive : goal.returns-clause-alive
returns-clause-alive g c =
    lives_on g.D.Device.stands g.D.Device.muted c.args.line.now c.hear.new.self c.as_slice.result.now c.hear.new.wire c.hear.result
    (record {
      says = g.met.D.Device.mutings;
      alive = c.requires;
      line = λ hs stand. c.hear.ensures.line hs stand ∙ ap (λ (before : List ℕ). on_wire c.args.line.now.rule before (answers c.as_slice.result.now hs)) c.new-wire.ensures;
      after = c.hear.ensures.stands;
      devices = c.uids_differ.ensures.devices;
      differ = c.uids_differ.ensures.differ;
    })

pub returns-clause-exchanged : goal.returns-clause-exchanged
returns-clause-exchanged g c hs stand =
    let text : c.as_slice.result.now ≡ frame_text c.args.frame.now = c.as_slice.ensures.value ∙ c.encode.ensures in
    let line = c.hear.ensures.line hs stand ∙ ap (λ (before : List ℕ). on_wire c.args.line.now.rule before (answers c.as_slice.result.now hs)) c.new-wire.ensures in (
      ap (λ x. x.1) line ∙ ap (λ (bytes : List ℕ). (on_wire c.args.line.now.rule [] (answers bytes hs)).1) text,
      subst (λ (bytes : List ℕ). StandFor g.D.Device.stands c.hear.new.self (map (heard_by bytes) hs)) text (c.hear.ensures.stands hs stand),
    )

pub returns-clause-heard : goal.returns-clause-heard
returns-clause-heard g c request source tn is e =
    let text : c.as_slice.result.now ≡ frame_text (request_frame source tn request) = c.as_slice.ensures.value ∙ c.encode.ensures ∙ ap frame_text e in
    asked_is_heard g.D.Device.stands g.D.Device.muted c.args.line.now c.hear.new.self c.hear.new.wire c.hear.result request source tn is (subst IsFrame (c.view.ensures ∙ e) c.frame_fits.ensures)
    (subst (λ (bytes : List ℕ). Asked g.D.Device.stands g.D.Device.muted c.args.line.now c.hear.new.self bytes c.hear.new.wire c.hear.result) text
    (record {
      says = g.met.D.Device.mutings;
      alive = c.requires;
      line = λ hs stand. c.hear.ensures.line hs stand ∙ ap (λ (before : List ℕ). on_wire c.args.line.now.rule before (answers c.as_slice.result.now hs)) c.new-wire.ensures;
      after = c.hear.ensures.stands;
      devices = c.uids_differ.ensures.devices;
      differ = c.uids_differ.ensures.differ;
    }))

pub returns-clause-after : goal.returns-clause-after
returns-clause-after g c request source tn is e =
    let text : c.as_slice.result.now ≡ frame_text (request_frame source tn request) = c.as_slice.ensures.value ∙ c.encode.ensures ∙ ap frame_text e in
    muted_after g.D.Device.stands g.D.Device.muted c.args.line.now c.hear.new.self c.hear.new.wire c.hear.result request source tn is (subst IsFrame (c.view.ensures ∙ e) c.frame_fits.ensures)
    (subst (λ (bytes : List ℕ). Asked g.D.Device.stands g.D.Device.muted c.args.line.now c.hear.new.self bytes c.hear.new.wire c.hear.result) text
    (record {
      says = g.met.D.Device.mutings;
      alive = c.requires;
      line = λ hs stand. c.hear.ensures.line hs stand ∙ ap (λ (before : List ℕ). on_wire c.args.line.now.rule before (answers c.as_slice.result.now hs)) c.new-wire.ensures;
      after = c.hear.ensures.stands;
      devices = c.uids_differ.ensures.devices;
      differ = c.uids_differ.ensures.differ;
    }))
