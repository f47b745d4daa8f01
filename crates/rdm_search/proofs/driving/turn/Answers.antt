use Rattle.std.proofs.Common.{ℕ, ◌+◌, ◌*◌, ◌≤◌, List, [], ◌∷◌, Option, Some, None, Ok, refl, sym, ap, ◌∙◌, subst, arith}
use Rattle.rdm_frame.specs.declared.frame.Frame.{Frame}
use Rattle.rdm_search.specs.Answers.{found_uids}
use Rattle.rdm_search.specs.Line.{Fixture, IsAnswer, uids}
use Rattle.rdm_search.specs.Requests.{request_frame}
use Rattle.rdm_search.specs.Searches.{next_of}
use Rattle.rdm_search.specs.Stages.{request_of, Stands, price}
use Rattle.rdm_search.specs.Exchanges.{IsAsked}
use Rattle.rdm_search.proofs.Exchanges.{asked_said, nothing_said, once, sends}
use Rattle.rdm_search.proofs.Runs.{Same, request_fits, request_keeps, answer_leads, altered_more, ended, costs, next_frame, next_none, next_err, on_err}
use Rattle.rdm_search.proofs.driving.turn.Goals as goal

pub returns-in_err-next-clause-limit : goal.returns-in_err-next-clause-limit
returns-in_err-next-clause-limit g c e =
    let old = c.args.search.now in
    let n = next_err old.source old.tn (request_of old.stage) old.left c.in_err-next.field-0.0 c.in_err-next.ensures in
    let least = costs old.stage (found_uids old.found.items) (g.P.Port.fixtures c.args.port.now) n.0 old.valid n.1 c.requires in
    (omega (arith, n.2), refl)

pub returns-in_err-hear-in-Some-clause-same : goal.returns-in_err-hear-in-Some-clause-same
returns-in_err-hear-in-Some-clause-same g c =
    let old = c.args.search.now in let line = g.P.Port.fixtures c.args.port.now in
    let is : Same (Ok (Some c.in-Some.frame)) (next_of old.source old.tn (request_of old.stage) old.left) = subst (λ (o : Option Frame). Same (Ok o) (next_of old.source old.tn (request_of old.stage) old.left)) c.in-Some.is c.in_ok-next.ensures in
    let n = next_frame old.source old.tn (request_of old.stage) old.left c.in-Some.frame is in
    ap uids (c.exchange-heard.ensures.after n.0 old.source old.tn (request_fits old.stage n.0 old.valid n.1) n.2) ∙ request_keeps n.0 line

pub returns-in_err-hear-in-Some-clause-err : goal.returns-in_err-hear-in-Some-clause-err
returns-in_err-hear-in-Some-clause-err g c =
    let old = c.args.search.now in let line = g.P.Port.fixtures c.args.port.now in
    let is : Same (Ok (Some c.in-Some.frame)) (next_of old.source old.tn (request_of old.stage) old.left) = subst (λ (o : Option Frame). Same (Ok o) (next_of old.source old.tn (request_of old.stage) old.left)) c.in-Some.is c.in_ok-next.ensures in
    let n = next_frame old.source old.tn (request_of old.stage) old.left c.in-Some.frame is in
    let least = costs old.stage (found_uids old.found.items) line n.0 old.valid n.1 c.requires in
    let one = c.exchange-heard.ensures.sent in
    let more = altered_more n.0 line c.exchange-heard.result _ _ (c.exchange-heard.ensures.heard n.0 old.source old.tn (request_fits old.stage n.0 old.valid n.1) n.2) in
    on_err c.from_residual-in_err-hear-in-Some.result _ (omega (arith, least, one), more)

pub returns-in-None-clause-ended : goal.returns-in-None-clause-ended
returns-in-None-clause-ended g c e =
    let old = c.args.search.now in
    let is : Same (Ok None) (next_of old.source old.tn (request_of old.stage) old.left) = subst (λ (o : Option Frame). Same (Ok o) (next_of old.source old.tn (request_of old.stage) old.left)) c.in-None.is c.in_ok-next.ensures in
    (ended old.stage (found_uids old.found.items) (g.P.Port.fixtures c.args.port.now) (next_none old.source old.tn (request_of old.stage) old.left is) c.requires, refl, refl)

pub returns-in_ok-hear-in-Some-clause-stands : goal.returns-in_ok-hear-in-Some-clause-stands
returns-in_ok-hear-in-Some-clause-stands g c e =
    let old = c.args.search.now in let line = g.P.Port.fixtures c.args.port.now in
    let is : Same (Ok (Some c.in-Some.frame)) (next_of old.source old.tn (request_of old.stage) old.left) = subst (λ (o : Option Frame). Same (Ok o) (next_of old.source old.tn (request_of old.stage) old.left)) c.in-Some.is c.in_ok-next.ensures in
    let n = next_frame old.source old.tn (request_of old.stage) old.left c.in-Some.frame is in
    let heard : IsAnswer n.0 line c.as_slice.result.now (g.P.Port.altered c.args.port.now) (g.P.Port.altered c.exchange-heard.new.self) = subst (λ (h : List ℕ). IsAnswer n.0 line h (g.P.Port.altered c.args.port.now) (g.P.Port.altered c.exchange-heard.new.self)) (sym c.as_slice.ensures.value) (c.exchange-heard.ensures.heard n.0 old.source old.tn (request_fits old.stage n.0 old.valid n.1) n.2) in
    let leads = answer_leads old.stage c.hear.new.self.stage (found_uids old.found.items) (found_uids c.hear.new.self.found.items) n.0 line c.as_slice.result.now _ _ (c.in_ok-hear-in-Some.ensures.hears n.0 line n.1 c.requires) heard in
    let after = c.exchange-heard.ensures.after n.0 old.source old.tn (request_fits old.stage n.0 old.valid n.1) n.2 in
    subst (λ (l : List Fixture). Stands c.hear.new.self.stage (found_uids c.hear.new.self.found.items) l) (sym after) leads.0

pub returns-in_ok-hear-in-Some-clause-price : goal.returns-in_ok-hear-in-Some-clause-price
returns-in_ok-hear-in-Some-clause-price g c e =
    let old = c.args.search.now in let line = g.P.Port.fixtures c.args.port.now in
    let is : Same (Ok (Some c.in-Some.frame)) (next_of old.source old.tn (request_of old.stage) old.left) = subst (λ (o : Option Frame). Same (Ok o) (next_of old.source old.tn (request_of old.stage) old.left)) c.in-Some.is c.in_ok-next.ensures in
    let n = next_frame old.source old.tn (request_of old.stage) old.left c.in-Some.frame is in
    let heard : IsAnswer n.0 line c.as_slice.result.now (g.P.Port.altered c.args.port.now) (g.P.Port.altered c.exchange-heard.new.self) = subst (λ (h : List ℕ). IsAnswer n.0 line h (g.P.Port.altered c.args.port.now) (g.P.Port.altered c.exchange-heard.new.self)) (sym c.as_slice.ensures.value) (c.exchange-heard.ensures.heard n.0 old.source old.tn (request_fits old.stage n.0 old.valid n.1) n.2) in
    let leads = answer_leads old.stage c.hear.new.self.stage (found_uids old.found.items) (found_uids c.hear.new.self.found.items) n.0 line c.as_slice.result.now _ _ (c.in_ok-hear-in-Some.ensures.hears n.0 line n.1 c.requires) heard in
    let after = c.exchange-heard.ensures.after n.0 old.source old.tn (request_fits old.stage n.0 old.valid n.1) n.2 in
    subst (λ (l : List Fixture). price c.hear.new.self.stage l + 2 + 3 * g.P.Port.altered c.args.port.now ≤ price old.stage line + 3 * g.P.Port.altered c.exchange-heard.new.self) (sym after) leads.1

pub returns-in_ok-hear-in-Some-clause-same : goal.returns-in_ok-hear-in-Some-clause-same
returns-in_ok-hear-in-Some-clause-same g c =
    let old = c.args.search.now in let line = g.P.Port.fixtures c.args.port.now in
    let is : Same (Ok (Some c.in-Some.frame)) (next_of old.source old.tn (request_of old.stage) old.left) = subst (λ (o : Option Frame). Same (Ok o) (next_of old.source old.tn (request_of old.stage) old.left)) c.in-Some.is c.in_ok-next.ensures in
    let n = next_frame old.source old.tn (request_of old.stage) old.left c.in-Some.frame is in
    ap uids (c.exchange-heard.ensures.after n.0 old.source old.tn (request_fits old.stage n.0 old.valid n.1) n.2) ∙ request_keeps n.0 line

pub returns-in_err-next-clause-said : goal.returns-in_err-next-clause-said
returns-in_err-next-clause-said g c = nothing_said g.P.Port.hears _ [] _ _ _ _ refl refl

pub returns-in-None-clause-said : goal.returns-in-None-clause-said
returns-in-None-clause-said g c = nothing_said g.P.Port.hears _ [] _ _ _ _ refl refl

pub returns-in_err-hear-in-Some-clause-said : goal.returns-in_err-hear-in-Some-clause-said
returns-in_err-hear-in-Some-clause-said g c =
    nothing_said g.P.Port.hears c.args.search.now.source (sends c.in-Some.frame c.exchange-heard.result ∷ []) c.args.port.now c.exchange-heard.new.self c.args.search.now.found.items c.hear.new.self.found.items
    (c.exchange-heard.new.self, c.exchange-heard.ensures.exchanged, refl) c.in_err-hear-in-Some.ensures.same.1

pub returns-in_ok-hear-in-Some-clause-said : goal.returns-in_ok-hear-in-Some-clause-said
returns-in_ok-hear-in-Some-clause-said g c =
    let old = c.args.search.now in
    let is : Same (Ok (Some c.in-Some.frame)) (next_of old.source old.tn (request_of old.stage) old.left) = subst (λ (o : Option Frame). Same (Ok o) (next_of old.source old.tn (request_of old.stage) old.left)) c.in-Some.is c.in_ok-next.ensures in
    let n = next_frame old.source old.tn (request_of old.stage) old.left c.in-Some.frame is in
    let asked = once g.P.Port.hears c.args.port.now c.exchange-heard.new.self c.in-Some.frame c.exchange-heard.result c.exchange-heard.ensures.exchanged in
    asked_said g.P.Port.hears old.source old.tn old.stage n.0 c.args.port.now c.exchange-heard.new.self old.found.items c.hear.new.self.found.items c.as_slice.result.now n.1
    (subst (λ (h : List ℕ). IsAsked g.P.Port.hears c.args.port.now (request_frame old.source old.tn n.0) h c.exchange-heard.new.self) (sym c.as_slice.ensures.value)
    (subst (λ (f : Frame). IsAsked g.P.Port.hears c.args.port.now f c.exchange-heard.result c.exchange-heard.new.self) n.2 asked))
    c.in_ok-hear-in-Some.ensures.found
