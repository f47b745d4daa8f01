use Rattle.std.proofs.Common.{refl, subst, ap, ◌∙◌}
use Rattle.rdm_profile.specs.declared.profile.Profile.{Profile}
use Rattle.rdm_params.specs.Device.Parameters.{Parameters}
use Rattle.rdm_params.specs.Jobs.Work.{Choice}
use Rattle.rdm_outbox.specs.Account.{account_before}
use Rattle.rdm_outbox.specs.Shows as outbox
use Rattle.rdm_outbox.specs.declared.settings.Settings.{Settings as OutboxSettings}
use Rattle.rdm_responder.specs.Settings.{outbox_settings}
use Rattle.rdm_responder.proofs.Accounts.{stands_for_empty}
use Rattle.rdm_responder.proofs.Choices.{profile_at_first}
use Rattle.rdm_responder.proofs.responder.Responder.with_devices.Goals as goal

pub returns-clause-stands : goal.returns-clause-stands
returns-clause-stands c profile made =
    let workers = c.workers-workers.ensures ∙ ap (λ (p : Parameters). p.profile.workers) made ∙ ap (λ (p : Profile). p.workers) (profile_at_first profile) in
    let kept = subst (λ (k : OutboxSettings). outbox.Shows c.in-Ok.outbox (account_before k)) c.outbox-kept.ensures c.in-Ok.ensures.shows in
    let shows = subst (λ (ws : Choice). outbox.Shows c.in-Ok.outbox (account_before (outbox_settings c.args.settings.now ws))) workers kept in
    stands_for_empty _ _ (record { uid = refl; parameters = made; muted = refl; outbox = shows })
