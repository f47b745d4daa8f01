use Rattle.std.proofs.Common.{◌≡◌, ◌∙◌, List, ap, sym}
use Rattle.rdm_added.specs.declared.state.Kept.{Kept}
use Rattle.rdm_profile.specs.declared.profile.Profile.{Profile}
use Rattle.rdm_added.specs.Locking.{lock_state}
use Rattle.rdm_added.specs.Views.State.{added_entries}
use Rattle.rdm_added.proofs.KeptValues.{all_set_back}
use Rattle.rdm_added.proofs.added.resetting.set_added_back.Goals as goal

pub returns-clause-after : goal.returns-clause-after
returns-clause-after c spot v same kept =
    let state : c.lock_state-state.result ≡ lock_state spot.added =
    c.lock_state-state.ensures ∙ ap (λ (ks : List Kept). lock_state (added_entries ks)) c.as_slice.ensures.value ∙ ap lock_state (sym kept)
    in
    all_set_back spot v (added_entries c.args.own.now.added.items) (added_entries c.set_in_back.new.values.items) c.locks-locks.result.now c.lock_state-state.result c.own.result.now (c.locks-locks.ensures.value ∙ ap (λ (p : Profile). p.particulars.locks) (sym same)) state (c.own.ensures.value ∙ ap (λ (p : Profile). p.particulars.own) (sym same)) c.set_in_back.ensures.after
