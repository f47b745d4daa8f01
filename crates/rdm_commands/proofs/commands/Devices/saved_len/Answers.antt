use Rattle.std.proofs.Common.{ap, ◌∙◌, min, List}
use Rattle.rdm_profile.specs.declared.profile.Profile.{Profile}
use Rattle.rdm_added.specs.declared.state.CommonValues.{CommonValues}
use Rattle.rdm_added.specs.Parameters.{Parameters}
use Rattle.rdm_saved.specs.SavedText.{kept}
use Rattle.rdm_saved.specs.Restoring.{saved_len}
use Rattle.rdm_commands.proofs.commands.Devices.saved_len.Goals as goal

pub returns : goal.returns
returns c =
    let inside = c.self.inside in
    c.saved_len.ensures inside.root
    ∙ ap (λ (profile : Profile). min (saved_len (kept profile inside.root inside.own c.as_slice.result.now)) 18446744073709551615) c.deref.ensures
    ∙ ap (λ (subs : List CommonValues). min (saved_len (kept inside.profile.value inside.root inside.own subs)) 18446744073709551615) c.as_slice.ensures.value
    ∙ ap (λ (p : Parameters). min (saved_len p) 18446744073709551615) c.self.view_is
