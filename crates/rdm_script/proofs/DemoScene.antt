-- The rules of the demonstration end its jobs as its scene says.
use Rattle.std.proofs.Common.{◌≡◌, ◌↔◌, List, Some, subst}
use Rattle.rdm_profile.specs.Demo.{demo}
use Rattle.rdm_commands.specs.declared.jobs.outcome.Outcome.{Outcome}
use Rattle.rdm_outbox.specs.declared.job.Job.{Job}
use Rattle.rdm_crew.specs.Workers.{in_turn}
use Rattle.rdm_outcomes.specs.declared.rule.Rule.{Rule}
use Rattle.rdm_outcomes.specs.Demo.{demo_rules, demo_outcome}
use Rattle.rdm_outcomes.specs.Outcomes.{CanEnd}
use Rattle.rdm_script.specs.declared.demo.DemoPanel.{DemoPanel}
use Rattle.rdm_script.specs.declared.dialect.Spelling.{Spelling}
use Rattle.rdm_script.specs.declared.rules.RuledPart.{RuledPart}
use Rattle.rdm_script.specs.declared.stage.Stage.{Stage}
use Rattle.rdm_script.specs.DemoParts.{demo_scene_in, panel_change}
use Rattle.rdm_script.specs.Parties.{demo_device}
use Rattle.rdm_script.specs.Rules.{rules_of, EndsAfter}
use Rattle.rdm_script.specs.Scene.{Scene, scene_of}
use Rattle.rdm_script.proofs.Widening.{IsWider}

-- what a part may give by its rules
abbrev pub ruled : RuledPart → List Job → Job → Outcome → Type 0
ruled = in_turn (λ part job outcome. CanEnd (rules_of part) job outcome) (λ part before job outcome. EndsAfter part before job outcome)

abbrev pub ruled_scene : Stage RuledPart RuledPart DemoPanel → Scene
ruled_scene stage = scene_of ruled ruled (λ panel number change. panel_change number ≡ Some change) stage

ends_so : (rules : List Rule) → rules ≡ demo_rules → ((job : Job) (outcome : Outcome) → CanEnd demo_rules job outcome ↔ (outcome ≡ demo_outcome job)) → (job : Job) (outcome : Outcome) → CanEnd rules job outcome → outcome ≡ demo_outcome job
ends_so rules are law job outcome can = (law job outcome).0 (subst (λ (rs : List Rule). CanEnd rs job outcome) are can)

pub demo_is_wider : (spelling : Spelling) (stage : Stage RuledPart RuledPart DemoPanel) → stage.device ≡ demo_device → stage.profile ≡ demo 512 → stage.spelling ≡ spelling → rules_of stage.first ≡ demo_rules → rules_of stage.second ≡ demo_rules
    → ((job : Job) (outcome : Outcome) → CanEnd demo_rules job outcome ↔ (outcome ≡ demo_outcome job)) → IsWider (ruled_scene stage) (demo_scene_in spelling)
demo_is_wider spelling stage device profile spelled first second law = record {
  device = device;
  profile = profile;
  spelling = spelled;
  first = λ before job outcome given. ends_so (rules_of stage.first) first law job outcome given.0;
  second = λ before job outcome given. ends_so (rules_of stage.second) second law job outcome given.0;
  offers = λ n c h. h;
}
