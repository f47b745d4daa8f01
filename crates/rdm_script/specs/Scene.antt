-- What a script is played on.
use Rattle.std.specs.Prelude.{ℕ, List}
use Rattle.rdm_frame.specs.declared.uid.Uid.{Uid}
use Rattle.rdm_commands.specs.declared.panel.Change.{Change}
use Rattle.rdm_commands.specs.declared.jobs.outcome.Outcome.{Outcome}
use Rattle.rdm_profile.specs.declared.profile.Profile.{Profile}
use Rattle.rdm_outbox.specs.declared.job.Job.{Job}
use Rattle.rdm_script.specs.Dialects.{Dialect}
use Rattle.rdm_script.specs.declared.dialect.Spelling.{Spelling}
use Rattle.rdm_script.specs.declared.stage.Stage.{Stage}

-- A fixture of this UID and profile, how the words of its scripts are spelled, the outcomes that each of its two workers may give for a
-- job after the jobs that it did before, and the changes that its panel may offer for 0, 1, 2 and so on.
pub record Scene : Type 1 where
  pub device : Uid
  pub profile : Profile
  pub spelling : Spelling
  pub first : List Job → Job → Outcome → Type 0
  pub second : List Job → Job → Outcome → Type 0
  pub offers : ℕ → Change → Type 0

-- the scene of a stage, by what its parts may give and what its panel may offer
abbrev pub scene_of : {P Q N : Type 0} → (P → List Job → Job → Outcome → Type 0) → (Q → List Job → Job → Outcome → Type 0) → (N → ℕ → Change → Type 0) → Stage P Q N → Scene
scene_of gives_0 gives_1 offers stage = record {
  device = stage.device;
  profile = stage.profile;
  spelling = stage.spelling;
  first = gives_0 stage.first;
  second = gives_1 stage.second;
  offers = offers stage.panel;
}

-- the dialect of the scripts of a scene
abbrev pub spoken_at : Scene → Dialect
spoken_at scene = record { device = scene.device; spelling = scene.spelling; own = scene.profile.particulars.own }
