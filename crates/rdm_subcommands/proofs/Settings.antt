-- What a script is played on is the scene of the fixture.
use Rattle.std.proofs.Common.{◌≡◌, ℕ, List, [], Option, Some, None}
use Rattle.rdm_fixture.specs.declared.fixture.Fixture.{Fixture}
use Rattle.rdm_script.specs.declared.demo.DemoPanel.{DemoPanel}
use Rattle.rdm_script.specs.declared.dialect.Spelling.TheVariants.{Friendly}
use Rattle.rdm_script.specs.declared.rules.RuledPart.{RuledPart}
use Rattle.rdm_script.specs.declared.stage.Stage.{Stage}
use Rattle.rdm_script.specs.DemoParts.{demo_scene_in}
use Rattle.rdm_script.specs.Rules.{HasDone}
use Rattle.rdm_script.proofs.DemoScene.{ruled_scene}
use Rattle.rdm_script.proofs.Widening.{IsWider}
use Rattle.rdm_script.proofs.PlayedLines.{play_traced}
use Rattle.rdm_trace.specs.declared.line.Line.{Line}
use Rattle.rdm_trace.specs.LineText.{lines_text}
use Rattle.rdm_host.specs.declared.fixture.FixtureFile.{FixtureFile}
use Rattle.rdm_subcommands.specs.Scenes.{scene_on, ArePlayed, IsPlayed}

-- The scene of the stage gives no more than that of the fixture.
pub fixture_is_wider : (stage : Stage RuledPart RuledPart DemoPanel) (f : Fixture) → stage.device ≡ f.uid → stage.profile ≡ f.profile → stage.spelling ≡ Friendly
    → HasDone stage.first f.outcomes.items [] → HasDone stage.second f.outcomes.items [] → IsWider (ruled_scene stage) (scene_on f)
fixture_is_wider stage f device profile spelling first second = record {
  device = device;
  profile = profile;
  spelling = spelling;
  first = λ before job outcome given. given.1 f.outcomes.items [] first;
  second = λ before job outcome given. given.1 f.outcomes.items [] second;
  offers = λ n c h. h;
}

-- the text of lines that were played is the trace
pub played_text : (file : Option FixtureFile) (text : List ℕ) (lines : List Line) → ArePlayed file text lines → IsPlayed file text (lines_text lines)
played_text (Some file) text lines h = (h.0, h.1, play_traced (scene_on h.0) text lines h.2)
played_text None text lines h = play_traced (demo_scene_in Friendly) text lines h
