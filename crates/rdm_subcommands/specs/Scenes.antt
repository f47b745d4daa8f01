-- On what a script is played.
use Rattle.std.specs.Prelude.{◌≡◌, ℕ, List, Option, Some, None}
use Rattle.rdm_fixture.specs.declared.fixture.Fixture.{Fixture}
use Rattle.rdm_fixture.specs.Describes.{Describes}
use Rattle.rdm_outcomes.specs.Outcomes.{outcome_of}
use Rattle.rdm_script.specs.declared.dialect.Spelling.TheVariants.{Friendly}
use Rattle.rdm_script.specs.DemoParts.{demo_scene_in, panel_change}
use Rattle.rdm_script.specs.Playing.{IsPlayOf}
use Rattle.rdm_script.specs.Program.{IsTraceOf}
use Rattle.rdm_script.specs.Scene.{Scene}
use Rattle.rdm_trace.specs.declared.line.Line.{Line}
use Rattle.rdm_expect.specs.Sheets.{script_of}
use Rattle.rdm_host.specs.declared.fixture.FixtureFile.{FixtureFile}

-- The fixture of a file: both workers end its jobs by its rules, each of which counts the jobs that its worker did before, and its panel
-- offers the changes of the demonstration. The words of its scripts may be spelled as people say them.
abbrev pub scene_on : Fixture → Scene
scene_on fixture = record {
  device = fixture.uid;
  profile = fixture.profile;
  spelling = Friendly;
  first = λ before job outcome. outcome ≡ outcome_of fixture.outcomes.items before job;
  second = λ before job outcome. outcome ≡ outcome_of fixture.outcomes.items before job;
  offers = λ number change. panel_change number ≡ Some change;
}

-- The lines are those of this script, played on the fixture that this file describes, or without a file on that of the demonstration.
abbrev pub ArePlayed : Option FixtureFile → List ℕ → List Line → Type 0
ArePlayed (Some file) script lines = (fixture : Fixture) × Describes file.bytes.items fixture × IsPlayOf (scene_on fixture) script lines
ArePlayed None script lines = IsPlayOf (demo_scene_in Friendly) script lines

-- The output is the trace of a script that was played so.
abbrev pub IsPlayed : Option FixtureFile → List ℕ → List ℕ → Type 0
IsPlayed (Some file) script output = (fixture : Fixture) × Describes file.bytes.items fixture × IsTraceOf (scene_on fixture) script output
IsPlayed None script output = IsTraceOf (demo_scene_in Friendly) script output

-- The same of the script of a text, which is the text with its expectations left empty.
abbrev pub AreTextPlayed : Option FixtureFile → List ℕ → List Line → Type 0
AreTextPlayed file text lines = ArePlayed file (script_of text) lines

abbrev pub IsTextPlayed : Option FixtureFile → List ℕ → List ℕ → Type 0
IsTextPlayed file text output = IsPlayed file (script_of text) output
